-- Which bytes a source can have as a name.
use Rattle.std.proofs.Common.{◌≡◌, ℕ, Bool, true, false, ◌&&◌, cond, List, Option, None, Some, refl, sym, ap, ◌∙◌}
use Rattle.std.proofs.lemmas.Bool.{false≢true}
use Rattle.std.proofs.lemmas.Str.{IsUtf8-from_is_utf8, is_utf8-from_IsUtf8}
use Rattle.std.specs.Prelude.{IsUtf8}
use Rattle.std.specs.Str.{is_utf8}
use Rattle.keep_tree.specs.Names.{is_name}
use Rattle.keep_backups.specs.Paths.{sayable}

both : (a b : Bool) (name : List ℕ) → a ≡ true → b ≡ true → Some name ≡ cond (a && b) (Some name) None
both true true name h k = refl
both true false name h k = cc k
both false b name h k = cc h

not_both : (a b : Bool) (name : List ℕ) → (a ≡ true → b ≡ true → ⊥) → None ≡ cond (a && b) (Some name) None
not_both true true name h = absurd (h refl refl)
not_both true false name h = refl
not_both false b name h = refl

pub name_said : (bytes name : List ℕ) → name ≡ bytes → IsUtf8 bytes → is_name name ≡ true → Some name ≡ sayable bytes
name_said bytes name e text named =
    ap Some e ∙ both (is_utf8 bytes) (is_name bytes) bytes (is_utf8-from_IsUtf8 bytes text) (sym (ap is_name e) ∙ named)

pub no_text : (bytes : List ℕ) → ¬ (IsUtf8 bytes) → None ≡ sayable bytes
no_text bytes h = not_both (is_utf8 bytes) (is_name bytes) bytes (λ text _. h (IsUtf8-from_is_utf8 bytes text))

pub no_name : (bytes name : List ℕ) → name ≡ bytes → is_name name ≡ false → None ≡ sayable bytes
no_name bytes name e h = not_both (is_utf8 bytes) (is_name bytes) bytes (λ _ named. false≢true (sym h ∙ ap is_name e ∙ named))
