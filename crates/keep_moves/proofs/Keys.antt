-- Keys that are one, and keys that aren't.
use Rattle.std.proofs.Common.{◌≡◌, true, false, sym, ap, ◌∙◌}
use Rattle.std.specs.Cmp.{tied_itself}
use Rattle.std.specs.Ordering.{is_eq}
use Rattle.std.proofs.lemmas.Map.Views.{tells_apart}
use Rattle.keep_change.proofs.Records.{refuted}
use Rattle.keep_shelf.specs.declared.key.Key.{Key}
use Rattle.keep_shelf.proofs.Orders.{key_exact, key_total}
use Rattle.keep_moves.specs.Move.{key_eq}

pub key_eq_same : (a b : Key) → key_eq a b ≡ true → a ≡ b
key_eq_same = tells_apart key_exact

pub key_eq_refl : (a : Key) → key_eq a a ≡ true
key_eq_refl a = ap is_eq (tied_itself key_total a)

pub key_eq_from : (a b : Key) → a ≡ b → key_eq a b ≡ true
key_eq_from a b e = ap (key_eq a) (sym e) ∙ key_eq_refl a

pub key_eq_apart : (a b : Key) → (a ≡ b → ⊥) → key_eq a b ≡ false
key_eq_apart a b apart = refuted (key_eq a b) (λ e. apart (key_eq_same a b e))
