-- What stands behind texts, one after the other.
use Rattle.std.proofs.Common.{◌≡◌, ◌≢◌, ℕ, ◌+◌, ◌<◌, ◌==◌, ◌&&◌, Bool, true, false, cond, List, [], ◌∷◌, ◌++◌, length, drop, get_or, string_bytes, Option, None, Some, option_map, option_and_then, MatchOption, append_assoc, Bor, refl, sym, ap, ◌∙◌}
use Rattle.std.proofs.lemmas.Bool.{eq-eqb, eqb-true}
use Rattle.std.proofs.Math.Dec.{eqb-suc-zero}
use Rattle.std.proofs.lemmas.List.{drop_more}
use Rattle.std.specs.Option.{option_map_or}
use Rattle.std.specs.Str.{bytes_eq}
use Rattle.json.specs.Print.{escape, escape_byte, quoted}
use Rattle.serde_json.specs.View.{items_view, members_view, view}
use Rattle.serde_json.specs.Written.{comma_if, compact_text, items_text, members_text}
use Rattle.serde_json.specs.declared.value.Value.{Value}
use Rattle.serde_json.proofs.Views.{Entry}
use Rattle.keep_docs.specs.Behind.{behind, key_text}

-- behind two texts stands what stands behind the second, behind the first
pub behind-append : (a b bytes : List ℕ) → behind (a ++ b) bytes ≡ option_and_then (behind b) (behind a bytes)
unfolding behind
behind-append [] b bytes = refl
behind-append (c ∷ a) b [] = refl
behind-append (c ∷ a) b (x ∷ bytes) = by_test (x == c) (behind-append a b bytes)
  where
    by_test : (same : Bool) → behind (a ++ b) bytes ≡ option_and_then (behind b) (behind a bytes)
        → cond same (behind (a ++ b) bytes) None ≡ option_and_then (behind b) (cond same (behind a bytes) None)
    by_test true rest = rest
    by_test false rest = refl

-- where nothing stands behind the first of them
pub behind_none : (a b bytes : List ℕ) → None ≡ behind a bytes → None ≡ behind (a ++ b) bytes
behind_none a b bytes h = ap (option_and_then (behind b)) h ∙ sym (behind-append a b bytes)

-- where something does
pub behind_one : (a b bytes rest : List ℕ) → Some rest ≡ behind a bytes → behind b rest ≡ behind (a ++ b) bytes
behind_one a b bytes rest h = ap (option_and_then (behind b)) h ∙ sym (behind-append a b bytes)

-- where something stands behind the first of three, and nothing behind the second
pub behind_one_alone : (a b c bytes rest : List ℕ) → Some rest ≡ behind a bytes → None ≡ behind b rest → None ≡ behind (a ++ (b ++ c)) bytes
behind_one_alone a b c bytes rest first second = behind_none b c rest second ∙ behind_one a (b ++ c) bytes rest first

-- where something stands behind both
pub behind_two : (a b c bytes rest last : List ℕ) → Some rest ≡ behind a bytes → Some last ≡ behind b rest → behind c last ≡ behind (a ++ (b ++ c)) bytes
behind_two a b c bytes rest last first second = behind_one b c rest last second ∙ behind_one a (b ++ c) bytes rest first

-- where a step finds nothing, nothing is found
pub nothing_found : (found : Option (Bor (List ℕ))) → found ≡ None → option_map (λ (x : Bor (List ℕ)). x.now) found ≡ None
nothing_found found h = ap (option_map (λ (x : Bor (List ℕ)). x.now)) h

-- a text is written a byte after the other
pub escape_here : (text : List ℕ) (i : ℕ) → i < length text → escape_byte (get_or text i 0) ++ escape (drop (i + 1) text) ≡ escape (drop i text)
escape_here text i within = sym (ap escape (drop_more text i 0 within))

-- behind a text stands what follows it
behind_itself : (text rest : List ℕ) → behind text (text ++ rest) ≡ Some rest
unfolding behind
behind_itself [] rest = refl
behind_itself (c ∷ text) rest = rw (eq-eqb c c refl, behind_itself text rest)

behind_other : (text bytes : List ℕ) → ((rest : List ℕ) → bytes ≢ text ++ rest) → behind text bytes ≡ None
unfolding behind
behind_other [] bytes other = absurd (other bytes refl)
behind_other (c ∷ text) [] other = refl
behind_other (c ∷ text) (b ∷ bytes) other = by_test (b == c) refl (behind_other text bytes)
  where
    by_test : (same : Bool) → (b == c) ≡ same → (((rest : List ℕ) → bytes ≢ text ++ rest) → behind text bytes ≡ None)
        → cond same (behind text bytes) None ≡ None
    by_test true is none =
        let equal : b ≡ c = eqb-true b c is in
        none (λ rest e. other rest (ap (λ (x : ℕ). x ∷ bytes) equal ∙ ap (λ (xs : List ℕ). c ∷ xs) e))
    by_test false is none = refl

pub behind_found : (text bytes : List ℕ) (found : Option (Bor (List ℕ)))
    → MatchOption found ((rest : List ℕ) → bytes ≢ text ++ rest) (λ x. bytes ≡ text ++ x.now)
    → option_map (λ (x : Bor (List ℕ)). x.now) found ≡ behind text bytes
behind_found text bytes None h = sym (behind_other text bytes h)
behind_found text bytes (Some x) h = sym (ap (behind text) h ∙ behind_itself text x.now)

-- the bytes are the text where nothing is left behind it
pub nothing_left : (text bytes : List ℕ) → bytes_eq bytes text ≡ option_map_or (λ rest. length rest == 0) (behind text bytes) false
unfolding behind
nothing_left [] [] = refl
nothing_left [] (b ∷ bytes) = sym (eqb-suc-zero (length bytes))
nothing_left (c ∷ text) [] = refl
nothing_left (c ∷ text) (b ∷ bytes) = by_test (b == c) (nothing_left text bytes)
  where
    by_test : (same : Bool) → bytes_eq bytes text ≡ option_map_or (λ rest. length rest == 0) (behind text bytes) false
        → (same && bytes_eq bytes text) ≡ option_map_or (λ rest. length rest == 0) (cond same (behind text bytes) None) false
    by_test true is = is
    by_test false is = refl

-- ---- lists and objects, one value after the other

-- the text of a list, from a value on
pub items_here : (later : Bool) (vs : List Value) (i : ℕ) (v : Value) → i < length vs → v ≡ get_or vs i v
    → comma_if later ++ (compact_text (view v) ++ items_text true (items_view (drop (i + 1) vs))) ≡ items_text later (items_view (drop i vs))
items_here later vs i v within is =
    let here : drop i vs ≡ v ∷ drop (i + 1) vs = drop_more vs i v within ∙ ap (λ (w : Value). w ∷ drop (i + 1) vs) (sym is) in
    sym (ap (λ (ws : List Value). items_text later (items_view ws)) here)

-- the text of an object, from a member on
pub members_here : (later : Bool) (all left : List Entry) (e : Entry) → all ≡ e ∷ left
    → key_text later (string_bytes e.0) ++ (compact_text (view e.1) ++ members_text true (members_view left)) ≡ members_text later (members_view all)
members_here later all left e is =
    let key = quoted (string_bytes e.0) in
    let value = compact_text (view e.1) ++ members_text true (members_view left) in
    append_assoc (comma_if later) (key ++ 58 ∷ []) value
    ∙ ap (λ (text : List ℕ). comma_if later ++ text) (append_assoc key (58 ∷ []) value)
    ∙ sym (ap (λ (es : List Entry). members_text later (members_view es)) is)
