-- What the matches give, by their rows.
use Rattle.std.proofs.Common.{◌≡◌, ◌∙◌, ℕ, Bool, Bor, true, false, List, [], Result, Ok, Err, Option, Some, None, map, sym, ap, refl, codes}
use Rattle.std.proofs.lemmas.Slice.Eq.{bytes_eq-Decides}
use Rattle.std.specs.Prelude.{option_and_then, unwrap_or}
use Rattle.std.specs.Option.{option_map, option_map_or}
use Rattle.std.specs.Str.{bytes_eq}
use Rattle.std.specs.Str.Parse.{ParsesBool, ParsesUnsigned}
use Rattle.clap.proofs.WalkLemmas.{raw_values-rows}
use Rattle.clap.specs.Words.{ReadsOne, matched_of, raw_values, rows_of}
use Rattle.clap.specs.declared.parser.matches.Found.{Found}
use Rattle.keep_words.specs.Read.{number_in, texts_of}
use Rattle.keep_words.proofs.NumberLemmas.{number-parsed}

abbrev pub values_of : Option (Bor (List (Bor (List ℕ)))) → Option (List (List ℕ))
values_of found = option_map (λ s. map (λ v. v.now) s.now) found

-- the values of an argument that has an entry, and of one that has none
pub texts-some : (f : Found) (id : List ℕ) (found : Option (Bor (List (Bor (List ℕ))))) (given : Bor (List (Bor (List ℕ))))
    → values_of found ≡ option_map raw_values (matched_of f id) → found ≡ Some given → map (λ v. v.now) given.now ≡ texts_of id (rows_of f)
texts-some f id found given e is =
    ap (λ o. unwrap_or o []) (sym (ap values_of is) ∙ e ∙ raw_values-rows f id)

pub texts-none : (f : Found) (id : List ℕ) (found : Option (Bor (List (Bor (List ℕ)))))
    → values_of found ≡ option_map raw_values (matched_of f id) → found ≡ None → [] ≡ texts_of id (rows_of f)
texts-none f id found e is =
    ap (λ o. unwrap_or o []) (sym (ap values_of is) ∙ e ∙ raw_values-rows f id)

-- the number that a text gives, where there is a text
pub number-read : (E : Type 0) (G : List ℕ → Result ℕ E → Type 0) (o : Option (List ℕ)) (r : Option ℕ) → (o ≡ None → r ≡ None)
    → ((t : List ℕ) → o ≡ Some t → ReadsOne G t r) → ((t : List ℕ) (x : Result ℕ E) → G t x → ParsesUnsigned 64 10 t x)
    → r ≡ option_and_then number_in o
number-read E G None r none value only = none refl
number-read E G (Some t) (Some n) none value only = sym (number-parsed {E = E} t (Ok n) (only t (Ok n) (value t refl)))
number-read E G (Some t) None none value only =
    let failed = value t refl in
    sym (number-parsed {E = E} t (Err failed.0) (only t (Err failed.0) failed.1))

-- whether a text is `true`, where there is a text
pub flag-read : (E : Type 0) (o : Option (List ℕ)) (r : Option Bool) → (o ≡ None → r ≡ None)
    → ((t : List ℕ) → o ≡ Some t → ReadsOne {T = Bool} {E = E} ParsesBool t r)
    → unwrap_or r false ≡ option_map_or (λ text. bytes_eq text (codes "true")) o false
flag-read E None r none value = ap (λ x. unwrap_or x false) (none refl)
flag-read E (Some t) (Some true) none value = sym ((bytes_eq-Decides t (codes "true")).1 (value t refl))
flag-read E (Some t) (Some false) none value = rw (value t refl) refl
flag-read E (Some t) None none value =
    let failed = value t refl in
    no (bytes_eq t (codes "true")) refl failed.1.0
  where
    no : (b : Bool) → bytes_eq t (codes "true") ≡ b → (t ≡ codes "true" → ⊥) → false ≡ bytes_eq t (codes "true")
    no true e other = absurd (other ((bytes_eq-Decides t (codes "true")).0 e))
    no false e other = sym e
