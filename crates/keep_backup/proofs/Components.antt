-- The names of a path, as the code finds them.
use Rattle.std.proofs.Common.{◌≡◌, ◌≢◌, ℕ, Bool, true, false, cond, T, ◌&&◌, List, [], ◌∷◌, length, map, take, Option, Some, None, MatchOption, bytes_eq, nat_cmp, Bor, refl, sym, ap, subst, ◌∙◌, eqb→eq}
use Rattle.std.proofs.lemmas.List.{take-map, length-map}
use Rattle.std.specs.Cmp.Lexicographic.{pointwise, slice_cmp}
use Rattle.std.specs.List.{list_all, slice_split, starts_with}
use Rattle.std.specs.Ordering.{ordering_then}
use Rattle.keep_tree.specs.Names.{is_name}
use Rattle.keep_backup.specs.Paths.{Path, components_of, is_front, is_slash, names_between, path_cmp}

-- texts behind references
abbrev pub texts : List (Bor (List ℕ)) → Path
texts names = map (λ name. name.now) names

list_all-texts : (p : List ℕ → Bool) (names : List (Bor (List ℕ))) → list_all (λ name. p name.now) names ≡ list_all p (texts names)
list_all-texts p [] = refl
list_all-texts p (x ∷ names) = ap (λ b. p x.now && b) (list_all-texts p names)

-- ---- the parts of a path

slash_by : (b : Bool) (c : ℕ) (text : List ℕ) → is_slash c ≡ b → ((rest : List ℕ) → c ∷ text ≢ 47 ∷ rest) → cond b (names_between text) None ≡ None
slash_by true c text is h = absurd (h text (ap (λ x. x ∷ text) (eqb→eq c 47 (subst T (sym is) tt))))
slash_by false c text is h = refl

no_slash : (path : List ℕ) → ((rest : List ℕ) → path ≢ 47 ∷ rest) → components_of path ≡ None
no_slash [] h = refl
no_slash (c ∷ text) h = slash_by (is_slash c) c text refl h

pub no_path : (r : Option (Bor (List ℕ))) (path : List ℕ) → MatchOption r ((rest : List ℕ) → path ≢ 47 ∷ rest) (λ x. path ≡ 47 ∷ x.now) → ((x : Bor (List ℕ)) → r ≡ Some x → ⊥) → None ≡ components_of path
no_path None path h none = sym (no_slash path h)
no_path (Some x) path h none = absurd (none x refl)

pub no_names : (path text : List ℕ) (names : List (Bor (List ℕ))) → path ≡ 47 ∷ text → texts names ≡ slice_split is_slash text → false ≡ list_all (λ name. is_name name.now) names → None ≡ components_of path
no_names path text names e parts bad =
    sym (ap components_of e
    ∙ ap (λ b. cond b (Some (slice_split is_slash text)) None) (ap (list_all is_name) (sym parts) ∙ sym (list_all-texts is_name names) ∙ sym bad))

pub all_names : (path text : List ℕ) (names : List (Bor (List ℕ))) → path ≡ 47 ∷ text → texts names ≡ slice_split is_slash text → true ≡ list_all (λ name. is_name name.now) names → Some (texts names) ≡ components_of path
all_names path text names e parts good =
    ap (λ ns. Some ns) parts
    ∙ sym (ap components_of e
    ∙ ap (λ b. cond b (Some (slice_split is_slash text)) None) (ap (list_all is_name) (sym parts) ∙ sym (list_all-texts is_name names) ∙ sym good))

-- ---- names behind references, compared

pub cmp_texts : (xs ys : List (Bor (List ℕ))) → slice_cmp (λ x y. slice_cmp nat_cmp x.now y.now) xs ys ≡ path_cmp (texts xs) (texts ys)
cmp_texts [] [] = refl
cmp_texts [] (y ∷ ys) = refl
cmp_texts (x ∷ xs) [] = refl
cmp_texts (x ∷ xs) (y ∷ ys) = ap (ordering_then (slice_cmp nat_cmp x.now y.now)) (cmp_texts xs ys)

pointwise-texts : (xs ys : List (Bor (List ℕ))) → pointwise (λ x y. bytes_eq x.now y.now) xs ys ≡ pointwise bytes_eq (texts xs) (texts ys)
pointwise-texts [] [] = refl
pointwise-texts [] (y ∷ ys) = refl
pointwise-texts (x ∷ xs) [] = refl
pointwise-texts (x ∷ xs) (y ∷ ys) = ap (λ b. bytes_eq x.now y.now && b) (pointwise-texts xs ys)

-- whether the names begin with the others
pub front_texts : (xs ys : List (Bor (List ℕ))) → starts_with (λ x y. bytes_eq x.now y.now) ys xs ≡ is_front (texts xs) (texts ys)
front_texts xs ys =
    pointwise-texts xs (take (length xs) ys)
    ∙ ap (pointwise bytes_eq (texts xs)) (sym (take-map (λ name. name.now) (length xs) ys) ∙ ap (λ n. take n (texts ys)) (sym (length-map xs (λ name. name.now))))
