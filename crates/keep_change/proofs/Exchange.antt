-- What is put where there was nothing, and taken away again, leaves everything as it was.
use Rattle.std.proofs.Common.{◌≡◌, ℕ, zero, suc, ◌+◌, ◌<◌, Bool, true, false, cond, List, [], ◌∷◌, ◌++◌, map, length, get_or, take, Ordering, refl, sym, ap, ◌∙◌, ◌||◌, ◌&&◌}
use Rattle.std.specs.Prelude.{Option, Some, None}
use Rattle.std.specs.List.{list_all, list_any, AllByRecursion}
use Rattle.std.specs.Cmp.{IsTotalOrder}
use Rattle.std.specs.Ordering.{eq_by_cmp}
use Rattle.std.specs.Option.{option_map}
use Rattle.std.specs.FinMap.{FinMap, IsAntisymmetric, get, insert, remove, get-insert, get-remove, same_map}
use Rattle.std.proofs.lemmas.Bool.{and_from, and_parts, or_parts}
use Rattle.std.proofs.lemmas.List.{take_more}
use Rattle.std.proofs.lemmas.Map.Views.{tells_apart}
use Rattle.keep_names.proofs.Orders.{id_exact, id_total, name_exact, name_total}
use Rattle.keep_names.specs.Orders.{id_cmp, name_cmp}
use Rattle.keep_repo.specs.Facet.{Stored, Marked}
use Rattle.keep_repo.specs.Repository.{Repository, held}
use Rattle.keep_repo.specs.declared.facet.Mark as the_mark
use Rattle.keep_change.specs.Change.{added, set, holds_same, is_as_written}
use Rattle.keep_change.specs.NamedBytes.{NamedBytes}
use Rattle.keep_change.specs.Result.{put_files, put_marks, remove_files, remove_marks}
use Rattle.keep_change.specs.declared.change.PackMark.{PackMark}

module _ {I K X : Type 0} {R : K → K → Ordering} (key : I → K) (value : I → X) where
  put_all : List I → FinMap R X → FinMap R X
  put_all [] m = m
  put_all (x ∷ xs) m = put_all xs (insert m (key x) (value x))

  take_all : List I → FinMap R X → FinMap R X
  take_all [] m = m
  take_all (x ∷ xs) m = take_all xs (remove m (key x))

module _ {I K X : Type 0} {R : K → K → Ordering} (total : IsTotalOrder R) (exact : IsAntisymmetric R) (key : I → K) (value : I → X) where
  -- whether one of these has the key
  abbrev stands : List I → K → Bool
  stands xs q = list_any (λ x. eq_by_cmp R q (key x)) xs

  none_first : (a b : Bool) (o : Option X) → cond a None (cond b None o) ≡ cond (b || a) None o
  none_first true true o = refl
  none_first true false o = refl
  none_first false true o = refl
  none_first false false o = refl

  get-take_all : (xs : List I) (m : FinMap R X) (q : K) → get (take_all {R = R} key value xs m) q ≡ cond (stands xs q) None (get m q)
  unfolding take_all
  get-take_all [] m q = refl
  get-take_all (x ∷ xs) m q =
      get-take_all xs (remove m (key x)) q
      ∙ ap (cond (stands xs q) None) (get-remove total m (key x) q)
      ∙ none_first (stands xs q) (eq_by_cmp R q (key x)) (get m q)

  get-put_all : (xs : List I) (m : FinMap R X) (q : K) → stands xs q ≡ false → get (put_all {R = R} key value xs m) q ≡ get m q
  unfolding put_all
  get-put_all [] m q apart = refl
  get-put_all (x ∷ xs) m q apart =
      let parts = or_parts (eq_by_cmp R q (key x)) (stands xs q) apart in
      get-put_all xs (insert m (key x) (value x)) q parts.1
      ∙ get-insert total m (key x) (value x) q ∙ ap (λ b. cond b (Some (value x)) (get m q)) parts.0

  empty_there : (xs : List I) (m : FinMap R X) (q : K) → AllByRecursion (λ x. get m (key x) ≡ None) xs → stands xs q ≡ true → get m q ≡ None
  empty_there [] m q empty h = cc h
  empty_there (x ∷ xs) m q empty h = first (eq_by_cmp R q (key x)) refl h (empty_there xs m q empty.1) where
    first : (b : Bool) → eq_by_cmp R q (key x) ≡ b → (b || stands xs q) ≡ true → (stands xs q ≡ true → get m q ≡ None) → get m q ≡ None
    first true tied h rest = ap (get m) (tells_apart exact q (key x) tied) ∙ empty.0
    first false apart h rest = rest h

  -- where there was nothing at the keys
  take-put_all : (xs : List I) (m : FinMap R X) → AllByRecursion (λ x. get m (key x) ≡ None) xs → take_all {R = R} key value xs (put_all key value xs m) ≡ m
  take-put_all xs m empty = same_map total exact _ _ (λ q. get-take_all xs (put_all key value xs m) q ∙ back q (stands xs q) refl) where
    back : (q : K) (b : Bool) → stands xs q ≡ b → cond b None (get (put_all key value xs m) q) ≡ get m q
    back q true h = sym (empty_there xs m q empty h)
    back q false h = get-put_all xs m q h

-- what all pass, the first ones pass
pub first_pass : {I W : Type 0} (p : W → Bool) (f : I → W) (n : ℕ) (xs : List I) → list_all p (map f xs) ≡ true → list_all p (map f (take n xs)) ≡ true
first_pass p f zero xs all = refl
first_pass p f (suc n) [] all = refl
first_pass p f (suc n) (x ∷ xs) all = let parts = and_parts _ _ all in and_from _ _ parts.0 (first_pass p f n xs parts.1)

no_bytes : (o : Option (List ℕ)) → holds_same (option_map Stored o) None ≡ true → o ≡ None
no_bytes None h = refl
no_bytes (Some x) h = cc h

no_mark : (o : Option the_mark.Mark) → holds_same (option_map Marked o) None ≡ true → o ≡ None
no_mark None h = refl
no_mark (Some x) h = cc h

no_files : (r : Repository) (fs : List NamedBytes) → list_all (is_as_written (held r)) (map added fs) ≡ true → AllByRecursion (λ f. get r.files f.name ≡ None) fs
no_files r [] h = tt
no_files r (f ∷ fs) h = let parts = and_parts _ _ h in (no_bytes _ parts.0, no_files r fs parts.1)

no_marks : (r : Repository) (ms : List PackMark) → list_all (is_as_written (held r)) (map set ms) ≡ true → AllByRecursion (λ m. get r.marks m.pack ≡ None) ms
no_marks r [] h = tt
no_marks r (m ∷ ms) h = let parts = and_parts _ _ h in (no_mark _ parts.0, no_marks r ms parts.1)

all_files_put : (fs : List NamedBytes) (m : FinMap name_cmp (List ℕ)) → put_files fs m ≡ put_all (λ f. f.name) (λ f. f.bytes) fs m
unfolding put_all
all_files_put [] m = refl
all_files_put (f ∷ fs) m = all_files_put fs (insert m f.name f.bytes)

all_files_taken : (fs : List NamedBytes) (m : FinMap name_cmp (List ℕ)) → remove_files fs m ≡ take_all (λ f. f.name) (λ f. f.bytes) fs m
unfolding take_all
all_files_taken [] m = refl
all_files_taken (f ∷ fs) m = all_files_taken fs (remove m f.name)

all_marks_put : (ms : List PackMark) (m : FinMap id_cmp the_mark.Mark) → put_marks ms m ≡ put_all (λ s. s.pack) (λ s. s.mark) ms m
unfolding put_all
all_marks_put [] m = refl
all_marks_put (s ∷ ms) m = all_marks_put ms (insert m s.pack s.mark)

all_marks_taken : (ms : List PackMark) (m : FinMap id_cmp the_mark.Mark) → remove_marks ms m ≡ take_all (λ s. s.pack) (λ s. s.mark) ms m
unfolding take_all
all_marks_taken [] m = refl
all_marks_taken (s ∷ ms) m = all_marks_taken ms (remove m s.pack)

-- the repository with these files put among its own, or taken from them, and with these marks
abbrev pub files_put : List NamedBytes → Repository → Repository
files_put fs r = record r { files = put_files fs r.files }

abbrev pub files_taken : List NamedBytes → Repository → Repository
files_taken fs r = record r { files = remove_files fs r.files }

abbrev pub marks_put : List PackMark → Repository → Repository
marks_put ms r = record r { marks = put_marks ms r.marks }

abbrev pub marks_taken : List PackMark → Repository → Repository
marks_taken ms r = record r { marks = remove_marks ms r.marks }

-- files that are put where there were none, and taken away again
pub files_back : (r : Repository) (fs : List NamedBytes) → list_all (is_as_written (held r)) (map added fs) ≡ true → files_taken fs (files_put fs r) ≡ r
files_back r fs ready =
    ap (λ files. record r { files = files })
    (all_files_taken fs _ ∙ ap (take_all (λ f. f.name) (λ f. f.bytes) fs) (all_files_put fs r.files)
    ∙ take-put_all name_total name_exact (λ f. f.name) (λ f. f.bytes) fs r.files (no_files r fs ready))

-- marks that are put where there were none, and taken away again
pub marks_back : (r : Repository) (ms : List PackMark) → list_all (is_as_written (held r)) (map set ms) ≡ true → marks_taken ms (marks_put ms r) ≡ r
marks_back r ms ready =
    ap (λ marks. record r { marks = marks })
    (all_marks_taken ms _ ∙ ap (take_all (λ s. s.pack) (λ s. s.mark) ms) (all_marks_put ms r.marks)
    ∙ take-put_all id_total id_exact (λ s. s.pack) (λ s. s.mark) ms r.marks (no_marks r ms ready))

put_files-append : (fs gs : List NamedBytes) (m : FinMap name_cmp (List ℕ)) → put_files (fs ++ gs) m ≡ put_files gs (put_files fs m)
put_files-append [] gs m = refl
put_files-append (f ∷ fs) gs m = put_files-append fs gs (insert m f.name f.bytes)

put_marks-append : (ms ns : List PackMark) (m : FinMap id_cmp the_mark.Mark) → put_marks (ms ++ ns) m ≡ put_marks ns (put_marks ms m)
put_marks-append [] ns m = refl
put_marks-append (s ∷ ms) ns m = put_marks-append ms ns (insert m s.pack s.mark)

-- one more file
pub files_put_more : (r : Repository) (fs : List NamedBytes) (i : ℕ) (f : NamedBytes) → i < length fs → f ≡ get_or fs i f → files_put (f ∷ []) (files_put (take i fs) r) ≡ files_put (take (i + 1) fs) r
files_put_more r fs i f within is =
    ap (λ files. record r { files = files })
    (sym (ap (λ gs. put_files gs r.files) (take_more fs i f within ∙ ap (λ g. take i fs ++ g ∷ []) (sym is)) ∙ put_files-append (take i fs) (f ∷ []) r.files))

-- one more mark
pub marks_put_more : (r : Repository) (ms : List PackMark) (i : ℕ) (d : PackMark) → i < length ms → marks_put (get_or ms i d ∷ []) (marks_put (take i ms) r) ≡ marks_put (take (i + 1) ms) r
marks_put_more r ms i d within =
    ap (λ marks. record r { marks = marks })
    (sym (ap (λ ns. put_marks ns r.marks) (take_more ms i d within) ∙ put_marks-append (take i ms) (get_or ms i d ∷ []) r.marks))

-- marks stand apart from files
pub marks_apart : (r : Repository) (fs : List NamedBytes) (ms : List PackMark) → list_all (is_as_written (held (files_put fs r))) (map set ms) ≡ list_all (is_as_written (held r)) (map set ms)
marks_apart r fs [] = refl
marks_apart r fs (m ∷ ms) = ap (λ b. is_as_written (held r) (set m) && b) (marks_apart r fs ms)
