-- Files by path, one file more.
use Rattle.std.proofs.Common.{◌≡◌, ℕ, Bool, true, false, cond, List, [], ◌∷◌, ◌++◌, map, Option, None, Some, BTreeMap, String, Vec, string_bytes, ◌+◌, count_by, is_none, refl, sym, ap, ◌∙◌, filter_map}
use Rattle.std.specs.BTreeMap.{Updates, is_at}
use Rattle.std.specs.BTreeMap as tree
use Rattle.std.specs.Cmp.Lexicographic.{nat_list_cmp_total, slice_cmp}
use Rattle.std.specs.FinMap as finite
use Rattle.std.specs.FinMap.{nat_cmp-IsAntisymmetric, slice_cmp-IsAntisymmetric}
use Rattle.std.specs.Map.{lookup}
use Rattle.std.specs.Option.{option_map}
use Rattle.std.specs.Ordering.{is_eq, nat_cmp}
use Rattle.std.specs.Str.{bytes_eq}
use Rattle.std.specs.String.{string_cmp}
use Rattle.std.proofs.lemmas.List.{map-append}
use Rattle.std.proofs.lemmas.List.Elements.{filter_map-append}
use Rattle.std.proofs.lemmas.List.Recursion.{is_count_by}
use Rattle.std.proofs.lemmas.Map.Text.{btree_map_updates_text, is_eq-slice_cmp}
use Rattle.std.specs.declared.alloc.Global.{Global}
use Rattle.keep_repo.proofs.Maps.{one_put}
use Rattle.keep_read.specs.Contents.{ContentData, content_view}
use Rattle.keep_read.specs.declared.content.Content.{Content}
use Rattle.keep_read.specs.Restored.{file_with, path_cmp}

abbrev pub Files : Type 0
Files = BTreeMap (String Global) (Vec ℕ Global)

abbrev pub entry_view : String Global × Vec ℕ Global → List ℕ × List ℕ
entry_view e = (string_bytes e.0, e.1.items)

-- the files of a map by path
abbrev pub files_of : Files → finite.FinMap path_cmp (List ℕ)
files_of files = finite.from_entries (map entry_view files.entries)

abbrev items : Vec ℕ Global → List ℕ
items v = v.items

lookup_view : (es : List (String Global × Vec ℕ Global)) (q : List ℕ) → lookup (is_at (path_cmp q)) (map entry_view es) ≡ option_map items (lookup (is_at (λ k. slice_cmp nat_cmp q (string_bytes k))) es)
lookup_view [] q = refl
lookup_view (e ∷ es) q = one (is_eq (slice_cmp nat_cmp q (string_bytes e.0))) _ (lookup (is_at (λ k. slice_cmp nat_cmp q (string_bytes k))) es) (lookup_view es q) where
  one : (b : Bool) (a : Option (List ℕ)) (c : Option (Vec ℕ Global)) → a ≡ option_map items c → cond b (Some e.1.items) a ≡ option_map items (cond b (Some e.1) c)
  one true a c h = refl
  one false a c h = h

-- one more file
pub one_more : (m n : Files) (path : String Global) (bytes : Vec ℕ Global) → Updates string_cmp m n path (Some bytes) → files_of n ≡ finite.insert (files_of m) (string_bytes path) bytes.items
one_more m n path bytes put =
    one_put nat_list_cmp_total (slice_cmp-IsAntisymmetric nat_cmp-IsAntisymmetric) (map entry_view m.entries) (map entry_view n.entries) (string_bytes path) bytes.items (λ q.
    lookup_view n.entries q ∙ ap (option_map items) (btree_map_updates_text (string_bytes path) m n (Some bytes) put q)
    ∙ turn (bytes_eq (string_bytes path) q) q
    ∙ ap (λ b. cond b (Some bytes.items) (lookup (is_at (path_cmp q)) (map entry_view m.entries))) (sym (is_eq-slice_cmp (string_bytes path) q))) where
      turn : (b : Bool) (q : List ℕ) → option_map items (cond b (Some bytes) (tree.get_by_text m q)) ≡ cond b (Some bytes.items) (lookup (is_at (path_cmp q)) (map entry_view m.entries))
      turn true q = refl
      turn false q = sym (lookup_view m.entries q)

-- entries put into a map, the last first
abbrev pub put_all : List (List ℕ × List ℕ) → finite.FinMap path_cmp (List ℕ) → finite.FinMap path_cmp (List ℕ)
put_all [] m = m
put_all (e ∷ es) m = finite.insert (put_all es m) e.0 e.1

pub put_all-empty : (es : List (List ℕ × List ℕ)) → put_all es finite.empty ≡ finite.from_entries es
put_all-empty [] = refl
put_all-empty (e ∷ es) = ap (λ m. finite.insert m e.0 e.1) (put_all-empty es)

pub put_all-append : (xs ys : List (List ℕ × List ℕ)) (m : finite.FinMap path_cmp (List ℕ)) → put_all (xs ++ ys) m ≡ put_all xs (put_all ys m)
put_all-append [] ys m = refl
put_all-append (x ∷ xs) ys m = ap (λ n. finite.insert n x.0 x.1) (put_all-append xs ys m)

-- what pops off the end, put into the map where it is a file
pub popped : (rest : List ContentData) (last : ContentData) (m n : finite.FinMap path_cmp (List ℕ)) → put_all (filter_map file_with (last ∷ [])) m ≡ n → put_all (filter_map file_with (rest ++ last ∷ [])) m ≡ put_all (filter_map file_with rest) n
popped rest last m n step =
    ap (λ es. put_all es m) (filter_map-append file_with rest (last ∷ []))
    ∙ put_all-append (filter_map file_with rest) (filter_map file_with (last ∷ [])) m
    ∙ ap (put_all (filter_map file_with rest)) step

module _ (all rest : List Content) (last : Content) (m : Files) (target : finite.FinMap path_cmp (List ℕ)) (split : all ≡ rest ++ last ∷ []) (so : put_all (filter_map file_with (map content_view all)) (files_of m) ≡ target) where
  views : filter_map file_with (map content_view all) ≡ filter_map file_with (map content_view rest ++ content_view last ∷ [])
  views = ap (λ cs. filter_map file_with (map content_view cs)) split ∙ ap (filter_map file_with) (map-append content_view rest (last ∷ []))

  -- after a file
  pub kept_file : (n : Files) (bytes : Vec ℕ Global) → last.bytes ≡ Some bytes → Updates string_cmp m n last.path (Some bytes) → put_all (filter_map file_with (map content_view rest)) (files_of n) ≡ target
  kept_file n bytes has put =
      sym (popped (map content_view rest) (content_view last) (files_of m) (files_of n) step) ∙ sym (ap (λ es. put_all es (files_of m)) views) ∙ so where
        step : put_all (filter_map file_with (content_view last ∷ [])) (files_of m) ≡ files_of n
        step = ap (λ o. put_all (filter_map file_with ((string_bytes last.path, option_map items o) ∷ [])) (files_of m)) has
            ∙ sym (one_more m n last.path bytes put)

  -- after a node that is skipped
  pub kept_none : last.bytes ≡ None → put_all (filter_map file_with (map content_view rest)) (files_of m) ≡ target
  kept_none none =
      sym (popped (map content_view rest) (content_view last) (files_of m) (files_of m) step) ∙ sym (ap (λ es. put_all es (files_of m)) views) ∙ so where
        step : put_all (filter_map file_with (content_view last ∷ [])) (files_of m) ≡ files_of m
        step = ap (λ o. put_all (filter_map file_with ((string_bytes last.path, option_map items o) ∷ [])) (files_of m)) none

-- how many pass, counted from the front
abbrev pub passing : {A : Type 0} → (A → Bool) → List A → ℕ
passing p [] = 0
passing p (x ∷ xs) = cond (p x) (1 + passing p xs) (passing p xs)

-- what is skipped, counted in the code's list
pub count-views : (contents : List Content) → count_by (λ content. is_none content.1) (map content_view contents) ≡ count_by (λ content. is_none content.bytes) contents
count-views contents = sym (counted (λ (c : ContentData). is_none c.1) (map content_view contents)) ∙ same contents ∙ counted (λ (c : Content). is_none c.bytes) contents where
  counted : {A : Type 0} (p : A → Bool) (xs : List A) → passing p xs ≡ count_by p xs
  counted p xs = is_count_by (passing p) p refl (λ x ys. refl) xs

  one : (o : Option (Vec ℕ Global)) (a b : ℕ) → a ≡ b → cond (is_none (option_map items o)) (1 + a) a ≡ cond (is_none o) (1 + b) b
  one None a b h = ap (λ n. 1 + n) h
  one (Some v) a b h = h

  same : (cs : List Content) → passing (λ (c : ContentData). is_none c.1) (map content_view cs) ≡ passing (λ (c : Content). is_none c.bytes) cs
  same [] = refl
  same (x ∷ xs) = one x.bytes _ _ (same xs)
