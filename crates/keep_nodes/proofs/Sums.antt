-- Sums that stop at the most, one more at a time, and counts of what entries say.
use Rattle.std.proofs.Common.{◌≡◌, ℕ, ◌+◌, ◌-◌, ◌^◌, ◌<◌, Bool, true, false, cond, min, List, [], ◌∷◌, map, count_by, length, get_or, drop, Option, None, Some, refl, sym, ap, subst, ◌∙◌, arith}
use Rattle.std.proofs.lemmas.List.{at_drop_more}
use Rattle.std.proofs.lemmas.List.Recursion.{is_count_by}
use Rattle.std.proofs.lemmas.Map.Views.{tells_apart}
use Rattle.std.specs.BTreeMap.{BTreeMap, is_at}
use Rattle.std.specs.BTreeMap as tree
use Rattle.keep_names.proofs.Orders.{id_exact}
use Rattle.keep_names.specs.Orders.{id_cmp}
use Rattle.keep_names.specs.declared.id.Id.{Id}
use Rattle.keep_repo.specs.Repository.{Repository}
use Rattle.keep_nodes.specs.Lengths.{AreLengths, piece_length}
use Rattle.keep_nodes.specs.Entries.{EntryData}
use Rattle.keep_nodes.specs.Tallies.{at_most, bytes_of, is_file, is_folder, is_other, tally_of}
use Rattle.keep_nodes.specs.declared.tally.Tally.{Tally}

-- one more, where what is left was summed too
pub one_more : (bytes x more rest total later : ℕ) → at_most (bytes + (x + rest)) ≡ total → more ≡ at_most x → later ≡ min (bytes + more) (2 ^ 64 - 1) → at_most (later + rest) ≡ total
one_more bytes x more rest total later is adds so = omega arith

-- at the end
pub at_end : (bytes rest total : ℕ) → rest ≡ 0 → at_most (bytes + rest) ≡ total → bytes < 2 ^ 64 → bytes ≡ total
at_end bytes rest total none is small = omega arith

-- ---- counts

-- how many pass, counted from the front
passing : {A : Type 0} → (A → Bool) → List A → ℕ
passing p [] = 0
passing p (x ∷ xs) = cond (p x) (1 + passing p xs) (passing p xs)

counted : {A : Type 0} (p : A → Bool) (xs : List A) → passing p xs ≡ count_by p xs
unfolding passing
counted p xs = is_count_by (passing p) p refl (λ x ys. refl) xs

same_passing : {A B : Type 0} (view : A → B) (p : B → Bool) (xs : List A) → passing p (map view xs) ≡ passing (λ x. p (view x)) xs
unfolding passing
same_passing view p [] = refl
same_passing view p (x ∷ xs) =
    ap (λ n. cond (p (view x)) (1 + n) n) (same_passing view p xs)

-- what is counted of a view
pub count-view : {A B : Type 0} (view : A → B) (p : B → Bool) (xs : List A) → count_by p (map view xs) ≡ count_by (λ x. p (view x)) xs
count-view view p xs = sym (counted p (map view xs)) ∙ same_passing view p xs ∙ counted (λ x. p (view x)) xs

-- ---- lengths

-- one more is known
pub one_known : (r : Repository) (old new : BTreeMap Id ℕ) (id : Id) (length : ℕ) → ((q : Id) → tree.get id_cmp new q ≡ cond (is_at (id_cmp id) q) (Some length) (tree.get id_cmp old q)) → length ≡ piece_length r id → AreLengths r old → AreLengths r new
one_known r old new id length put is known = λ q n found. cases q n (is_at (id_cmp id) q) refl (sym (put q) ∙ found) where
  cases : (q : Id) (n : ℕ) (b : Bool) → is_at (id_cmp id) q ≡ b → cond b (Some length) (tree.get id_cmp old q) ≡ Some n → piece_length r q ≡ n
  cases q n true same found =
      let lengths : length ≡ n = cc found in
      ap (piece_length r) (sym (tells_apart id_exact id q same)) ∙ sym is ∙ lengths
  cases q n false other found = known q n found

-- ---- a tally

abbrev pub tally : ℕ → ℕ → ℕ → ℕ → Tally
tally files folders others bytes = record { files = files; folders = folders; others = others; bytes = bytes }

-- of four numbers that are right
pub tally_made : (r : Repository) (es : List EntryData) (files folders others bytes : ℕ) → files ≡ count_by (λ (e : EntryData). is_file e.node.kind) es → folders ≡ count_by (λ (e : EntryData). is_folder e.node.kind) es → others ≡ count_by (λ (e : EntryData). is_other e.node.kind) es → bytes ≡ at_most (bytes_of r es) → tally files folders others bytes ≡ tally_of r es
unfolding tally_of
tally_made r es files folders others bytes a b c d =
    let x = count_by (λ (e : EntryData). is_file e.node.kind) es in
    let y = count_by (λ (e : EntryData). is_folder e.node.kind) es in
    let z = count_by (λ (e : EntryData). is_other e.node.kind) es in
    ap (λ n. tally n folders others bytes) a ∙ ap (λ n. tally x n others bytes) b ∙ ap (λ n. tally x y n bytes) c ∙ ap (λ n. tally x y z n) d
