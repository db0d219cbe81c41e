-- The files that a ready change adds aren't there, and those that it drops are.
use Rattle.std.proofs.Common.{◌≡◌, ℕ, Bool, true, false, cond, List, [], ◌∷◌, ◌++◌, map, Option, None, Some, refl, ap, ◌∙◌, arith}
use Rattle.std.specs.FinMap as finite
use Rattle.std.specs.List.{list_all}
use Rattle.std.specs.Option.{option_map}
use Rattle.keep_repo.proofs.Held.{held-insert_file, held-remove_file}
use Rattle.keep_repo.specs.Facet.{Stored, facet_eq}
use Rattle.keep_repo.specs.Repository.{Repository, held}
use Rattle.keep_repo.specs.declared.facet.Facet.{Facet}
use Rattle.keep_repo.specs.declared.facet.Facet.TheVariants.{File}
use Rattle.keep_change.proofs.Carry.{held-result_of, reverse_writes_once, times-append}
use Rattle.keep_change.proofs.History.{is_ready-reverse}
use Rattle.keep_change.proofs.Law.{ready_kept, undo_ready}
use Rattle.keep_change.proofs.Records.{WritesOnce, among, and_first, and_second, holds_same_equal, once_head, once_tail, refuted, same_facet}
use Rattle.keep_change.specs.Change.{Holding, Written, added, cleared, dropped, holds_same, is_as_written, is_ready, set, written}
use Rattle.keep_change.specs.NamedBytes.{NamedBytes}
use Rattle.keep_change.specs.Result.{put_files, result_of, reverse_of}
use Rattle.keep_change.specs.declared.change.Change.{Change}
use Rattle.keep_catalog.specs.Kept.{AreNew, AreThere, with_file, with_files, without_file}

abbrev all_ready : Repository → List Written → Bool
all_ready r ws = list_all (is_as_written (held r)) ws

none_held : (o : Option (List ℕ)) → option_map Stored o ≡ None → o ≡ None
none_held None h = refl
none_held (Some bytes) h = cc h

some_held : (o : Option (List ℕ)) (bytes : List ℕ) → option_map Stored o ≡ Some (Stored bytes) → o ≡ Some bytes
some_held None bytes h = cc h
some_held (Some x) bytes h = let e : x ≡ bytes = cc h in ap Some e

-- a facet that stands among these isn't one that doesn't
apart : (ws : List Written) (facet q : Facet) → among facet ws ≡ false → among q ws ≡ true → facet_eq facet q ≡ false
apart ws facet q none some = refuted (facet_eq facet q) (λ same. cc (none, some, ap (λ f. among f ws) ((same_facet facet q).0 same)))

module _ (r : Repository) (f : NamedBytes) (ws : List Written) (ready : all_ready r ws ≡ true) (none : among (File f.name) ws ≡ false) where
  -- the others are ready once the file is put
  ready_with : all_ready (with_file r f.name f.bytes) ws ≡ true
  ready_with = ready_kept (held (with_file r f.name f.bytes)) (held r) ws (λ q a.
      held-insert_file r f.name f.bytes q ∙ ap (λ b. cond b (Some (Stored f.bytes)) (held r q)) (apart ws (File f.name) q none a)) ready

  -- and once it is taken
  ready_without : all_ready (without_file r f.name) ws ≡ true
  ready_without = ready_kept (held (without_file r f.name)) (held r) ws (λ q a.
      held-remove_file r f.name q ∙ ap (λ b. cond b None (held r q)) (apart ws (File f.name) q none a)) ready

-- what is left after some files were put, each where none was
pub record PutFirst (fs : List NamedBytes) (rest : List Written) (r : Repository) : Type 0 where
  pub new : AreNew fs r.files
  pub once : WritesOnce rest
  pub ready : all_ready (with_files fs r) rest ≡ true

put_first : (fs : List NamedBytes) (rest : List Written) (r : Repository) → WritesOnce (map added fs ++ rest) → all_ready r (map added fs ++ rest) ≡ true → PutFirst fs rest r
put_first [] rest r once ready = record { new = tt; once = once; ready = ready }
put_first (f ∷ fs) rest r once ready =
    let others : List Written = map added fs ++ rest in
    let first : holds_same (held r (File f.name)) None ≡ true = and_first (is_as_written (held r) (added f)) (all_ready r others) ready in
    let later : all_ready r others ≡ true = and_second (is_as_written (held r) (added f)) (all_ready r others) ready in
    let next = put_first fs rest (with_file r f.name f.bytes) (once_tail (added f) others once) (ready_with r f others later (once_head (added f) others once)) in
    record {
      new = (none_held (finite.get r.files f.name) (holds_same_equal (held r (File f.name)) None first), next.new);
      once = next.once;
      ready = next.ready;
    }

taken_there : (fs : List NamedBytes) (rest : List Written) (r : Repository) → WritesOnce (map dropped fs ++ rest) → all_ready r (map dropped fs ++ rest) ≡ true → AreThere fs r.files
taken_there [] rest r once ready = tt
taken_there (f ∷ fs) rest r once ready =
    let others : List Written = map dropped fs ++ rest in
    let first : holds_same (held r (File f.name)) (Some (Stored f.bytes)) ≡ true = and_first (is_as_written (held r) (dropped f)) (all_ready r others) ready in
    let later : all_ready r others ≡ true = and_second (is_as_written (held r) (dropped f)) (all_ready r others) ready in (
      some_held (finite.get r.files f.name) f.bytes (holds_same_equal (held r (File f.name)) (Some (Stored f.bytes)) first),
      taken_there fs rest (without_file r f.name) (once_tail (dropped f) others once) (ready_without r f others later (once_head (dropped f) others once)),
    )

abbrev pub FilesFollow : Change → Repository → Type 0
FilesFollow c r = AreNew c.adds r.files × AreThere c.drops (put_files c.adds r.files)

pub follows : (c : Change) (r : Repository) → WritesOnce (written c) → is_ready (held r) c ≡ true → FilesFollow c r
follows c r once ready =
    let put = put_first c.adds _ r once ready in
    (put.new, taken_there c.drops _ (with_files c.adds r) put.once put.ready)

-- the change that puts this one's files, and does nothing else
abbrev pub puts_alone : Change → Change
puts_alone c = record c { drops = []; sets = []; clears = [] }

puts_alone_once : (c : Change) → WritesOnce (written c) → WritesOnce (written (puts_alone c))
puts_alone_once c once q =
    let others : List Written = map dropped c.drops ++ (map set c.sets ++ map cleared c.clears) in
    omega (arith, once q, times-append q (map added c.adds) others, times-append q (map added c.adds) [])

-- files that were put are there, with their bytes
pub put_there : (c : Change) (r : Repository) → WritesOnce (written c) → AreThere c.adds (put_files c.adds r.files)
put_there c r once =
    let d = puts_alone c in
    let once : WritesOnce (written d) = puts_alone_once c once in
    let ready : is_ready (held (result_of d r)) (reverse_of d) ≡ true =
    ap (λ (h : Holding). is_ready h (reverse_of d)) (held-result_of d once r) ∙ is_ready-reverse d _ ∙ undo_ready d [] (held r) once refl in
    (follows (reverse_of d) (result_of d r) (reverse_writes_once d once) ready).1
