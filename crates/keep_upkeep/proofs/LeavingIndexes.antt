-- What is left of indexes, one after the other.
use Rattle.std.proofs.Common.{◌≡◌, Bool, true, false, cond, List, [], ◌∷◌, ◌++◌, map, sym, ap, ◌∙◌}
use Rattle.std.proofs.lemmas.List.{append_assoc, map-append}
use Rattle.std.proofs.lemmas.List.Elements.{filter-append}
use Rattle.std.specs.Global.{Vec}
use Rattle.std.specs.List.{list_any}
use Rattle.keep_names.specs.declared.file_name.Kind.TheVariants.{Index, Pack}
use Rattle.keep_names.specs.declared.id.Id.{Id}
use Rattle.keep_repo.specs.Repository.{Repository}
use Rattle.keep_index.specs.Index.{PackData, pack_view}
use Rattle.keep_index.specs.Joining.{joined, left_without}
use Rattle.keep_index.specs.declared.index.IndexedPack.{IndexedPack}
use Rattle.keep_change.specs.Filling.{has_pack}
use Rattle.keep_change.specs.Lists.{marked_packs}
use Rattle.keep_change.specs.NamedBytes.{NamedBytes}
use Rattle.keep_change.specs.declared.change.PackMark.{PackMark}
use Rattle.keep_catalog.specs.Files.{indexes_in, packs_view}
use Rattle.keep_plan.specs.FilesThere.{files_there}
use Rattle.keep_upkeep.specs.Reindexing.{index_files, other_indexes, reindexing}
use Rattle.keep_upkeep.specs.Sweep.{left_files, left_of, listing, lists_gone, listing_gone, names_of, sweeping, swept_files}
use Rattle.keep_upkeep.proofs.EachSo.{any_mapped}

-- an index as the catalog keeps it
abbrev pub Read : Type 0
Read = Id × Vec IndexedPack

module _ (is_gone : Id → Bool) (name : Id) (packs : List IndexedPack) where
  -- its name, with what it says
  abbrev pub listing_here : List (Id × List PackData)
  listing_here = (name, map pack_view packs) ∷ []

  asked : lists_gone is_gone (name, map pack_view packs) ≡ list_any (λ (pack : IndexedPack). is_gone pack.id) packs
  asked = any_mapped (λ (pack : PackData). is_gone pack.id) pack_view packs

  pub passed : (answer : Bool) → answer ≡ list_any (λ (pack : IndexedPack). is_gone pack.id) packs → answer ≡ false → listing_gone is_gone listing_here ≡ []
  passed answer is none = ap (λ b. cond b listing_here []) (asked ∙ sym is ∙ none)

  pub taken : (answer : Bool) → answer ≡ list_any (λ (pack : IndexedPack). is_gone pack.id) packs → answer ≡ true → listing_gone is_gone listing_here ≡ listing_here
  taken answer is some = ap (λ b. cond b listing_here []) (asked ∙ sym is ∙ some)

-- one after the other
module _ (is_gone : Id → Bool) (all left rest : List Read) (x : Read) (first : left ≡ x ∷ rest) where
  listing_first : listing_gone is_gone (map packs_view left) ≡ listing_gone is_gone (packs_view x ∷ []) ++ listing_gone is_gone (map packs_view rest)
  listing_first =
      ap (λ (es : List Read). listing_gone is_gone (map packs_view es)) first
      ∙ filter-append (lists_gone is_gone) (packs_view x ∷ []) (map packs_view rest)

  pub names_more : (old new : List Id) → new ≡ old ++ names_of (listing_gone is_gone (packs_view x ∷ []))
      → old ++ names_of (listing_gone is_gone (map packs_view left)) ≡ names_of (listing_gone is_gone (map packs_view all))
      → new ++ names_of (listing_gone is_gone (map packs_view rest)) ≡ names_of (listing_gone is_gone (map packs_view all))
  names_more old new put so =
      let here = listing_gone is_gone (packs_view x ∷ []) in
      let later = listing_gone is_gone (map packs_view rest) in
      ap (λ ns. ns ++ names_of later) put ∙ append_assoc old (names_of here) (names_of later)
      ∙ ap (λ ns. old ++ ns) (sym (ap names_of listing_first ∙ map-append (λ (e : Id × List PackData). e.0) here later)) ∙ so

  pub left_more : (old new : List (List PackData)) → new ≡ old ++ left_of is_gone (listing_gone is_gone (packs_view x ∷ []))
      → old ++ left_of is_gone (listing_gone is_gone (map packs_view left)) ≡ left_of is_gone (listing_gone is_gone (map packs_view all))
      → new ++ left_of is_gone (listing_gone is_gone (map packs_view rest)) ≡ left_of is_gone (listing_gone is_gone (map packs_view all))
  left_more old new put so =
      let here = listing_gone is_gone (packs_view x ∷ []) in
      let later = listing_gone is_gone (map packs_view rest) in
      ap (λ ls. ls ++ left_of is_gone later) put ∙ append_assoc old (left_of is_gone here) (left_of is_gone later)
      ∙ ap (λ ls. old ++ ls) (sym (ap (left_of is_gone) listing_first ∙ map-append (λ (e : Id × List PackData). left_without is_gone e.1) here later)) ∙ so

-- ---- all of it

-- what is built and dropped, step by step, is what a sweep of these marks makes
pub same_sweep : (r : Repository) (marks : List PackMark) (indexes : List Read) (packs names others : List Id) (left : List PackData) (built drops : List NamedBytes)
    → map packs_view indexes ≡ indexes_in r → packs ≡ marked_packs marks
    → names ≡ names_of (listing_gone (has_pack packs) (map packs_view indexes))
    → left ≡ joined (left_of (has_pack packs) (listing_gone (has_pack packs) (map packs_view indexes)))
    → built ≡ index_files left → others ≡ other_indexes built names
    → drops ≡ files_there r Pack packs ++ files_there r Index others
    → reindexing r built drops marks [] ≡ sweeping r marks
same_sweep r marks indexes packs names others left built drops read packs_are names_are left_is built_is others_are drops_are =
    let files : built ≡ left_files r (marked_packs marks) =
    built_is ∙ ap index_files (left_is ∙ (λ i. joined (left_of (has_pack (packs_are i)) (listing_gone (has_pack (packs_are i)) (read i))))) in
    let listed : names ≡ names_of (listing r (marked_packs marks)) = names_are ∙ (λ i. names_of (listing_gone (has_pack (packs_are i)) (read i))) in
    let rest : others ≡ other_indexes (left_files r (marked_packs marks)) (names_of (listing r (marked_packs marks))) = others_are ∙ (λ i. other_indexes (files i) (listed i)) in
    let gone : drops ≡ swept_files r (marked_packs marks) = drops_are ∙ (λ i. files_there r Pack (packs_are i) ++ files_there r Index (rest i)) in
    (λ i. reindexing r (files i) (gone i) marks [])
