-- An index of all headers that can be read can be written: its ids have 32 bytes, and its numbers fit.
use Rattle.std.proofs.Common.{◌≡◌, ℕ, ◌+◌, ◌*◌, ◌<◌, ◌≤◌, ◌^◌, List, [], ◌∷◌, ◌++◌, length, map, All, Option, None, Some, option_map, Result, Ok, Err, refl, sym, subst, arith}
use Rattle.std.proofs.lemmas.List.{drop_at, take_at}
use Rattle.std.proofs.lemmas.List.Elements.{recursion_from_All}
use Rattle.std.specs.FinMap.{get}
use Rattle.std.specs.Int.{w32, to_le_bytes}
use Rattle.std.specs.List.{AllByRecursion, concat, cons_option, filter_map, flat_map}
use Rattle.keep_names.specs.FileName.{named}
use Rattle.keep_names.specs.Id.{IsDigest}
use Rattle.keep_names.specs.declared.blob.Blob.{Blob}
use Rattle.keep_names.specs.declared.file_name.Kind.TheVariants.{Pack}
use Rattle.keep_names.specs.declared.id.Id.{Id}
use Rattle.keep_repo.specs.Repository.{Repository}
use Rattle.keep_pack.proofs.Entries.{IsBytes-drop, IsBytes-take}
use Rattle.keep_pack.specs.Pack.{Entry, HasEntry, HasHeader, LiesIn, entries_from, entry_bytes, type_byte}
use Rattle.keep_pack.specs.Reading.{IsBytes, header_of}
use Rattle.keep_pack.specs.declared.pack_error.PackError.{PackError}
use Rattle.keep_index.specs.Index.{FitsBlob, FitsPack}
use Rattle.keep_catalog.specs.Files.{file_in, header_in, ids_in, readable}
use Rattle.keep_upkeep.specs.Repair.{header_listed}
use Rattle.keep_safety.specs.Met.{AreFiles}
use Rattle.keep_safety.specs.SafeReindexing.{HeadersFitAnIndex}

-- what is read has the pack's grammar, and each entry lies in the pack
abbrev pub ReadIsHeader : Type 0
ReadIsHeader = (pack : List ℕ) (entries : List Blob) → IsBytes pack → header_of pack ≡ Ok entries → HasHeader pack entries

abbrev pub EntriesLieWithin : Type 0
EntriesLieWithin = (pack : List ℕ) (entries : List Blob) → HasHeader pack entries → All (LiesIn pack) entries

-- ---- the ids of entries

second_bytes : (xs ys : List ℕ) → IsBytes (xs ++ ys) → IsBytes ys
second_bytes xs ys both = subst IsBytes (drop_at xs ys (length xs) refl) (IsBytes-drop (length xs) (xs ++ ys) both)

first_bytes : (xs ys : List ℕ) → IsBytes (xs ++ ys) → IsBytes xs
first_bytes xs ys both = subst IsBytes (take_at xs ys (length xs) refl) (IsBytes-take (length xs) (xs ++ ys) both)

abbrev IsListed : Entry → Type 0
IsListed listed = IsDigest listed.blob.id × (listed.length < 2 ^ 32)

each_listed : (listed : List Entry) → IsBytes (flat_map entry_bytes listed) → AllByRecursion HasEntry listed → AllByRecursion IsListed listed
each_listed [] bytes has = tt
each_listed (l ∷ ls) bytes has =
    let own : IsBytes (entry_bytes l) = first_bytes (entry_bytes l) (flat_map entry_bytes ls) bytes in (
      ((has.0.0, second_bytes (type_byte l.blob.blob_type ∷ to_le_bytes w32 l.length) l.blob.id.0 own), has.0.1),
      each_listed ls (second_bytes (entry_bytes l) (flat_map entry_bytes ls) bytes) has.1,
    )

-- ---- the entries of a header

each_fits : (pack : List ℕ) → length pack < 2 ^ 64 → (offset : ℕ) (listed : List Entry) → AllByRecursion IsListed listed
    → AllByRecursion (LiesIn pack) (entries_from offset listed) → AllByRecursion FitsBlob (entries_from offset listed)
each_fits pack few offset [] ids within = tt
each_fits pack few offset (l ∷ ls) ids within =
    let lies : offset + l.length ≤ length pack = within.0 in
    let fits : offset < 2 ^ 64 = omega arith in
    ((ids.0.0, fits, ids.0.1), each_fits pack few (offset + l.length) ls ids.1 within.1)

module _ (read : ReadIsHeader) (within : EntriesLieWithin) where
  blobs_fit : (pack : List ℕ) (entries : List Blob) → IsBytes pack → length pack < 2 ^ 64 → header_of pack ≡ Ok entries → AllByRecursion FitsBlob entries
  blobs_fit pack entries bytes few is =
      let header : HasHeader pack entries = read pack entries bytes is in
      let listed : List Entry = header.0 in
      let framed = header.1.1 in
      let tail = flat_map entry_bytes listed ++ to_le_bytes w32 (37 * length listed) in
      let tail_bytes : IsBytes tail = second_bytes (concat header.1.0) tail (subst IsBytes framed.bytes bytes) in
      let own : AllByRecursion IsListed listed =
      each_listed listed (first_bytes (flat_map entry_bytes listed) (to_le_bytes w32 (37 * length listed)) tail_bytes) framed.entries in
      let lie : AllByRecursion (LiesIn pack) (entries_from 0 listed) =
      subst (AllByRecursion (LiesIn pack)) header.2 (recursion_from_All (LiesIn pack) entries (within pack entries header)) in
      subst (AllByRecursion FitsBlob) (sym header.2) (each_fits pack few 0 listed own lie)

  -- ---- the packs of a repository

  module _ (r : Repository) (files : AreFiles r) where
    pack_fits : (pack : Id) (found : Option (List ℕ)) → get r.files (named Pack pack) ≡ found → (header : Id × List Blob)
        → readable pack (option_map header_of found) ≡ Some header → FitsPack (header_listed header)
    pack_fits pack None is header h = cc h
    pack_fits pack (Some bytes) is header h = cases (header_of bytes) refl h where
      cases : (o : Result (List Blob) PackError) → header_of bytes ≡ o → readable pack (Some o) ≡ Some header → FitsPack (header_listed header)
      cases (Err why) said g = cc g
      cases (Ok entries) said g =
          let same : (pack, entries) ≡ header = cc g in
          let file = files (named Pack pack) bytes is in
          subst (λ (x : Id × List Blob). FitsPack (header_listed x)) same (file.digest, blobs_fit bytes entries file.bytes file.few said)

    pack_so : (pack : Id) (header : Id × List Blob) → readable pack (header_in r pack) ≡ Some header → FitsPack (header_listed header)
    unfolding file_in
    pack_so pack header h = pack_fits pack (get r.files (named Pack pack)) refl header h

    each_pack : (ids : List Id) → AllByRecursion FitsPack (map header_listed (filter_map (λ pack. readable pack (header_in r pack)) ids))
    each_pack [] = tt
    each_pack (id ∷ ids) = cases (each_pack ids) (readable id (header_in r id)) refl where
      cases : AllByRecursion FitsPack (map header_listed (filter_map (λ pack. readable pack (header_in r pack)) ids)) → (o : Option (Id × List Blob)) → readable id (header_in r id) ≡ o
          → AllByRecursion FitsPack (map header_listed (cons_option o (filter_map (λ pack. readable pack (header_in r pack)) ids)))
      cases rest None is = rest
      cases rest (Some header) is = (pack_so id header is, rest)

pub headers_fit : ReadIsHeader → EntriesLieWithin → HeadersFitAnIndex
headers_fit read within r files = each_pack read within r files (ids_in r Pack)
