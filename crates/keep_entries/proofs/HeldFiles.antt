-- Files whose bytes' ids are given.
use Rattle.std.proofs.Common.{◌≡◌, ℕ, ◌+◌, ◌<◌, List, [], ◌∷◌, ◌++◌, map, length, get_or, drop, refl, sym, ap, ap₂, ◌∙◌, append_assoc}
use Rattle.std.proofs.lemmas.List.{drop_more, get_or-map, map-append}
use Rattle.keep_names.specs.Sha256.{sha256}
use Rattle.keep_names.specs.declared.id.Id.{Id}
use Rattle.keep_change.specs.NamedBytes.{NamedBytes}

-- the id at a file's place is that of its bytes
pub id_is : (files : List NamedBytes) (ids : List Id) (k : ℕ) (file : NamedBytes) (id : Id)
    → map (λ (id : Id). id.0) ids ≡ map (λ (f : NamedBytes). sha256 f.bytes) files
    → k < length files → k < length ids → file ≡ get_or files k file → id ≡ get_or ids k id → id.0 ≡ sha256 file.bytes
id_is files ids k file id same in_files in_ids at_file at_id =
    let digest_of : NamedBytes → List ℕ = λ f. sha256 f.bytes in
    ap (λ (i : Id). i.0) at_id ∙ sym (get_or-map (λ (i : Id). i.0) ids k id [] in_ids)
    ∙ ap (λ digests. get_or digests k []) same
    ∙ get_or-map digest_of files k file [] in_files ∙ sym (ap digest_of at_file)

module _ {P : Type 0} (bytes_of : P → List ℕ) where
  -- a file's bytes are one piece more
  pub one_more : (pieces : List P) {new : List P} (piece : P) (files : List NamedBytes) (i : ℕ) (file : NamedBytes)
      → new ≡ pieces ++ piece ∷ [] → bytes_of piece ≡ file.bytes → i < length files → file ≡ get_or files i file
      → map bytes_of pieces ++ map (λ (f : NamedBytes). f.bytes) (drop i files) ≡ map (λ (f : NamedBytes). f.bytes) files
      → map bytes_of new ++ map (λ (f : NamedBytes). f.bytes) (drop (i + 1) files) ≡ map (λ (f : NamedBytes). f.bytes) files
  one_more pieces piece files i file more same within is so =
      let later = map (λ (f : NamedBytes). f.bytes) (drop (i + 1) files) in
      let here : map (λ (f : NamedBytes). f.bytes) (drop i files) ≡ bytes_of piece ∷ later =
      ap (map (λ (f : NamedBytes). f.bytes)) (drop_more files i file within) ∙ ap (λ (f : NamedBytes). f.bytes ∷ later) (sym is)
      ∙ ap (λ (bytes : List ℕ). bytes ∷ later) (sym same) in
      ap (λ (ps : List P). map bytes_of ps ++ later) more
      ∙ ap (λ (all : List (List ℕ)). all ++ later) (map-append bytes_of pieces (piece ∷ []))
      ∙ append_assoc (map bytes_of pieces) (bytes_of piece ∷ []) later
      ∙ ap (λ (all : List (List ℕ)). map bytes_of pieces ++ all) (sym here) ∙ so

  -- what the pieces hash to, by the files that they are of
  pub hashed : (pieces : List P) (files : List NamedBytes) → map bytes_of pieces ≡ map (λ (f : NamedBytes). f.bytes) files
      → map (λ (p : P). sha256 (bytes_of p)) pieces ≡ map (λ (f : NamedBytes). sha256 f.bytes) files
  hashed [] [] e = refl
  hashed [] (file ∷ files) e = cc e
  hashed (piece ∷ pieces) [] e = cc e
  hashed (piece ∷ pieces) (file ∷ files) e =
      let first : bytes_of piece ≡ file.bytes = cc e in
      let rest : map bytes_of pieces ≡ map (λ (f : NamedBytes). f.bytes) files = cc e in
      ap₂ (λ (a : List ℕ) (b : List (List ℕ)). a ∷ b) (ap sha256 first) (hashed pieces files rest)
