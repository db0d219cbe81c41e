-- Files whose bytes' ids are given.
use Rattle.std.proofs.Common.{◌≡◌, ℕ, ◌<◌, List, [], ◌∷◌, map, length, get_or, refl, sym, ap, ap₂, ◌∙◌}
use Rattle.std.proofs.lemmas.List.{get_or-map}
use Rattle.keep_names.specs.Sha256.{sha256}
use Rattle.keep_names.specs.declared.file_name.FileName.{FileName}
use Rattle.keep_names.specs.declared.id.Id.{Id}
use Rattle.keep_repo.specs.Repository.{Repository}
use Rattle.keep_read.specs.Hashed.{bytes_of}

-- the id at a file's place is that of its bytes
pub id_is : (r : Repository) (names : List FileName) (ids : List Id) (k : ℕ) (name : FileName) (id : Id)
    → map (λ (id : Id). id.0) ids ≡ map (λ (name : FileName). sha256 (bytes_of r name)) names
    → k < length names → k < length ids → name ≡ get_or names k name → id ≡ get_or ids k id → id.0 ≡ sha256 (bytes_of r name)
id_is r names ids k name id same in_names in_ids at_name at_id =
    let digest_of : FileName → List ℕ = λ n. sha256 (bytes_of r n) in
    ap (λ (i : Id). i.0) at_id ∙ sym (get_or-map (λ (i : Id). i.0) ids k id [] in_ids)
    ∙ ap (λ digests. get_or digests k []) same
    ∙ get_or-map digest_of names k name [] in_names ∙ sym (ap digest_of at_name)

module _ {P : Type 0} (bytes : P → List ℕ) where
  -- what the pieces hash to, by the files that they are of
  pub hashed : (r : Repository) (pieces : List P) (names : List FileName) → map bytes pieces ≡ map (bytes_of r) names
      → map (λ (p : P). sha256 (bytes p)) pieces ≡ map (λ (name : FileName). sha256 (bytes_of r name)) names
  hashed r [] [] e = refl
  hashed r [] (name ∷ names) e = cc e
  hashed r (piece ∷ pieces) [] e = cc e
  hashed r (piece ∷ pieces) (name ∷ names) e =
      let first : bytes piece ≡ bytes_of r name = cc e in
      let rest : map bytes pieces ≡ map (bytes_of r) names = cc e in
      ap₂ (λ (a : List ℕ) (b : List (List ℕ)). a ∷ b) (ap sha256 first) (hashed r pieces names rest)
