-- What the threads give are the ids of the pieces.
use Rattle.std.proofs.Common.{◌≡◌, ◌∙◌, ℕ, List, [], ◌∷◌, ap, map, refl}
use denote.Ref.{Bor}
use Rattle.rayon.proofs.ListFacts.{IfOk-then}
use Rattle.rayon.proofs.ToStd.{slice-map}
use Rattle.rayon.specs.Lists.{iter_slice, min_len_base}
use Rattle.rayon.specs.declared.iter.min_len.MinLen.{MinLen}
use Rattle.rayon.specs.declared.slice.Iter.{Iter}
use Rattle.keep_names.specs.Sha256.{sha256}
use Rattle.keep_names.specs.declared.id.Id.{Id}
use Rattle.keep_threads.proofs.processors.ids_of.Goals as goal

-- the id of a piece
abbrev id_at : Bor (List ℕ) → Id
id_at piece = record { 0 = sha256 piece.now }

-- the bytes of the ids are the hashes
bytes-of-ids : (pieces : List (Bor (List ℕ))) → map (λ (id : Id). id.0) (map id_at pieces) ≡ map (λ (piece : Bor (List ℕ)). sha256 piece.now) pieces
bytes-of-ids [] = refl
bytes-of-ids (piece ∷ pieces) = ap (λ (rest : List (List ℕ)). sha256 piece.now ∷ rest) (bytes-of-ids pieces)

pub returns : goal.returns
returns g c =
    let slice = ap (λ (it : MinLen (Iter (Bor (List ℕ)))). iter_slice (min_len_base it)) c.map.ensures.base ∙ ap iter_slice c.with_min_len.ensures.base ∙ c.par_iter.ensures in
    IfOk-then c.collect.result _ _ c.collect.ensures (λ v h.
    let chain = h.1 in
    let pieces = c.args.pieces.now in
    ap (λ (ids : List Id). map (λ (id : Id). id.0) ids)
    (h.2 ∙ slice-map chain.0 pieces (chain.1 ∙ slice) id_at h.0 chain.2)
    ∙ bytes-of-ids pieces)
