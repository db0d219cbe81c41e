-- Pieces that were hashed together, each with its own id.
use Rattle.std.proofs.Common.{◌≡◌, ◌∙◌, ◌++◌, ◌-◌, ℕ, List, [], ◌∷◌, ap, arith, drop, get_or, length, map, refl, sym, take}
use denote.Ref.{Bor}
use Rattle.std.specs.Global.{Vec}
use Rattle.std.specs.List.{AllByRecursion, zip}
use Rattle.std.specs.Prelude.{All}
use Rattle.std.proofs.lemmas.List.{length-drop, length-map, map-append, take-append-drop}
use Rattle.std.proofs.Math.Seq.{take-length}
use Rattle.std.proofs.lemmas.List.Elements.{All-from_recursion}
use Rattle.keep_names.specs.Sha256.{sha256}
use Rattle.keep_names.specs.declared.id.Id.{Id}

-- the ids are those of the pieces
abbrev pub AreOwn : List (Vec ℕ) → List Id → Type 0
AreOwn pieces ids = map (λ (id : Id). id.0) ids ≡ map (λ (bytes : Vec ℕ). sha256 bytes.items) pieces

-- a piece with its own id
abbrev pub IsOwn : Vec ℕ × Id → Type 0
IsOwn given = given.1.0 ≡ sha256 given.0.items

each_own : (pieces : List (Vec ℕ)) (ids : List Id) → AreOwn pieces ids → AllByRecursion IsOwn (zip pieces ids)
each_own [] ids own = tt
each_own (p ∷ ps) [] own = tt
each_own (p ∷ ps) (id ∷ ids) own = (ap (λ xs. get_or xs 0 []) own, each_own ps ids (ap (drop 1) own))

pub all_own : (pieces : List (Vec ℕ)) (ids : List Id) → AreOwn pieces ids → All IsOwn (zip pieces ids)
all_own pieces ids own = All-from_recursion IsOwn (zip pieces ids) (each_own pieces ids own)

-- the hashes of lent bytes are those of the pieces whose bytes they are
pub hashes_of : (texts : List (Bor (List ℕ))) (pieces : List (Vec ℕ)) → map (λ (text : Bor (List ℕ)). text.now) texts ≡ map (λ (bytes : Vec ℕ). bytes.items) pieces
    → map (λ (text : Bor (List ℕ)). sha256 text.now) texts ≡ map (λ (bytes : Vec ℕ). sha256 bytes.items) pieces
hashes_of [] [] are = refl
hashes_of [] (p ∷ ps) are =
    let count : 0 ≡ length (map (λ (bytes : Vec ℕ). bytes.items) (p ∷ ps)) = ap length are in
    absurd (omega (arith, count, length-map (p ∷ ps) (λ (bytes : Vec ℕ). bytes.items)))
hashes_of (text ∷ texts) [] are =
    let count : length (map (λ (text : Bor (List ℕ)). text.now) (text ∷ texts)) ≡ 0 = ap length are in
    absurd (omega (arith, count, length-map (text ∷ texts) (λ (text : Bor (List ℕ)). text.now)))
hashes_of (text ∷ texts) (p ∷ ps) are =
    (λ i. sha256 (ap (λ xs. get_or xs 0 []) are i) ∷ hashes_of texts ps (ap (drop 1) are) i)

-- the pieces behind the first
behind : (pieces : List (Bor (List ℕ))) (n : ℕ) → take (length pieces - n) (drop n pieces) ≡ drop n pieces
behind pieces n = ap (λ k. take k (drop n pieces)) (sym (length-drop n pieces)) ∙ take-length (drop n pieces)

-- the ids of the first pieces, and those of the others behind them
pub joined_ids : (pieces : List (Bor (List ℕ))) (n m : ℕ) → m ≡ n → (first rest : List Id) → map (λ (id : Id). id.0) first ≡ map (λ (piece : Bor (List ℕ)). sha256 piece.now) (take n pieces)
    → map (λ (id : Id). id.0) rest ≡ map (λ (piece : Bor (List ℕ)). sha256 piece.now) (take (length pieces - m) (drop m pieces))
    → map (λ (id : Id). id.0) (first ++ rest) ≡ map (λ (piece : Bor (List ℕ)). sha256 piece.now) pieces
joined_ids pieces n m same first rest front back =
    map-append (λ (id : Id). id.0) first rest
    ∙ ap (λ xs. xs ++ map (λ (id : Id). id.0) rest) front
    ∙ ap (λ ys. map (λ (piece : Bor (List ℕ)). sha256 piece.now) (take n pieces) ++ ys) back
    ∙ ap (λ ps. map (λ (piece : Bor (List ℕ)). sha256 piece.now) (take n pieces) ++ map (λ (piece : Bor (List ℕ)). sha256 piece.now) ps) (behind pieces m)
    ∙ ap (λ k. map (λ (piece : Bor (List ℕ)). sha256 piece.now) (take n pieces) ++ map (λ (piece : Bor (List ℕ)). sha256 piece.now) (drop k pieces)) same
    ∙ sym (map-append (λ (piece : Bor (List ℕ)). sha256 piece.now) (take n pieces) (drop n pieces))
    ∙ ap (map (λ (piece : Bor (List ℕ)). sha256 piece.now)) (take-append-drop n pieces)
