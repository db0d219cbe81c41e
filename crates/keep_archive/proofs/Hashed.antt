-- Pieces of a file that were hashed together.
use Rattle.std.proofs.Common.{◌≡◌, ◌∙◌, ◌++◌, ◌-◌, ℕ, List, [], ◌∷◌, false, ap, drop, get_or, length, map, refl, sym, take, arith}
use denote.Ref.{Bor}
use Rattle.std.specs.Global.{Vec}
use Rattle.std.specs.List.{AllByRecursion, take-map, zip}
use Rattle.std.specs.Prelude.{All}
use Rattle.std.proofs.lemmas.List.{length-append, length-map, map-append}
use Rattle.std.proofs.Math.Seq.{take-append_seam}
use Rattle.std.proofs.lemmas.List.Elements.{All-from_recursion, recursion_from_All}
use Rattle.keep_names.specs.Sha256.{sha256}
use Rattle.keep_names.specs.declared.id.Id.{Id}
use Rattle.keep_build.specs.Blobs.{BlobData, id_of, is_full}
use Rattle.keep_archive.specs.Cutting.{pieces_in}
use Rattle.keep_archive.specs.Steps.{piece}

-- the ids are those of the pieces
abbrev pub AreOwn : List (Vec ℕ) → List Id → Type 0
AreOwn pieces ids = map (λ (id : Id). id.0) ids ≡ map (λ (bytes : Vec ℕ). sha256 bytes.items) pieces

-- a piece that isn't too long, under its own id
abbrev pub IsPiece : Vec ℕ × Id → Type 0
IsPiece given = (given.1.0 ≡ sha256 given.0.items) × (is_full (piece given.0.items) ≡ false)

abbrev pub piece_given : Vec ℕ × Id → BlobData
piece_given given = piece given.0.items

first : (id : Id) (ids : List Id) (p : Vec ℕ) (ps : List (Vec ℕ)) → AreOwn (p ∷ ps) (id ∷ ids) → id.0 ≡ sha256 p.items
first id ids p ps own = ap (λ xs. get_or xs 0 []) own

later : (id : Id) (ids : List Id) (p : Vec ℕ) (ps : List (Vec ℕ)) → AreOwn (p ∷ ps) (id ∷ ids) → AreOwn ps ids
later id ids p ps own = ap (drop 1) own

none_left : {X : Type 0} (p : Vec ℕ) (ps : List (Vec ℕ)) → AreOwn (p ∷ ps) [] → X
none_left p ps own =
    let count : 0 ≡ length (map (λ (bytes : Vec ℕ). sha256 bytes.items) (p ∷ ps)) = ap length own in
    absurd (omega (arith, count, length-map (p ∷ ps) (λ (bytes : Vec ℕ). sha256 bytes.items)))

each_piece : (pieces : List (Vec ℕ)) (ids : List Id) → AreOwn pieces ids → AllByRecursion (λ (x : Vec ℕ). is_full (piece x.items) ≡ false) pieces
    → AllByRecursion IsPiece (zip pieces ids)
each_piece [] ids own short = tt
each_piece (p ∷ ps) [] own short = tt
each_piece (p ∷ ps) (id ∷ ids) own short = ((first id ids p ps own, short.0), each_piece ps ids (later id ids p ps own) short.1)

pub all_pieces : (pieces : List (Vec ℕ)) (ids : List Id) → AreOwn pieces ids → All (λ (x : Vec ℕ). is_full (piece x.items) ≡ false) pieces
    → All IsPiece (zip pieces ids)
all_pieces pieces ids own short =
    All-from_recursion IsPiece (zip pieces ids)
    (each_piece pieces ids own (recursion_from_All (λ (x : Vec ℕ). is_full (piece x.items) ≡ false) pieces short))

pub all_held : (pieces : List (Vec ℕ)) (ids : List Id) → AreOwn pieces ids → map piece_given (zip pieces ids) ≡ map piece (pieces_in pieces)
all_held [] ids own = refl
all_held (p ∷ ps) [] own = none_left p ps own
all_held (p ∷ ps) (id ∷ ids) own = (λ i. piece p.items ∷ all_held ps ids (later id ids p ps own) i)

pub all_named : (pieces : List (Vec ℕ)) (ids : List Id) → AreOwn pieces ids
    → map (λ (given : Vec ℕ × Id). given.1) (zip pieces ids) ≡ map id_of (map piece (pieces_in pieces))
all_named [] ids own = refl
all_named (p ∷ ps) [] own = none_left p ps own
all_named (p ∷ ps) (id ∷ ids) own = (λ i. record { 0 = first id ids p ps own i } ∷ all_named ps ids (later id ids p ps own) i)

-- the hashes of lent bytes are those of the pieces whose bytes they are
pub hashes_of : (texts : List (Bor (List ℕ))) (pieces : List (Vec ℕ)) → map (λ (text : Bor (List ℕ)). text.now) texts ≡ map (λ (bytes : Vec ℕ). bytes.items) pieces
    → map (λ (text : Bor (List ℕ)). sha256 text.now) texts ≡ map (λ (bytes : Vec ℕ). sha256 bytes.items) pieces
hashes_of [] [] are = refl
hashes_of [] (p ∷ ps) are =
    let count : 0 ≡ length (map (λ (bytes : Vec ℕ). bytes.items) (p ∷ ps)) = ap length are in
    absurd (omega (arith, count, length-map (p ∷ ps) (λ (bytes : Vec ℕ). bytes.items)))
hashes_of (text ∷ texts) [] are =
    let count : length (map (λ (text : Bor (List ℕ)). text.now) (text ∷ texts)) ≡ 0 = ap length are in
    absurd (omega (arith, count, length-map (text ∷ texts) (λ (text : Bor (List ℕ)). text.now)))
hashes_of (text ∷ texts) (p ∷ ps) are =
    (λ i. sha256 (ap (λ xs. get_or xs 0 []) are i) ∷ hashes_of texts ps (ap (drop 1) are) i)

-- the ids of all but the last are those of the pieces, where that is the id of the bytes behind them
pub ids_before : (n : ℕ) (all : List Id) (texts : List (Bor (List ℕ))) (rest : Bor (List ℕ)) (pieces : List (Vec ℕ)) → n ≡ length all
    → map (λ (text : Bor (List ℕ)). text.now) texts ≡ map (λ (bytes : Vec ℕ). bytes.items) pieces
    → map (λ (id : Id). id.0) all ≡ map (λ (text : Bor (List ℕ)). sha256 text.now) (texts ++ rest ∷ []) → AreOwn pieces (take (n - 1) all)
ids_before n all texts rest pieces count lent are =
    let hash : Bor (List ℕ) → List ℕ = λ (text : Bor (List ℕ)). sha256 text.now in
    let hashes = map hash texts in
    let most : length all ≡ length (texts ++ rest ∷ []) = sym (length-map all (λ (id : Id). id.0)) ∙ ap length are ∙ length-map (texts ++ rest ∷ []) hash in
    let fewer : n - 1 ≡ length hashes = omega (arith, count, most, length-append texts (rest ∷ []), length-map texts hash) in
    sym (take-map (λ (id : Id). id.0) (n - 1) all)
    ∙ ap (take (n - 1)) (are ∙ map-append hash texts (rest ∷ []))
    ∙ ap (λ k. take k (hashes ++ hash rest ∷ [])) fewer
    ∙ take-append_seam hashes (hash rest ∷ [])
    ∙ hashes_of texts pieces lent
