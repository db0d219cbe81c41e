-- Pieces that were read one behind another, and given.
use Rattle.std.proofs.Common.{◌≡◌, ℕ, ◌+◌, None, Some, List, [], ◌∷◌, ◌++◌, map, length, refl, sym, ap, ◌∙◌, subst, arith, add_assoc}
use Rattle.std.proofs.lemmas.List.{map-append}
use Rattle.keep_sources.proofs.GivenAll.{gives-append, gives-one}
use Rattle.keep_sources.specs.Given.{Given, GivesAll, Wrote}
use Rattle.keep_sources.specs.Met.{total}
use Rattle.keep_sources.specs.Told.{Told}
use Rattle.keep_sources.specs.Took.{AreRead, CopiedFile, IsReadOut}
use Rattle.keep_sources.specs.declared.skipped.Why.{Why}

total-push : (pieces : List (List ℕ)) (piece : List ℕ) → total (pieces ++ piece ∷ []) ≡ total pieces + length piece
total-push [] piece = omega arith
total-push (p ∷ pieces) piece = ap (λ n. length p + n) (total-push pieces piece) ∙ sym (add_assoc (length p) (total pieces) (length piece))

read-push : (t : Told) (path : List ℕ) (offset : ℕ) (pieces : List (List ℕ)) (piece : List ℕ)
    → AreRead t path offset pieces → t.read path (offset + total pieces) piece → AreRead t path offset (pieces ++ piece ∷ [])
read-push t path offset [] piece are is =
    let e : offset + 0 ≡ offset = omega arith in
    (subst (λ o. t.read path o piece) e is, tt)
read-push t path offset (p ∷ pieces) piece are is =
    let e : offset + (length p + total pieces) ≡ (offset + length p) + total pieces = omega arith in
    (are.0, read-push t path (offset + length p) pieces piece are.1 (subst (λ o. t.read path o piece) e is))

-- so many bytes of the file were read and given
pub record HasCopied {X : Type 0} (told : Told) (gives : X → Given → X → Type 0) (path : List ℕ) (given given_now : X) (size : ℕ) : Type 0 where
  pub pieces : List (List ℕ)
  pub gave : GivesAll gives given (map Wrote pieces) given_now
  pub read : AreRead told path 0 pieces
  pub bytes : size ≡ total pieces

module _ {X : Type 0} (told : Told) (gives : X → Given → X → Type 0) (path : List ℕ) where
  pub copied_none : (g : X) → HasCopied told gives path g g 0
  copied_none g = record { pieces = []; gave = refl; read = tt; bytes = refl }

  pub copied_more : (g g' g'' : X) (size size' : ℕ) (piece : List ℕ) → HasCopied told gives path g g' size → told.read path size piece
      → gives g' (Wrote piece) g'' → size' ≡ size + length piece → HasCopied told gives path g g'' size'
  copied_more g g' g'' size size' piece h is gave more = record {
    pieces = h.pieces ++ piece ∷ [];
    gave = subst (λ all. GivesAll gives g all g'') (sym (map-append Wrote h.pieces (piece ∷ [])))
        (gives-append gives g g' g'' (map Wrote h.pieces) (Wrote piece ∷ []) h.gave (gives-one gives g' g'' (Wrote piece) gave));
    read =
        let e : size ≡ 0 + total h.pieces = omega (arith, h.bytes) in
        read-push told path 0 h.pieces piece h.read (subst (λ o. told.read path o piece) e is);
    bytes = more ∙ ap (λ n. n + length piece) h.bytes ∙ sym (total-push h.pieces piece);
  }

  pub copied_all : (g g' : X) (seen size : ℕ) → HasCopied told gives path g g' size → IsReadOut told path seen size
      → CopiedFile told gives path seen g g' size None
  copied_all g g' seen size h out = record { pieces = h.pieces; gave = h.gave; read = h.read; bytes = h.bytes; ended = out }

  pub copied_part : (g g' : X) (seen size : ℕ) (why : Why) → HasCopied told gives path g g' size → told.lost path why
      → CopiedFile told gives path seen g g' size (Some why)
  copied_part g g' seen size why h lost = record { pieces = h.pieces; gave = h.gave; read = h.read; bytes = h.bytes; ended = lost }
