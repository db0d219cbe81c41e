-- Bytes of a file that are cut as they come.
use Rattle.std.proofs.Common.{◌≡◌, ◌<◌, ◌≤◌, ℕ, false, List, [], ◌∷◌, ◌++◌, length, map, refl, sym, ap, subst, ◌∙◌, append_assoc, append-nil, arith}
use Rattle.std.proofs.lemmas.Bool.Decides.{nat_tests}
use Rattle.std.proofs.lemmas.List.{map-append}
use Rattle.std.specs.List.{AllByRecursion, flat_map}
use Rattle.std.specs.Global.{Vec}
use Rattle.keep_build.specs.Blobs.{id_of, is_full}
use Rattle.keep_archive.specs.Archive.{BegunData, BlobsData}
use Rattle.keep_archive.specs.Cutting.{CutsOn, pieces_in}
use Rattle.keep_archive.specs.Steps.{IsCut, Writes, holding, piece}
use Rattle.keep_archive.specs.declared.cut_bytes.CutBytes.{CutBytes}

abbrev pub joined : List (List ℕ) → List ℕ
joined pieces = flat_map (λ (p : List ℕ). p) pieces

joined-append : (ps qs : List (List ℕ)) → joined (ps ++ qs) ≡ joined ps ++ joined qs
joined-append [] qs = refl
joined-append (p ∷ ps) qs = ap (λ (bytes : List ℕ). p ++ bytes) (joined-append ps qs) ∙ sym (append_assoc p (joined ps) (joined qs))

both_each : (P : List ℕ → Type 0) (ps qs : List (List ℕ)) → AllByRecursion P ps → AllByRecursion P qs → AllByRecursion P (ps ++ qs)
both_each P [] qs h g = g
both_each P (p ∷ ps) qs h g = (h.0, both_each P ps qs h.1 g)

-- nothing is written
pub none_written : (begun : BegunData) (blobs : BlobsData) → length begun.rest < begun.cut → Writes [] begun begun blobs blobs
none_written begun blobs short = record {
  pieces = [];
  cut_so = record { whole = append-nil begun.rest; each = tt; short = short };
  cut = refl;
  content = sym (append-nil begun.content);
  holds = ap (λ held. record { named = blobs.named; held = held }) (sym (append-nil blobs.held));
}

-- the bytes wait for more
pub kept_rest : (cut : ℕ) (before bytes : List ℕ) (ps : List (List ℕ)) (rest made : List ℕ) → IsCut cut before ps rest → made ≡ rest ++ bytes → length made < cut
    → IsCut cut (before ++ bytes) ps made
kept_rest cut before bytes ps rest made so is short = record {
  whole =
      ap (λ (x : List ℕ). x ++ bytes) so.whole ∙ append_assoc (joined ps) rest bytes
      ∙ ap (λ (x : List ℕ). joined ps ++ x) (sym is);
  each = so.each;
  short = short;
}

-- a piece is whole
pub one_piece : (cut : ℕ) (before bytes : List ℕ) (ps : List (List ℕ)) (rest made left : List ℕ) → IsCut cut before ps rest → made ≡ rest ++ bytes → length made ≡ cut → 0 < cut
    → left ≡ [] → IsCut cut (before ++ bytes) (ps ++ made ∷ []) left
one_piece cut before bytes ps rest made left so is whole some none = record {
  whole =
      ap (λ (x : List ℕ). x ++ bytes) so.whole ∙ append_assoc (joined ps) rest bytes
      ∙ ap (λ (x : List ℕ). joined ps ++ x) (sym is ∙ sym (append-nil made))
      ∙ sym (joined-append ps (made ∷ []))
      ∙ sym (append-nil (joined (ps ++ made ∷ [])))
      ∙ ap (λ (x : List ℕ). joined (ps ++ made ∷ []) ++ x) (sym none);
  each = both_each (λ (x : List ℕ). length x ≡ cut) ps (made ∷ []) so.each (whole, tt);
  short = subst (λ (x : List ℕ). length x < cut) (sym none) some;
}

-- nothing is cut on
pub none_cut : (cut : CutBytes) → CutsOn [] cut cut
none_cut cut = record {
  cut = refl;
  cut_so = λ before so.
      subst (λ (x : List ℕ). IsCut cut.cut.bytes x (pieces_in cut.whole.items) cut.rest.items) (sym (append-nil before)) so;
}

-- to cut in turn is to cut at once
pub both_cut : (xs ys : List ℕ) (a b c : CutBytes) → CutsOn xs a b → CutsOn ys b c → CutsOn (xs ++ ys) a c
both_cut xs ys a b c first second = record {
  cut = second.cut ∙ first.cut;
  cut_so = λ before so.
      subst (λ (x : List ℕ). IsCut a.cut.bytes x (pieces_in c.whole.items) c.rest.items) (append_assoc before xs ys)
      (subst (λ (n : ℕ). IsCut n ((before ++ xs) ++ ys) (pieces_in c.whole.items) c.rest.items) first.cut
      (second.cut_so (before ++ xs)
      (subst (λ (n : ℕ). IsCut n (before ++ xs) (pieces_in b.whole.items) b.rest.items) (sym first.cut) (first.cut_so before so))));
}

-- what a file had left is cut on
pub cut_behind : (cut : ℕ) (bytes rest : List ℕ) (start made : CutBytes) → start.cut.bytes ≡ cut → start.whole.items ≡ [] → start.rest.items ≡ rest → length rest < cut
    → CutsOn bytes start made → IsCut cut (rest ++ bytes) (pieces_in made.whole.items) made.rest.items
cut_behind cut bytes rest start made same none left short on =
    subst (λ (n : ℕ). IsCut n (rest ++ bytes) (pieces_in made.whole.items) made.rest.items) same
    (on.cut_so rest (record {
      whole = sym left ∙ ap (λ (pieces : List (Vec ℕ)). joined (pieces_in pieces) ++ start.rest.items) (sym none);
      each = subst (λ (pieces : List (Vec ℕ)). AllByRecursion (λ (x : List ℕ). length x ≡ start.cut.bytes) (pieces_in pieces)) (sym none) tt;
      short = subst (λ (x : List ℕ). length x < start.cut.bytes) (sym left) (subst (λ (n : ℕ). length rest < n) (sym same) short);
    }))

-- pieces of a file are no blobs that are too long
pub none_full : (cut : ℕ) (pieces : List (Vec ℕ)) → cut ≤ 8388608 → AllByRecursion (λ (x : List ℕ). length x ≡ cut) (pieces_in pieces)
    → AllByRecursion (λ (x : Vec ℕ). is_full (piece x.items) ≡ false) pieces
none_full cut [] most each = tt
none_full cut (p ∷ ps) most each = (grind (arith, nat_tests, each.0, most), none_full cut ps most each.1)

-- two writes are one
pub both_written : (xs ys : List ℕ) (a b c : BegunData) (p q s : BlobsData) → Writes xs a b p q → Writes ys b c q s → Writes (xs ++ ys) a c p s
both_written xs ys a b c p q s first second = record {
  pieces = first.pieces ++ second.pieces;
  cut_so = record {
    whole =
        sym (append_assoc a.rest xs ys)
        ∙ ap (λ (bytes : List ℕ). bytes ++ ys) first.cut_so.whole
        ∙ append_assoc (joined first.pieces) b.rest ys
        ∙ ap (λ (bytes : List ℕ). joined first.pieces ++ bytes) second.cut_so.whole
        ∙ sym (append_assoc (joined first.pieces) (joined second.pieces) c.rest)
        ∙ ap (λ (bytes : List ℕ). bytes ++ c.rest) (sym (joined-append first.pieces second.pieces));
    each = both_each (λ (x : List ℕ). length x ≡ a.cut) first.pieces second.pieces first.cut_so.each
        (subst (λ (n : ℕ). AllByRecursion (λ (x : List ℕ). length x ≡ n) second.pieces) first.cut second.cut_so.each);
    short = subst (λ (n : ℕ). length c.rest < n) first.cut second.cut_so.short;
  };
  cut = second.cut ∙ first.cut;
  content =
      second.content ∙ ap (λ ids. ids ++ map id_of (map piece second.pieces)) first.content
      ∙ append_assoc a.content (map id_of (map piece first.pieces)) (map id_of (map piece second.pieces))
      ∙ ap (λ ids. a.content ++ ids)
      (sym (map-append id_of (map piece first.pieces) (map piece second.pieces))
      ∙ ap (map id_of) (sym (map-append piece first.pieces second.pieces)));
  holds =
      second.holds ∙ ap (λ blobs. holding (map piece second.pieces) blobs) first.holds
      ∙ ap (λ held. record { named = p.named; held = held })
      (append_assoc p.held (map piece first.pieces) (map piece second.pieces)
      ∙ ap (λ held. p.held ++ held) (sym (map-append piece first.pieces second.pieces)));
}
