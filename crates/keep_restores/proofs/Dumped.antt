-- One piece more is found or written.
use Rattle.std.proofs.Common.{◌≡◌, ℕ, ◌<◌, ◌+◌, ◌-◌, ◌^◌, min, Bor, List, [], ◌∷◌, ◌++◌, Option, None, Some, Result, Ok, Err, length, map, take, drop, get_or, refl, sym, ap, subst, ◌∙◌, append_assoc, append-nil, arith}
use Rattle.std.proofs.KnownBytes.{Appends-trans}
use Rattle.std.proofs.lemmas.Grind.{flat_map-append}
use Rattle.std.proofs.lemmas.List.{drop_more, length-append, take_more}
use Rattle.std.specs.Io.KnownBytes.{Appends}
use Rattle.std.specs.List.{concat, flat_map}
use Rattle.std.specs.Option.{ok_or, unwrap_or}
use Rattle.keep_catalog.specs.declared.reach_error.ReachError.{ReachError}
use Rattle.keep_names.specs.declared.id.Id.{Id}
use Rattle.keep_nodes.specs.Pieces.{piece_due}
use Rattle.keep_read.specs.Contents.{joined, piece_bytes}
use Rattle.keep_repo.specs.Repository.{Repository}
use Rattle.keep_restores.specs.Dumping.{first_lost, lost_first}

-- the bytes of parts, one after another
abbrev pub all_of : List (Bor (List ℕ)) → List ℕ
all_of parts = concat (map (λ (part : Bor (List ℕ)). part.now) parts)

pub all_more : (parts : List (Bor (List ℕ))) (part : Bor (List ℕ)) → all_of (parts ++ part ∷ []) ≡ all_of parts ++ part.now
all_more [] part = append-nil part.now
all_more (p ∷ parts) part = ap (λ (l : List ℕ). p.now ++ l) (all_more parts part) ∙ sym (append_assoc p.now (all_of parts) part.now)

next_of : (parts : List (Bor (List ℕ))) (k : ℕ) (d : Bor (List ℕ)) → k < length parts → all_of (take (k + 1) parts) ≡ all_of (take k parts) ++ (get_or parts k d).now
next_of parts k d inside = ap all_of (take_more parts k d inside) ∙ all_more (take k parts) (get_or parts k d)

pub written_more : (a b c : Option (List ℕ)) (parts : List (Bor (List ℕ))) (k : ℕ) (d : Bor (List ℕ)) → k < length parts
    → Appends a b (all_of (take k parts)) → Appends b c (get_or parts k d).now → Appends a c (all_of (take (k + 1) parts))
written_more a b c parts k d inside before next =
    subst (Appends a c) (sym (next_of parts k d inside)) (Appends-trans a b c (all_of (take k parts)) (get_or parts k d).now before next)

saturated : (a b w : ℕ) → w ≡ min a (2 ^ 64 - 1) → min (w + b) (2 ^ 64 - 1) ≡ min (a + b) (2 ^ 64 - 1)
saturated a b w same = omega arith

pub size_more : (parts : List (Bor (List ℕ))) (k : ℕ) (d : Bor (List ℕ)) (written : ℕ) → k < length parts
    → written ≡ min (length (all_of (take k parts))) (2 ^ 64 - 1)
    → min (written + length (get_or parts k d).now) (2 ^ 64 - 1) ≡ min (length (all_of (take (k + 1) parts))) (2 ^ 64 - 1)
size_more parts k d written inside same =
    saturated (length (all_of (take k parts))) (length (get_or parts k d).now) written same
    ∙ ap (λ n. min n (2 ^ 64 - 1)) (sym (length-append (all_of (take k parts)) (get_or parts k d).now))
    ∙ ap (λ (l : List ℕ). min (length l) (2 ^ 64 - 1)) (sym (next_of parts k d inside))

bytes_had : (o : Option (List ℕ)) (why : ReachError) (bytes : List ℕ) → ok_or o why ≡ Ok bytes → unwrap_or o [] ≡ bytes
bytes_had None why bytes h = cc
bytes_had (Some b) why bytes h = cc

pub none_joined : (r : Repository) → [] ≡ joined r []
unfolding joined
none_joined r = refl

pub joined_more : (r : Repository) (ids : List Id) (k : ℕ) (d : Id) (bytes before : List ℕ) → k < length ids
    → piece_due r (get_or ids k d) ≡ Ok bytes → before ≡ joined r (take k ids) → before ++ bytes ≡ joined r (take (k + 1) ids)
unfolding joined
joined_more r ids k d bytes before inside had same =
    let id = get_or ids k d in
    let here : piece_bytes r id ≡ bytes = bytes_had _ _ bytes had in
    ap (λ (l : List ℕ). l ++ bytes) same
    ∙ ap (λ (b : List ℕ). flat_map (piece_bytes r) (take k ids) ++ b) (sym here ∙ sym (append-nil (piece_bytes r id)))
    ∙ sym (flat_map-append (piece_bytes r) (take k ids) (id ∷ []))
    ∙ ap (flat_map (piece_bytes r)) (sym (take_more ids k d inside))

pub had_more : (r : Repository) (ids : List Id) (k : ℕ) (d : Id) (bytes : List ℕ) (whole : Option ReachError) → k < length ids
    → piece_due r (get_or ids k d) ≡ Ok bytes → first_lost r (drop k ids) ≡ whole → first_lost r (drop (k + 1) ids) ≡ whole
had_more r ids k d bytes whole inside had same =
    let next = first_lost r (drop (k + 1) ids) in
    ap (λ (x : Result (List ℕ) ReachError). lost_first x next) (sym had)
    ∙ ap (first_lost r) (sym (drop_more ids k d inside))
    ∙ same

pub lost_here : (r : Repository) (ids : List Id) (k : ℕ) (d : Id) (why : ReachError) (whole : Option ReachError) → k < length ids
    → piece_due r (get_or ids k d) ≡ Err why → first_lost r (drop k ids) ≡ whole → whole ≡ Some why
lost_here r ids k d why whole inside had same =
    let next = first_lost r (drop (k + 1) ids) in
    sym same
    ∙ ap (first_lost r) (drop_more ids k d inside)
    ∙ ap (λ (x : Result (List ℕ) ReachError). lost_first x next) had
