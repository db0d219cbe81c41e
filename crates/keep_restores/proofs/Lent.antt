-- What is wanted of one node more.
use Rattle.std.proofs.Common.{◌≡◌, ℕ, ◌<◌, ◌+◌, Bor, List, [], ◌∷◌, ◌++◌, length, map, take, get_or, refl, sym, ap, subst, ◌∙◌}
use Rattle.std.proofs.lemmas.List.{map-append, take_more}
use Rattle.std.specs.List.{AllZip}
use Rattle.keep_nodes.specs.Choosing.{lent_view}
use Rattle.keep_nodes.specs.Entries.{EntryData, entry_view}
use Rattle.keep_nodes.specs.declared.path_node.PathNode.{PathNode}
use Rattle.keep_putting.specs.declared.wanted.Wanted.{Wanted}
use Rattle.keep_restores.specs.Wanted.{IsWantedOf}

-- what is lent
abbrev pub lent : List (Bor PathNode) → List PathNode
lent entries = map (λ (entry : Bor PathNode). entry.now) entries

pub lent_views : (entries : List (Bor PathNode)) → map entry_view (lent entries) ≡ map lent_view entries
lent_views [] = refl
lent_views (entry ∷ entries) = ap (λ (l : List EntryData). entry_view entry.now ∷ l) (lent_views entries)

zip_push : (entries : List PathNode) (wanted : List Wanted) (entry : PathNode) (one : Wanted) → AllZip IsWantedOf entries wanted → IsWantedOf entry one
    → AllZip IsWantedOf (entries ++ entry ∷ []) (wanted ++ one ∷ [])
zip_push [] [] entry one h is = (is, tt)
zip_push [] (w ∷ wanted) entry one h is = absurd h
zip_push (e ∷ entries) [] entry one h is = absurd h
zip_push (e ∷ entries) (w ∷ wanted) entry one h is = (h.0, zip_push entries wanted entry one h.1 is)

pub wanted_more : (entries : List (Bor PathNode)) (k : ℕ) (entry : Bor PathNode) (before after : List Wanted) (one : Wanted) → k < length entries
    → entry ≡ get_or entries k entry → AllZip IsWantedOf (lent (take k entries)) before → IsWantedOf entry.now one
    → after ≡ before ++ one ∷ [] → AllZip IsWantedOf (lent (take (k + 1) entries)) after
wanted_more entries k entry before after one inside here same is more =
    let next : take (k + 1) entries ≡ take k entries ++ entry ∷ [] =
    take_more entries k entry inside ∙ ap (λ (x : Bor PathNode). take k entries ++ x ∷ []) (sym here) in
    let lent_next : lent (take (k + 1) entries) ≡ lent (take k entries) ++ entry.now ∷ [] =
    ap lent next ∙ map-append (λ (e : Bor PathNode). e.now) (take k entries) (entry ∷ []) in
    subst (λ (l : List PathNode). AllZip IsWantedOf l after) (sym lent_next)
    (subst (AllZip IsWantedOf (lent (take k entries) ++ entry.now ∷ [])) (sym more)
    (zip_push (lent (take k entries)) before entry.now one same is))
