-- Marks that are put one after another, and the list that a repository has of its marks.
use Rattle.std.proofs.Common.{◌≡◌, List, [], ◌∷◌, ◌++◌, map, Option, Some, None, Less, false, cond, refl, sym, ap, ◌∙◌, append-nil, append_assoc, subst}
use Rattle.std.specs.FinMap as finite
use Rattle.std.specs.List.{AllByRecursion, fold}
use Rattle.std.specs.List.Sorted.{IsStrictlySortedBy}
use Rattle.std.specs.Map.{keys_of}
use Rattle.std.specs.Option.{IfSome, unwrap_or}
use Rattle.std.specs.Ordering.{is_eq, ordering_reverse}
use Rattle.std.proofs.lemmas.Map.Keys.{sorted_head, sorted_tail}
use Rattle.keep_names.proofs.Orders.{id_exact, id_total}
use Rattle.keep_names.specs.Orders.{id_cmp}
use Rattle.keep_names.specs.declared.id.Id.{Id}
use Rattle.keep_repo.proofs.Maps.{entries_made}
use Rattle.keep_repo.specs.declared.facet.Mark as the_mark
use Rattle.keep_change.specs.Lists.{marked_packs}
use Rattle.keep_change.specs.Marks.{pack_mark}
use Rattle.keep_change.specs.Result.{put_marks}
use Rattle.keep_change.specs.declared.change.PackMark.{PackMark}
use Rattle.keep_journal.specs.History.{marks_after, marks_by}
use Rattle.keep_journal.specs.declared.event.Entry.{Entry}
use Rattle.keep_journal.specs.declared.event.EventKind.{EventKind}
use Rattle.keep_journal.specs.declared.event.EventKind.TheVariants.{Commit, Undo, Redo, Empty}
use Rattle.keep_entries.specs.Entry.{IsEntry, IsProper}
use Rattle.keep_reading.specs.Reads.{marks_in}

abbrev Pairs : Type 0
Pairs = List (Id × the_mark.Mark)

-- what a map has of a mark
abbrev pair_of : PackMark → Id × the_mark.Mark
pair_of m = (m.pack, m.mark)

-- ---- marks in order, put one after another

in_the_middle : (P : Id → Type 0) (es : Pairs) (k : Id) (v : the_mark.Mark) (rest : Pairs) → AllByRecursion P (keys_of (es ++ (k, v) ∷ rest)) → P k
in_the_middle P [] k v rest all = all.0
in_the_middle P (e ∷ es) k v rest all = in_the_middle P es k v rest all.1

-- those before it have other packs
absent : (es : Pairs) (k : Id) (v : the_mark.Mark) (rest : Pairs) → IsStrictlySortedBy id_cmp (keys_of (es ++ (k, v) ∷ rest)) → finite.find id_cmp k es ≡ None
absent [] k v rest sorted = refl
absent (e ∷ es) k v rest sorted =
    let less = in_the_middle (λ y. id_cmp e.0 y ≡ Less) es k v rest (sorted_head id_cmp e.0 (keys_of (es ++ (k, v) ∷ rest)) sorted) in
    let other : is_eq (id_cmp k e.0) ≡ false = ap is_eq (id_total.antisymm k e.0 ∙ ap ordering_reverse less) in
    ap (λ b. cond b (Some e.1) (finite.find id_cmp k es)) other
    ∙ absent es k v rest (sorted_tail id_cmp e.0 (keys_of (es ++ (k, v) ∷ rest)) sorted)

put_made : (ms : List PackMark) (es : Pairs) → IsStrictlySortedBy id_cmp (keys_of (es ++ map pair_of ms)) → put_marks ms (finite.from_entries es) ≡ finite.from_entries (es ++ map pair_of ms)
put_made [] es sorted = ap finite.from_entries (sym (append-nil es))
put_made (m ∷ ms) es sorted =
    let parts = append_assoc es ((m.pack, m.mark) ∷ []) (map pair_of ms) in
    let pushed = finite.from_entries_push id_total id_exact es m.pack m.mark (absent es m.pack m.mark (map pair_of ms) sorted) in
    ap (put_marks ms) (sym pushed)
    ∙ put_made ms (es ++ (m.pack, m.mark) ∷ []) (subst (λ (fs : Pairs). IsStrictlySortedBy id_cmp (keys_of fs)) (sym parts) sorted)
    ∙ ap finite.from_entries parts

keys_pairs : (ms : List PackMark) → keys_of (map pair_of ms) ≡ marked_packs ms
keys_pairs [] = refl
keys_pairs (m ∷ ms) = ap (λ ids. m.pack ∷ ids) (keys_pairs ms)

pairs_back : (ms : List PackMark) → map pack_mark (map pair_of ms) ≡ ms
pairs_back [] = refl
pairs_back (m ∷ ms) = ap (λ ns. m ∷ ns) (pairs_back ms)

pub marks_put : (ms : List PackMark) → IsStrictlySortedBy id_cmp (marked_packs ms) → map pack_mark (finite.entries (put_marks ms finite.empty)) ≡ ms
marks_put ms sorted =
    let in_order : IsStrictlySortedBy id_cmp (keys_of (map pair_of ms)) = subst (IsStrictlySortedBy id_cmp) (sym (keys_pairs ms)) sorted in
    ap (λ m. map pack_mark (finite.entries m)) (put_made ms [] in_order)
    ∙ ap (map pack_mark) (entries_made id_total (map pair_of ms) in_order) ∙ pairs_back ms

-- ---- the list tells the marks

marks_back : (es : Pairs) → map pair_of (map pack_mark es) ≡ es
marks_back [] = refl
marks_back (e ∷ es) = ap (λ fs. e ∷ fs) (marks_back es)

pub same_marks : (a b : finite.FinMap id_cmp the_mark.Mark) → map pack_mark (finite.entries a) ≡ map pack_mark (finite.entries b) → a ≡ b
same_marks a b same =
    finite.same_entries_map a b (sym (marks_back (finite.entries a)) ∙ ap (map pair_of) same ∙ marks_back (finite.entries b))

-- ---- the marks of the last emptying are in order

abbrev InOrder : List PackMark → Type 0
InOrder ms = IsStrictlySortedBy id_cmp (marked_packs ms)

in_order_by : (o : Option (List PackMark)) (kind : EventKind) → IsProper kind → IfSome o InOrder → IfSome (marks_by o kind) InOrder
in_order_by o (Commit c) proper h = h
in_order_by o Undo proper h = h
in_order_by o Redo proper h = h
in_order_by o (Empty marks) proper h = proper

in_order_on : (o : Option (List PackMark)) (es : List Entry) → AllByRecursion IsEntry es → IfSome o InOrder → IfSome (fold (λ before e. marks_after before e.event) o es) InOrder
in_order_on o [] each h = h
in_order_on o (e ∷ es) each h = in_order_on (marks_after o e.event) es each.1 (in_order_by o e.event.kind each.0.proper h)

none_in_order : InOrder []
unfolding IsStrictlySortedBy
none_in_order = tt

pub marks_in_order : (es : List Entry) → AllByRecursion IsEntry es → InOrder (marks_in es)
marks_in_order es each = by (fold (λ before e. marks_after before e.event) None es) (in_order_on None es each tt)
  where
    by : (o : Option (List PackMark)) → IfSome o InOrder → InOrder (unwrap_or o [])
    by None h = none_in_order
    by (Some ms) h = h
