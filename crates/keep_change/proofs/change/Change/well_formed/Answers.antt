-- The four tests, one after another.
use Rattle.std.proofs.Common.{sym, ◌∙◌}
use Rattle.keep_change.proofs.change.Change.well_formed.Goals as goal
use Rattle.keep_change.proofs.change.Change.well_formed.Goals.{then-lists_in_order, else-lists_in_order, then-has_no_facet_twice, else-has_no_facet_twice}

pub returns-then-are_named_by_bytes : goal.returns-then-are_named_by_bytes
returns-then-are_named_by_bytes c = (
  λ writes. elim c.if-has_no_facet_twice.branch [
    | then-has_no_facet_twice w ↦ elim c.if-lists_in_order.branch [
      | then-lists_in_order v ↦ record {
        in_order = c.lists_in_order.ensures.0 v.if-lists_in_order.true;
        once = v.has_no_facet_twice.ensures.0 (sym v.value-is ∙ w.if-has_no_facet_twice.true);
        named = rw w.as_slice.ensures at (w.are_named_by_bytes.ensures.0 (sym w.value-is ∙ c.if-are_named_by_bytes.true));
        writes = c.writes_something.ensures.0 writes;
      }
      | else-lists_in_order v ↦ absurd (cc (sym v.value-is ∙ w.if-has_no_facet_twice.true, v.if-lists_in_order.false))
    ]
    | else-has_no_facet_twice w ↦ absurd (cc (w.value-is, w.if-has_no_facet_twice.false, c.if-are_named_by_bytes.true))
  ],
  λ w. c.writes_something.ensures.1 w.writes,
)
