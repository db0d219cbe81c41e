-- The lists are counted one by one.
use Rattle.std.proofs.Common.{sym}
use Rattle.keep_repo.specs.Facet.{facet_eq}
use Rattle.keep_change.proofs.Once.{count_by-facets}
use Rattle.keep_change.proofs.change.Change.times.Goals as goal

pub returns : goal.returns
returns c =
    simp (
      c.times_in-adds.ensures.times,
      c.times_in-drops.ensures.times,
      c.times_in-sets.ensures.times,
      c.times_in-clears.ensures.times,
      c.times_in-present.ensures.times,
      c.times_in-absent.ensures.times,
      c.times_in-marked.ensures.times,
      c.times_in-unmarked.ensures.times,
      c.as_slice.ensures,
      c.as_slice-2.ensures,
      c.as_slice-3.ensures,
      c.as_slice-4.ensures,
      c.as_slice-5.ensures,
      c.as_slice-6.ensures,
      c.as_slice-7.ensures,
      c.as_slice-8.ensures,
    )
    (sym (count_by-facets (facet_eq c.args.facet) c.args.self.now))
