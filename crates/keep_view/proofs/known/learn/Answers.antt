-- A snapshot's name is put among those that are known.
use Rattle.std.proofs.Common.{◌≡◌, rules, sym, ◌∙◌}
use denote.Enum.Bare.{same_true}
use Rattle.keep_names.specs.contracts.file_name.Kind.{the_type}
use Rattle.keep_names.specs.declared.file_name.Kind.TheVariants.{Snapshot}
use Rattle.keep_view.proofs.Knowing.{snapshot_learnt}
use Rattle.keep_view.proofs.known.learn.Goals as goal

pub returns-in_ok-insert : goal.returns-in_ok-insert
returns-in_ok-insert c id =
    let is_snapshot : c.args.name.kind ≡ Snapshot = same_true the_type (search rules) _ _ (sym c.eq.ensures ∙ c.if-eq.true) in
    snapshot_learnt c.args.name _ _ id is_snapshot (c.in_ok-insert.ensures.updates.0 id)
