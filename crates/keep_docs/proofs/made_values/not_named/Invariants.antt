use Rattle.std.proofs.Common.{◌≡◌, List, ◌++◌, map}
use Rattle.serde_json.specs.View.{members_view}
use Rattle.serde_json.proofs.Views.{Entry}
use Rattle.keep_docs.specs.Fields.{others}
use Rattle.keep_docs.proofs.made_values.not_named.Given as goal

abbrev pub invariant-loop-key : goal.invariant-loop-key
invariant-loop-key l =
    (done : List Entry) × (l.members.entries ≡ done ++ l.key-iterator)
    × (members_view l.found.entries ≡ others (map (λ name. name.now) l.named) (members_view done))
