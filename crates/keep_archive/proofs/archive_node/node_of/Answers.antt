use Rattle.std.proofs.Common.{string_bytes}
use Rattle.std.proofs.Math.Logic.{∥∥₁_map}
use Rattle.std.proofs.lemmas.Str.{IsUtf8-string_bytes}
use Rattle.keep_tree.specs.Tree.{kind_view}
use Rattle.keep_archive.proofs.archive_node.node_of.Goals as goal

pub returns-clause-stands : goal.returns-clause-stands
returns-clause-stands c =
    ∥∥₁_map c.args.others.stands (λ can. can (string_bytes c.args.name) (kind_view c.args.kind) c.requires.named (IsUtf8-string_bytes c.args.name) c.requires.kind)
