use Rattle.std.proofs.Common.{ap, sym, ◌∙◌}
use Rattle.std.specs.Ordering.{eq_by_cmp}
use Rattle.keep_names.specs.Orders.{name_cmp}
use Rattle.keep_names.specs.declared.file_name.FileName.{FileName}
use Rattle.keep_change.specs.Filling.{has_name}
use Rattle.keep_change.specs.Lists.{file_names}
use Rattle.keep_change.specs.NamedBytes.{NamedBytes}
use Rattle.keep_upkeep.proofs.EachSo.{any_mapped}
use Rattle.keep_upkeep.proofs.reindexing.has_index.Goals as goal

pub returns : goal.returns
returns c =
    c.has_file.ensures ∙ sym (any_mapped (eq_by_cmp name_cmp c.index.result) (λ (f : NamedBytes). f.name) c.args.files.now)
    ∙ ap (λ (n : FileName). has_name (file_names c.args.files.now) n) c.index.ensures
