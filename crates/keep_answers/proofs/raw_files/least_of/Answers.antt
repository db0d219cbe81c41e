use Rattle.std.proofs.Common.{rules, tests}
use Rattle.std.proofs.lemmas.Iterator.{YieldsList-from_slice}
use Rattle.std.proofs.lemmas.Iterator.Consumers.{YieldsList-at, YieldsList-from_copied, YieldsList-from_filter, reduce_from_yields_List}
use Rattle.keep_names.specs.contracts.file_name.KindPartialEq.TheImpl as the_kind_eq
use Rattle.keep_names.specs.declared.file_name.FileName.{FileName}
use Rattle.keep_answers.specs.Files.{lesser}
use Rattle.keep_answers.proofs.raw_files.least_of.Goals as goal

pub returns : goal.returns
returns c = reduce_from_yields_List lesser _ c.min.result c.min.ensures.ran (
    YieldsList-from_filter _ (λ (name : FileName). (the_kind_eq.ghosts).eq name.kind c.args.kind)
    (YieldsList-at c.filter.ensures.source (YieldsList-from_copied (YieldsList-from_slice c.args.names.now cc)))
    c.filter.ensures.closure (λ x b q k. search (rules, tests)))
