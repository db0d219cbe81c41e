use Rattle.std.proofs.Common.{◌≡◌, sym, ap, ◌∙◌}
use Rattle.std.proofs.lemmas.Iterator.Adapters.{YieldsList-from_vec}
use Rattle.std.proofs.lemmas.Iterator.Consumers.{YieldsList-end}
use Rattle.std.specs.FinMap.{find}
use Rattle.keep_names.specs.Orders.{name_cmp}
use Rattle.keep_plan.specs.Storing.{absent_of}
use Rattle.keep_plan.proofs.Outcomes.{if_ok}
use Rattle.keep_plan.proofs.StoredFiles.{absent_more, absent_are, same_items, there_more}
use Rattle.keep_plan.proofs.built_files.split_files.Goals as goal

pub loop-file-preserved : goal.loop-file-preserved
loop-file-preserved c = record {
  adds = λ name. absent_more c.args.repo.now _ _ c.loop-file.yielded c.in-Some.file name (c.loop-file.invariant.adds name) (c.in_ok-split_file.ensures.adds name);
  present = λ name. there_more c.args.repo.now _ _ _ c.loop-file.yielded c.in-Some.file name (c.loop-file.invariant.present name) (c.in_ok-split_file.ensures.present name);
}

pub returns-clause-adds : goal.returns-clause-adds
returns-clause-adds c =
    let given = c.into_iter-file-iterator.ensures.into_iter_gives in
    let seen = YieldsList-end (YieldsList-from_vec {s = c.into_iter-file-iterator.result} c.args.files.items given.0 (given.1 ∙ c.args.files.ok.0)) c.loop-file.yielded c.loop-file.file-iterator c.loop-file.yielded_by c.next.result c.next.new.self c.in-None.is c.next.ensures.steps in
    let all : c.loop-file.yielded ≡ c.args.files.items = sym (same_items c.loop-file.yielded) ∙ seen.0 in
    if_ok _ _ c.files_in.result
    (λ listed is. is ∙ absent_are c.args.repo.now c.args.files.items c.loop-file.adds c.files_in.ensures.ordered
    (λ name. c.loop-file.invariant.adds name ∙ ap (λ files. find name_cmp name (absent_of c.args.repo.now files)) all))
    c.files_in.ensures.files
