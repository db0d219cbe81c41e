use Rattle.std.proofs.Common.{rules}
use Rattle.std.proofs.lemmas.Slice.Zip.{zip_turn}
use Rattle.keep_read.proofs.HashedFiles.{id_is}
use Rattle.keep_read.proofs.wrong_names.add_misnamed.Goals as goal

pub is_misnamed-requires : goal.is_misnamed-requires
is_misnamed-requires c =
    let turn = zip_turn c.args.names.now c.args.ids.now c.loop-name.yielded c.into_iter-name-iterator.result c.loop-name.name-iterator c.next.new.self c.next.result
    (search rules) (search rules) c.loop-name.yielded_by (c.in-Some.name, c.in-Some.id) c.in-Some.is c.next.ensures.steps in
    id_is c.args.repo.now c.args.names.now c.args.ids.now _ c.in-Some.name.now c.in-Some.id.now c.requires turn.0 turn.1 (turn.2 _) (turn.3 _)
