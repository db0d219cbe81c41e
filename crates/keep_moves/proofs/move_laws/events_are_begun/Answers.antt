use Rattle.keep_moves.proofs.Begun.{commit_begun, redo_begun, undo_begun}
use Rattle.keep_moves.proofs.Emptied.{empty_begun}
use Rattle.keep_moves.proofs.Played.{events_settled}
use Rattle.keep_moves.proofs.move_laws.events_are_begun.Goals as goal

pub returns : goal.returns
returns c = record {
  commit = commit_begun;
  undo = undo_begun;
  redo = redo_begun;
  empty = empty_begun;
  settled = events_settled;
}
