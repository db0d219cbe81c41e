-- So many are taken back to the end.
use Rattle.std.proofs.Common.{◌≡◌, take}
use Rattle.keep_book.specs.Armed.{HasSums, hooks_of, on_shelf}
use Rattle.keep_book.proofs.Cascading.{Going}
use Rattle.keep_book.proofs.book.Book.undo_with.Given as goal

abbrev pub invariant-loop-done : goal.invariant-loop-done
invariant-loop-done g l = record {
  going : Going (on_shelf l.fn.self) l.fn.n (take l.done l.numbers.items) (on_shelf l.self);
  hooks : hooks_of l.self ≡ hooks_of l.fn.self;
  sums : HasSums l.self;
}
