-- So many are taken back, published and told.
use Rattle.std.proofs.Common.{◌≡◌, ◌+◌, take}
use mathlib.Core.List.{IsPrefix}
use Rattle.keep_pages.specs.Histories.{IsLegal}
use Rattle.keep_desk.proofs.Cascading.{Going}
use Rattle.keep_desk.proofs.locked.Locked.undo_with.Given as goal

abbrev pub invariant-loop-done : goal.invariant-loop-done
invariant-loop-done g l = record {
  going : Going g.B.Naming.opening l.initial.self.journal (take l.done l.numbers.items) l.self.journal;
  published : l.self.published ≡ l.self.journal;
  seen : l.pass.seen ≡ l.self.journal;
  begins : IsPrefix l.fn.pass.seen l.pass.seen;
  legal : IsLegal g.B.Naming.hooks.vetoes g.B.Naming.opening l.pass.seen;
  counted : l.pass.counted ≡ l.fn.pass.counted + l.done;
}
