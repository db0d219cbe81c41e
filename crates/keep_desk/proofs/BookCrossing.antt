-- A book can be handed to another thread where its shelf can, and what its vetoes and watches ask.
use denote.RattleType.{RattleType}
use denote.Builtin.{u64}
use mir.Syntax.{Dict, Slots}
use denote.Param.Object.{Ghosts, Vt, ghosts_of}
use denote.Param.Send.{IsSend, recorded_send, sendable, struct_send, view_send}
use denote.Param.Sent.{Sends, code_send}
use denote.Param.Table.{Lawful, Table}
use denote.Struct.Declared as declared
use denote.Struct.Struct as struct
use Rattle.std.proofs.Crossing.{Vec-send, crosses, dyn_box_send}
use Rattle.std.specs.contracts.alloc.Global as heap
use Rattle.std.specs.contracts.dyn_box.DynBox as boxed
use Rattle.std.specs.contracts.impls.GlobalAllocator.TheImpl.{ghosts}
use Rattle.keep_catalog.proofs.Crossing.{live_send}
use Rattle.keep_journal.proofs.history.History.TheSendSync as history
use Rattle.keep_touch.specs.contracts.touch.Touch as touch
use Rattle.keep_moves.proofs.moves.Move.TheSendSync as moves
use Rattle.keep_moves.specs.contracts.moves.Move as move
use Rattle.keep_hooks.specs.contracts.veto.Veto as veto
use Rattle.keep_hooks.specs.contracts.watch.Watch as watch
use Rattle.keep_hooks.specs.contracts.armed_watch.ArmedWatch as armed
use Rattle.keep_shelf.specs.declared.shelf.Shelf as shelf
use Rattle.keep_ledger.specs.contracts.ledger.Ledger as ledger
use Rattle.keep_ledger.specs.contracts.ledger.Ledger.TheInside as inside
use Rattle.keep_book.specs.contracts.hooks.Hooks as hooks
use Rattle.keep_book.specs.contracts.book.Book as book

number_send : IsSend u64
number_send = search sendable

heap_send : IsSend (heap.the_field).row
heap_send = search sendable

touch_send : IsSend (touch.the_field).row
touch_send = search (crosses, sendable) depth 60 fits 20000

-- a ledger can where its shelf can
ledger_send : (S : RattleType) (h : shelf.Ghosts S.Denot) → IsSend S → IsSend (ledger.the_row S h)
ledger_send S h s =
    view_send (inside.the_row S h) _ _ _ _
    (recorded_send _ _ (inside.the_type S h).to (inside.the_type S h).to_one
    (struct_send (declared.shape (inside.the_type S h))
    (heap_send, (live_send, (history.the_send, (touch_send, (Vec-send move.the_row moves.the_send, (number_send, (s, tt)))))))))

-- a veto can where what it asks can
veto_send : (D : RattleType) (g : Ghosts D.Denot) (f : _) → IsSend (boxed.the_row D heap.the_row g ghosts) → IsSend (veto.the_row D g f)
veto_send D g f d =
    recorded_send _ _ (veto.the_type D g f).to (veto.the_type D g f).to_one
    (struct_send (declared.shape (veto.the_type D g f)) (search (crosses, sendable) depth 60, (search (crosses, sendable) depth 60, (d, tt))))

-- so can a watch, armed or not
watch_send : (E : RattleType) (i : Ghosts E.Denot) (j : _) → IsSend (boxed.the_row E heap.the_row i ghosts)
    → IsSend (struct.Struct (declared.shape (watch.the_type E i j)))
watch_send E i j e = struct_send (declared.shape (watch.the_type E i j)) (search (crosses, sendable) depth 60, (search (crosses, sendable) depth 60, (e, tt)))

armed_send : (E : RattleType) (i : Ghosts E.Denot) (j : _) → IsSend (boxed.the_row E heap.the_row i ghosts) → IsSend (armed.the_row E i j)
armed_send E i j e =
    recorded_send _ _ (armed.the_type E i j).to (armed.the_type E i j).to_one
    (struct_send (declared.shape (armed.the_type E i j)) (watch_send E i j e, (number_send, (number_send, tt))))

-- a box of what is asked can where all that it may hold can
asks_send : {G : Type 0 → Type 1} (slots : Dict → Slots) (T : Table G Dict) (L : Lawful T) → Sends T
    → IsSend (boxed.the_row (Vt slots T) heap.the_row (ghosts_of slots T L) ghosts)
asks_send slots T L t = dyn_box_send (Vt slots T) (ghosts_of slots T L) t (code_send T.I T.coded _)

module _ (S : RattleType) (h : shelf.Ghosts S.Denot) {G K : Type 0 → Type 1} (a b : Dict → Slots)
    (T : Table G Dict) (L : Lawful T) (U : Table K Dict) (N : Lawful U) (f : _) (j : _) (s : IsSend S) (t : Sends T) (u : Sends U) where
  hooks_send : IsSend (struct.Struct (declared.shape (hooks.the_type (Vt a T) (Vt b U) (ghosts_of a T L) (ghosts_of b U N) f j)))
  hooks_send =
      struct_send (declared.shape (hooks.the_type (Vt a T) (Vt b U) (ghosts_of a T L) (ghosts_of b U N) f j)) (
        Vec-send (veto.the_row (Vt a T) (ghosts_of a T L) f) (veto_send (Vt a T) (ghosts_of a T L) f (asks_send a T L t)),
        (Vec-send (armed.the_row (Vt b U) (ghosts_of b U N) j) (armed_send (Vt b U) (ghosts_of b U N) j (asks_send b U N u)), tt),
      )

  pub book_send : IsSend (book.the_row S (Vt a T) (Vt b U) h (ghosts_of a T L) (ghosts_of b U N) f j)
  book_send =
      recorded_send _ _ (book.the_type S (Vt a T) (Vt b U) h (ghosts_of a T L) (ghosts_of b U N) f j).to
      (book.the_type S (Vt a T) (Vt b U) h (ghosts_of a T L) (ghosts_of b U N) f j).to_one
      (struct_send (declared.shape (book.the_type S (Vt a T) (Vt b U) h (ghosts_of a T L) (ghosts_of b U N) f j))
      (heap_send, (ledger_send S h s, (hooks_send, tt))))
