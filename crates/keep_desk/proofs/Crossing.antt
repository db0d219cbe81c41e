-- An operator can be handed to another thread: its pass can, and what it is asked for. So can what lies under a desk's lock.
use denote.RattleType.{RattleType}
use denote.Builtin.{u64, unit}
use denote.Struct.Struct as struct
use denote.Param.Send.{IsSend, IsSync, enum_send, recorded_send, recorded_sync, sendable, shr_sync, struct_send, struct_sync, view_send}
use denote.Ref.{NamedLft, ShrRef}
use denote.Struct.Tuple.{TupleAt, type_at}
use mathlib.Core.List.{List, [], ◌∷◌}
use mir.Syntax.{Sym}
use denote.Enum.Enum as enum
use denote.Struct.Declared as declared
use denote.Enum.Declared as enum_declared
use Rattle.std.proofs.Crossing.{Deque-send, Vec-send, crosses, frees, send as heap_send}
use Rattle.std.specs.contracts.alloc.Global as heap
use Rattle.std.specs.contracts.impls.GlobalAllocator.TheImpl.{ghosts}
use Rattle.std.proofs.sync.ledger.Share.TheSendSync as share
use Rattle.crossbeam_utils.specs.declared.rule.Protocol as protocol
use Rattle.atomic_table.proofs.shared.Seat.TheSendSync as seat
use Rattle.left_right.specs.declared.Absorb as absorb
use Rattle.left_right.specs.contracts.board.Doing as doing
use Rattle.left_right.specs.contracts.desk.Desk as copies
use Rattle.left_right.specs.contracts.part.Part as part
use Rattle.left_right.specs.contracts.writer.Writer as writer
use Rattle.left_right.proofs.part.Deed.TheSendSync as deeds
use Rattle.left_right.proofs.part.Part.TheSendSync as parts
use Rattle.std.specs.contracts.option.Option as option
use Rattle.std.specs.contracts.result.Result as result
use Rattle.std.specs.declared.sync.ledger.Ledger as ledger
use Rattle.keep_chronicle.specs.declared.chronicle.Chronicled as chronicled
use Rattle.keep_journal.specs.contracts.request.Told as told
use Rattle.keep_register.specs.declared.naming.Naming as naming
use Rattle.keep_register.specs.declared.keeper.Keeper as keeper
use Rattle.keep_register.specs.contracts.page.Page as page
use Rattle.keep_register.specs.contracts.page.PageAbsorbStep.TheImpl as absorbing
use Rattle.keep_register.specs.contracts.step.Step as step
use Rattle.keep_register.proofs.register.Register.TheSendSync as registers
use Rattle.keep_register.proofs.step.Step.TheSendSync as steps
use Rattle.keep_register.proofs.Crossing.{page_send, page_sync}
use Rattle.keep_register.proofs.PassCrossing.{factory_send, number_send, pass_send, slot_send}
use Rattle.keep_register.specs.contracts.rule.Published as published
use Rattle.keep_register.specs.contracts.rule.PublishedProtocolPageUnit.TheImpl as rules
use Rattle.keep_crew.specs.contracts.work.Work as work
use Rattle.keep_crew.specs.contracts.answers.NotTold as not_told
use Rattle.keep_desk.specs.contracts.crew.Operator as operator
use Rattle.keep_desk.specs.contracts.locked.Locked as locked
use Rattle.keep_desk.specs.contracts.locked.Locked.TheInside as locked_inside
use Rattle.keep_desk.specs.contracts.press.Press as press
use Rattle.keep_desk.specs.contracts.press.Press.TheInside as press_inside

told_send : IsSend (enum.Enum (enum_declared.shape (option.the_type (result.the_row told.the_row not_told.the_row))))
told_send = search (crosses, sendable) depth 60 fits 20000

work_send : (P : RattleType) → IsSend P → IsSend (enum.Enum (enum_declared.shape (work.the_type P)))
work_send P s =
    enum_send (enum_declared.shape (work.the_type P)) ((s, tt), ((number_send, tt), ((number_send, tt), ((number_send, tt), tt))))

pub operator_send : (B P : RattleType) (n : naming.Ghosts B.Denot) (c : chronicled.Ghosts B.Denot) (l : ledger.Ghosts B.Denot)
    → IsSend P → IsSend (operator.the_row B P n c l)
operator_send B P n c l s =
    recorded_send _ _ (operator.the_type B P n c l).to (operator.the_type B P n c l).to_one
    (struct_send (declared.shape (operator.the_type B P n c l)) (pass_send B n c l, (work_send P s, (told_send, tt))))

module _ (T V P : RattleType) (g : protocol.Ghosts P.Denot T.Denot V.Denot) (s : IsSend T) (y : IsSync T) where
  copies_send : IsSend (struct.Struct (declared.shape (copies.the_type T V P heap.the_row g ghosts)))
  copies_send =
      struct_send (declared.shape (copies.the_type T V P heap.the_row g ghosts)) (
        factory_send T V P g y,
        (
          seat.the_send (option.the_row (part.the_row T)) (doing.the_row T V) (slot_send T y),
          (
            number_send,
            (
              number_send,
              (
                Vec-send u64 number_send,
                (
                  deeds.the_send T heap.the_row ghosts s heap_send frees,
                  (
                    parts.the_send T y,
                    (deeds.the_send T heap.the_row ghosts s heap_send frees, (parts.the_send T y, tt)),
                  ),
                ),
              ),
            ),
          ),
        ),
      )

  writer_send : (O S : RattleType) (a : absorb.Ghosts T.Denot O.Denot S.Denot) → IsSend O
      → IsSend (struct.Struct (declared.shape (writer.the_type T O V P heap.the_row S a g ghosts)))
  writer_send O S a o =
      struct_send (declared.shape (writer.the_type T O V P heap.the_row S a g ghosts))
      (copies_send, (Deque-send O o, (number_send, (number_send, tt))))

module _ (B R : RattleType) (n : naming.Ghosts B.Denot) (c : chronicled.Ghosts B.Denot) (l : ledger.Ghosts B.Denot) (r : IsSend R) where
  press_send : IsSend (press.the_row B R n c l)
  press_send = view_send (press_inside.the_row B R n c l) _ _ _ _
      (recorded_send _ _ (press_inside.the_type B R n c l).to (press_inside.the_type B R n c l).to_one
      (struct_send (declared.shape (press_inside.the_type B R n c l)) (
        writer_send page.the_row unit (published.the_row B) (rules.ghosts B n rules.no_dict c rules.no_dict l rules.no_dict) page_send page_sync
            step.the_row page.the_row absorbing.ghosts steps.the_send,
        (r, tt),
      )))

  pub locked_send : (K : RattleType) (k : keeper.Ghosts K.Denot) → IsSend K → IsSend (locked.the_row B R K n c l k)
  locked_send K k s = view_send (locked_inside.the_row B R K n c l k) _ _ _ _
      (recorded_send _ _ (locked_inside.the_type B R K n c l k).to (locked_inside.the_type B R K n c l k).to_one
      (struct_send (declared.shape (locked_inside.the_type B R K n c l k))
      (search sendable depth 20, (registers.the_send B K n c l k s, (press_send, (share.the_send B l, tt))))))

-- what lends three things to each thread, where these can be lent to several
module _ (ν : Sym) (ℓ ℓ' ℓ'' : NamedLft) (G D W : RattleType) where
  abbrev lent : List RattleType
  lent = ShrRef ℓ.mir ℓ.lft G ∷ ShrRef ℓ'.mir ℓ'.lft D ∷ ShrRef ℓ''.mir ℓ''.lft W ∷ []

  pub lends_sync : IsSync G → IsSync D → IsSync W → IsSync (TupleAt ν (ShrRef ℓ.mir ℓ.lft G ∷ ShrRef ℓ'.mir ℓ'.lft D ∷ ShrRef ℓ''.mir ℓ''.lft W ∷ []))
  lends_sync g d w =
      recorded_sync _ _ (type_at ν lent).to (type_at ν lent).to_one
      (struct_sync (declared.shape (type_at ν lent))
      (shr_sync ℓ.mir ℓ.lft G g, (shr_sync ℓ'.mir ℓ'.lft D d, (shr_sync ℓ''.mir ℓ''.lft W w, tt))))
