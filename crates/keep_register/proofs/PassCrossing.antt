-- A pass can be handed to another thread: what it reads is a page, which can be lent to several.
use denote.RattleType.{RattleType}
use denote.Param.Send.{IsSend, IsSync, enum_send, recorded_send, recorded_sync, sendable, struct_send, struct_sync, view_send}
use denote.Struct.Declared as declared
use denote.Enum.Declared as enum_declared
use Rattle.std.proofs.Crossing.{Arc-send, frees, send as heap_send, sync as heap_sync}
use Rattle.crossbeam_utils.specs.declared.rule.Protocol as protocol
use denote.Builtin.{u64, unit}
use denote.Struct.Struct as struct
use Rattle.std.specs.contracts.alloc.Global as heap
use Rattle.std.specs.contracts.impls.GlobalAllocator.TheImpl.{ghosts}
use Rattle.std.specs.contracts.option.Option as option
use Rattle.std.specs.declared.sync.ledger.Ledger as ledger
use Rattle.std.proofs.sync.ledger.Share.TheSendSync as share
use Rattle.logbook.proofs.tokens.Seen.TheSendSync as seen
use Rattle.atomic_table.specs.contracts.owned.Table as table
use Rattle.atomic_table.proofs.shared.Shared.TheSendSync as shared
use Rattle.atomic_table.proofs.shared.Seat.TheSendSync as seat
use Rattle.atomic_table.proofs.send_lease.SendLease.TheSendSync as lease
use Rattle.left_right.specs.contracts.reader.Factory as factory
use Rattle.left_right.specs.contracts.reader.Reader as reader
use Rattle.left_right.specs.contracts.reader.Reading as reading
use Rattle.left_right.specs.contracts.board.Doing as doing
use Rattle.left_right.specs.contracts.board.Sides as sides
use Rattle.left_right.specs.contracts.board.SidesTableRuleOptionPartDoingSnapshotPart.TheImpl as ruled
use Rattle.left_right.specs.contracts.part.Part as part
use Rattle.std.specs.contracts.snapshot.Snapshot as snapshot
use Rattle.left_right.proofs.part.Part.TheSendSync as parts
use Rattle.keep_chronicle.specs.declared.chronicle.Chronicled as chronicled
use Rattle.keep_register.specs.declared.naming.Naming as naming
use Rattle.keep_register.specs.contracts.page.Page as page
use Rattle.keep_register.proofs.Crossing.{page_sync}
use Rattle.keep_register.specs.contracts.pass.Pass as pass
use Rattle.keep_register.specs.contracts.rule.Published as published
use Rattle.keep_register.specs.contracts.rule.PublishedProtocolPageUnit.TheImpl as rules
use Rattle.keep_register.specs.contracts.pass.Pass.TheInside as inside

pub number_send : IsSend u64
number_send = search sendable

pub number_sync : IsSync u64
number_sync = search sendable

-- what a slot of the table has
pub slot_send : (T : RattleType) → IsSync T → IsSend (option.the_row (part.the_row T))
slot_send T y =
    recorded_send _ _ (option.the_type (part.the_row T)).to (option.the_type (part.the_row T)).to_one
    (enum_send (enum_declared.shape (option.the_type (part.the_row T))) (tt, ((parts.the_send T y, tt), tt)))

module _ (S V K P : RattleType) (g : _) (s : IsSend S) where
  table_send : IsSend (table.the_row S V K P heap.the_row g ghosts)
  table_send =
      recorded_send _ _ (table.the_type S V K P heap.the_row g ghosts).to (table.the_type S V K P heap.the_row g ghosts).to_one
      (struct_send (declared.shape (table.the_type S V K P heap.the_row g ghosts))
      (shared.the_send S V K P g s, (number_send, (number_send, (lease.the_send _ _ ghosts heap_send frees, (lease.the_send _ _ ghosts heap_send frees, (heap_send, tt)))))))

  table_sync : IsSync (table.the_row S V K P heap.the_row g ghosts)
  table_sync =
      recorded_sync _ _ (table.the_type S V K P heap.the_row g ghosts).to (table.the_type S V K P heap.the_row g ghosts).to_one
      (struct_sync (declared.shape (table.the_type S V K P heap.the_row g ghosts))
      (shared.the_sync S V K P g s, (number_sync, (number_sync, (lease.the_sync _ _ ghosts heap_send frees, (lease.the_sync _ _ ghosts heap_send frees, (heap_sync, tt)))))))

module _ (T V P : RattleType) (g : protocol.Ghosts P.Denot T.Denot V.Denot) (y : IsSync T) where
  board_send : IsSend (table.the_row (option.the_row (part.the_row T)) (doing.the_row T V) (snapshot.the_row (part.the_row T)) (sides.the_row P) heap.the_row (ruled.ghosts T V P g ruled.no_dict) ghosts)
  board_send = table_send (option.the_row (part.the_row T)) (doing.the_row T V) (snapshot.the_row (part.the_row T)) (sides.the_row P) (ruled.ghosts T V P g ruled.no_dict) (slot_send T y)

  board_sync : IsSync (table.the_row (option.the_row (part.the_row T)) (doing.the_row T V) (snapshot.the_row (part.the_row T)) (sides.the_row P) heap.the_row (ruled.ghosts T V P g ruled.no_dict) ghosts)
  board_sync = table_sync (option.the_row (part.the_row T)) (doing.the_row T V) (snapshot.the_row (part.the_row T)) (sides.the_row P) (ruled.ghosts T V P g ruled.no_dict) (slot_send T y)

  pub factory_send : IsSend (struct.Struct (declared.shape (factory.the_type T V P heap.the_row g ghosts)))
  factory_send =
      struct_send (declared.shape (factory.the_type T V P heap.the_row g ghosts))
      (Arc-send (table.the_row (option.the_row (part.the_row T)) (doing.the_row T V) (snapshot.the_row (part.the_row T)) (sides.the_row P) heap.the_row (ruled.ghosts T V P g ruled.no_dict) ghosts) board_send board_sync, tt)

  reader_send : IsSend (reader.the_row T V P heap.the_row g ghosts)
  reader_send =
      recorded_send _ _ (reader.the_type T V P heap.the_row g ghosts).to (reader.the_type T V P heap.the_row g ghosts).to_one
      (struct_send (declared.shape (reader.the_type T V P heap.the_row g ghosts))
      (factory_send, (seat.the_send (option.the_row (part.the_row T)) (doing.the_row T V) (slot_send T y), (number_send, tt))))

  reading_send : IsSend (reading.the_row T V P heap.the_row g ghosts)
  reading_send =
      recorded_send _ _ (reading.the_type T V P heap.the_row g ghosts).to (reading.the_type T V P heap.the_row g ghosts).to_one
      (struct_send (declared.shape (reading.the_type T V P heap.the_row g ghosts))
      (factory_send, (seat.the_send (option.the_row (part.the_row T)) (doing.the_row T V) (slot_send T y), (number_send, (number_send, (parts.the_send T y, tt))))))

module _ (B : RattleType) (n : naming.Ghosts B.Denot) (c : chronicled.Ghosts B.Denot) (l : ledger.Ghosts B.Denot) where
  rule : protocol.Ghosts (published.the_row B).Denot (page.the_row).Denot unit.Denot
  rule = rules.ghosts B n rules.no_dict c rules.no_dict l rules.no_dict

  inside_send : IsSend (inside.the_row B n c l)
  unfolding rule
  inside_send =
      recorded_send _ _ (inside.the_type B n c l).to (inside.the_type B n c l).to_one
      (struct_send (declared.shape (inside.the_type B n c l)) (
        enum_send (enum_declared.shape (option.the_type (reader.the_row page.the_row unit (published.the_row B) heap.the_row rule ghosts)))
            (tt, ((reader_send page.the_row unit (published.the_row B) rule page_sync, tt), tt)),
        (
          enum_send (enum_declared.shape (option.the_type (reading.the_row page.the_row unit (published.the_row B) heap.the_row rule ghosts)))
              (tt, ((reading_send page.the_row unit (published.the_row B) rule page_sync, tt), tt)),
          (search (seen.the_send, sendable), (number_send, (search (seen.the_send, sendable), (share.the_send B l, tt)))),
        ),
      ))

  pub pass_send : IsSend (pass.the_row B n c l)
  pass_send = view_send (inside.the_row B n c l) _ _ _ _ inside_send
