-- A shelf that has a name can be handed to another thread.
use denote.Param.Send.{IsSend}
use denote.Ref.{NamedLft}
use Rattle.keep_command.proofs.named_shelf.NamedShelf.TheSendSync as shelves
use Rattle.keep_command.specs.contracts.named_shelf.NamedShelf as shelf

-- for however long its folder is lent
pub shelf_send : (a : NamedLft) → IsSend (shelf.the_row a)
shelf_send a = shelves.the_send a
