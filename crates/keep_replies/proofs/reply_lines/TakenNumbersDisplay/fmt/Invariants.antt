use Rattle.std.proofs.Common.{take}
use Rattle.std.specs.Fmt.{HasWritten, IsPlainFormatter}
use Rattle.keep_replies.specs.Reply.{taken_text}
use Rattle.keep_replies.proofs.reply_lines.TakenNumbersDisplay.fmt.Given as goal

abbrev pub invariant-loop-number : goal.invariant-loop-number
invariant-loop-number g l =
    IsPlainFormatter l.fn.f → HasWritten g.W.Write.write_str_gives l.fn.f (taken_text (take l.number-index l.self.0.now)) l.f
