-- The line so far has no line end, and it and what is left are what was left at first.
use Rattle.std.proofs.Common.{◌≡◌, ◌+◌, ◌<◌, ◌≤◌, [], vec_len}
use Rattle.std.specs.Io.KnownBytes.{Consumes, Keeps}
use Rattle.keep_script.specs.Input.{ahead_of, left_of, unread_of}
use Rattle.keep_lines.specs.Line.{longest_line}
use Rattle.keep_script.specs.Line.{HasLineEnd}
use Rattle.keep_script.proofs.input.Input.next_line.Given as goal

abbrev pub invariant-loop-turn : goal.invariant-loop-turn
invariant-loop-turn g l = record {
  taken : Consumes (left_of l.initial.self (g.R.Read.remaining l.initial.reader)) (left_of l.self (g.R.Read.remaining l.reader)) l.line.items;
  none : HasLineEnd l.line.items → ⊥;
  short : vec_len l.line ≤ longest_line;
  spent : ahead_of l.self + vec_len l.line ≡ ahead_of l.initial.self;
  grown : l._turn ≤ vec_len l.line;
  used : 0 < l._turn → unread_of l.self ≡ [];
  quiet : Keeps (g.W.Write.contents l.initial.writer) (g.W.Write.contents l.writer);
}
