use Rattle.std.proofs.Common.{◌≡◌, map, take, string_bytes}
use Rattle.keep_rows.proofs.cell_values.texts_of.Given as goal

abbrev pub invariant-loop-text : goal.invariant-loop-text
invariant-loop-text l = map string_bytes l.made.items ≡ map (λ text. text.now) (take l.text-index l.texts)
