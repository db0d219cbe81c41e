use Rattle.std.proofs.Common.{refl}
use Rattle.keep_entries.proofs.object_text.strictness.Goals as goal

pub returns-then-is_strict : goal.returns-then-is_strict
returns-then-is_strict c = rw c.if-is_strict.true refl

pub returns-else-is_strict : goal.returns-else-is_strict
returns-else-is_strict c = rw c.if-is_strict.false refl
