use Rattle.keep_patterns.proofs.Spelling.{refused, taken}
use Rattle.keep_patterns.proofs.parsing.parse_pattern.Goals as goal

pub returns-then-is_bad : goal.returns-then-is_bad
returns-then-is_bad c = λ _.
    refused c.args.text.now c.in_ok-found.found.items c.as_slice-parts.result.now c.is_bad.result c.as_slice-parts.ensures.value c.in_ok-found.ensures c.is_bad.ensures c.if-is_bad.true

pub returns : goal.returns
returns c =
    taken c.args.text.now c.in_ok-found.found.items c.as_slice-parts.result.now c.in_ok-components.components.items c.is_bad.result c.begins_with-anchored.result c.as_slice-parts.ensures.value c.in_ok-found.ensures c.is_bad.ensures c.if-is_bad.false c.in_ok-components.ensures c.begins_with-anchored.ensures
