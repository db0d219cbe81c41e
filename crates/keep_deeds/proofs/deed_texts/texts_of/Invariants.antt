use Rattle.std.proofs.Common.{◌≡◌, ◌++◌, drop, map, string_bytes}
use Rattle.keep_deeds.proofs.deed_texts.texts_of.Given as goal

-- those that are copied, with the rest, are all
abbrev pub invariant-loop-word : goal.invariant-loop-word
invariant-loop-word l =
    map string_bytes l.texts.items ++ map (λ word. word.now) (drop l.word-index l.words) ≡ map (λ word. word.now) l.words
