use Rattle.std.proofs.Common.{◌≡◌, drop, map, string_bytes}
use Rattle.std.specs.List.{list_any}
use Rattle.std.specs.Str.{bytes_eq}
use Rattle.keep_looks.proofs.chosen_snapshots.has_text.Given as goal

abbrev pub invariant-loop-given : goal.invariant-loop-given
invariant-loop-given l =
    list_any (λ given. bytes_eq given l.text) (map string_bytes (drop l.given-index l.texts))
    ≡ list_any (λ given. bytes_eq given l.text) (map string_bytes l.texts)
