use Rattle.std.proofs.Common.{◌≡◌, ◌++◌, string_bytes}
use Rattle.std.specs.Str.Chunks.{utf8_chunks_rest}
use Rattle.keep_quoted.specs.Quote.{quoted}
use Rattle.keep_quoted.proofs.quoting.quote.Given as goal

-- what was written, with what the bytes that are left are quoted as, is what all bytes are quoted as
abbrev pub invariant-loop-chunk : goal.invariant-loop-chunk
invariant-loop-chunk l = string_bytes l.text ++ quoted (utf8_chunks_rest l.chunk-iterator) ≡ quoted l.name
