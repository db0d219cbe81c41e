use Rattle.std.proofs.Common.{◌≡◌, ◌-◌, ◌∷◌, Some, length, take, drop, sym, ap, ◌∙◌, length-drop}
use lib.Seq.{take-length}
use Rattle.keep_quoted.specs.Unquote.{piece_at}
use Rattle.keep_quoted.proofs.Skipped.{one_more}
use Rattle.keep_quoted.proofs.unquoting.unquote.Goals as goal

pub loop-first-preserved : goal.loop-first-preserved
loop-first-preserved c =
    let more = c.in-Some-piece_at.more in
    let behind = c.in-Some.behind.now in
    let whole : take (length behind - more) (drop more behind) ≡ drop more behind =
    ap (λ k. take k (drop more behind)) (sym (length-drop more behind)) ∙ take-length (drop more behind) in
    let split : c.loop-first.rest.now ≡ c.in-Some.first.now ∷ behind = c.in-Some.ensures.cases.0 in
    let piece : piece_at c.in-Some.first.now behind ≡ Some (c.in-Some-piece_at.meaning, more) = cc in
    rw (c.in_ok-push_meaning.ensures, whole) (one_more c.loop-first.bytes.items c.loop-first.rest.now c.args.text.now c.in-Some.first.now behind (c.in-Some-piece_at.meaning, more) split piece c.loop-first.invariant)
