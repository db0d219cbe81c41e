use Rattle.std.proofs.Common.{◌≡◌, arith}
use Rattle.std.proofs.lemmas.Result.{IfOk-weaker}
use Rattle.jiff_core.specs.DateTime.{civil_nanos}
use Rattle.jiff_core.proofs.SignedLemmas.{signed_arith}
use Rattle.keep_members.specs.Members.{stamp_view}
use Rattle.keep_members.specs.Stamp.{nanos_of}
use Rattle.keep_members.proofs.time_texts.text_of.Goals as goal

pub returns : goal.returns
returns c =
    let now : civil_nanos c.to_datetime-clock.result ≡ nanos_of (stamp_view c.args.stamp) = omega (arith, signed_arith, c.to_datetime-clock.ensures, c.instant_of-instant.ensures) in
    IfOk-weaker c.format.result _ _ (λ text e. (c.to_datetime-clock.result, now, e)) c.format.ensures.ok
