use Rattle.std.proofs.Common.{◌≡◌, ◌↔◌, pos, ◌-ℤ◌, FitsSigned, IsOk, to_z, of_z, w8, w32, sym, ap, ap₂, ◌∙◌, arith, rules, true}
use mir.Syntax.{w16, w128}
use lib.IntN.{nat_abs}
use Rattle.jiff_core.specs.Date.{epoch_day}
use Rattle.jiff_core.specs.Timestamp.{IsTimestampNanos}
use Rattle.jiff_core.proofs.SignedLemmas.{signed_arith}
use Rattle.std.proofs.lemmas.Int.{to_z-of_z}
use Rattle.keep_snap.specs.Time.{is_timestamp, written, day_of, monday_of}
use Rattle.keep_snap.proofs.Times.{time_made, timestamp_found}
use Rattle.keep_snap.proofs.time.time_at.Goals as goal

pub returns : goal.returns
returns c =
    let i : FitsSigned w128 c.args.instant = c.ranges.instant in
    let succeeds : IsOk c.from_nanosecond.result ↔ IsTimestampNanos c.args.instant = simp to_z-of_z at c.from_nanosecond.ensures.succeeds in
    let held : is_timestamp c.args.instant ≡ true = timestamp_found c.args.instant c.from_nanosecond.result c.in_ok-ok.field-0 succeeds (sym c.ok.ensures.value ∙ c.in_ok-ok.was) in
    let day : c.to_unix_epoch_day-day.result ≡ day_of (written c.args.date) = c.to_unix_epoch_day-day.ensures.value ∙ ap epoch_day c.to_plain.ensures in
    let day_fits : FitsSigned w32 c.to_unix_epoch_day-day.result = omega (arith, signed_arith) in
    let week_fits : FitsSigned w32 c.monday_of.result = search rules in
    let week : c.monday_of.result ≡ monday_of (day_of (written c.args.date)) =
    c.monday_of.ensures ∙ simp to_z-of_z (ap₂ (λ x y. x -ℤ pos y) day c.weekday.ensures) in
    let year_one : to_z w16 (of_z w16 c.year.result) ≡ c.args.date.year = omega (arith, signed_arith) in
    let month : to_z w8 (of_z w8 c.month.result) ≡ pos c.args.date.month = omega (arith, signed_arith) in
    let year_two : to_z w16 (of_z w16 c.year-2.result) ≡ c.args.date.year = omega (arith, signed_arith) in
    time_made (written c.args.date) c.args.instant _ _ _ _ _ _ held (to_z-of_z w128 c.args.instant i) (to_z-of_z w32 _ day_fits ∙ day) (to_z-of_z w32 _ week_fits ∙ week) year_one (ap nat_abs month) year_two
