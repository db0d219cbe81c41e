use Rattle.std.proofs.Common.{◌≡◌, FitsSigned, w32, Ok, ok_or, map, string_bytes, sym, ap, ◌∙◌, rules}
use mir.Syntax.{w16, w128}
use Rattle.std.proofs.lemmas.Int.{to_z-of_z}
use Rattle.keep_snap.specs.Snap.{snap_view}
use Rattle.keep_snap.specs.Time.{time_in}
use Rattle.keep_snap.specs.declared.snap.SnapError.TheVariants.{BadTime}
use Rattle.keep_snap.proofs.Told.{facts_told}
use Rattle.keep_snap.proofs.fact.facts.Goals as goal

pub returns : goal.returns
returns c =
    let instant : FitsSigned w128 c.in_ok-time.time.instant = search rules in
    let day : FitsSigned w32 c.in_ok-time.time.day = search rules in
    let week : FitsSigned w32 c.in_ok-time.time.week = search rules in
    let year : FitsSigned w16 c.in_ok-time.time.year = search rules in
    let timed : ok_or (time_in (string_bytes c.args.snap.now.time)) BadTime ≡ Ok c.in_ok-time.time =
    ap (λ text. ok_or (time_in text) BadTime) (sym c.as_str.ensures.value) ∙ ap (λ found. ok_or found BadTime) (sym c.parse_time.ensures) ∙ sym c.in_ok-time.ensures.value in
    simp to_z-of_z
    (facts_told c.args.name (snap_view c.args.snap.now) c.in_ok-time.time _ _ _ _ timed c.in_ok-host.ensures c.in_ok-user.ensures
    (c.in_ok-paths.ensures ∙ ap (map string_bytes) c.deref.ensures.value) (c.in_ok-tags.ensures ∙ ap (map string_bytes) c.deref-2.ensures.value))
