use Rattle.std.proofs.Common.{◌≡◌, ◌++◌, drop, string_bytes}
use Rattle.keep_damage.specs.Report.{findings_text}
use Rattle.keep_damage.proofs.damage_report.report.Given as goal

-- what is said so far, and what the findings that are left say
abbrev pub invariant-loop-finding : goal.invariant-loop-finding
invariant-loop-finding l = string_bytes l.text ++ findings_text (drop l.finding-index l.findings) ≡ findings_text l.findings
