-- Why a file isn't whole, as it is told.
use Rattle.keep_putting.specs.declared.hurt.Hurt.{Hurt}
use Rattle.keep_putting.specs.declared.hurt.Hurt.TheVariants as hurt
use Rattle.keep_putting.specs.declared.left_out.Why.{Why}
use Rattle.keep_putting.specs.declared.left_out.Why.TheVariants as why

abbrev pub why_of : Hurt → Why
why_of (hurt.NotMade refusal) = why.NotMade refusal
why_of (hurt.Cut written refusal) = why.Cut written refusal
why_of (hurt.Lost written) = why.Lost written
