use Rattle.keep_patterns.proofs.Decided.{left_decides, left_decides_matched, nothing_left}
use Rattle.keep_patterns.proofs.Few.{few_left}
use Rattle.keep_patterns.proofs.rest_laws.what_is_left_decides.Goals as goal

pub returns-clause-left : goal.returns-clause-left
returns-clause-left c = left_decides

pub returns-clause-matched : goal.returns-clause-matched
returns-clause-matched c = left_decides_matched

pub returns-clause-nothing : goal.returns-clause-nothing
returns-clause-nothing c = nothing_left

pub returns-clause-few : goal.returns-clause-few
returns-clause-few c = few_left
