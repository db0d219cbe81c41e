use Rattle.keep_names.proofs.Digests.{digests_are_ids_lem}
use Rattle.keep_names.proofs.name_laws.digests_are_ids.Goals as goal

pub returns : goal.returns
returns c = digests_are_ids_lem
