use Rattle.keep_pack.proofs.Honest.{honest_read, honest_stands}
use Rattle.keep_pack.proofs.pack_laws.built_packs_are_honest.Goals as goal

pub returns-clause-read : goal.returns-clause-read
returns-clause-read c = honest_read

pub returns-clause-stands : goal.returns-clause-stands
returns-clause-stands c = honest_stands
