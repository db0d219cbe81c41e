use Rattle.keep_names.proofs.OrdersSaid.{blobs_are_ordered, ids_are_ordered, names_are_ordered_lem}
use Rattle.keep_names.proofs.name_laws.names_are_ordered.Goals as goal

pub returns-clause-ids : goal.returns-clause-ids
returns-clause-ids c = ids_are_ordered

pub returns-clause-names : goal.returns-clause-names
returns-clause-names c = names_are_ordered_lem

pub returns-clause-blobs : goal.returns-clause-blobs
returns-clause-blobs c = blobs_are_ordered
