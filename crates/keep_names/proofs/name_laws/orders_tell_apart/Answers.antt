use Rattle.keep_names.proofs.Orders.{blob_exact, blob_total, id_exact, id_total, name_exact, name_total}
use Rattle.keep_names.proofs.TellsApart.{apart_from}
use Rattle.keep_names.proofs.name_laws.orders_tell_apart.Goals as goal

pub returns-clause-ids : goal.returns-clause-ids
returns-clause-ids c = apart_from id_total id_exact

pub returns-clause-names : goal.returns-clause-names
returns-clause-names c = apart_from name_total name_exact

pub returns-clause-blobs : goal.returns-clause-blobs
returns-clause-blobs c = apart_from blob_total blob_exact
