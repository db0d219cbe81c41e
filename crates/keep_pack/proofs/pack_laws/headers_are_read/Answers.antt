use Rattle.keep_pack.proofs.Grammar.{bytes_at-entries, entries_lie, has_header-read, one_list, read-has_header}
use Rattle.keep_pack.proofs.pack_laws.headers_are_read.Goals as goal

pub returns-clause-read : goal.returns-clause-read
returns-clause-read c = has_header-read

pub returns-clause-written : goal.returns-clause-written
returns-clause-written c = read-has_header

pub returns-clause-within : goal.returns-clause-within
returns-clause-within c = entries_lie

pub returns-clause-alone : goal.returns-clause-alone
returns-clause-alone c = one_list

pub returns-clause-blobs : goal.returns-clause-blobs
returns-clause-blobs c = bytes_at-entries
