use Rattle.keep_docs.proofs.ReadBack.{doc_of-compact_text}
use Rattle.keep_docs.proofs.Reading.{document-doc_of}
use Rattle.keep_docs.proofs.doc.readable_values_read_back.Goals as goal

pub returns-clause-written : goal.returns-clause-written
returns-clause-written c = doc_of-compact_text

pub returns-clause-read : goal.returns-clause-read
returns-clause-read c = document-doc_of
