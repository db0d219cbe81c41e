use Rattle.std.proofs.Common.{sym, ◌∙◌}
use Rattle.serde_json.specs.View.{view}
use Rattle.keep_docs.proofs.FieldLemmas.{doc_of_refused, doc_of_value}
use Rattle.keep_docs.proofs.doc.read_doc.Goals as goal

pub returns-in-Err-clause-read : goal.returns-in-Err-clause-read
returns-in-Err-clause-read c = λ _. doc_of_refused c.args.bytes.now (c.in-Err.ensures.err (λ memory. let is = c.is_memory.ensures.1 memory in cc))

pub returns-then-has_float-clause-read : goal.returns-then-has_float-clause-read
returns-then-has_float-clause-read c = λ _.
    let is = c.in-Ok.ensures.ok in
    doc_of_value c.args.bytes.now (view c.in-Ok.value) _ is.0 is.1 (sym c.has_float.ensures.value ∙ c.if-has_float.true)

pub returns-clause-read : goal.returns-clause-read
returns-clause-read c =
    let is = c.in-Ok.ensures.ok in
    doc_of_value c.args.bytes.now (view c.in-Ok.value) _ is.0 is.1 (sym c.has_float.ensures.value ∙ c.if-has_float.false)
