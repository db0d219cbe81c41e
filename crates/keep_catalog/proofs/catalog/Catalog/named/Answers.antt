use Rattle.std.proofs.Common.{◌≡◌, Err, sym, ap, ◌∙◌}
use Rattle.std.proofs.lemmas.Result.{err_from_is_err_and}
use Rattle.keep_repo.specs.Repository.{Repository}
use Rattle.keep_catalog.specs.Naming.{named_by, names_at}
use Rattle.keep_catalog.proofs.Naming.{named_nowhere, named_there}
use Rattle.keep_catalog.proofs.catalog.Catalog.named.Goals as goal

pub returns-in_default-clause-names : goal.returns-in_default-clause-names
returns-in_default-clause-names c _ =
    named_nowhere c.args.self.now c.args.blob (sym c.in_default.ensures) ∙ ap Err (sym c.missing.ensures)

pub returns-in_err-names-clause-names : goal.returns-in_err-names-clause-names
returns-in_err-names-clause-names c =
    let due = err_from_is_err_and c.from_residual.result c.from_residual.ensures.1 in
    let is : named_by c.args.self.now c.args.blob ≡ names_at c.self.inside.repo.now c.args.blob.blob_type c.in-Some.spot =
    named_there c.args.self.now c.args.blob (c.in-Some.spot, c.in-Some.index) (sym c.in-Some.ensures)
    ∙ sym (ap (λ (r : Repository). names_at r c.args.blob.blob_type c.in-Some.spot) c.self.view_is) in
    rw (due.1, due.2) (λ other. is ∙ c.in_err-names.ensures other)

pub returns-clause-names : goal.returns-clause-names
returns-clause-names c =
    let is : named_by c.args.self.now c.args.blob ≡ names_at c.self.inside.repo.now c.args.blob.blob_type c.in-Some.spot =
    named_there c.args.self.now c.args.blob (c.in-Some.spot, c.in-Some.index) (sym c.in-Some.ensures)
    ∙ sym (ap (λ (r : Repository). names_at r c.args.blob.blob_type c.in-Some.spot) c.self.view_is) in
    is ∙ c.in_ok-names.ensures
