use Rattle.std.proofs.Common.{◌≡◌, None, Some, Err, sym, ap, subst, ◌∙◌}
use Rattle.std.proofs.lemmas.Result.{err_from_is_err_and}
use Rattle.keep_names.specs.declared.blob.BlobId.{BlobId}
use Rattle.keep_catalog.specs.Naming.{named_by}
use Rattle.keep_catalog.specs.Places.{chosen_listing}
use Rattle.keep_nodes.proofs.Found.{own_hash, piece_missing, some_bytes}
use Rattle.keep_nodes.proofs.pieces.piece.Goals as goal

pub returns-in_err-named-clause-piece : goal.returns-in_err-named-clause-piece
returns-in_err-named-clause-piece c =
    let due = err_from_is_err_and c.from_residual.result c.from_residual.ensures.1 in
    let N : BlobId → Type 0 = λ blob. named_by c.args.catalog.now blob ≡ Err c.in_err-named.field-0.0 in
    rw (due.1, due.2) (λ other. piece_missing c.args.catalog.now c.args.id c.in_err-named.field-0.0 (subst N c.content-blob.ensures (c.in_err-named.ensures.names other)))

pub unreachable-requires : goal.unreachable-requires
unreachable-requires c =
    let C : BlobId → Type 0 = λ blob. chosen_listing c.args.catalog.now blob ≡ Some (c.in_ok-named.named.spot, c.in_ok-named.named.index) in
    some_bytes c.args.catalog.now c.args.id c.in_ok-named.named.spot c.in_ok-named.named.index (subst C c.content-blob.ensures c.in_ok-named.ensures.chosen) (sym c.in-None.ensures)

pub returns-clause-hashed : goal.returns-clause-hashed
returns-clause-hashed c =
    let C : BlobId → Type 0 = λ blob. chosen_listing c.args.catalog.now blob ≡ Some (c.in_ok-named.named.spot, c.in_ok-named.named.index) in
    own_hash c.args.catalog.now c.args.id c.in_ok-named.named.spot c.in_ok-named.named.index (subst C c.content-blob.ensures c.in_ok-named.ensures.chosen) c.in-Some.bytes.now (sym c.in-Some.ensures)
