use Rattle.std.proofs.Common.{sym, ap, ◌∙◌, arith}
use Rattle.std.specs.FinMap as map
use Rattle.keep_names.proofs.Orders.{id_total}
use Rattle.keep_repo.proofs.ByName.{Files, same_ids}
use Rattle.keep_repo.proofs.Hashed.{len_hashed}
use Rattle.keep_repo.proofs.InOrder.{sum_of}
use Rattle.keep_repo.proofs.files.Files.len.Goals as goal

pub overflow_add-result-2 : goal.overflow_add-result-2
overflow_add-result-2 c =
    let f = c.self.inside in
    let all = sum_of f.packs.entries f.indexes.entries f.snapshots.entries c.len.result c.len-2.result c.len-3.result
    (c.len.ensures.len ∙ sym (len_hashed id_total same_ids f.packs.entries c.len.ensures.unique))
    (c.len-2.ensures.len ∙ sym (len_hashed id_total same_ids f.indexes.entries c.len-2.ensures.unique))
    (c.len-3.ensures.len ∙ sym (len_hashed id_total same_ids f.snapshots.entries c.len-3.ensures.unique)) in
    let fits = c.self.invariant in
    omega (arith, all, fits)

pub returns : goal.returns
returns c =
    let f = c.self.inside in
    sum_of f.packs.entries f.indexes.entries f.snapshots.entries c.len.result c.len-2.result c.len-3.result
    (c.len.ensures.len ∙ sym (len_hashed id_total same_ids f.packs.entries c.len.ensures.unique))
    (c.len-2.ensures.len ∙ sym (len_hashed id_total same_ids f.indexes.entries c.len-2.ensures.unique))
    (c.len-3.ensures.len ∙ sym (len_hashed id_total same_ids f.snapshots.entries c.len-3.ensures.unique))
    ∙ ap (λ (files : Files). map.len files) c.self.view_is
