use Rattle.std.proofs.Common.{◌≡◌, ◌&&◌, Bool, bytes_eq, sym, ap, subst, ◌∙◌}
use Rattle.std.proofs.lemmas.Slice.Eq.{bytes_eq-Decides}
use Rattle.std.specs.Bool.{Decides}
use Rattle.std.specs.HashMap.{hash_map_eq}
use Rattle.keep_names.proofs.Orders.{id_exact, id_total}
use Rattle.keep_names.specs.contracts.id.IdPartialEq.TheImpl as the_id_eq
use Rattle.keep_repo.proofs.ByName.{same-Decides, same_ids}
use Rattle.keep_repo.proofs.Hashed.{hashed-Decides}
use Rattle.keep_repo.proofs.Same.{Decides-along}
use Rattle.keep_repo.proofs.files.Files.same_as.Goals as goal
use Rattle.keep_repo.proofs.files.Files.same_as.Goals.{then-eq, else-eq}

pub returns-then-eq-2 : goal.returns-then-eq-2
returns-then-eq-2 c =
    let f = c.self.inside in
    let g = c.other.inside in
    let packs : Bool = hash_map_eq (the_id_eq.ghosts).eq bytes_eq f.packs g.packs in
    let indexes : Bool = hash_map_eq (the_id_eq.ghosts).eq bytes_eq f.indexes g.indexes in
    let snapshots : Bool = hash_map_eq (the_id_eq.ghosts).eq bytes_eq f.snapshots g.snapshots in
    let two : (packs && indexes) ≡ c.if-eq.value = elim c.if-eq.branch [
      | then-eq w ↦ ap (λ one. one && indexes) (sym c.eq.ensures ∙ w.if-eq.true) ∙ sym w.eq-then-eq.ensures ∙ sym w.value-is
      | else-eq w ↦ ap (λ one. one && indexes) (sym c.eq.ensures ∙ w.if-eq.false) ∙ sym w.if-eq.false ∙ sym w.value-is
    ] in
    subst (λ r. Decides r (c.args.self.now ≡ c.args.other.now)) (ap (λ one. one && snapshots) (two ∙ c.if-eq-2.true) ∙ sym c.eq-then-eq-2.ensures)
    (Decides-along ((packs && indexes) && snapshots) c.self.view_is c.other.view_is
    (same-Decides f.packs.entries f.indexes.entries f.snapshots.entries g.packs.entries g.indexes.entries g.snapshots.entries packs indexes snapshots
    (hashed-Decides id_total same_ids id_exact bytes_eq-Decides f.packs g.packs)
    (hashed-Decides id_total same_ids id_exact bytes_eq-Decides f.indexes g.indexes)
    (hashed-Decides id_total same_ids id_exact bytes_eq-Decides f.snapshots g.snapshots)))

pub returns-else-eq-2 : goal.returns-else-eq-2
returns-else-eq-2 c =
    let f = c.self.inside in
    let g = c.other.inside in
    let packs : Bool = hash_map_eq (the_id_eq.ghosts).eq bytes_eq f.packs g.packs in
    let indexes : Bool = hash_map_eq (the_id_eq.ghosts).eq bytes_eq f.indexes g.indexes in
    let snapshots : Bool = hash_map_eq (the_id_eq.ghosts).eq bytes_eq f.snapshots g.snapshots in
    let two : (packs && indexes) ≡ c.if-eq.value = elim c.if-eq.branch [
      | then-eq w ↦ ap (λ one. one && indexes) (sym c.eq.ensures ∙ w.if-eq.true) ∙ sym w.eq-then-eq.ensures ∙ sym w.value-is
      | else-eq w ↦ ap (λ one. one && indexes) (sym c.eq.ensures ∙ w.if-eq.false) ∙ sym w.if-eq.false ∙ sym w.value-is
    ] in
    subst (λ r. Decides r (c.args.self.now ≡ c.args.other.now)) (ap (λ one. one && snapshots) (two ∙ c.if-eq-2.false) ∙ sym c.if-eq-2.false)
    (Decides-along ((packs && indexes) && snapshots) c.self.view_is c.other.view_is
    (same-Decides f.packs.entries f.indexes.entries f.snapshots.entries g.packs.entries g.indexes.entries g.snapshots.entries packs indexes snapshots
    (hashed-Decides id_total same_ids id_exact bytes_eq-Decides f.packs g.packs)
    (hashed-Decides id_total same_ids id_exact bytes_eq-Decides f.indexes g.indexes)
    (hashed-Decides id_total same_ids id_exact bytes_eq-Decides f.snapshots g.snapshots)))
