use Rattle.std.proofs.Common.{◌++◌, List, map, ap, ◌∙◌}
use Rattle.std.proofs.lemmas.List.{append_assoc}
use Rattle.std.specs.FinMap as finite
use Rattle.keep_names.specs.FileName.{named}
use Rattle.keep_names.specs.declared.file_name.FileName.{FileName}
use Rattle.keep_names.specs.declared.file_name.Kind.TheVariants.{Pack, Index, Snapshot}
use Rattle.keep_repo.proofs.ByName.{Files}
use Rattle.keep_repo.proofs.InOrder.{names_of}
use Rattle.keep_repo.specs.Files.{by_id}
use Rattle.keep_repo.proofs.files.Files.names.Goals as goal

pub returns : goal.returns
returns c =
    let f = c.self.inside in
    let packs : List FileName = map (named Pack) (finite.keys (by_id f.packs.entries)) in
    let indexes : List FileName = map (named Index) (finite.keys (by_id f.indexes.entries)) in
    let snapshots : List FileName = map (named Snapshot) (finite.keys (by_id f.snapshots.entries)) in
    c.in_ok-append-2.ensures.items
    ∙ ap (λ names. names ++ c.in_ok-named-2.field-0.items) (c.in_ok-append.ensures.items ∙ ap (λ names. names ++ c.in_ok-named.field-0.items) c.in_ok-names.ensures ∙ ap (λ names. packs ++ names) c.in_ok-named.ensures)
    ∙ ap (λ names. (packs ++ indexes) ++ names) c.in_ok-named-2.ensures
    ∙ append_assoc packs indexes snapshots
    ∙ names_of f.packs.entries f.indexes.entries f.snapshots.entries
    ∙ ap (λ (files : Files). finite.keys files) c.self.view_is
