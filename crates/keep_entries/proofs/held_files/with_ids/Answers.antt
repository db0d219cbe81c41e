use Rattle.std.proofs.Common.{◌≡◌, ◌∙◌, rules, sym, ap}
use Rattle.std.proofs.lemmas.Slice.Zip.{zip_turn}
use Rattle.keep_names.specs.Sha256.{sha256}
use Rattle.keep_names.specs.declared.file_name.FileName.{FileName}
use Rattle.keep_names.specs.declared.id.Id.{Id}
use Rattle.keep_entries.proofs.HeldFiles.{id_is}
use Rattle.keep_entries.proofs.held_files.with_ids.Goals as goal

pub named-requires : goal.named-requires
named-requires c =
    let turn = zip_turn c.args.files.now c.args.ids.now c.loop-file.yielded c.into_iter-file-iterator.result c.loop-file.file-iterator c.next.new.self c.next.result
    (search rules) (search rules) c.loop-file.yielded_by (c.in-Some.file, c.in-Some.id) c.in-Some.is c.next.ensures.steps in
    let digest = id_is c.args.files.now c.args.ids.now _ c.in-Some.file.now c.in-Some.id.now c.requires turn.0 turn.1 (turn.2 _) (turn.3 _) in
    let same : c.name.result.id ≡ c.in-Some.id.now = search rules in
    ap (λ (name : FileName). name.id.0) (c.name-in-loop-file.ensures ∙ sym c.name.ensures) ∙ ap (λ (id : Id). id.0) same ∙ digest
    ∙ ap sha256 (sym (c.in_ok-bytes.ensures.cases ∙ c.bytes.ensures))
