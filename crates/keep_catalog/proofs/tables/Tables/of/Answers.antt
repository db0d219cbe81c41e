use Rattle.std.proofs.Common.{◌+◌, drop, get_or, refl, sym, subst, ◌∙◌, rules}
use Rattle.std.proofs.lemmas.List.{drop_all}
use Rattle.keep_names.specs.declared.file_name.FileName.{FileName}
use Rattle.keep_catalog.specs.declared.tables.Tables.{Tables}
use Rattle.keep_catalog.proofs.Building.{Reading, all_read, next_read, no_name, none_next, none_read}
use Rattle.keep_catalog.proofs.tables.Tables.of.Goals as goal
use Rattle.keep_catalog.proofs.tables.Tables.of.Goals.{in-Some+in_ok-add_file, in_default}

pub loop-name-init : goal.loop-name-init
loop-name-init c =
    none_read c.args.repo.now _ c.new-tables.result (c.deref-name-items.ensures.value ∙ c.in_ok-names.ensures.files) c.new-tables.ensures

pub loop-name-preserved : goal.loop-name-preserved
loop-name-preserved c =
    let r = c.args.repo.now in
    let names = c.deref-name-items.result.now in
    let i = c.loop-name.name-index in
    let name : FileName = get_or names i no_name in
    let before = c.loop-name.tables in
    let P : Tables → Type 0 = λ t. Reading (drop (i + 1) names) r t in
    elim c.match-get.branch [
      | in-Some+in_ok-add_file w ↦
          subst P (sym w.tables-is)
          (next_read r names i name before w.add_file.new.self c.loop-name-test.true refl w.in-Some.bytes.now w.as_slice.result.now
          (sym w.in-Some.ensures) w.as_slice.ensures w.in_ok-add_file.ensures c.loop-name.invariant)
      | in_default w ↦
          subst P (sym w.tables-is) (none_next r names i name before before c.loop-name-test.true refl (sym w.in_default.ensures) c.loop-name.invariant)
    ]

pub returns : goal.returns
returns c =
    all_read c.args.repo.now _ c.loop-name.tables (drop_all c.loop-name.name-index c.deref-name-items.result.now (search rules)) c.loop-name.invariant
