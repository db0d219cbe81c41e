use Rattle.std.proofs.Common.{◌≡◌, ◌∙◌, ◌||◌, ◌∷◌, [], List, filter, map, not, take, ap}
use Rattle.std.proofs.lemmas.List.{take_all}
use Rattle.std.specs.BTreeSet.{contains}
use Rattle.keep_names.specs.Orders.{name_cmp}
use Rattle.keep_names.specs.declared.file_name.FileName.{FileName}
use Rattle.keep_index.specs.Index.{pack_view}
use Rattle.keep_index.specs.declared.index.IndexedPack.{IndexedPack}
use Rattle.keep_plan.specs.Storing.{is_there}
use Rattle.keep_upkeep.specs.Repair.{absent_among}
use Rattle.keep_upkeep.proofs.AbsentPacks.{AreAmong, or_none, put_more}
use Rattle.keep_upkeep.proofs.repair.put_absent.Goals as goal

pub loop-pack-init : goal.loop-pack-init
loop-pack-init c name = or_none (contains name_cmp c.args.absent.now name)

pub loop-pack-preserved : goal.loop-pack-preserved
loop-pack-preserved c name =
    put_more c.args.repo.now c.args.packs.now c.loop-pack.pack-index c.pack-item.result c.loop-pack-test.true c.pack-item.is name (contains name_cmp c.args.absent.now name) _ _
    (c.loop-pack.invariant name)
    (c.in_ok-put_if_absent.ensures name ∙ ap (λ (file : FileName). contains name_cmp c.loop-pack.absent name || AreAmong (filter (λ n. not (is_there c.args.repo.now n)) (file ∷ [])) name) c.pack.ensures)

pub returns : goal.returns
returns c name =
    c.loop-pack.invariant name
    ∙ ap (λ (xs : List IndexedPack). contains name_cmp c.args.absent.now name || AreAmong (absent_among c.args.repo.now (map pack_view xs)) name) (take_all c.loop-pack.pack-index c.args.packs.now c.loop-pack-test.false)
