use Rattle.std.proofs.Common.{◌∙◌, ap, map}
use Rattle.std.proofs.lemmas.List.{take_all}
use Rattle.keep_plan.proofs.Outcomes.{if_ok}
use Rattle.keep_names.specs.Sha256.{sha256}
use Rattle.keep_build.specs.declared.packs.NewPack.{NewPack}
use Rattle.keep_build.proofs.NamedPacks.{hashes_of}
use Rattle.keep_build.proofs.packs.ids_of.Goals as goal

pub returns : goal.returns
returns g c =
    let packs = c.args.packs.now in
    let all = ap (map (λ (pack : NewPack). pack.bytes.items)) (take_all c.loop-pack.pack-index packs c.loop-pack-test.false) in
    if_ok _ _ c.ids.result
    (λ ids so. so ∙ ap (map (λ text. sha256 text.now)) c.deref.ensures.value ∙ hashes_of c.loop-pack.texts.items packs (c.loop-pack.invariant ∙ all))
    c.ids.ensures
