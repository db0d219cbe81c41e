use Rattle.std.proofs.Common.{◌∙◌, ap, map, sym, subst}
use Rattle.std.proofs.lemmas.Iterator.{YieldsList-from_zip}
use Rattle.std.proofs.lemmas.Iterator.Adapters.{YieldsList-from_vec}
use Rattle.std.proofs.lemmas.Iterator.Consumers.{YieldsList-end, YieldsList-turn}
use Rattle.std.proofs.lemmas.List.{map-id}
use Rattle.std.proofs.lemmas.List.Elements.{All-get_or}
use Rattle.keep_names.specs.Sha256.{sha256}
use Rattle.keep_build.specs.declared.packs.NewPack.{NewPack}
use Rattle.keep_build.proofs.NamedPacks.{IsOwn, all_own, file_given, files_named, listed_given, listed_named}
use Rattle.keep_build.proofs.packs.named_packs.Goals as goal

pub hashed-requires : goal.hashed-requires
hashed-requires g c =
    let turn = YieldsList-turn (YieldsList-from_zip (YieldsList-from_vec c.args.packs.items (cc) (cc)) (YieldsList-from_vec c.in_ok-ids.ids.items (cc) (cc)))
    c.loop-pack.yielded c.loop-pack.pack-iterator c.loop-pack.yielded_by c.next.result c.next.new.self (c.in-Some.pack, c.in-Some.id) c.in-Some.is c.next.ensures.steps in
    subst IsOwn (sym turn.1) (All-get_or IsOwn _ _ _ turn.0 (all_own c.args.packs.items c.in_ok-ids.ids.items (c.in_ok-ids.ensures ∙ ap (map (λ (pack : NewPack). sha256 pack.bytes.items)) c.deref.ensures.value)))

pub returns-clause-files : goal.returns-clause-files
returns-clause-files g c of are =
    let all = YieldsList-end (YieldsList-from_zip (YieldsList-from_vec c.args.packs.items (cc) (cc)) (YieldsList-from_vec c.in_ok-ids.ids.items (cc) (cc)))
    c.loop-pack.yielded c.loop-pack.pack-iterator c.loop-pack.yielded_by c.next.result c.next.new.self c.in-None.is c.next.ensures.steps in
    c.loop-pack.invariant.2
    ∙ ap (map file_given) (sym (map-id c.loop-pack.yielded) ∙ all.0)
    ∙ files_named c.args.packs.items c.in_ok-ids.ids.items of (c.in_ok-ids.ensures ∙ ap (map (λ (pack : NewPack). sha256 pack.bytes.items)) c.deref.ensures.value) are

pub returns-clause-listed : goal.returns-clause-listed
returns-clause-listed g c of are =
    let all = YieldsList-end (YieldsList-from_zip (YieldsList-from_vec c.args.packs.items (cc) (cc)) (YieldsList-from_vec c.in_ok-ids.ids.items (cc) (cc)))
    c.loop-pack.yielded c.loop-pack.pack-iterator c.loop-pack.yielded_by c.next.result c.next.new.self c.in-None.is c.next.ensures.steps in
    c.loop-pack.invariant.3
    ∙ ap (map listed_given) (sym (map-id c.loop-pack.yielded) ∙ all.0)
    ∙ listed_named c.args.packs.items c.in_ok-ids.ids.items of (c.in_ok-ids.ensures ∙ ap (map (λ (pack : NewPack). sha256 pack.bytes.items)) c.deref.ensures.value) are
