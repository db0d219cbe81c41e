use Rattle.std.proofs.Common.{◌∙◌, ◌++◌, ap, ℕ, map, sym, subst}
use Rattle.std.specs.Global.{Vec}
use Rattle.std.proofs.lemmas.Iterator.{YieldsList-from_zip}
use Rattle.std.proofs.lemmas.Iterator.Adapters.{YieldsList-from_vec}
use Rattle.std.proofs.lemmas.Iterator.Consumers.{YieldsList-end, YieldsList-turn}
use Rattle.std.proofs.lemmas.List.{map-id}
use Rattle.std.proofs.lemmas.List.Elements.{All-get_or}
use Rattle.keep_names.specs.Sha256.{sha256}
use Rattle.keep_names.specs.declared.id.Id.{Id}
use Rattle.keep_archive.specs.Archive.{blobs_view}
use Rattle.keep_archive.specs.Steps.{holding}
use Rattle.keep_archive.proofs.Hashed.{IsPiece, all_held, all_named, all_pieces, piece_given}
use Rattle.keep_archive.proofs.pieces.hold_pieces.Goals as goal

pub piece-requires : goal.piece-requires
piece-requires c =
    let turn = YieldsList-turn (YieldsList-from_zip (YieldsList-from_vec c.args.pieces.items (cc) (cc)) (YieldsList-from_vec c.args.ids.items (cc) (cc)))
    c.loop-bytes.yielded c.loop-bytes.bytes-iterator c.loop-bytes.yielded_by c.next.result c.next.new.self (c.in-Some.bytes, c.in-Some.id) c.in-Some.is c.next.ensures.steps in
    let so = subst IsPiece (sym turn.1) (All-get_or IsPiece _ _ _ turn.0 (all_pieces c.args.pieces.items c.args.ids.items c.requires.own c.requires.fits)) in
    record { own = so.0; fits = so.1 }

pub returns-clause-content : goal.returns-clause-content
returns-clause-content c =
    let all = YieldsList-end (YieldsList-from_zip (YieldsList-from_vec c.args.pieces.items (cc) (cc)) (YieldsList-from_vec c.args.ids.items (cc) (cc)))
    c.loop-bytes.yielded c.loop-bytes.bytes-iterator c.loop-bytes.yielded_by c.next.result c.next.new.self c.in-None.is c.next.ensures.steps in
    c.loop-bytes.invariant.2
    ∙ ap (λ given. c.args.content.now.items ++ map (λ (given : Vec ℕ × Id). given.1) given) (sym (map-id c.loop-bytes.yielded) ∙ all.0)
    ∙ ap (λ ids. c.args.content.now.items ++ ids) (all_named c.args.pieces.items c.args.ids.items c.requires.own)

pub returns-clause-held : goal.returns-clause-held
returns-clause-held c =
    let all = YieldsList-end (YieldsList-from_zip (YieldsList-from_vec c.args.pieces.items (cc) (cc)) (YieldsList-from_vec c.args.ids.items (cc) (cc)))
    c.loop-bytes.yielded c.loop-bytes.bytes-iterator c.loop-bytes.yielded_by c.next.result c.next.new.self c.in-None.is c.next.ensures.steps in
    c.loop-bytes.invariant.3
    ∙ ap (λ given. holding (map piece_given given) (blobs_view c.args.blobs)) (sym (map-id c.loop-bytes.yielded) ∙ all.0)
    ∙ ap (λ held. holding held (blobs_view c.args.blobs)) (all_held c.args.pieces.items c.args.ids.items c.requires.own)
