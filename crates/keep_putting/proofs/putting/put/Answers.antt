use Rattle.std.proofs.Common.{◌≡◌, ◌∙◌, Result, Err, OnOk, List, ℕ, ap, refl, sym, subst, string_bytes}
use Rattle.std.specs.declared.alloc.Global.{Global}
use Rattle.std.specs.declared.string.String.{String}
use Rattle.keep_names.specs.declared.id.Id.{Id}
use Rattle.keep_putting.proofs.Put.{left_out, no_place, one_done, place_is_own, still_made}
use Rattle.keep_putting.specs.Careful.{IsOwnPlace}
use Rattle.keep_putting.specs.Folders.{AreMade, Folders}
use Rattle.keep_putting.specs.Made.{folders_in}
use Rattle.keep_putting.specs.Putting.{IsFilePut, IsLinkPut, stage_of}
use Rattle.keep_putting.specs.declared.places.Unplaced.{Unplaced}
use Rattle.keep_putting.specs.declared.places.Unplaced.TheVariants as unplaced
use Rattle.keep_putting.proofs.putting.put.Goals as goal

abbrev answer_of : Unplaced → Result (String Global) Unplaced
answer_of u = Err u

pub returns-in-Err-Left-clause-done : goal.returns-in-Err-Left-clause-done
returns-in-Err-Left-clause-done g c =
    let folders = folders_in c.args.course.now.places in
    let wanted = c.args.wanted.now in
    let cause = c.in-Err-Left.why in
    let told = c.in-Err-Left.field-0 in
    let said : told ≡ unplaced.Left cause = cc in
    let none = no_place folders wanted cause (c.in-Err-Left.ensures.told cause (ap answer_of said))
    (λ is. c.in-Err-Left.ensures.unnamed (ap answer_of (said ∙ ap unplaced.Left is)))
    (λ is. c.in-Err-Left.ensures.homeless (ap answer_of (said ∙ ap unplaced.Left is))) in
    left_out c.leave_out.result (g.P.Pieces.pieces c.args.pieces.now) c.args.course.now.caller wanted cause
    (stage_of (g.T.Target.calls c.args.target.now) c.args.course.now) _ none refl refl refl c.leave_out.ensures.named

pub returns-in-Folder-clause-careful : goal.returns-in-Folder-clause-careful
returns-in-Folder-clause-careful g c = λ made.
    c.put_folder.ensures.careful (place_is_own _ _ c.args.wanted.now (string_bytes c.in-Ok.place) made c.in-Ok.ensures.placed)

pub returns-in-Folder-clause-done : goal.returns-in-Folder-clause-done
returns-in-Folder-clause-done g c =
    one_done c.put_folder.result (g.P.Pieces.pieces c.args.pieces.now) c.args.course.now.caller c.args.wanted.now _ (string_bytes c.in-Ok.place)
    (stage_of (g.T.Target.calls c.args.target.now) c.args.course.now) (stage_of (g.T.Target.calls c.put_folder.new.target) c.put_folder.new.course)
    c.in-Folder.is c.in-Ok.ensures.placed c.put_folder.ensures.done

pub returns-in-File-clause-careful : goal.returns-in-File-clause-careful
returns-in-File-clause-careful g c = λ made.
    let own = place_is_own _ _ c.args.wanted.now (string_bytes c.in-Ok.place) made c.in-Ok.ensures.placed in
    c.put_file.ensures.careful (subst (IsOwnPlace (g.T.Target.calls c.args.target.now)) (sym c.as_str.ensures.value) own)

pub returns-in-File-clause-made : goal.returns-in-File-clause-made
returns-in-File-clause-made g c = λ made.
    let own = place_is_own _ _ c.args.wanted.now (string_bytes c.in-Ok.place) made c.in-Ok.ensures.placed in
    let course = c.put_file.ensures.careful (subst (IsOwnPlace (g.T.Target.calls c.args.target.now)) (sym c.as_str.ensures.value) own) in
    let now = g.T.Target.calls c.put_file.new.target in
    subst (λ (f : Folders). AreMade f now) (sym c.put_file.ensures.places) (still_made _ _ now course made)

pub returns-in-File-clause-done : goal.returns-in-File-clause-done
returns-in-File-clause-done g c =
    let pieces = g.P.Pieces.pieces c.args.pieces.now in
    let caller = c.args.course.now.caller in
    let wanted = c.args.wanted.now in
    let old = stage_of (g.T.Target.calls c.args.target.now) c.args.course.now in
    let new = stage_of (g.T.Target.calls c.put_file.new.target) c.put_file.new.course in
    let here = subst (λ (place : List ℕ). OnOk c.put_file.result (IsFilePut pieces caller wanted c.deref.result.now place old new)) c.as_str.ensures.value c.put_file.ensures.done in
    let done = subst (λ (ids : List Id). OnOk c.put_file.result (IsFilePut pieces caller wanted ids (string_bytes c.in-Ok.place) old new)) c.deref.ensures.value here in
    one_done c.put_file.result pieces caller wanted _ (string_bytes c.in-Ok.place) old new c.in-File.is c.in-Ok.ensures.placed done

pub returns-in-Link-clause-careful : goal.returns-in-Link-clause-careful
returns-in-Link-clause-careful g c = λ made.
    let own = place_is_own _ _ c.args.wanted.now (string_bytes c.in-Ok.place) made c.in-Ok.ensures.placed in
    c.put_link.ensures.careful (subst (IsOwnPlace (g.T.Target.calls c.args.target.now)) (sym c.as_str-in-Link-2.ensures.value) own)

pub returns-in-Link-clause-made : goal.returns-in-Link-clause-made
returns-in-Link-clause-made g c = λ made.
    let own = place_is_own _ _ c.args.wanted.now (string_bytes c.in-Ok.place) made c.in-Ok.ensures.placed in
    let course = c.put_link.ensures.careful (subst (IsOwnPlace (g.T.Target.calls c.args.target.now)) (sym c.as_str-in-Link-2.ensures.value) own) in
    let now = g.T.Target.calls c.put_link.new.target in
    subst (λ (f : Folders). AreMade f now) (sym c.put_link.ensures.places) (still_made _ _ now course made)

pub returns-in-Link-clause-done : goal.returns-in-Link-clause-done
returns-in-Link-clause-done g c =
    let pieces = g.P.Pieces.pieces c.args.pieces.now in
    let caller = c.args.course.now.caller in
    let wanted = c.args.wanted.now in
    let old = stage_of (g.T.Target.calls c.args.target.now) c.args.course.now in
    let new = stage_of (g.T.Target.calls c.put_link.new.target) c.put_link.new.course in
    let here = subst (λ (place : List ℕ). OnOk c.put_link.result (IsLinkPut caller wanted c.as_str-in-Link.result.now place old new)) c.as_str-in-Link-2.ensures.value c.put_link.ensures.done in
    let done = subst (λ (to : List ℕ). OnOk c.put_link.result (IsLinkPut caller wanted to (string_bytes c.in-Ok.place) old new)) c.as_str-in-Link.ensures.value here in
    one_done c.put_link.result pieces caller wanted _ (string_bytes c.in-Ok.place) old new c.in-Link.is c.in-Ok.ensures.placed done
