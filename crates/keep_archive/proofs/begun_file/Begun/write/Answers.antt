use Rattle.std.proofs.Common.{◌≡◌, ℕ, false, ap, ◌∙◌, arith}
use Rattle.std.specs.Global.{Vec}
use Rattle.std.proofs.lemmas.List.Elements.{All-from_recursion}
use Rattle.keep_build.specs.Blobs.{is_full}
use Rattle.keep_archive.specs.Cutting.{pieces_in}
use Rattle.keep_archive.specs.Steps.{piece}
use Rattle.keep_archive.proofs.Cuts.{cut_behind, none_full}
use Rattle.keep_archive.proofs.begun_file.Begun.write.Goals as goal

pub hold_pieces-requires-clause-fits : goal.hold_pieces-requires-clause-fits
hold_pieces-requires-clause-fits g c =
    let file = c.args.self in
    let made = c.in_ok-cut.field-0 in
    let cut_so = cut_behind file.cut.bytes c.args.bytes.now file.rest.items c.of.result made (ap (λ cut. cut.bytes) c.of.ensures.cut) c.of.ensures.whole
    (ap (λ rest. rest.items) c.of.ensures.rest) (omega (arith, file.short, file.rest.ok.0)) c.in_ok-cut.ensures in
    All-from_recursion (λ (x : Vec ℕ). is_full (piece x.items) ≡ false) made.whole.items
    (none_full file.cut.bytes made.whole.items file.cut.in_range.1 cut_so.each)

pub returns : goal.returns
returns g c =
    let file = c.args.self in
    let made = c.in_ok-cut.field-0 in
    let cut_so = cut_behind file.cut.bytes c.args.bytes.now file.rest.items c.of.result made (ap (λ cut. cut.bytes) c.of.ensures.cut) c.of.ensures.whole
    (ap (λ rest. rest.items) c.of.ensures.rest) (omega (arith, file.short, file.rest.ok.0)) c.in_ok-cut.ensures in
    record {
      pieces = pieces_in made.whole.items;
      cut_so = cut_so;
      cut = c.in_ok-cut.ensures.cut ∙ ap (λ cut. cut.bytes) c.of.ensures.cut;
      content = c.in_ok-blobs.ensures.content;
      holds = c.in_ok-blobs.ensures.held;
    }
