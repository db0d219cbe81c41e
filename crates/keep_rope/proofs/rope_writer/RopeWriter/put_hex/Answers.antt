use Rattle.std.proofs.Common.{◌++◌, ◌∙◌, ap}
use Rattle.hex.specs.Hex.{encode_lower}
use Rattle.keep_rope.proofs.Joined.{hex_put}
use Rattle.keep_rope.specs.declared.piece.Piece.TheVariants.{Plain, Hex}
use Rattle.keep_rope.proofs.rope_writer.RopeWriter.put_hex.Goals as goal

pub returns : goal.returns
returns c =
    let digits = encode_lower c.args.bytes.now in
    hex_put c.self.inside.pieces.items c.push.new.self.items c.push-2.new.self.items c.self.inside.plain.items digits
    (Plain c.shrink_to_fit.new.self) (Hex c.in_ok-clone.field-0)
    (c.shrink_to_fit.ensures.items ∙ ap (λ v. v.items) c.replace-plain.ensures.value)
    (ap encode_lower c.in_ok-clone.ensures.cases)
    c.in_ok-push.ensures.items c.in_ok-push-2.ensures.items
    (ap (λ v. v.items) c.replace-plain.ensures.after ∙ c.new.ensures.items)
    ∙ ap (λ s. s ++ digits) c.self.view_is
