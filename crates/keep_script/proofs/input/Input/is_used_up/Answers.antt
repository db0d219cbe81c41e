use Rattle.std.proofs.Common.{length, sym, ◌∙◌, ap, arith}
use Rattle.std.proofs.lemmas.Bool.{eqb-true, eq-eqb}
use Rattle.std.proofs.lemmas.List.{length-drop}
use Rattle.std.proofs.Math.ListN.{drop_of_length-le}
use Rattle.keep_script.proofs.input.Input.is_used_up.Goals as goal

pub returns : goal.returns
returns c =
    let input = c.args.self.now in (
      λ test.
          let end = eqb-true input.used c.len.result test in
          drop_of_length-le input.chunk.items (omega (arith, end, c.len.ensures, input.chunk.ok.0)),
      λ none.
          let size = sym (length-drop input.used input.chunk.items) ∙ ap length none in
          eq-eqb input.used c.len.result (omega (arith, size, c.len.ensures, input.chunk.ok.0, input.in_chunk)),
    )
