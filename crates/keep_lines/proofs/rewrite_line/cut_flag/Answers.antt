use Rattle.std.proofs.Common.{ℕ, List, [], ◌∷◌, codes, get_or, sym, ap, ◌∙◌}
use Rattle.std.proofs.lemmas.Slice.Eq.{bytes_eq-Decides}
use Rattle.keep_lines.proofs.WordLists.{behind_one, one_and_more, texts}
use Rattle.keep_lines.proofs.rewrite_line.cut_flag.Goals as goal

pub returns-then-eq : goal.returns-then-eq
returns-then-eq c =
    let words = c.args.words.now in
    let same = (bytes_eq-Decides (get_or words 0 (record { ref_ptr = (0, 0); now = [] })).now (codes "forget")).0 (sym c.if-eq.ensures) in
    (one_and_more words (record { ref_ptr = (0, 0); now = [] }) c.in-len1-up.len_at_least ∙ ap (λ (w : List ℕ). w ∷ texts (behind_one words)) same, tt)
