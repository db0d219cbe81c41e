use Rattle.std.proofs.Common.{◌≡◌, ◌∙◌, ◌==◌, ℕ, [], length, sym, ap}
use Rattle.keep_memory_files.proofs.Between.{between}
use Rattle.keep_memory_files.proofs.path_bounds.bounds_of.Goals as goal

pub returns : goal.returns
returns c =
    between c.args.folder.now c.in_ok-first.first c.in_ok-past.past
    (λ none. let empty : c.is_empty.result ≡ (length {A = ℕ} [] == 0) = c.is_empty.ensures ∙ ap (λ p. length p == 0) none in cc (sym empty ∙ c.if-is_empty.false))
    c.in_ok-first.ensures c.in_ok-past.ensures
