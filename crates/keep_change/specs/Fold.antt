-- Numbered changes, made one after another.
use Rattle.std.specs.Prelude.{ℕ, List, [], ◌∷◌, if◌then◌else◌, Option, Some, None}
use Rattle.std.specs.List.{find}
use Rattle.std.specs.Option.{option_map}
use Rattle.keep_repo.specs.Repository.{Repository, held}
use Rattle.keep_change.specs.declared.change.Change.{Change}
use Rattle.keep_change.specs.Change.{is_met}
use Rattle.keep_change.specs.Result.{result_of}
use Rattle.keep_change.specs.Touch.{leans_on}

pub record Numbered : Type 0 where
  pub number : ℕ
  pub change : Change

-- what the changes, in turn, make of the repository
abbrev pub fold_of : List Numbered → Repository → Repository
fold_of [] repository = repository
fold_of (n ∷ ns) repository = fold_of ns (result_of n.change repository)

-- the number of the first change that isn't met in its turn, none where the fold is defined
abbrev pub first_break : List Numbered → Repository → Option ℕ
first_break [] repository = None
first_break (n ∷ ns) repository =
    if is_met (held repository) n.change
    then first_break ns (result_of n.change repository)
    else Some n.number

-- the number of the first change that touches what this one writes
abbrev pub first_leaning : Change → List Numbered → Option ℕ
first_leaning c ns = option_map (λ n. n.number) (find (λ n. leans_on n.change c) ns)
