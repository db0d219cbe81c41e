use Rattle.std.proofs.Common.{Option, Some, None, ◌≡◌, ℕ, List, sym, ap, ◌∙◌}
use Rattle.keep_paths.proofs.Apart.{key_path-exact}
use Rattle.keep_paths.proofs.path.key_of_path.Goals as goal
use Rattle.keep_paths.specs.KeyPath.{IsKey, key_path}
use Rattle.keep_names.specs.Parses.{Parses}
use Rattle.keep_shelf.specs.declared.key.Key.{Key}

-- what was found is the only key of this path
only : (path : List ℕ) (found : Option Key) → Parses IsKey key_path path found → (key : Key) → IsKey key → key_path key ≡ path → found ≡ Some key
only path (Some other) h key sized e = ap Some (key_path-exact other key h.0 sized (h.1 ∙ sym e))
only path None h key sized e = absurd (h key sized e)

pub returns-clause-printed : goal.returns-clause-printed
returns-clause-printed c = only c.args.path.now c.find_key.result c.find_key.ensures
