-- A tree in which nothing stands.
use Rattle.std.proofs.Common.{◌≡◌, ◌∙◌, ℕ, List, None, true, false, is_some, sym, ap}
use Rattle.keep_files.specs.Stands.{IsClosed, Stands}

pub empty_closed : (stands : Stands) → ((path : List ℕ) → stands path ≡ None) → IsClosed stands
empty_closed stands none path there folder lies = let wrong : false ≡ true = sym (ap is_some (none path)) ∙ there in cc wrong
