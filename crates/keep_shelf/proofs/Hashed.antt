-- That `==` of keys, by which an `IndexMap` tells them apart, is the one that their order gives.
use Rattle.std.proofs.Common.{◌≡◌, Bool, List}
use Rattle.std.specs.FinMap.{FinMap, from_entries}
use Rattle.std.specs.Ordering.{eq_by_cmp}
use Rattle.keep_shelf.specs.Key.{key_cmp}
use Rattle.keep_shelf.specs.contracts.key.KeyOrd.TheImpl.Laws as the_key_laws
use Rattle.keep_shelf.specs.contracts.key.KeyPartialEq.TheImpl as the_key_eq
use Rattle.keep_shelf.specs.declared.key.Key.{Key}

abbrev pub same_key : Key → Key → Bool
same_key = (the_key_eq.ghosts).eq

pub same_as_order : same_key ≡ eq_by_cmp key_cmp
same_as_order i a b = the_key_laws.matches_eq-law a b i

-- what entries make
abbrev pub content_of : {X : Type 0} → List (Key × X) → FinMap key_cmp X
content_of es = from_entries es
