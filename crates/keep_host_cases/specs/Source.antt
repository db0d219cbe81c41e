-- The pieces of the cases.
use Rattle.std.specs.Prelude.{if◌then◌else◌, ℕ, ◌==◌, Option, None, Some, List, codes, slice_index_or}
use Rattle.keep_names.specs.declared.id.Id.{Id}

-- by the first byte of an id
abbrev pub piece_under : Id → Option (List ℕ)
piece_under id =
    if slice_index_or id.0 0 0 == 1 then Some (codes "abcd") else if slice_index_or id.0 0 0 == 2 then Some (codes "ef") else None
