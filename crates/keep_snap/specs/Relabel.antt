-- A snapshot under other tags, and one with another tree.
use Rattle.std.specs.Prelude.{ℕ, Bool, List, [], ◌∷◌, ◌++◌, Some, codes, unwrap_or, if◌then◌else◌}
use Rattle.std.specs.List.{list_any}
use Rattle.std.specs.Str.{bytes_eq}
use Rattle.keep_names.specs.declared.id.Id.{Id}
use Rattle.keep_snap.specs.Snap.{SnapData}

-- the snapshot with these tags, made from the one of this name: `original` stays where it is there, and is that name
-- where it is missing
abbrev pub retagged : SnapData → Id → List (List ℕ) → SnapData
retagged s old tags = record s { tags = tags; original = Some (unwrap_or s.original old) }

-- whether the tag `rewrite` is among these
abbrev pub has_rewrite : List (List ℕ) → Bool
has_rewrite tags = list_any (λ tag. bytes_eq tag (codes "rewrite")) tags

-- the tags, and where it is asked for and isn't among them, the tag `rewrite` last
abbrev pub rewritten_tags : Bool → List (List ℕ) → List (List ℕ)
rewritten_tags tagged tags =
    if tagged then (if has_rewrite tags then tags else tags ++ codes "rewrite" ∷ []) else tags

-- the snapshot with this tree, made from the one of this name, which is always its `original`
abbrev pub retreed : SnapData → Id → Id → Bool → SnapData
retreed s old tree tagged =
    record s { tree = tree; tags = rewritten_tags tagged s.tags; original = Some old }
