-- Bounds between which a folder's paths lie, in the order of their texts.
use Rattle.std.specs.Prelude.{◌≡◌, List, ℕ, true, string_bytes}
use Rattle.std.specs.BTreeMap.Range.{IsLeBy, IsLtBy, range_contains}
use Rattle.std.specs.Range.Bound.{IsForward}
use Rattle.std.specs.String.{string_cmp}
use Rattle.std.specs.declared.alloc.Global.{Global}
use Rattle.std.specs.declared.ops.Bound.{Bound}
use Rattle.std.specs.declared.string.String.{String}
use Rattle.keep_files.specs.Path.{IsHeldIn}

pub record BoundAllIn (from to : Bound (String Global)) (folder : List ℕ) : Type 0 where
  -- they don't run backwards
  pub forward : IsForward (IsLeBy string_cmp) (IsLtBy string_cmp) from to
  -- each path that the folder holds lies between them
  pub all : (text : String Global) → IsHeldIn (string_bytes text) folder → range_contains string_cmp from to text ≡ true
