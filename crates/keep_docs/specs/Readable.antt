-- The values that a document can have.
use Rattle.std.specs.Prelude.{◌≡◌, ℕ, ◌^◌, ◌<◌, pos, negsuc, List, IsUtf8}
use Rattle.std.specs.Ordering.{nat_cmp}
use Rattle.std.specs.Cmp.Lexicographic.{slice_cmp}
use Rattle.std.specs.declared.cmp.Ordering.TheVariants.{Less}
use Rattle.serde_json.specs.Data.{Num, unsigned, negative, float, Data, null, boolean, number, string, array, object, Items, no_items, item, Members, no_members, member}

-- a whole number that fits: a u64, or below zero an i64
abbrev pub IsWhole : Num → Type 0
IsWhole (unsigned n) = n < 2 ^ 64
IsWhole (negative (pos n)) = ⊥
IsWhole (negative (negsuc n)) = n < 2 ^ 63
IsWhole (float x) = ⊥

-- the key stands before each of the members' keys, in byte order
abbrev pub StandsBefore : List ℕ → Members → Type 0
StandsBefore k no_members = Unit {0}
StandsBefore k (member l d ms) = (slice_cmp nat_cmp k l ≡ Less) × StandsBefore k ms

-- its numbers are whole and fit, its texts are UTF-8, and the keys of each object ascend in byte order
abbrev mutual
  pub IsReadable : Data → Type 0
  IsReadable null = Unit {0}
  IsReadable (boolean b) = Unit {0}
  IsReadable (number n) = IsWhole n
  IsReadable (string s) = IsUtf8 s
  IsReadable (array ds) = AreReadable ds
  IsReadable (object ms) = HasReadable ms

  pub AreReadable : Items → Type 0
  AreReadable no_items = Unit {0}
  AreReadable (item d ds) = IsReadable d × AreReadable ds

  pub HasReadable : Members → Type 0
  HasReadable no_members = Unit {0}
  HasReadable (member k d ms) = IsUtf8 k × IsReadable d × StandsBefore k ms × HasReadable ms
