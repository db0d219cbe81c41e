-- What snapshots are asked to have.
use Rattle.std.specs.Prelude.{ℕ, List, Option, option_map, string_bytes}
use Rattle.keep_plan.specs.declared.pick.Needs as the_needs

-- a host, a tag and a path, as far as each is given
pub record NeedsData : Type 0 where
  pub host : Option (List ℕ)
  pub tag : Option (List ℕ)
  pub path : Option (List ℕ)

-- what a `Needs` says
abbrev pub needs_view : the_needs.Needs → NeedsData
needs_view needs = record {
  host = option_map string_bytes needs.host;
  tag = option_map string_bytes needs.tag;
  path = option_map string_bytes needs.path;
}
