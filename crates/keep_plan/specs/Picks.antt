-- Which snapshots a filter takes.
use Rattle.std.specs.Prelude.{ℕ, ◌&&◌, Bool, true, List, Option, string_bytes}
use Rattle.std.specs.List.{list_any}
use Rattle.std.specs.Option.{option_map_or}
use Rattle.std.specs.Str.{bytes_eq}
use Rattle.keep_catalog.specs.Orders.{id_eq}
use Rattle.keep_snap.specs.Facts.{FactsData}
use Rattle.keep_plan.specs.Needs.{NeedsData, needs_view}
use Rattle.keep_plan.specs.declared.pick.Pick.{Pick}
use Rattle.keep_plan.specs.declared.pick.Pick.TheVariants.{Any, Host, Meeting, Named, Path, Tagged}

-- a host that isn't given is met by each, and another by itself
abbrev pub is_of_host : Option (List ℕ) → List ℕ → Bool
is_of_host needed host = option_map_or (λ h. bytes_eq host h) needed true

-- a text that isn't given is met by each list of texts, and another by those that have it
abbrev pub has : Option (List ℕ) → List (List ℕ) → Bool
has needed texts = option_map_or (λ t. list_any (λ given. bytes_eq given t) texts) needed true

-- all that is given is met: the host is the snapshot's, the tag and the path are among its own
abbrev pub meets : NeedsData → FactsData → Bool
meets needs facts = is_of_host needs.host facts.host && has needs.tag facts.tags && has needs.path facts.paths

-- by the facts of a snapshot: each snapshot; the host is the text; the text is one of the tags; one of the paths; the
-- name is this one; all that is needed is met
abbrev pub picks : Pick → FactsData → Bool
picks Any facts = true
picks (Host host) facts = bytes_eq facts.host (string_bytes host)
picks (Tagged tag) facts = list_any (λ given. bytes_eq given (string_bytes tag)) facts.tags
picks (Path path) facts = list_any (λ given. bytes_eq given (string_bytes path)) facts.paths
picks (Named name) facts = id_eq facts.name name
picks (Meeting needs) facts = meets (needs_view needs) facts
