-- The names of vetoes and watches that are armed.
use Rattle.std.specs.Prelude.{ℕ, ◌+◌, ◌≤◌, Bool, ◌||◌, List}
use Rattle.std.specs.List.{count_by, list_any}
use Rattle.std.specs.Str.{bytes_eq}
use Rattle.keep_hooks.specs.Guards.{ArmedData, HooksData, Rule}

-- whether it is the name of the veto, and of the watch
abbrev pub names_veto : List ℕ → Rule → Bool
names_veto name rule = bytes_eq rule.name name

abbrev pub names_watch : List ℕ → ArmedData → Bool
names_watch name watch = bytes_eq watch.name name

-- one of the vetoes or watches has the name
abbrev pub is_armed : List ℕ → HooksData → Bool
is_armed name hooks = list_any (names_veto name) hooks.vetoes || list_any (names_watch name) hooks.watches

-- no two have one name, be they vetoes or watches
abbrev pub HaveNoNameTwice : HooksData → Type 0
HaveNoNameTwice hooks =
    (name : List ℕ) → count_by (names_veto name) hooks.vetoes + count_by (names_watch name) hooks.watches ≤ 1
