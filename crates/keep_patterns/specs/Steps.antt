-- How a walk through the components of patterns goes from what a path has left open to what a name below it leaves.
use Rattle.std.specs.Prelude.{ℕ, ◌+◌, ◌==◌, Bool, false, not, ◌||◌, ◌&&◌, cond, List, [], ◌∷◌, ◌++◌, if◌then◌else◌}
use Rattle.keep_patterns.specs.Matching.{is_deep, matches_name}
use Rattle.keep_patterns.specs.Parsing.{PatternData}
use Rattle.keep_patterns.specs.declared.pattern.Component.{Component}
use Rattle.keep_patterns.specs.declared.rest.Rest.{Rest}
use Rattle.keep_patterns.specs.declared.step.Step.{Step}

-- whether rests begin with this one
abbrev pub begins : Rest → List Rest → Bool
begins rest [] = false
begins rest (r ∷ rests) = r.pattern == rest.pattern && r.used == rest.used

-- rests without this one, where they begin with it
abbrev pub behind : Rest → List Rest → List Rest
behind rest [] = []
behind rest (r ∷ rests) = if r.pattern == rest.pattern && r.used == rest.used then rests else (r ∷ rests)

-- where a walk is: behind which components of which pattern, whether these match the path, whether they match it
-- with the name, and the rests of the path that come after
pub record Stand : Type 0 where
  pub rest : Rest
  pub was : Bool
  pub is : Bool
  pub ahead : List Rest

abbrev pub step_view : Step → Stand
step_view step = record { rest = step.rest; was = step.was; is = step.is; ahead = step.ahead.now }

-- before the components of a pattern
abbrev pub begun : ℕ → Bool → List Rest → Stand
begun index anchored ahead =
    let rest : Rest = record { pattern = index; used = 0 } in
    record { rest = rest; was = begins rest ahead; is = begins rest ahead && not anchored; ahead = behind rest ahead }

-- behind one component more
abbrev pub stepped : List ℕ → Stand → Component → Stand
stepped name stand component =
    let rest : Rest = record { pattern = stand.rest.pattern; used = stand.rest.used + 1 } in
    record {
      rest = rest;
      was = begins rest stand.ahead;
      is = cond (is_deep component) (stand.is || begins rest stand.ahead) (stand.was && matches_name component name);
      ahead = behind rest stand.ahead;
    }

-- behind all components
abbrev pub walked : List ℕ → Stand → List Component → Stand
walked name stand [] = stand
walked name stand (component ∷ components) = walked name (stepped name stand component) components

-- the rest, where its components match the path with the name
abbrev pub found_at : Stand → List Rest
found_at stand = if stand.is then (stand.rest ∷ []) else []

-- all that are found on the way
abbrev pub found : List ℕ → Stand → List Component → List Rest
found name stand [] = found_at stand
found name stand (component ∷ components) = found_at stand ++ found name (stepped name stand component) components

-- those of all patterns from a place on
abbrev pub found_from : List ℕ → ℕ → List PatternData → List Rest → List Rest
found_from name index [] ahead = []
found_from name index (pattern ∷ patterns) ahead =
    let stand = begun index pattern.0 ahead in
    found name stand pattern.1 ++ found_from name (index + 1) patterns (walked name stand pattern.1).ahead

-- whether one of these patterns is used up
abbrev pub takes_from : List ℕ → ℕ → List PatternData → List Rest → Bool
takes_from name index [] ahead = false
takes_from name index (pattern ∷ patterns) ahead =
    let last = walked name (begun index pattern.0 ahead) pattern.1 in
    last.is || takes_from name (index + 1) patterns last.ahead

-- what the root leaves of components: what is behind each `**` that they begin with
abbrev pub opened : ℕ → ℕ → List Component → List Rest
opened index used [] = []
opened index used (component ∷ components) =
    if is_deep component
    then (record { pattern = index; used = used + 1 } ∷ opened index (used + 1) components)
    else []

-- what it leaves of all patterns from a place on
abbrev pub opened_from : ℕ → List PatternData → List Rest
opened_from index [] = []
opened_from index (pattern ∷ patterns) =
    (record { pattern = index; used = 0 } ∷ opened index 0 pattern.1) ++ opened_from (index + 1) patterns
