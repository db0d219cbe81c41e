-- What is asked of a walk.
use Rattle.std.specs.Prelude.{◌≡◌, ℕ, ◌==◌, ◌&&◌, ◌||◌, Bool, true, not, Some, List, [], ◌∷◌, map, take, drop, length, string_bytes}
use Rattle.std.specs.HashMap.{get_by_text}
use Rattle.std.specs.List.{list_any}
use Rattle.std.specs.Str.{bytes_eq}
use Rattle.keep_names.specs.declared.id.Id.{Id}
use Rattle.keep_patterns.specs.Parsing.{PatternData, pattern_view}
use Rattle.keep_sources.specs.Excluding.{is_excluded}
use Rattle.keep_sources.specs.declared.scope.Scope.{Scope}
use Rattle.keep_sources.specs.declared.scope.Known.{Known}
use Rattle.keep_sources.specs.declared.stat.Stat.{Stat}

abbrev pub patterns_of : Scope → List PatternData
patterns_of job = map pattern_view job.excludes.items

abbrev pub paths_of : Scope → List (List ℕ)
paths_of job = map string_bytes job.paths.items

-- whether a text ends, or goes on with a slash
abbrev pub ends_or_parts : List ℕ → Bool
ends_or_parts [] = true
ends_or_parts (byte ∷ rest) = byte == 47

-- whether the path is the folder's, or lies below it: it begins with it, and ends there or goes on with a slash
abbrev pub is_within : List ℕ → List ℕ → Bool
is_within [] path = true
is_within (b ∷ folder) path =
    bytes_eq (take (length (b ∷ folder)) path) (b ∷ folder) && ends_or_parts (drop (length (b ∷ folder)) path)

-- whether the path lies within one of the paths, or one of them within it
abbrev pub is_wanted : List (List ℕ) → List ℕ → Bool
is_wanted paths path = list_any (λ chosen. is_within chosen path || is_within path chosen) paths

-- whether the path is asked for: it has to do with the paths, and no pattern takes it
abbrev pub is_asked : Scope → List ℕ → Bool
is_asked job path = is_wanted (paths_of job) path && not (is_excluded (patterns_of job) path)

-- an earlier backup has a file of this path, size and time, of these blobs
pub record IsUnchanged (job : Scope) (path : List ℕ) (sight : Stat) (content : List Id) : Type 0 where
  pub file : Known
  pub known : get_by_text job.known path ≡ Some file
  pub size : file.size ≡ sight.size
  pub time : file.mtime ≡ sight.mtime
  pub blobs : content ≡ file.content.items
