-- How far a walk to the next star comes.
use Rattle.std.specs.Prelude.{ℕ, ◌≡◌, ◌<◌, Bool, true, false, List, length}
use Rattle.keep_patterns.specs.Matching.{any_tail, name_fits, path_fits}
use Rattle.keep_patterns.specs.declared.name_match.Stop.{Stop}
use Rattle.keep_patterns.specs.declared.name_match.Stop.TheVariants.{Whole, Apart, Star}
use Rattle.keep_patterns.specs.declared.matching.Halt.{Halt}
use Rattle.keep_patterns.specs.declared.matching.Halt.TheVariants.{Taken, Missed, Deep}
use Rattle.keep_patterns.specs.declared.pattern.Component.{Component}

-- What is behind a star decides alone: an earlier start of the pattern gains nothing.
abbrev pub IsLeft : {P A : Type 0} → (List P → List A → Bool) → List P → List A → List P → List A → Type 0
IsLeft fit pattern text behind rest =
    (any_tail (fit pattern) text ≡ any_tail (fit behind) rest) × (length behind < length pattern)

-- from the beginning of a text
abbrev pub Walked : List ℕ → List ℕ → Stop → Type 0
Walked pattern text Whole = name_fits pattern text ≡ true
Walked pattern text Apart = name_fits pattern text ≡ false
Walked pattern text (Star behind rest) =
    (name_fits pattern text ≡ any_tail (name_fits behind.now) rest.now)
    × IsLeft name_fits pattern text behind.now rest.now

-- from the beginning of some tail of a text
abbrev pub Sought : List ℕ → List ℕ → Stop → Type 0
Sought pattern text Whole = any_tail (name_fits pattern) text ≡ true
Sought pattern text Apart = any_tail (name_fits pattern) text ≡ false
Sought pattern text (Star behind rest) = IsLeft name_fits pattern text behind.now rest.now

-- from the root of a path
abbrev pub WalkedPath : List Component → List (List ℕ) → Halt → Type 0
WalkedPath components path Taken = path_fits components path ≡ true
WalkedPath components path Missed = path_fits components path ≡ false
WalkedPath components path (Deep behind rest) =
    (path_fits components path ≡ any_tail (path_fits behind.now) rest.now)
    × IsLeft path_fits components path behind.now rest.now

-- from the root of some tail of a path
abbrev pub SoughtPath : List Component → List (List ℕ) → Halt → Type 0
SoughtPath components path Taken = any_tail (path_fits components) path ≡ true
SoughtPath components path Missed = any_tail (path_fits components) path ≡ false
SoughtPath components path (Deep behind rest) = IsLeft path_fits components path behind.now rest.now
