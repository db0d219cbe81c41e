-- What patterns match, by cases on their first piece: one scheme for components and for characters.
use Rattle.std.specs.Prelude.{ℕ, ◌==◌, Bool, true, false, ◌||◌, ◌&&◌, cond, List, [], ◌∷◌}
use Rattle.keep_patterns.specs.declared.pattern.Component.{Component}
use Rattle.keep_patterns.specs.declared.pattern.Component.TheVariants.{AnyDepth, Name}

-- whether a list has no elements
abbrev pub is_nil : {A : Type 0} → List A → Bool
is_nil [] = true
is_nil (x ∷ xs) = false

-- whether the list or one of its tails passes the test
abbrev pub any_tail : {A : Type 0} → (List A → Bool) → List A → Bool
any_tail test [] = test []
any_tail test (x ∷ xs) = test (x ∷ xs) || any_tail test xs

-- whether the list has a first element that passes one test, and the rest passes the other
abbrev pub first_and_rest : {A : Type 0} → (A → Bool) → (List A → Bool) → List A → Bool
first_and_rest one test [] = false
first_and_rest one test (x ∷ xs) = one x && test xs

-- whether pieces fit a list: some of them take any number of its elements, each other one element
abbrev pub fits : {P A : Type 0} → (P → Bool) → (P → A → Bool) → List P → List A → Bool
fits many one [] xs = is_nil xs
fits many one (p ∷ ps) xs =
    cond (many p) (any_tail (fits many one ps) xs) (first_and_rest (one p) (fits many one ps) xs)

-- whether a character of a pattern is `*`, which takes any number of characters
abbrev pub is_star : ℕ → Bool
is_star p = p == 42

-- whether a character of a pattern takes a character: `?` takes each, another one itself
abbrev pub takes : ℕ → ℕ → Bool
takes p c = p == 63 || p == c

-- whether a name fits a pattern of characters
abbrev pub name_fits : List ℕ → List ℕ → Bool
name_fits = fits is_star takes

-- whether a component is `**`, which takes any number of components
abbrev pub is_deep : Component → Bool
is_deep AnyDepth = true
is_deep (Name letters) = false

-- whether a component takes a name
abbrev pub matches_name : Component → List ℕ → Bool
matches_name AnyDepth name = false
matches_name (Name letters) name = name_fits letters name

-- whether a path fits components
abbrev pub path_fits : List Component → List (List ℕ) → Bool
path_fits = fits is_deep matches_name

-- whether a pattern matches a path: from its root where it is anchored, else from anywhere
abbrev pub matches : Bool → List Component → List (List ℕ) → Bool
matches true components path = path_fits components path
matches false components path = any_tail (path_fits components) path
