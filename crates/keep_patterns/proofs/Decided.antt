-- What a path has left open decides what is matched below it.
use Rattle.std.proofs.Common.{◌≡◌, ℕ, ◌+◌, false, ◌||◌, List, [], ◌∷◌, ◌++◌, refl, sym, ap, ap₂, subst, ◌∙◌, append_assoc, append-nil}
use Rattle.keep_patterns.specs.Parsing.{PatternData}
use Rattle.keep_patterns.specs.Rests.{left_at}
use Rattle.keep_patterns.specs.Steps.{Stand, found, found_from, stepped, takes_from, walked}
use Rattle.keep_patterns.specs.Without.{is_matched}
use Rattle.keep_patterns.specs.declared.pattern.Component.{Component}
use Rattle.keep_patterns.specs.declared.pattern.Component.TheVariants.{AnyDepth, Name}
use Rattle.keep_patterns.proofs.Left.{found-left_at, rest_of, takes-left_at}

below_same : (patterns : List PatternData) (one other : List (List ℕ)) → left_at patterns one ≡ left_at patterns other → (name : List ℕ)
    → left_at patterns (one ++ name ∷ []) ≡ left_at patterns (other ++ name ∷ [])
below_same patterns one other same name =
    sym (found-left_at patterns one name) ∙ ap (found_from name 0 patterns) same ∙ found-left_at patterns other name

-- a path and then names, one name at a time
one_down : (path : List (List ℕ)) (name : List ℕ) (names : List (List ℕ)) → path ++ name ∷ [] ++ names ≡ path ++ name ∷ names
one_down path name names = append_assoc path (name ∷ []) names

pub left_decides : (patterns : List PatternData) (one other : List (List ℕ)) → left_at patterns one ≡ left_at patterns other → (below : List (List ℕ))
    → left_at patterns (one ++ below) ≡ left_at patterns (other ++ below)
left_decides patterns one other same [] =
    ap (left_at patterns) (append-nil one) ∙ same ∙ ap (left_at patterns) (sym (append-nil other))
left_decides patterns one other same (name ∷ below) =
    ap (left_at patterns) (sym (one_down one name below))
    ∙ left_decides patterns (one ++ name ∷ []) (other ++ name ∷ []) (below_same patterns one other same name) below
    ∙ ap (left_at patterns) (one_down other name below)

pub left_decides_matched : (patterns : List PatternData) (one other : List (List ℕ)) → left_at patterns one ≡ left_at patterns other → (name : List ℕ) (below : List (List ℕ))
    → is_matched patterns (one ++ name ∷ below) ≡ is_matched patterns (other ++ name ∷ below)
left_decides_matched patterns one other same name [] =
    sym (takes-left_at patterns one name) ∙ ap (takes_from name 0 patterns) same ∙ takes-left_at patterns other name
left_decides_matched patterns one other same name (next ∷ below) =
    ap (is_matched patterns) (sym (one_down one name (next ∷ below)))
    ∙ left_decides_matched patterns (one ++ name ∷ []) (other ++ name ∷ []) (below_same patterns one other same name) next below
    ∙ ap (is_matched patterns) (one_down other name (next ∷ below))

-- where no components match the path
nowhere : ℕ → ℕ → Stand
nowhere index used = record { rest = rest_of index used; was = false; is = false; ahead = [] }

stepped_nowhere : (name : List ℕ) (index used : ℕ) (c : Component) → stepped name (nowhere index used) c ≡ nowhere index (used + 1)
unfolding nowhere
stepped_nowhere name index used AnyDepth = refl
stepped_nowhere name index used (Name letters) = refl

-- the walk finds nothing
record IsNowhere (stand : Stand) : Type 0 where
  pub is : stand.is ≡ false
  pub ahead : stand.ahead ≡ []

walked_nowhere : (name : List ℕ) (index used : ℕ) (cs : List Component) → IsNowhere (walked name (nowhere index used) cs)
unfolding nowhere
walked_nowhere name index used [] = record { is = refl; ahead = refl }
walked_nowhere name index used (c ∷ cs) =
    subst (λ s. IsNowhere (walked name s cs)) (sym (stepped_nowhere name index used c)) (walked_nowhere name index (used + 1) cs)

found_nowhere : (name : List ℕ) (index used : ℕ) (cs : List Component) → found name (nowhere index used) cs ≡ []
unfolding nowhere
found_nowhere name index used [] = refl
found_nowhere name index used (c ∷ cs) =
    ap (λ s. found name s cs) (stepped_nowhere name index used c) ∙ found_nowhere name index (used + 1) cs

found_from_nothing : (name : List ℕ) (index : ℕ) (patterns : List PatternData) → found_from name index patterns [] ≡ []
unfolding nowhere
found_from_nothing name index [] = refl
found_from_nothing name index (pattern ∷ patterns) =
    let ends = walked_nowhere name index 0 pattern.1 in
    ap₂ (λ rests ahead. rests ++ found_from name (index + 1) patterns ahead) (found_nowhere name index 0 pattern.1) ends.ahead
    ∙ found_from_nothing name (index + 1) patterns

takes_from_nothing : (name : List ℕ) (index : ℕ) (patterns : List PatternData) → takes_from name index patterns [] ≡ false
unfolding nowhere
takes_from_nothing name index [] = refl
takes_from_nothing name index (pattern ∷ patterns) =
    let ends = walked_nowhere name index 0 pattern.1 in
    ap₂ (λ b ahead. b || takes_from name (index + 1) patterns ahead) ends.is ends.ahead
    ∙ takes_from_nothing name (index + 1) patterns

pub nothing_left : (patterns : List PatternData) (path : List (List ℕ)) → left_at patterns path ≡ [] → (name : List ℕ) (below : List (List ℕ))
    → is_matched patterns (path ++ name ∷ below) ≡ false
nothing_left patterns path none name [] =
    sym (takes-left_at patterns path name) ∙ ap (takes_from name 0 patterns) none ∙ takes_from_nothing name 0 patterns
nothing_left patterns path none name (next ∷ below) =
    ap (is_matched patterns) (sym (one_down path name (next ∷ below)))
    ∙ nothing_left patterns (path ++ name ∷ []) (sym (found-left_at patterns path name) ∙ ap (found_from name 0 patterns) none ∙ found_from_nothing name 0 patterns) next below
