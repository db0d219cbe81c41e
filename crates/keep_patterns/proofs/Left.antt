-- What a path has left open, and how a walk goes from it to what a name below leaves.
use Rattle.std.proofs.Common.{◌≡◌, ◌≢◌, ◌<◌, ◌≤◌, ℕ, suc, ◌+◌, ◌==◌, Bool, true, false, not, ◌&&◌, ◌||◌, cond, List, [], ◌∷◌, ◌++◌, length, map, take, refl, sym, ap, ap₂, ◌∙◌, arith, append_assoc, append-nil, eq-eqb, ne_eqb, length-append}
use Rattle.std.proofs.Math.Seq.{take-append_seam}
use Rattle.std.specs.Prelude.{filter}
use Rattle.std.specs.List.{enumerate_from, flat_map, range_with_len}
use Rattle.keep_patterns.specs.Matching.{is_deep, matches, matches_name}
use Rattle.keep_patterns.specs.Parsing.{PatternData}
use Rattle.keep_patterns.specs.Rests.{left_at, left_of, used_at}
use Rattle.keep_patterns.specs.Steps.{Stand, begins, begun, behind, found, found_from, opened, opened_from, stepped, takes_from, walked}
use Rattle.keep_patterns.specs.Without.{is_matched}
use Rattle.keep_patterns.specs.declared.pattern.Component.{Component}
use Rattle.keep_patterns.specs.declared.pattern.Component.TheVariants.{AnyDepth, Name}
use Rattle.keep_patterns.specs.declared.rest.Rest.{Rest}
use Rattle.keep_patterns.proofs.Ends.{and_false, matches_more, matches_none, matches_root, nothing_at_root}

abbrev pub rest_of : ℕ → ℕ → Rest
rest_of index used = record { pattern = index; used = used }

-- ---- rests that come later

-- how rests begin, and what is behind their first
same_rest : (index used : ℕ) → (index == index && used == used) ≡ true
same_rest index used = ap₂ (λ a b. a && b) (eq-eqb index index refl) (eq-eqb used used refl)

stays : (rest : Rest) (rests : List Rest) → begins rest rests ≡ false → behind rest rests ≡ rests
stays rest [] none = refl
stays rest (r ∷ rests) none = ap (λ b. cond b rests (r ∷ rests)) none

-- where the rests begin with one that is there or isn't
record Read (rest : Rest) (there : Bool) (rests after : List Rest) : Type 0 where
  pub first : begins rest rests ≡ there
  pub left : behind rest rests ≡ after

read : (index used : ℕ) (b : Bool) (rests : List Rest) → begins (rest_of index used) rests ≡ false
    → Read (rest_of index used) b (cond b (rest_of index used ∷ rests) rests) rests
read index used true rests none =
    record { first = same_rest index used; left = ap (λ b. cond b rests (rest_of index used ∷ rests)) (same_rest index used) }
read index used false rests none = record { first = none; left = stays (rest_of index used) rests none }

-- none of the rests is one of this pattern
abbrev IsLater : ℕ → List Rest → Type 0
IsLater index rests = (used : ℕ) → begins (rest_of index used) rests ≡ false

-- ---- one pattern

module _ (index : ℕ) (test : List Component → Bool) where
  -- the rests behind some components that pass, and then others
  abbrev pub passing : List Rest → List Component → List Component → List Rest
  passing later before [] = later
  passing later before (c ∷ cs) =
      cond (test (before ++ c ∷ [])) (rest_of index (length before + 1) ∷ passing later (before ++ c ∷ []) cs) (passing later (before ++ c ∷ []) cs)

  -- with the one before them
  abbrev pub passing_all : List Rest → List Component → List Component → List Rest
  passing_all later before cs = cond (test before) (rest_of index (length before) ∷ passing later before cs) (passing later before cs)

  longer : (before : List Component) (c : Component) → length (before ++ c ∷ []) ≡ length before + 1
  longer before c = length-append before (c ∷ [])

  absent : (later : List Rest) → ((used : ℕ) → begins (rest_of index used) later ≡ false) → (before cs : List Component) (used : ℕ) → used ≤ length before
      → begins (rest_of index used) (passing later before cs) ≡ false
  absent later none before [] used low = none used
  absent later none before (c ∷ cs) used low =
      by (test (before ++ c ∷ [])) (absent later none (before ++ c ∷ []) cs used (let e = longer before c in omega arith))
    where
      by : (b : Bool) → begins (rest_of index used) (passing later (before ++ c ∷ []) cs) ≡ false
          → begins (rest_of index used) (cond b (rest_of index (length before + 1) ∷ passing later (before ++ c ∷ []) cs) (passing later (before ++ c ∷ []) cs)) ≡ false
      by true rest =
          let apart : length before + 1 ≢ used = omega arith in
          ap (λ b. index == index && b) (ne_eqb (length before + 1) used apart) ∙ and_false (index == index)
      by false rest = rest

  read_next : (later : List Rest) → ((used : ℕ) → begins (rest_of index used) later ≡ false) → (before : List Component) (c : Component) (cs : List Component)
      → Read (rest_of index (length before + 1)) (test (before ++ c ∷ [])) (passing later before (c ∷ cs)) (passing later (before ++ c ∷ []) cs)
  read_next later none before c cs =
      read index (length before + 1) (test (before ++ c ∷ [])) (passing later (before ++ c ∷ []) cs)
      (absent later none (before ++ c ∷ []) cs (length before + 1) (let e = longer before c in omega arith))

  read_first : (later : List Rest) → ((used : ℕ) → begins (rest_of index used) later ≡ false) → (cs : List Component)
      → Read (rest_of index 0) (test []) (passing_all later [] cs) (passing later [] cs)
  read_first later none cs = read index 0 (test []) (passing later [] cs) (absent later none [] cs 0 (omega arith))

  -- they are those that pass of all numbers of components
  chosen : (b : Bool) (used : ℕ) (more : List ℕ) (later : List Rest)
      → map (rest_of index) (cond b (used ∷ more) more) ++ later ≡ cond b (rest_of index used ∷ (map (rest_of index) more ++ later)) (map (rest_of index) more ++ later)
  chosen true used more later = refl
  chosen false used more later = refl

  passing_is : (later : List Rest) (all before cs : List Component) → before ++ cs ≡ all
      → map (rest_of index) (filter (λ used. test (take used all)) (range_with_len (length before) (length cs + 1))) ++ later ≡ passing_all later before cs
  passing_is later all before [] e =
      chosen (test (take (length before) all)) (length before) [] later
      ∙ ap (λ cs. cond (test cs) (rest_of index (length before) ∷ later) later) (ap (take (length before)) (sym e) ∙ take-append_seam before [])
  passing_is later all before (c ∷ cs) e =
      let more : length (c ∷ cs) + 1 ≡ suc (length cs + 1) = omega arith in
      let after : map (rest_of index) (filter (λ used. test (take used all)) (range_with_len (length before + 1) (length cs + 1))) ++ later ≡ passing later before (c ∷ cs) =
      ap (λ n. map (rest_of index) (filter (λ used. test (take used all)) (range_with_len n (length cs + 1))) ++ later) (sym (longer before c))
      ∙ passing_is later all (before ++ c ∷ []) cs (append_assoc before (c ∷ []) cs ∙ e)
      ∙ ap (λ n. cond (test (before ++ c ∷ [])) (rest_of index n ∷ passing later (before ++ c ∷ []) cs) (passing later (before ++ c ∷ []) cs)) (longer before c) in
      ap (λ n. map (rest_of index) (filter (λ used. test (take used all)) (range_with_len (length before) n)) ++ later) more
      ∙ chosen (test (take (length before) all)) (length before) (filter (λ used. test (take used all)) (range_with_len (length before + 1) (length cs + 1))) later
      ∙ ap₂ (λ a rests. cond (test a) (rest_of index (length before) ∷ rests) rests) (ap (take (length before)) (sym e) ∙ take-append_seam before (c ∷ cs)) after

left_of_is : (path : List (List ℕ)) (index : ℕ) (pattern : PatternData) (later : List Rest)
    → left_of path (index, pattern) ++ later ≡ passing_all index (λ cs. matches pattern.0 cs path) later [] pattern.1
left_of_is path index pattern later = passing_is index (λ cs. matches pattern.0 cs path) later pattern.1 [] pattern.1 refl

-- ---- all patterns from a place on

abbrev left_from : List (List ℕ) → ℕ → List PatternData → List Rest
left_from path index patterns = flat_map (left_of path) (enumerate_from index patterns)

placed_apart : (index used place : ℕ) → place ≢ index → (numbers : List ℕ) (rests : List Rest) → begins (rest_of index used) rests ≡ false
    → begins (rest_of index used) (map (rest_of place) numbers ++ rests) ≡ false
placed_apart index used place apart [] rests none = none
placed_apart index used place apart (n ∷ numbers) rests none = ap (λ b. b && n == used) (ne_eqb place index apart)

is_later : (path : List (List ℕ)) (index place : ℕ) (patterns : List PatternData) → index < place → IsLater index (left_from path place patterns)
is_later path index place [] low used = refl
is_later path index place (pattern ∷ patterns) low used =
    let apart : place ≢ index = omega arith in
    placed_apart index used place apart (used_at path pattern) (flat_map (left_of path) (enumerate_from (place + 1) patterns))
    (is_later path index (place + 1) patterns (omega arith) used)

-- ---- a walk

-- where it is behind some components, when what is ahead is what the path has left open
abbrev stand_at : ℕ → Bool → List (List ℕ) → List ℕ → List Rest → List Component → List Component → Stand
stand_at index anchored path name later before cs =
    record {
      rest = rest_of index (length before);
      was = matches anchored before path;
      is = matches anchored before (path ++ name ∷ []);
      ahead = passing index (λ cs. matches anchored cs path) later before cs;
    }

module _ (index : ℕ) (anchored : Bool) (path : List (List ℕ)) (name : List ℕ) (later : List Rest) (none : (used : ℕ) → begins (rest_of index used) later ≡ false) where
  begun_at : (cs : List Component) → begun index anchored (passing_all index (λ cs. matches anchored cs path) later [] cs) ≡ stand_at index anchored path name later [] cs
  begun_at cs =
      let first = read_first index (λ cs. matches anchored cs path) later none cs in
      let is_eq : (begins (rest_of index 0) (passing_all index (λ cs. matches anchored cs path) later [] cs) && not anchored) ≡ matches anchored [] (path ++ name ∷ []) =
      ap (λ b. b && not anchored) first.first ∙ matches_none anchored path name in
      λ i. record { rest = rest_of index 0; was = first.first i; is = is_eq i; ahead = first.left i }

  stepped_at : (before : List Component) (c : Component) (cs : List Component)
      → stepped name (stand_at index anchored path name later before (c ∷ cs)) c ≡ stand_at index anchored path name later (before ++ c ∷ []) cs
  stepped_at before c cs =
      let next = read_next index (λ cs. matches anchored cs path) later none before c cs in
      let len = sym (longer index (λ cs. matches anchored cs path) before c) in
      let is_eq : cond (is_deep c) (matches anchored before (path ++ name ∷ []) || begins (rest_of index (length before + 1)) (passing index (λ cs. matches anchored cs path) later before (c ∷ cs))) (matches anchored before path && matches_name c name) ≡ matches anchored (before ++ c ∷ []) (path ++ name ∷ []) =
      ap (λ b. cond (is_deep c) (matches anchored before (path ++ name ∷ []) || b) (matches anchored before path && matches_name c name)) next.first ∙ matches_more anchored before c path name in
      λ i. record { rest = rest_of index (len i); was = next.first i; is = is_eq i; ahead = next.left i }

  walked_at : (all before cs : List Component) → before ++ cs ≡ all → walked name (stand_at index anchored path name later before cs) cs ≡ stand_at index anchored path name later all []
  walked_at all before [] e = ap (λ b. stand_at index anchored path name later b []) (sym (append-nil before) ∙ e)
  walked_at all before (c ∷ cs) e =
      ap (λ s. walked name s cs) (stepped_at before c cs) ∙ walked_at all (before ++ c ∷ []) cs (append_assoc before (c ∷ []) cs ∙ e)

  shown : (b : Bool) (rest : Rest) (rests more all : List Rest) → rests ++ more ≡ all → cond b (rest ∷ []) [] ++ rests ++ more ≡ cond b (rest ∷ all) all
  shown true rest rests more all e = ap (λ xs. rest ∷ xs) e
  shown false rest rests more all e = e

  shown_last : (b : Bool) (rest : Rest) (more : List Rest) → cond b (rest ∷ []) [] ++ more ≡ cond b (rest ∷ more) more
  shown_last true rest more = refl
  shown_last false rest more = refl

  found_is : (more : List Rest) (before cs : List Component)
      → found name (stand_at index anchored path name later before cs) cs ++ more ≡ passing_all index (λ cs. matches anchored cs (path ++ name ∷ [])) more before cs
  found_is more before [] = shown_last (matches anchored before (path ++ name ∷ [])) (rest_of index (length before)) more
  found_is more before (c ∷ cs) =
      let behind_c : found name (stepped name (stand_at index anchored path name later before (c ∷ cs)) c) cs ++ more ≡ passing index (λ cs. matches anchored cs (path ++ name ∷ [])) more before (c ∷ cs) =
      ap (λ s. found name s cs ++ more) (stepped_at before c cs)
      ∙ found_is more (before ++ c ∷ []) cs
      ∙ ap (λ n. cond (matches anchored (before ++ c ∷ []) (path ++ name ∷ [])) (rest_of index n ∷ passing index (λ cs. matches anchored cs (path ++ name ∷ [])) more (before ++ c ∷ []) cs) (passing index (λ cs. matches anchored cs (path ++ name ∷ [])) more (before ++ c ∷ []) cs)) (longer index (λ cs. matches anchored cs path) before c) in
      shown (matches anchored before (path ++ name ∷ [])) (rest_of index (length before)) (found name (stepped name (stand_at index anchored path name later before (c ∷ cs)) c) cs) more _ behind_c

-- ---- all patterns

found_from_is : (path : List (List ℕ)) (name : List ℕ) (index : ℕ) (patterns : List PatternData)
    → found_from name index patterns (left_from path index patterns) ≡ left_from (path ++ name ∷ []) index patterns
found_from_is path name index [] = refl
found_from_is path name index (pattern ∷ patterns) =
    let later = left_from path (index + 1) patterns in
    let none : (used : ℕ) → begins (rest_of index used) later ≡ false = is_later path index (index + 1) patterns (omega arith) in
    let last = walked_at index pattern.0 path name later none pattern.1 [] pattern.1 refl in
    ap (λ ahead. found_from name index (pattern ∷ patterns) ahead) (left_of_is path index pattern later)
    ∙ ap (λ s. found name s pattern.1 ++ found_from name (index + 1) patterns (walked name s pattern.1).ahead) (begun_at index pattern.0 path name later none pattern.1)
    ∙ ap (λ (s : Stand). found name (stand_at index pattern.0 path name later [] pattern.1) pattern.1 ++ found_from name (index + 1) patterns s.ahead) last
    ∙ ap (λ rests. found name (stand_at index pattern.0 path name later [] pattern.1) pattern.1 ++ rests) (found_from_is path name (index + 1) patterns)
    ∙ found_is index pattern.0 path name later none (left_from (path ++ name ∷ []) (index + 1) patterns) [] pattern.1
    ∙ sym (left_of_is (path ++ name ∷ []) index pattern (left_from (path ++ name ∷ []) (index + 1) patterns))

takes_from_is : (path : List (List ℕ)) (name : List ℕ) (index : ℕ) (patterns : List PatternData)
    → takes_from name index patterns (left_from path index patterns) ≡ is_matched patterns (path ++ name ∷ [])
takes_from_is path name index [] = refl
takes_from_is path name index (pattern ∷ patterns) =
    let later = left_from path (index + 1) patterns in
    let none : (used : ℕ) → begins (rest_of index used) later ≡ false = is_later path index (index + 1) patterns (omega arith) in
    let last = walked_at index pattern.0 path name later none pattern.1 [] pattern.1 refl in
    ap (λ ahead. takes_from name index (pattern ∷ patterns) ahead) (left_of_is path index pattern later)
    ∙ ap (λ s. (walked name s pattern.1).is || takes_from name (index + 1) patterns (walked name s pattern.1).ahead) (begun_at index pattern.0 path name later none pattern.1)
    ∙ ap (λ (s : Stand). s.is || takes_from name (index + 1) patterns s.ahead) last
    ∙ ap (λ b. matches pattern.0 pattern.1 (path ++ name ∷ []) || b) (takes_from_is path name (index + 1) patterns)

-- ---- the root

none_more : (index : ℕ) (anchored : Bool) (later : List Rest) (before cs : List Component) → matches anchored before [] ≡ false
    → later ≡ passing index (λ cs. matches anchored cs []) later before cs
none_more index anchored later before [] none = refl
none_more index anchored later before (c ∷ cs) none =
    let ends : matches anchored (before ++ c ∷ []) [] ≡ false = sym (matches_root anchored before c) ∙ ap (λ b. cond (is_deep c) b false) none ∙ same (is_deep c) in
    none_more index anchored later (before ++ c ∷ []) cs ends
    ∙ ap (λ b. cond b (rest_of index (length before + 1) ∷ passing index (λ cs. matches anchored cs []) later (before ++ c ∷ []) cs) (passing index (λ cs. matches anchored cs []) later (before ++ c ∷ []) cs)) (sym ends)
  where
    same : (b : Bool) → cond b false false ≡ false
    same true = refl
    same false = refl

opened_is : (index : ℕ) (anchored : Bool) (later : List Rest) (before cs : List Component) → matches anchored before [] ≡ true
    → opened index (length before) cs ++ later ≡ passing index (λ cs. matches anchored cs []) later before cs
opened_is index anchored later before [] here = refl
opened_is index anchored later before (AnyDepth ∷ cs) here =
    let goes_on : matches anchored (before ++ AnyDepth ∷ []) [] ≡ true = sym (matches_root anchored before AnyDepth) ∙ here in
    ap (λ rests. rest_of index (length before + 1) ∷ rests)
    (ap (λ n. opened index n cs ++ later) (sym (longer index (λ cs. matches anchored cs []) before AnyDepth)) ∙ opened_is index anchored later (before ++ AnyDepth ∷ []) cs goes_on)
    ∙ ap (λ b. cond b (rest_of index (length before + 1) ∷ passing index (λ cs. matches anchored cs []) later (before ++ AnyDepth ∷ []) cs) (passing index (λ cs. matches anchored cs []) later (before ++ AnyDepth ∷ []) cs)) (sym goes_on)
opened_is index anchored later before (Name letters ∷ cs) here =
    let ends : matches anchored (before ++ Name letters ∷ []) [] ≡ false = sym (matches_root anchored before (Name letters)) in
    none_more index anchored later (before ++ Name letters ∷ []) cs ends
    ∙ ap (λ b. cond b (rest_of index (length before + 1) ∷ passing index (λ cs. matches anchored cs []) later (before ++ Name letters ∷ []) cs) (passing index (λ cs. matches anchored cs []) later (before ++ Name letters ∷ []) cs)) (sym ends)

opened_from_is : (index : ℕ) (patterns : List PatternData) → opened_from index patterns ≡ left_from [] index patterns
opened_from_is index [] = refl
opened_from_is index (pattern ∷ patterns) =
    let later = left_from [] (index + 1) patterns in
    let here = nothing_at_root pattern.0 in
    ap (λ rests. (rest_of index 0 ∷ opened index 0 pattern.1) ++ rests) (opened_from_is (index + 1) patterns)
    ∙ ap (λ rests. rest_of index 0 ∷ rests) (opened_is index pattern.0 later [] pattern.1 here)
    ∙ ap (λ b. cond b (rest_of index 0 ∷ passing index (λ cs. matches pattern.0 cs []) later [] pattern.1) (passing index (λ cs. matches pattern.0 cs []) later [] pattern.1)) (sym here)
    ∙ sym (left_of_is [] index pattern later)

-- ---- for the calls

pub opened-left_at : (patterns : List PatternData) → opened_from 0 patterns ≡ left_at patterns []
opened-left_at patterns = opened_from_is 0 patterns

pub found-left_at : (patterns : List PatternData) (path : List (List ℕ)) (name : List ℕ) → found_from name 0 patterns (left_at patterns path) ≡ left_at patterns (path ++ name ∷ [])
found-left_at patterns path name = found_from_is path name 0 patterns

pub takes-left_at : (patterns : List PatternData) (path : List (List ℕ)) (name : List ℕ) → takes_from name 0 patterns (left_at patterns path) ≡ is_matched patterns (path ++ name ∷ [])
takes-left_at patterns path name = takes_from_is path name 0 patterns
