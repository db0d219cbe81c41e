-- What is put for the facets of a list, one after another, and for those of four lists.
use Rattle.std.proofs.Common.{◌≡◌, ℕ, ◌+◌, ◌<◌, ◌==◌, nat_lt, Bool, true, false, ◌||◌, List, [], ◌∷◌, ◌++◌, filter, get_or, length, map, take, refl, sym, ap, ap₂, ◌∙◌}
use Rattle.std.specs.List.{list_any}
use Rattle.std.proofs.lemmas.List.{map_more}
use Rattle.std.proofs.lemmas.List.Folds.{list_any-append}
use Rattle.keep_change.specs.Touch.{written_facets}
use Rattle.keep_change.specs.declared.change.Change.{Change}
use Rattle.keep_journal.specs.Journal.{Journal}
use Rattle.keep_repo.specs.declared.facet.Facet.{Facet}
use Rattle.keep_repo.specs.declared.facet.Facet.TheVariants.{File, Mark}
use Rattle.keep_touch.specs.Mentions.{mentions}
use Rattle.keep_touch.specs.declared.mention.Mention.{Mention}
use Rattle.keep_touch.specs.declared.touch.Touch.{Touch}
use Rattle.keep_touch.proofs.Listing.{written_listed}
use Rattle.keep_graph.specs.Leaning.{finders, finds}

or_assoc : (x y z : Bool) → (x || (y || z)) ≡ ((x || y) || z)
or_assoc true y z = refl
or_assoc false y z = refl

or-false : (x : Bool) → (x || false) ≡ x
or-false true = refl
or-false false = refl

-- one facet more
one_more : {X : Type 0} (p : Facet → Bool) (facet_of : X → Facet) (members : List X) (i : ℕ) (x : X) → i < length members → x ≡ get_or members i x
    → list_any p (map facet_of (take (i + 1) members)) ≡ (list_any p (map facet_of (take i members)) || p (facet_of x))
one_more p facet_of members i x within read =
    ap (list_any p) (map_more facet_of members i x within ∙ ap (λ y. map facet_of (take i members) ++ facet_of y ∷ []) (sym read))
    ∙ list_any-append p (map facet_of (take i members)) (facet_of x ∷ [])
    ∙ ap (λ b. list_any p (map facet_of (take i members)) || b) (or-false (p (facet_of x)))

pub puts_more : {X : Type 0} (facet_of : X → Facet) (members : List X) (i : ℕ) (x : X) (touch : Touch) (j : Journal) (n : ℕ)
    (was mid now : ℕ → Bool) (facet : Facet) (given : List Mention) → i < length members → x ≡ get_or members i x → facet ≡ facet_of x
    → given ≡ filter (λ mention. nat_lt n mention.number) (mentions touch facet)
    → ((m : ℕ) → mid m ≡ (was m || list_any (finds touch j n m) (map facet_of (take i members))))
    → ((m : ℕ) → now m ≡ (mid m || list_any (λ mention. mention.number == m) (finders j given)))
    → (m : ℕ) → now m ≡ (was m || list_any (finds touch j n m) (map facet_of (take (i + 1) members)))
puts_more facet_of members i x touch j n was mid now facet given within read is listed before puts m =
    let before_it : Bool = list_any (finds touch j n m) (map facet_of (take i members)) in
    let later : Facet → List Mention = λ f. filter (λ mention. nat_lt n mention.number) (mentions touch f) in
    let here : list_any (λ mention. mention.number == m) (finders j given) ≡ finds touch j n m (facet_of x) =
    ap (λ (ms : List Mention). list_any (λ mention. mention.number == m) (finders j ms)) (listed ∙ ap later is) in
    puts m ∙ ap₂ (λ (a b : Bool). a || b) (before m) here ∙ sym (or_assoc (was m) before_it (finds touch j n m (facet_of x)))
    ∙ ap (λ (b : Bool). was m || b) (sym (one_more (finds touch j n m) facet_of members i x within read))

-- ---- four lists

any-written : (p : Facet → Bool) (c : Change) → list_any p (written_facets c)
    ≡ ((list_any p (map (λ f. File f.name) c.adds) || list_any p (map (λ f. File f.name) c.drops))
    || (list_any p (map (λ m. Mark m.pack) c.sets) || list_any p (map (λ m. Mark m.pack) c.clears)))
any-written p c =
    ap (list_any p) (written_listed c)
    ∙ list_any-append p (map (λ f. File f.name) c.adds ++ map (λ f. File f.name) c.drops) (map (λ m. Mark m.pack) c.sets ++ map (λ m. Mark m.pack) c.clears)
    ∙ ap₂ (λ (a b : Bool). a || b) (list_any-append p (map (λ f. File f.name) c.adds) (map (λ f. File f.name) c.drops))
    (list_any-append p (map (λ m. Mark m.pack) c.sets) (map (λ m. Mark m.pack) c.clears))

regrouped : (w a b c d : Bool) → (((w || a) || b) || c) || d ≡ (w || ((a || b) || (c || d)))
regrouped w a b c d =
    ap (λ (x : Bool). (x || c) || d) (sym (or_assoc w a b)) ∙ sym (or_assoc (w || (a || b)) c d) ∙ sym (or_assoc w (a || b) (c || d))

pub puts_all : (c : Change) (p : ℕ → Facet → Bool) (was one two three now : ℕ → Bool)
    → ((m : ℕ) → one m ≡ (was m || list_any (p m) (map (λ f. File f.name) c.adds)))
    → ((m : ℕ) → two m ≡ (one m || list_any (p m) (map (λ f. File f.name) c.drops)))
    → ((m : ℕ) → three m ≡ (two m || list_any (p m) (map (λ m. Mark m.pack) c.sets)))
    → ((m : ℕ) → now m ≡ (three m || list_any (p m) (map (λ m. Mark m.pack) c.clears)))
    → (m : ℕ) → now m ≡ (was m || list_any (p m) (written_facets c))
puts_all c p was one two three now adds drops sets clears m =
    let a : Bool = list_any (p m) (map (λ f. File f.name) c.adds) in
    let b : Bool = list_any (p m) (map (λ f. File f.name) c.drops) in
    let s : Bool = list_any (p m) (map (λ m. Mark m.pack) c.sets) in
    let d : Bool = list_any (p m) (map (λ m. Mark m.pack) c.clears) in
    clears m
    ∙ ap (λ (x : Bool). x || d) (sets m ∙ ap (λ (x : Bool). x || s) (drops m ∙ ap (λ (x : Bool). x || b) (adds m)))
    ∙ regrouped (was m) a b s d ∙ ap (λ (x : Bool). was m || x) (sym (any-written (p m) c))
