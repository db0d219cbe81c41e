-- What is found among the mentions of a facet is what is found among the changes.
use Rattle.std.proofs.Common.{◌≡◌, ℕ, ◌+◌, ◌<◌, ◌≤◌, nat_lt, nat_le, Bool, true, false, ◌&&◌, ◌||◌, cond, List, [], ◌∷◌, ◌++◌, length, get_or, map, reverse, take, Option, Some, None, refl, sym, ap, ◌∙◌, arith}
use Rattle.std.proofs.lemmas.Bool.{and_from, le-leb, lt-ltb}
use Rattle.std.proofs.lemmas.List.{map_more}
use Rattle.std.proofs.lemmas.List.Folds.{list_any-append}
use Rattle.std.specs.List.{cons_option, filter, filter_map, find, list_any, AllByRecursion}
use Rattle.std.specs.Option.{is_some, option_map}
use Rattle.keep_repo.specs.declared.facet.Facet.{Facet}
use Rattle.keep_repo.specs.declared.facet.Facet.TheVariants.{File, Mark}
use Rattle.keep_change.specs.Fold.{Numbered, first_leaning}
use Rattle.keep_change.specs.Touch.{touches, writes, written_facets}
use Rattle.keep_change.specs.declared.change.Change.{Change}
use Rattle.keep_journal.specs.History.{change_of, committed, final_number, is_in_force, last_change, CountsFrom, IsNumbered}
use Rattle.keep_journal.specs.Journal.{Journal}
use Rattle.keep_journal.specs.Kept.{earlier, is_kept, kept_change, later}
use Rattle.keep_journal.proofs.Commits.{is_some-change_of}
use Rattle.keep_journal.proofs.Kept.{above-past, kept_later, later_none}
use Rattle.keep_touch.specs.Finding.{first_among, first_toucher, first_writer, in_force, last_writer, sooner}
use Rattle.keep_touch.specs.Mentions.{mention_of, mentions, AreNoted}
use Rattle.keep_touch.specs.declared.mention.Mention.{Mention}
use Rattle.keep_touch.specs.declared.touch.Touch.{Touch}
use Rattle.keep_touch.proofs.Picking.{all_weaker, find_agree, find-filter, filter-filter, filter-reverse, filter_map-reverse}
use Rattle.keep_touch.proofs.Listing.{written_listed}
use Rattle.keep_touch.proofs.Rising.{Rises, later_rises}

-- ---- mentions and changes

-- a test of the number picks the same of both
filter_mentions : (s t : ℕ → Bool) (q : Facet) (ns : List Numbered) → AllByRecursion (λ n. s n.number ≡ t n.number) ns
    → filter (λ m. s m.number) (filter_map (mention_of q) ns) ≡ filter_map (mention_of q) (filter (λ n. t n.number) ns)
filter_mentions s t q [] all = refl
filter_mentions s t q (n ∷ ns) all = one (touches n.change q) (t n.number) refl (all.0) (filter_mentions s t q ns all.1)
  where
    one : (a b : Bool) → touches n.change q ≡ a → s n.number ≡ b
        → filter (λ m. s m.number) (filter_map (mention_of q) ns) ≡ filter_map (mention_of q) (filter (λ n. t n.number) ns)
        → filter (λ m. s m.number) (cons_option (cond a (Some (record { number = n.number; writes = writes n.change q })) None) (filter_map (mention_of q) ns))
        ≡ filter_map (mention_of q) (cond b (n ∷ filter (λ n. t n.number) ns) (filter (λ n. t n.number) ns))
    one true true at is rest = rw (is, at) (ap (λ ms. record { number = n.number; writes = writes n.change q } ∷ ms) rest)
    one true false at is rest = rw is rest
    one false true at is rest = rw at rest
    one false false at is rest = rest

-- and so does a test of whether the facet is written
find_mention : (w : Bool → Bool) (q : Facet) (ns : List Numbered)
    → option_map (λ m. m.number) (find (λ m. w m.writes) (filter_map (mention_of q) ns)) ≡ option_map (λ n. n.number) (find (λ n. touches n.change q && w (writes n.change q)) ns)
find_mention w q [] = refl
find_mention w q (n ∷ ns) = one (touches n.change q) (w (writes n.change q)) refl (find_mention w q ns)
  where
    one : (a b : Bool) → w (writes n.change q) ≡ b
        → option_map (λ m. m.number) (find (λ m. w m.writes) (filter_map (mention_of q) ns)) ≡ option_map (λ n. n.number) (find (λ n. touches n.change q && w (writes n.change q)) ns)
        → option_map (λ m. m.number) (find (λ m. w m.writes) (cons_option (cond a (Some (record { number = n.number; writes = writes n.change q })) None) (filter_map (mention_of q) ns)))
        ≡ option_map (λ n. n.number) (cond (a && b) (Some n) (find (λ n. touches n.change q && w (writes n.change q)) ns))
    one true true is rest = rw is refl
    one true false is rest = rw is rest
    one false b is rest = rest

-- what is written is touched
writes_touches : (c : Change) (q : Facet) → (touches c q && writes c q) ≡ writes c q
writes_touches c q = ap (λ b. b && writes c q) (list_any-append _ (written_facets c) _) ∙ absorbed (writes c q) _
  where
    absorbed : (a b : Bool) → ((a || b) && a) ≡ a
    absorbed true b = refl
    absorbed false true = refl
    absorbed false false = refl

and_true : (b : Bool) → (b && true) ≡ b
and_true true = refl
and_true false = refl

-- ---- those in force

-- numbers that count from k on stay below where they end
within_counts : (low k top : ℕ) (ns : List Numbered) → low ≤ k → k + length ns ≡ top → CountsFrom k ns → AllByRecursion (λ n. (low ≤ n.number) × (n.number < top)) ns
within_counts low k top [] le end counts = tt
within_counts low k top (n ∷ ns) le end counts =
    ((omega (arith, counts.0), omega (arith, counts.0)), within_counts low (k + 1) top ns (omega arith) (omega arith) counts.1)

is_there : (j : Journal) (n : ℕ) → IsNumbered j → j.base + 1 ≤ n → n < j.base + 1 + length (committed j) → is_some (kept_change j n) ≡ is_kept j n
is_there j n numbered low high = one (is_kept j n)
  where
    there : is_some (change_of j n) ≡ true
    there = is_some-change_of j n numbered ∙ and_from (nat_lt j.base n) (nat_le n (last_change j)) (lt-ltb j.base n (omega arith)) (le-leb n (last_change j) (omega arith))

    one : (b : Bool) → is_some (cond b (change_of j n) None) ≡ b
    one true = there
    one false = refl

all_there : (j : Journal) → IsNumbered j → AllByRecursion (λ n. in_force j n.number ≡ is_kept j n.number) (committed j)
all_there j numbered = all_weaker (λ n within. is_there j n.number numbered within.0 within.1) (committed j)
    (within_counts (j.base + 1) (j.base + 1) (j.base + 1 + length (committed j)) (committed j) (omega arith) refl numbered.commits)

and_comm : (a b : Bool) → (a && b) ≡ (b && a)
and_comm true true = refl
and_comm true false = refl
and_comm false true = refl
and_comm false false = refl

-- the mentions in force after n are those of the later changes
later_mentions : (touch : Touch) (j : Journal) (q : Facet) (n : ℕ) → AreNoted touch j → IsNumbered j
    → filter (λ m. in_force j m.number) (filter (λ m. nat_lt n m.number) (mentions touch q)) ≡ filter_map (mention_of q) (later j n)
later_mentions touch j q n noted numbered =
    filter-filter (λ m. in_force j m.number) (λ m. nat_lt n m.number) (mentions touch q)
    ∙ ap (filter (λ m. nat_lt n m.number && in_force j m.number)) (noted q)
    ∙ filter_mentions (λ m. nat_lt n m && in_force j m) (λ m. is_kept j m && nat_lt n m) q (committed j)
    (all_weaker (λ m same. and_comm (nat_lt n m.number) (in_force j m.number) ∙ ap (λ b. b && nat_lt n m.number) same) (committed j) (all_there j numbered))

-- and none is after the last change
pub none_after : (touch : Touch) (j : Journal) (q : Facet) (n : ℕ) → AreNoted touch j → IsNumbered j → last_change j ≤ n
    → filter (λ m. nat_lt n m.number) (mentions touch q) ≡ []
none_after touch j q n noted numbered end =
    ap (filter (λ m. nat_lt n m.number)) (noted q)
    ∙ filter_mentions (nat_lt n) (nat_lt n) q (committed j) (all_weaker (λ m same. refl) (committed j) (all_there j numbered))
    ∙ ap (filter_map (mention_of q)) (above-past j n numbered end)

below_top : (f a b : Bool) → ((a && b) && (f && a)) ≡ ((f && a) && b)
below_top true true true = refl
below_top true true false = refl
below_top true false b = refl
below_top false true true = refl
below_top false true false = refl
below_top false false b = refl

-- and those before n, above the last final change, those of the earlier ones
earlier_mentions : (touch : Touch) (j : Journal) (q : Facet) (n : ℕ) → AreNoted touch j → IsNumbered j
    → filter (λ m. in_force j m.number) (filter (λ m. nat_lt m.number n) (filter (λ m. nat_lt (final_number j) m.number) (mentions touch q)))
    ≡ filter_map (mention_of q) (earlier j n)
earlier_mentions touch j q n noted numbered =
    ap (filter (λ m. in_force j m.number)) (filter-filter (λ m. nat_lt m.number n) (λ m. nat_lt (final_number j) m.number) (mentions touch q))
    ∙ filter-filter (λ m. in_force j m.number) (λ m. nat_lt (final_number j) m.number && nat_lt m.number n) (mentions touch q)
    ∙ ap (filter (λ m. (nat_lt (final_number j) m.number && nat_lt m.number n) && in_force j m.number)) (noted q)
    ∙ filter_mentions (λ m. (nat_lt (final_number j) m && nat_lt m n) && in_force j m) (λ m. is_kept j m && nat_lt m n) q (committed j)
    (all_weaker (λ m same. ap (λ b. (nat_lt (final_number j) m.number && nat_lt m.number n) && b) same ∙ below_top (is_in_force j m.number) (nat_lt (final_number j) m.number) (nat_lt m.number n)) (committed j) (all_there j numbered))

-- ---- one facet

-- what the function finds of the list of a facet, cut at n
pub toucher_found : (touch : Touch) (j : Journal) (q : Facet) (n : ℕ) (list after : List Mention) (found : Option ℕ)
    → found ≡ option_map (λ m. m.number) (find (λ m. in_force j m.number) after)
    → after ≡ filter (λ m. nat_lt n m.number) list → list ≡ mentions touch q → AreNoted touch j → IsNumbered j → found ≡ first_toucher q (later j n)
toucher_found touch j q n list after found is cut listed noted numbered =
    is
    ∙ ap (λ ms. option_map (λ m. m.number) (find (λ m. in_force j m.number) ms)) (cut ∙ ap (filter (λ m. nat_lt n m.number)) listed)
    ∙ ap (option_map (λ m. m.number)) (find-filter (λ m. true) (λ m. in_force j m.number) (filter (λ m. nat_lt n m.number) (mentions touch q))
    ∙ ap (find (λ m. true)) (later_mentions touch j q n noted numbered))
    ∙ find_mention (λ w. true) q (later j n)
    ∙ ap (option_map (λ m. m.number)) (find_agree (λ m. touches m.change q && true) (λ m. touches m.change q) (λ m. and_true (touches m.change q)) (later j n))

writers_found : (q : Facet) (ns : List Numbered) → option_map (λ m. m.number) (find (λ m. m.writes) (filter_map (mention_of q) ns)) ≡ first_writer q ns
writers_found q ns =
    find_mention (λ w. w) q ns
    ∙ ap (option_map (λ m. m.number)) (find_agree (λ m. touches m.change q && writes m.change q) (λ m. writes m.change q) (λ m. writes_touches m.change q) ns)

pub writer_found : (touch : Touch) (j : Journal) (q : Facet) (n : ℕ) (list after : List Mention) (found : Option ℕ)
    → found ≡ option_map (λ m. m.number) (find (λ m. m.writes && in_force j m.number) after)
    → after ≡ filter (λ m. nat_lt n m.number) list → list ≡ mentions touch q → AreNoted touch j → IsNumbered j → found ≡ first_writer q (later j n)
writer_found touch j q n list after found is cut listed noted numbered =
    is
    ∙ ap (λ ms. option_map (λ m. m.number) (find (λ m. m.writes && in_force j m.number) ms)) (cut ∙ ap (filter (λ m. nat_lt n m.number)) listed)
    ∙ ap (option_map (λ m. m.number)) (find-filter (λ m. m.writes) (λ m. in_force j m.number) (filter (λ m. nat_lt n m.number) (mentions touch q))
    ∙ ap (find (λ m. m.writes)) (later_mentions touch j q n noted numbered))
    ∙ writers_found q (later j n)

pub last_writer_found : (touch : Touch) (j : Journal) (q : Facet) (n top : ℕ) (list after before : List Mention) (found : Option ℕ)
    → found ≡ option_map (λ m. m.number) (find (λ m. m.writes && in_force j m.number) (reverse before))
    → before ≡ filter (λ m. nat_lt m.number n) after → after ≡ filter (λ m. nat_lt top m.number) list → list ≡ mentions touch q → top ≡ final_number j
    → AreNoted touch j → IsNumbered j → found ≡ last_writer q (earlier j n)
last_writer_found touch j q n top list after before found is cut cut_below listed at_top noted numbered =
    is
    ∙ ap (λ ms. option_map (λ m. m.number) (find (λ m. m.writes && in_force j m.number) (reverse ms)))
    (cut ∙ ap (filter (λ m. nat_lt m.number n)) (cut_below ∙ ap (filter (λ m. nat_lt top m.number)) listed ∙ ap (λ t. filter (λ m. nat_lt t m.number) (mentions touch q)) at_top))
    ∙ ap (option_map (λ m. m.number)) (find-filter (λ m. m.writes) (λ m. in_force j m.number) (reverse (filter (λ m. nat_lt m.number n) (filter (λ m. nat_lt (final_number j) m.number) (mentions touch q))))
    ∙ ap (find (λ m. m.writes)) (filter-reverse (λ m. in_force j m.number) (filter (λ m. nat_lt m.number n) (filter (λ m. nat_lt (final_number j) m.number) (mentions touch q)))
    ∙ ap reverse (earlier_mentions touch j q n noted numbered)
    ∙ sym (filter_map-reverse (mention_of q) (earlier j n))))
    ∙ writers_found q (reverse (earlier j n))

-- ---- several facets

abbrev first : (Numbered → Bool) → List Numbered → Option ℕ
first p ns = option_map (λ n. n.number) (find p ns)

-- what is found among greater numbers comes later
none_sooner : (p : Numbered → Bool) (a k : ℕ) (ns : List Numbered) → a < k → Rises (λ n. n.number) k ns
    → (sooner (Some a) (first p ns) ≡ Some a) × (sooner (first p ns) (Some a) ≡ Some a)
none_sooner p a k [] above rises = (refl, refl)
none_sooner p a k (n ∷ ns) above rises = one (p n) (none_sooner p a (n.number + 1) ns (omega (arith, rises.0)) rises.1)
  where
    one : (b : Bool) → (sooner (Some a) (first p ns) ≡ Some a) × (sooner (first p ns) (Some a) ≡ Some a)
        → (sooner (Some a) (option_map (λ n. n.number) (cond b (Some n) (find p ns))) ≡ Some a)
        × (sooner (option_map (λ n. n.number) (cond b (Some n) (find p ns))) (Some a) ≡ Some a)
    one true rest = (ap Some (omega (arith, rises.0)), ap Some (omega (arith, rises.0)))
    one false rest = rest

-- the sooner one of two that are found is found by both tests at once
either_found : (p r : Numbered → Bool) (k : ℕ) (ns : List Numbered) → Rises (λ n. n.number) k ns → sooner (first p ns) (first r ns) ≡ first (λ n. p n || r n) ns
either_found p r k [] rises = refl
either_found p r k (n ∷ ns) rises = one (p n) (r n) (either_found p r (n.number + 1) ns rises.1)
  where
    one : (a b : Bool) → sooner (first p ns) (first r ns) ≡ first (λ n. p n || r n) ns
        → sooner (option_map (λ n. n.number) (cond a (Some n) (find p ns))) (option_map (λ n. n.number) (cond b (Some n) (find r ns)))
        ≡ option_map (λ n. n.number) (cond (a || b) (Some n) (find (λ n. p n || r n) ns))
    one true true rest = ap Some (omega arith)
    one true false rest = (none_sooner r n.number (n.number + 1) ns (omega arith) rises.1).0
    one false true rest = (none_sooner p n.number (n.number + 1) ns (omega arith) rises.1).1
    one false false rest = rest

pub among_append : (j : Journal) (n : ℕ) (fs gs : List Facet) → IsNumbered j
    → sooner (first_among fs (later j n)) (first_among gs (later j n)) ≡ first_among (fs ++ gs) (later j n)
among_append j n fs gs numbered =
    either_found (λ m. list_any (touches m.change) fs) (λ m. list_any (touches m.change) gs) (j.base + 1) (later j n) (later_rises j n numbered)
    ∙ ap (option_map (λ m. m.number)) (find_agree _ _ (λ m. sym (list_any-append (touches m.change) fs gs)) (later j n))

or_false : (b : Bool) → (b || false) ≡ b
or_false true = refl
or_false false = refl

pub among_one : (q : Facet) (ns : List Numbered) → first_toucher q ns ≡ first_among (q ∷ []) ns
among_one q ns = ap (option_map (λ m. m.number)) (find_agree _ _ (λ m. sym (or_false (touches m.change q))) ns)

-- one member more
pub among_more : {X : Type 0} (facet_of : X → Facet) (members : List X) (i : ℕ) (x : X) (j : Journal) (n : ℕ) (first toucher : Option ℕ)
    → IsNumbered j → i < length members → x ≡ get_or members i x
    → first ≡ first_among (map facet_of (take i members)) (later j n) → toucher ≡ first_toucher (facet_of x) (later j n)
    → sooner first toucher ≡ first_among (map facet_of (take (i + 1) members)) (later j n)
among_more facet_of members i x j n first toucher numbered within read before is =
    let longer : map facet_of (take (i + 1) members) ≡ map facet_of (take i members) ++ facet_of x ∷ [] =
    map_more facet_of members i x within ∙ ap (λ y. map facet_of (take i members) ++ facet_of y ∷ []) (sym read) in
    ap (λ o. sooner o toucher) before
    ∙ ap (sooner (first_among (map facet_of (take i members)) (later j n))) (is ∙ among_one (facet_of x) (later j n))
    ∙ among_append j n (map facet_of (take i members)) (facet_of x ∷ []) numbered
    ∙ ap (λ fs. first_among fs (later j n)) (sym longer)

-- the four lists of what a change writes
pub leaning_found : (j : Journal) (n : ℕ) (c : Change) (adds drops sets clears : Option ℕ) → IsNumbered j
    → adds ≡ first_among (map (λ f. File f.name) c.adds) (later j n) → drops ≡ first_among (map (λ f. File f.name) c.drops) (later j n)
    → sets ≡ first_among (map (λ m. Mark m.pack) c.sets) (later j n) → clears ≡ first_among (map (λ m. Mark m.pack) c.clears) (later j n)
    → sooner (sooner adds drops) (sooner sets clears) ≡ first_leaning c (later j n)
leaning_found j n c adds drops sets clears numbered a d s k =
    let files : sooner adds drops ≡ first_among (map (λ f. File f.name) c.adds ++ map (λ f. File f.name) c.drops) (later j n) =
    ap (λ o. sooner o drops) a ∙ ap (sooner (first_among (map (λ f. File f.name) c.adds) (later j n))) d ∙ among_append j n _ _ numbered in
    let marks : sooner sets clears ≡ first_among (map (λ m. Mark m.pack) c.sets ++ map (λ m. Mark m.pack) c.clears) (later j n) =
    ap (λ o. sooner o clears) s ∙ ap (sooner (first_among (map (λ m. Mark m.pack) c.sets) (later j n))) k ∙ among_append j n _ _ numbered in
    ap (λ o. sooner o (sooner sets clears)) files
    ∙ ap (sooner (first_among (map (λ f. File f.name) c.adds ++ map (λ f. File f.name) c.drops) (later j n))) marks
    ∙ among_append j n _ _ numbered
    ∙ ap (λ fs. first_among fs (later j n)) (sym (written_listed c))

-- where all changes are final, none is before another
pub earlier_none : (j : Journal) (n : ℕ) → IsNumbered j → last_change j ≤ final_number j → earlier j n ≡ []
earlier_none j n numbered end =
    sym (filter-filter (λ m. nat_lt m.number n) (λ m. is_kept j m.number) (committed j))
    ∙ ap (filter (λ m. nat_lt m.number n)) (sym (kept_later j) ∙ later_none j (final_number j) numbered end)

pub among_none : (ns : List Numbered) → first_among [] ns ≡ None
among_none [] = refl
among_none (n ∷ ns) = among_none ns
