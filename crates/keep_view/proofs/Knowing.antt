-- The snapshots that are known, told without the opening.
use Rattle.std.proofs.Common.{◌≡◌, ℕ, zero, suc, ◌+◌, ◌<◌, Bool, true, false, ◌||◌, ◌&&◌, cond, nat_lt, List, [], ◌∷◌, ◌++◌, map, take, length, get_or, Option, Some, None, Result, is_some, refl, sym, ap, ap₂, ◌∙◌, arith}
use Rattle.std.specs.Cmp.{eq_by_cmp_equiv}
use Rattle.std.specs.BTreeSet.{BTreeSet, contains}
use Rattle.std.specs.FinMap as finite
use Rattle.std.specs.FinSet as set
use Rattle.std.specs.List.{filter, flat_map, list_all, list_any}
use Rattle.std.specs.Option.{option_map}
use Rattle.std.specs.Ordering.{eq_by_cmp}
use Rattle.std.specs.Result.{IfOk}
use Rattle.std.proofs.Math.Bool.{or_assoc, or-false, or-true}
use Rattle.std.proofs.lemmas.List.Folds.{list_all-append, list_any-append, list_any_more}
use Rattle.std.proofs.lemmas.Result.{IfOk-weaker}
use Rattle.keep_names.proofs.Orders.{id_exact, id_total}
use Rattle.keep_names.specs.FileName.{named}
use Rattle.keep_names.specs.Orders.{id_cmp, name_cmp}
use Rattle.keep_names.specs.declared.file_name.FileName.{FileName}
use Rattle.keep_names.specs.declared.file_name.Kind.{Kind}
use Rattle.keep_names.specs.declared.file_name.Kind.TheVariants.{Pack, Index, Snapshot}
use Rattle.keep_names.specs.declared.id.Id.{Id}
use Rattle.keep_repo.specs.Facet.{Content, Stored, facet_eq}
use Rattle.keep_repo.specs.Repository.{Repository, held, is_filled}
use Rattle.keep_repo.specs.declared.facet.Facet.{Facet}
use Rattle.keep_repo.specs.declared.facet.Facet.TheVariants.{File, Mark}
use Rattle.keep_repo.proofs.Orders.{facet_eq_same}
use Rattle.keep_change.specs.Change.{Holding, added, asked, dropped, is_as_asked, is_as_written, is_met, is_ready, holds_same}
use Rattle.keep_change.specs.Filling.{fills}
use Rattle.keep_change.specs.Fold.{Numbered, first_break, fold_of}
use Rattle.keep_change.specs.Form.{HasNoFacetTwice}
use Rattle.keep_change.specs.Law.{HaveNoFacetTwice}
use Rattle.keep_change.specs.Lists.{file_names}
use Rattle.keep_change.specs.NamedBytes.{NamedBytes}
use Rattle.keep_change.specs.Result.{result_of}
use Rattle.keep_change.specs.Touch.{writes}
use Rattle.keep_change.specs.declared.change.Change.{Change}
use Rattle.keep_change.specs.declared.change.PackMark.{PackMark}
use Rattle.keep_change.proofs.Carry.{held-result_of, writes_once}
use Rattle.keep_change.proofs.Law.{no_break, unwritten}
use Rattle.keep_change.proofs.Records.{and_first, and_second}
use Rattle.keep_change.proofs.Touching.{list_any-written}
use Rattle.keep_journal.specs.History.{committed, final_number, is_in_force}
use Rattle.keep_journal.specs.Journal.{Journal}
use Rattle.keep_journal.specs.Kept.{is_kept, kept, later, unfinal}
use Rattle.keep_journal.proofs.Kept.{kept_later}
use Rattle.keep_journal.specs.Opening.{IsOpen}
use Rattle.keep_journal.proofs.Later.{no_facet_twice}
use Rattle.keep_repo.specs.Kinds.{ids_among}
use Rattle.keep_catalog.specs.Files.{ids_in}
use Rattle.keep_view.specs.Laws.{KnownAreThereOrAdded}
use Rattle.keep_view.specs.Shown.{added_by, known_of}
use Rattle.keep_view.specs.Telling.{has_snapshot, snapshot_file}
use Rattle.keep_view.proofs.Told.{adds_it, told_above}

-- ---- a list that is learnt

module _ {X : Type 0} (p : X → Bool) (xs : List X) (i : ℕ) (x d : X) (lt : i < length xs) (is : x ≡ get_or xs i d) where
  -- what knew the elements before knows one more
  pub one_learnt : (before now then : Bool) → now ≡ (before || list_any p (take i xs)) → then ≡ (now || p x) → then ≡ (before || list_any p (take (i + 1) xs))
  one_learnt before now then so step =
      step ∙ ap (λ b. b || p x) so ∙ or_assoc before (list_any p (take i xs)) (p x)
      ∙ ap (λ b. before || b) (ap (λ y. list_any p (take i xs) || p y) is ∙ sym (list_any_more p xs i d lt))

-- a snapshot that is put among those that are known
pub snapshot_learnt : (name : FileName) (known now : Bool) (id : Id) → name.kind ≡ Snapshot → now ≡ cond (eq_by_cmp id_cmp name.id id) true known
    → now ≡ (known || facet_eq (snapshot_file id) (File name))
snapshot_learnt name known now id is_snapshot step =
    let tied : facet_eq (snapshot_file id) (File name) ≡ eq_by_cmp id_cmp id name.id =
    ap (λ k. facet_eq (snapshot_file id) (File (record { kind = k; id = name.id }))) is_snapshot in
    step ∙ ap (λ b. cond b true known) ((eq_by_cmp_equiv id_total).symm name.id id) ∙ put_last (eq_by_cmp id_cmp id name.id) known
    ∙ ap (λ b. known || b) (sym tied)
  where
    put_last : (k a : Bool) → cond k true a ≡ (a || k)
    put_last true true = refl
    put_last true false = refl
    put_last false true = refl
    put_last false false = refl

-- ---- one change

no_mark : (name : FileName) (ms : List PackMark) → list_any (facet_eq (File name)) (map (λ m. Mark m.pack) ms) ≡ false
no_mark name [] = refl
no_mark name (m ∷ ms) = no_mark name ms

any_of_files : (q : Facet) (files : List NamedBytes) → list_any (facet_eq q) (map (λ f. File f.name) files) ≡ list_any (λ f. facet_eq q (File f.name)) files
any_of_files q [] = refl
any_of_files q (f ∷ fs) = ap (λ b. facet_eq q (File f.name) || b) (any_of_files q fs)

-- whether the file is one of these
abbrev has_file : FileName → List NamedBytes → Bool
has_file name files = list_any (λ f. facet_eq (File name) (File f.name)) files

-- a change that neither adds nor drops a file doesn't write it
unwritten_file : (c : Change) (name : FileName) → has_file name c.adds ≡ false → has_file name c.drops ≡ false → writes c (File name) ≡ false
unwritten_file c name adds drops =
    list_any-written (facet_eq (File name)) c
    ∙ rw (any_of_files (File name) c.adds, any_of_files (File name) c.drops, no_mark name c.sets, no_mark name c.clears, adds, drops) refl

left_alone : (c : Change) (r : Repository) (name : FileName) → HasNoFacetTwice c → has_file name c.adds ≡ false → has_file name c.drops ≡ false
    → is_filled (result_of c r) (File name) ≡ is_filled r (File name)
left_alone c r name once adds drops =
    ap (λ (h : Holding). is_some (h (File name))) (held-result_of c (writes_once c once) r)
    ∙ ap is_some (unwritten c (held r) (File name) (unwritten_file c name adds drops))

holds_some : (o : Option Content) (bytes : List ℕ) → holds_same o (Some (Stored bytes)) ≡ true → is_some o ≡ true
holds_some None bytes e = cc e
holds_some (Some content) bytes e = refl

found_there : (h : Holding) (name : FileName) (files : List NamedBytes) → list_all (is_as_written h) (map dropped files) ≡ true → has_file name files ≡ true
    → is_some (h (File name)) ≡ true
found_there h name [] ready e = cc e
found_there h name (f ∷ fs) ready e =
    split (facet_eq (File name) (File f.name)) refl e (found_there h name fs (and_second (is_as_written h (dropped f)) _ ready)) where
      split : (b : Bool) → facet_eq (File name) (File f.name) ≡ b → (b || has_file name fs) ≡ true → (has_file name fs ≡ true → is_some (h (File name)) ≡ true)
          → is_some (h (File name)) ≡ true
      split true tied _ later =
          ap (λ q. is_some (h q)) (facet_eq_same (File name) (File f.name) tied)
          ∙ holds_some (h (File f.name)) f.bytes (and_first _ (list_all (is_as_written h) (map dropped fs)) ready)
      split false _ rest later = later rest

-- what a change drops is there before it
dropped_there : (c : Change) (h : Holding) (name : FileName) → is_met h c ≡ true → has_file name c.drops ≡ true → is_some (h (File name)) ≡ true
dropped_there c h name met drops =
    let ready = and_first (is_ready h c) (list_all (is_as_asked h) (asked c)) met in
    let behind = and_second (list_all (is_as_written h) (map added c.adds)) _ (sym (list_all-append (is_as_written h) (map added c.adds) _) ∙ ready) in
    found_there h name c.drops
    (and_first (list_all (is_as_written h) (map dropped c.drops)) _ (sym (list_all-append (is_as_written h) (map dropped c.drops) _) ∙ behind)) drops

-- ---- changes that are made in turn

one_more : (adds drops was made dropped added left : Bool) → (drops ≡ true → was ≡ true) → (adds ≡ false → drops ≡ false → made ≡ was)
    → ((left || dropped) || added) ≡ (made || added) → ((left || (drops || dropped)) || (adds || added)) ≡ (was || (adds || added))
one_more true drops was made dropped added left there same rest = or-true _ ∙ sym (or-true was)
one_more false true was made dropped added left there same rest = rw (there refl, or-true left) refl
one_more false false was made dropped added left there same rest = rest ∙ ap (λ b. b || added) (same refl refl)

-- what is left of them, or was dropped or added by one, was there before or was added
known_fold : (name : FileName) (ns : List Numbered) (r : Repository) → HaveNoFacetTwice ns → first_break ns r ≡ None
    → ((is_filled (fold_of ns r) (File name) || list_any (λ n. has_file name n.change.drops) ns) || list_any (λ n. has_file name n.change.adds) ns)
    ≡ (is_filled r (File name) || list_any (λ n. has_file name n.change.adds) ns)
known_fold name [] r once none = ap (λ b. b || false) (or-false (is_filled r (File name)))
known_fold name (n ∷ ns) r once none =
    let c = n.change in
    let parts = no_break (is_met (held r) c) (first_break ns (result_of c r)) n.number none in
    one_more (has_file name c.adds) (has_file name c.drops) (is_filled r (File name)) (is_filled (result_of c r) (File name)) _ _ _
    (dropped_there c (held r) name parts.0) (left_alone c r name (once zero n (omega arith)))
    (known_fold name ns (result_of c r) (λ k d within. once (suc k) d (omega arith)) parts.1)

-- ---- of kept changes and of others

kept_are_unfinal : (test : Numbered → Bool) (f g : ℕ → Bool) (ns : List Numbered) → list_any test (filter (λ n. f n.number && g n.number) ns) ≡ true
    → list_any test (filter (λ n. g n.number) ns) ≡ true
kept_are_unfinal test f g [] e = e
kept_are_unfinal test f g (n ∷ ns) e = split (f n.number) (g n.number) e (kept_are_unfinal test f g ns) where
  split : (a b : Bool) → list_any test (cond (a && b) (n ∷ filter (λ n. f n.number && g n.number) ns) (filter (λ n. f n.number && g n.number) ns)) ≡ true
      → (list_any test (filter (λ n. f n.number && g n.number) ns) ≡ true → list_any test (filter (λ n. g n.number) ns) ≡ true)
      → list_any test (cond b (n ∷ filter (λ n. g n.number) ns) (filter (λ n. g n.number) ns)) ≡ true
  split true true h rest = first (test n) h where
    first : (t : Bool) → (t || list_any test (filter (λ n. f n.number && g n.number) ns)) ≡ true → (t || list_any test (filter (λ n. g n.number) ns)) ≡ true
    first true _ = refl
    first false k = rest k
  split true false h rest = rest h
  split false true h rest = rw (rest h) (or-true (test n))
  split false false h rest = rest h

with_others : (left dropped added all was : Bool) → ((left || dropped) || added) ≡ (was || added) → (added ≡ true → all ≡ true)
    → (left || (all || dropped)) ≡ (was || all)
with_others left dropped added true was same more = or-true left ∙ sym (or-true was)
with_others left dropped true false was same more = cc (more refl)
with_others left dropped false false was same more = sym (or-false (left || dropped)) ∙ same

-- ---- the snapshots among files

one_named : (id x : Id) (kind : Kind) (names : List FileName) → list_any (eq_by_cmp id_cmp id) (ids_among Snapshot names) ≡ list_any (eq_by_cmp name_cmp (named Snapshot id)) names
    → list_any (eq_by_cmp id_cmp id) (ids_among Snapshot (record { kind = kind; id = x } ∷ names)) ≡ list_any (eq_by_cmp name_cmp (named Snapshot id)) (record { kind = kind; id = x } ∷ names)
one_named id x Pack names rest = rest
one_named id x Index names rest = rest
one_named id x Snapshot names rest = ap (λ b. eq_by_cmp id_cmp id x || b) rest

-- the snapshots among names are those whose names are there
among_named : (id : Id) (names : List FileName) → list_any (eq_by_cmp id_cmp id) (ids_among Snapshot names) ≡ list_any (eq_by_cmp name_cmp (named Snapshot id)) names
among_named id [] = refl
among_named id (name ∷ names) = one_named id name.id name.kind names (among_named id names)

snapshot_among : (r : Repository) (id : Id) → list_any (eq_by_cmp id_cmp id) (ids_in r Snapshot) ≡ is_filled r (snapshot_file id)
snapshot_among r id =
    among_named id (finite.keys r.files)
    ∙ sym (some_stored (finite.get r.files (named Snapshot id)) ∙ finite.contains_key-keys r.files (named Snapshot id))
  where
    some_stored : (o : Option (List ℕ)) → is_some (option_map Stored o) ≡ is_some o
    some_stored None = refl
    some_stored (Some bytes) = refl

by_name : (id : Id) (files : List NamedBytes) → list_any (eq_by_cmp name_cmp (named Snapshot id)) (file_names files) ≡ has_snapshot files id
by_name id [] = refl
by_name id (f ∷ files) = ap (λ b. facet_eq (snapshot_file id) (File f.name) || b) (by_name id files)

added_among : (id : Id) (files : List NamedBytes) → list_any (eq_by_cmp id_cmp id) (ids_among Snapshot (file_names files)) ≡ has_snapshot files id
added_among id files = among_named id (file_names files) ∙ by_name id files

-- ---- what is known

-- whether the snapshot is one of the opening, or one that these changes add
abbrev pub known_in : Repository → List Numbered → Id → Bool
known_in opening ns id =
    is_filled opening (snapshot_file id) || list_any (λ n. has_snapshot n.change.adds id) ns

-- known are the snapshots that are there, and those of which the changes tell
pub known_without_opening : (opening : Repository) (j : Journal) (live : Repository) (id : Id) → IsOpen opening j live
    → (is_filled live (snapshot_file id) || told_above j (final_number j) id) ≡ known_in opening (unfinal j) id
known_without_opening opening j live id is =
    let made = known_fold (record { kind = _; id = id }) (kept j) opening (no_facet_twice (is_kept j) j is.formed) is.unbroken in
    let drops : List Numbered → Bool = λ ns. list_any (λ n. has_snapshot n.change.drops id) ns in
    let all : Bool = list_any (λ n. has_snapshot n.change.adds id) (unfinal j) in
    ap (λ ns. is_filled live (snapshot_file id) || (all || drops ns)) (kept_later j)
    ∙ ap (λ r. is_filled r (snapshot_file id) || (all || drops (kept j))) is.state
    ∙ with_others (is_filled (fold_of (kept j) opening) (snapshot_file id)) (drops (kept j)) _ all (is_filled opening (snapshot_file id)) made
    (kept_are_unfinal (λ n. has_snapshot n.change.adds id) (is_in_force j) (nat_lt (final_number j)) (committed j))

-- where just the snapshots that are there are known, the changes tell the others
pub known_at_first : (opening : Repository) (j : Journal) (live : Repository) (id : Id) → IsOpen opening j live → (known : Bool) (n : ℕ)
    → n ≡ final_number j → known ≡ list_any (eq_by_cmp id_cmp id) (ids_in live Snapshot)
    → (known || told_above j n id) ≡ known_in opening (unfinal j) id
known_at_first opening j live id is known n final learnt =
    ap (λ b. b || told_above j n id) (learnt ∙ snapshot_among live id)
    ∙ ap (λ m. is_filled live (snapshot_file id) || told_above j m id) final ∙ known_without_opening opening j live id is

-- ---- what is known, as a set

all_added : (id : Id) (ns : List Numbered) → list_any (eq_by_cmp id_cmp id) (flat_map added_by ns) ≡ list_any (adds_it id) ns
all_added id [] = refl
all_added id (n ∷ ns) =
    list_any-append (eq_by_cmp id_cmp id) (added_by n) (flat_map added_by ns)
    ∙ ap₂ ◌||◌ (added_among id n.change.adds) (all_added id ns)

contains-known_of : (opening : Repository) (ns : List Numbered) (id : Id) → set.contains (known_of opening ns) id ≡ known_in opening ns id
contains-known_of opening ns id =
    set.contains-from_list id_total (ids_in opening Snapshot ++ flat_map added_by ns) id
    ∙ list_any-append (eq_by_cmp id_cmp id) (ids_in opening Snapshot) (flat_map added_by ns)
    ∙ ap₂ ◌||◌ (snapshot_among opening id) (all_added id ns)

-- it is what the opening has, and what one of the changes fills
pub known_are_there_or_added : KnownAreThereOrAdded
known_are_there_or_added opening ns id =
    contains-known_of opening ns id ∙ ap (λ b. is_filled opening (snapshot_file id) || b) (filled ns)
  where
    filled : (ns : List Numbered) → list_any (λ n. has_snapshot n.change.adds id) ns ≡ list_any (λ n. fills n.change (snapshot_file id)) ns
    filled [] = refl
    filled (n ∷ ns) = ap₂ ◌||◌ (sym (by_name id n.change.adds)) (filled ns)

-- a set of ids that has just those that are known is the set that is known
pub known_set : (opening : Repository) (ns : List Numbered) (known : BTreeSet Id) → ((id : Id) → contains id_cmp known id ≡ known_in opening ns id)
    → set.from_list known.keys ≡ known_of opening ns
known_set opening ns known each =
    set.same_set id_total id_exact _ _ (λ id. set.contains-from_list id_total known.keys id ∙ each id ∙ sym (contains-known_of opening ns id))

-- and it has just those of what is known
in_known_set : (known : BTreeSet Id) (all : set.FinSet id_cmp) → set.from_list known.keys ≡ all → (id : Id) → contains id_cmp known id ≡ set.contains all id
in_known_set known all same id = sym (set.contains-from_list id_total known.keys id) ∙ ap (λ s. set.contains s id) same

pub each_known : {E : Type 0} (r : Result (BTreeSet Id) E) (all : set.FinSet id_cmp) → IfOk r (λ known. set.from_list known.keys ≡ all)
    → IfOk r (λ known. (id : Id) → contains id_cmp known id ≡ set.contains all id)
each_known r all =
    IfOk-weaker r (λ known. set.from_list known.keys ≡ all) (λ known. (id : Id) → contains id_cmp known id ≡ set.contains all id)
    (λ known same. in_known_set known all same)
