-- What changes make of whole repositories, by what their facets hold.
use Rattle.std.proofs.Common.{◌≡◌, ℕ, ◌+◌, ◌≤◌, Bool, true, false, cond, ◌||◌, List, [], ◌∷◌, ◌++◌, map, Option, Some, None, if◌then◌else◌, count_by, All, refl, sym, ap, ap₂, ◌∙◌, arith}
use Rattle.std.specs.List.{list_any, AllByRecursion}
use Rattle.std.specs.Option.{option_map_or, option_or}
use Rattle.std.proofs.lemmas.List.{map-append}
use Rattle.std.proofs.lemmas.List.Elements.{recursion_from_All}
use Rattle.std.proofs.lemmas.List.Folds.{find-append}
use Rattle.std.proofs.lemmas.List.Sums.{sum_by-append, sum_by-cons}
use Rattle.std.specs.FinMap as finite
use Rattle.keep_repo.proofs.Held.{same_repository, held-insert_file, held-remove_file, held-insert_mark, held-remove_mark}
use Rattle.keep_repo.proofs.Orders.{facet_eq_same}
use Rattle.keep_repo.specs.Facet.{facet_eq}
use Rattle.keep_repo.specs.Repository.{Repository, held}
use Rattle.keep_repo.specs.declared.facet.Facet.{Facet}
use Rattle.keep_change.specs.NamedBytes.{NamedBytes}
use Rattle.keep_change.specs.declared.change.Change.{Change}
use Rattle.keep_change.specs.declared.change.PackMark.{PackMark}
use Rattle.keep_change.specs.Change.{Holding, Written, added, dropped, set, cleared, reversed, written, asked, is_ready, is_met, record_of, replaced}
use Rattle.keep_change.specs.Fold.{Numbered, fold_of, first_break}
use Rattle.keep_change.specs.Form.{HasNoFacetTwice}
use Rattle.keep_change.proofs.Holdings.{one_written, each_written, fold_holding, break_holding}
use Rattle.keep_change.specs.Result.{put_files, remove_files, put_marks, remove_marks, result_of, reverse_of}
use Rattle.keep_change.specs.Touch.{written_facets}
use Rattle.keep_change.proofs.Records.{WritesOnce, RecordAt, no_record, a_record, record_at, facets_of, once_head, once_tail, take_back}

-- ---- one record after another

pub each_written-append : (ws vs : List Written) (h : Holding) → each_written (ws ++ vs) h ≡ each_written vs (each_written ws h)
each_written-append [] vs h = refl
each_written-append (w ∷ ws) vs h = each_written-append ws vs (one_written w h)

-- where each facet has one record, their order is nothing to it
pub each_written_once : (ws : List Written) (h : Holding) → WritesOnce ws → (q : Facet) → each_written ws h q ≡ replaced ws h q
each_written_once [] h once q = refl
each_written_once (w ∷ ws) h once q =
    each_written_once ws (one_written w h) (once_tail w ws once) q
    ∙ elim (facet_eq w.facet q) as (λ b. facet_eq w.facet q ≡ b → option_map_or (λ v. v.after) (record_of ws q) (cond b w.after (h q)) ≡ option_map_or (λ v. v.after) (cond b (Some w) (record_of ws q)) (h q)) [
      | true ↦ λ e. ap (λ o. option_map_or (λ v. v.after) o w.after) (none_left e)
      | false ↦ λ e. refl
    ] refl
  where
    none_left : facet_eq w.facet q ≡ true → record_of ws q ≡ None
    none_left e = elim (record_at ws w.facet) as (λ _. record_of ws q ≡ None) [
      | no_record n a ↦ ap (record_of ws) (sym (facet_eq_same w.facet q e)) ∙ n
      | a_record v n a h ↦ cc (once_head w ws once, a)
    ]

-- ---- what the eight loops of a result make

held-put_files : (fs : List NamedBytes) (r : Repository) → held (record r { files = put_files fs r.files }) ≡ each_written (map added fs) (held r)
held-put_files [] r = refl
held-put_files (f ∷ fs) r =
    held-put_files fs (record r { files = finite.insert r.files f.name f.bytes })
    ∙ ap (each_written (map added fs)) (λ i q. held-insert_file r f.name f.bytes q i)

held-remove_files : (fs : List NamedBytes) (r : Repository) → held (record r { files = remove_files fs r.files }) ≡ each_written (map dropped fs) (held r)
held-remove_files [] r = refl
held-remove_files (f ∷ fs) r =
    held-remove_files fs (record r { files = finite.remove r.files f.name })
    ∙ ap (each_written (map dropped fs)) (λ i q. held-remove_file r f.name q i)

held-put_marks : (ms : List PackMark) (r : Repository) → held (record r { marks = put_marks ms r.marks }) ≡ each_written (map set ms) (held r)
held-put_marks [] r = refl
held-put_marks (m ∷ ms) r =
    held-put_marks ms (record r { marks = finite.insert r.marks m.pack m.mark })
    ∙ ap (each_written (map set ms)) (λ i q. held-insert_mark r m.pack m.mark q i)

held-remove_marks : (ms : List PackMark) (r : Repository) → held (record r { marks = remove_marks ms r.marks }) ≡ each_written (map cleared ms) (held r)
held-remove_marks [] r = refl
held-remove_marks (m ∷ ms) r =
    held-remove_marks ms (record r { marks = finite.remove r.marks m.pack })
    ∙ ap (each_written (map cleared ms)) (λ i q. held-remove_mark r m.pack q i)

held-each : (c : Change) (r : Repository) → held (result_of c r) ≡ each_written (written c) (held r)
held-each c r =
    let added_all : Repository = record r { files = put_files c.adds r.files } in
    let files_done : Repository = record added_all { files = remove_files c.drops added_all.files } in
    let set_all : Repository = record files_done { marks = put_marks c.sets files_done.marks } in
    held-remove_marks c.clears set_all
    ∙ ap (each_written (map cleared c.clears)) (held-put_marks c.sets files_done
    ∙ ap (each_written (map set c.sets)) (held-remove_files c.drops added_all
    ∙ ap (each_written (map dropped c.drops)) (held-put_files c.adds r)))
    ∙ sym (each_written-append (map added c.adds) _ (held r)
    ∙ each_written-append (map dropped c.drops) _ _
    ∙ each_written-append (map set c.sets) _ _)

-- ---- how often a facet stands in a list

abbrev pub times : Facet → List Written → ℕ
times q ws = count_by (facet_eq q) (facets_of ws)

pub times-append : (q : Facet) (ws vs : List Written) → times q (ws ++ vs) ≡ times q ws + times q vs
times-append q ws vs =
    ap (count_by (facet_eq q)) (map-append (λ w. w.facet) ws vs)
    ∙ sum_by-append (λ x. cond (facet_eq q x) 1 0) (facets_of ws) (facets_of vs)

times-reversed : (q : Facet) (ws : List Written) → times q (map reversed ws) ≡ times q ws
times-reversed q ws = ap (count_by (facet_eq q)) (same_facets ws)
  where
    same_facets : (ws : List Written) → facets_of (map reversed ws) ≡ facets_of ws
    same_facets [] = refl
    same_facets (w ∷ ws) = ap (λ fs. w.facet ∷ fs) (same_facets ws)

pub some_times : (p : Facet → Bool) (fs : List Facet) → list_any p fs ≡ true → 1 ≤ count_by p fs
some_times p [] e = cc e
some_times p (f ∷ fs) e =
    elim (p f) as (λ b. p f ≡ b → (b || list_any p fs) ≡ true → 1 ≤ count_by p (f ∷ fs)) [
      | true ↦ λ h k. omega (arith, sum_by-cons (λ x. cond (p x) 1 0) f fs, ap {B = ℕ} (λ b. cond b 1 0) h)
      | false ↦ λ h k. omega (arith, sum_by-cons (λ x. cond (p x) 1 0) f fs, some_times p fs k)
    ] refl e

-- a well formed change writes each facet once
pub writes_once : (c : Change) → HasNoFacetTwice c → WritesOnce (written c)
writes_once c once q = omega (arith, once q, sum_by-append (λ x. cond (facet_eq q x) 1 0) (written_facets c) (map (λ a. a.facet) (asked c)))

-- ---- the reverse of a change

record_of-append : (ws vs : List Written) (q : Facet) → record_of (ws ++ vs) q ≡ option_or (record_of ws q) (record_of vs q)
record_of-append ws vs q = find-append (λ w. facet_eq w.facet q) ws vs

-- of two lists that between them have one record of the facet, either may stand first
either_first : (ws vs : List Written) (q : Facet) → times q ws + times q vs ≤ 1 → option_or (record_of ws q) (record_of vs q) ≡ option_or (record_of vs q) (record_of ws q)
either_first ws vs q once = by_records (record_at ws q) (record_at vs q)
  where
    or_none : (o : Option Written) → o ≡ option_or o None
    or_none None = refl
    or_none (Some w) = refl

    by_records : RecordAt ws q → RecordAt vs q → option_or (record_of ws q) (record_of vs q) ≡ option_or (record_of vs q) (record_of ws q)
    by_records (no_record n a) other =
        ap (λ o. option_or o (record_of vs q)) n ∙ or_none (record_of vs q) ∙ ap (option_or (record_of vs q)) (sym n)
    by_records (a_record w n a same) (no_record m b) =
        ap (option_or (record_of ws q)) m ∙ sym (or_none (record_of ws q)) ∙ ap (λ o. option_or o (record_of ws q)) (sym m)
    by_records (a_record w n a same) (a_record v m b same') =
        absurd (omega (arith, once, some_times (facet_eq q) (facets_of ws) a, some_times (facet_eq q) (facets_of vs) b))

or_assoc : (a b c : Option Written) → option_or a (option_or b c) ≡ option_or (option_or a b) c
or_assoc None b c = refl
or_assoc (Some x) b c = refl

-- four lists of records, and the same with the first two and the last two in each other's place
four_records : (a b c d : List Written) (q : Facet) → times q (a ++ (b ++ (c ++ d))) ≤ 1 → record_of (b ++ (a ++ (d ++ c))) q ≡ record_of (a ++ (b ++ (c ++ d))) q
four_records a b c d q once =
    by_parts b a d c
    ∙ ap₂ option_or (either_first b a q first) (either_first d c q second)
    ∙ sym (by_parts a b c d)
  where
    by_parts : (a b c d : List Written) → record_of (a ++ (b ++ (c ++ d))) q ≡ option_or (option_or (record_of a q) (record_of b q)) (option_or (record_of c q) (record_of d q))
    by_parts a b c d =
        record_of-append a (b ++ (c ++ d)) q
        ∙ ap (option_or (record_of a q)) (record_of-append b (c ++ d) q ∙ ap (option_or (record_of b q)) (record_of-append c d q))
        ∙ or_assoc (record_of a q) (record_of b q) _

    first : times q b + times q a ≤ 1
    first = omega (arith, once, times-append q a (b ++ (c ++ d)), times-append q b (c ++ d))

    second : times q d + times q c ≤ 1
    second = omega (arith, once, times-append q a (b ++ (c ++ d)), times-append q b (c ++ d), times-append q c d)

map-reversed : {X : Type 0} (f g : X → Written) → ((x : X) → reversed (f x) ≡ g x) → (xs : List X) → map reversed (map f xs) ≡ map g xs
map-reversed f g h [] = refl
map-reversed f g h (x ∷ xs) = ap₂ ◌∷◌ (h x) (map-reversed f g h xs)

-- the records of a change, reversed, list by list
pub reversed_written : (c : Change) → map reversed (written c) ≡ map dropped c.adds ++ (map added c.drops ++ (map cleared c.sets ++ map set c.clears))
reversed_written c =
    map-append reversed (map added c.adds) _
    ∙ ap₂ ◌++◌ (map-reversed added dropped (λ x. refl) c.adds)
    (map-append reversed (map dropped c.drops) _
    ∙ ap₂ ◌++◌ (map-reversed dropped added (λ x. refl) c.drops)
    (map-append reversed (map set c.sets) _
    ∙ ap₂ ◌++◌ (map-reversed set cleared (λ x. refl) c.sets) (map-reversed cleared set (λ x. refl) c.clears)))

once_reversed : (c : Change) → WritesOnce (written c) → (q : Facet) → times q (map dropped c.adds ++ (map added c.drops ++ (map cleared c.sets ++ map set c.clears))) ≤ 1
once_reversed c once q = omega (arith, once q, times-reversed q (written c), ap (times q) (reversed_written c))

-- the reverse of a change writes what it writes, the other way round
pub record_of-reverse : (c : Change) → WritesOnce (written c) → (q : Facet) → record_of (written (reverse_of c)) q ≡ record_of (map reversed (written c)) q
record_of-reverse c once q =
    four_records (map dropped c.adds) (map added c.drops) (map cleared c.sets) (map set c.clears) q (once_reversed c once q)
    ∙ ap (λ ws. record_of ws q) (sym (reversed_written c))

pub replaced-reverse : (c : Change) → WritesOnce (written c) → (h : Holding) → replaced (written (reverse_of c)) h ≡ replaced (map reversed (written c)) h
replaced-reverse c once h = λ i q. option_map_or (λ w. w.after) (record_of-reverse c once q i) (h q)

times-reverse : (c : Change) (q : Facet) → times q (written (reverse_of c)) ≡ times q (written c)
times-reverse c q =
    let a = map dropped c.adds in
    let b = map added c.drops in
    let d = map cleared c.sets in
    let e = map set c.clears in
    omega (arith, times-reversed q (written c), ap (times q) (reversed_written c), times-append q a (b ++ (d ++ e)), times-append q b (d ++ e), times-append q d e, times-append q b (a ++ (e ++ d)), times-append q a (e ++ d), times-append q e d)

pub reverse_writes_once : (c : Change) → WritesOnce (written c) → WritesOnce (written (reverse_of c))
reverse_writes_once c once q = omega (arith, once q, times-reverse c q)

-- ---- whole repositories

-- what facets hold once a change is made
pub held-result_of : (c : Change) → WritesOnce (written c) → (r : Repository) → held (result_of c r) ≡ replaced (written c) (held r)
held-result_of c once r = held-each c r ∙ (λ i q. each_written_once (written c) (held r) once q i)

-- and once it is taken back
pub held-reverse_of : (c : Change) → WritesOnce (written c) → (r : Repository) → held (result_of (reverse_of c) r) ≡ replaced (map reversed (written c)) (held r)
held-reverse_of c once r = held-result_of (reverse_of c) (reverse_writes_once c once) r ∙ replaced-reverse c once (held r)

-- two repositories whose facets hold the same are one
pub same_held : (r s : Repository) → held r ≡ held s → r ≡ s
same_held r s e = same_repository r s (λ q i. e i q)

-- a change that is made and taken back leaves what was there
pub made_and_taken_back : (c : Change) (r : Repository) → WritesOnce (written c) → is_ready (held r) c ≡ true → result_of (reverse_of c) (result_of c r) ≡ r
made_and_taken_back c r once ready = same_held _ r
    (held-reverse_of c once (result_of c r) ∙ ap (replaced (map reversed (written c))) (held-result_of c once r) ∙ take_back (written c) (held r) ready)

-- ---- lists of changes

-- each of the changes writes each facet once
abbrev pub AllWriteOnce : List Numbered → Type 0
AllWriteOnce ns = AllByRecursion (λ n. WritesOnce (written n.change)) ns

pub all_write_once : (ns : List Numbered) → All (λ n. HasNoFacetTwice n.change) ns → AllWriteOnce ns
all_write_once ns h = each ns (recursion_from_All (λ n. HasNoFacetTwice n.change) ns h)
  where
    each : (ns : List Numbered) → AllByRecursion (λ n. HasNoFacetTwice n.change) ns → AllWriteOnce ns
    each [] k = tt
    each (n ∷ ns) k = (writes_once n.change k.0, each ns k.1)

-- what facets hold once the changes are made
pub held-fold_of : (ns : List Numbered) (r : Repository) → AllWriteOnce ns → held (fold_of ns r) ≡ fold_holding ns (held r)
held-fold_of [] r h = refl
held-fold_of (n ∷ ns) r h = held-fold_of ns (result_of n.change r) h.1 ∙ ap (fold_holding ns) (held-result_of n.change h.0 r)

-- and where one isn't met
pub first_break-held : (ns : List Numbered) (r : Repository) → AllWriteOnce ns → first_break ns r ≡ break_holding ns (held r)
first_break-held [] r h = refl
first_break-held (n ∷ ns) r h =
    ap (λ o. if is_met (held r) n.change then o else Some n.number)
    (first_break-held ns (result_of n.change r) h.1 ∙ ap (break_holding ns) (held-result_of n.change h.0 r))
