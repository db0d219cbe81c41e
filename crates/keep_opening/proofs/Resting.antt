-- What is due on a shelf that reads leads on, for each kind of event.
use Rattle.std.proofs.Common.{◌≡◌, ℕ, ◌<◌, ◌==◌, nat_le, Bool, true, false, cond, not, ◌&&◌, ◌||◌, List, [], ◌∷◌, ◌++◌, map, Option, Some, None, is_some, Ordering, Less, refl, sym, ap, ap₂, ◌∙◌, subst}
use Rattle.std.specs.FinMap as finite
use Rattle.std.specs.List.{AllByRecursion, filter, list_any}
use Rattle.std.specs.Option.{option_map_or}
use Rattle.std.specs.Ordering.{is_eq}
use Rattle.std.proofs.lemmas.Bool.{leb-true}
use Rattle.std.proofs.lemmas.List.Elements.{filter_agree}
use Rattle.std.proofs.lemmas.List.Folds.{list_any-append}
use Rattle.keep_change.specs.declared.change.Change.{Change}
use Rattle.keep_change.proofs.Records.{or_later}
use Rattle.keep_change.specs.declared.outline.What.{What}
use Rattle.keep_change.specs.declared.outline.What.TheVariants as what
use Rattle.keep_journal.specs.Event.{notice_of, what_by}
use Rattle.keep_journal.specs.Journal.{Journal}
use Rattle.keep_journal.specs.Opening.{AreWellFormed}
use Rattle.keep_journal.specs.History.{change_of, final_number, IsLegal}
use Rattle.keep_journal.specs.declared.event.Entry as the_entry
use Rattle.keep_journal.specs.declared.event.Event.{Event}
use Rattle.keep_journal.specs.declared.event.EventKind.{EventKind}
use Rattle.keep_journal.specs.declared.event.EventKind.TheVariants.{Commit, Undo, Redo, Empty}
use Rattle.keep_journal.specs.declared.event.Notice.{Notice}
use Rattle.keep_journal.proofs.Later.{well_formed_change}
use Rattle.keep_journal.specs.Lasting.{entry_at}
use Rattle.keep_shelf.specs.Key.{key_cmp}
use Rattle.keep_shelf.specs.Shelved.{Content}
use Rattle.keep_shelf.specs.declared.key.Key.{Key}
use Rattle.keep_shelf.specs.declared.key.Key.TheVariants.{Live, Trash, Entry}
use Rattle.keep_moves.specs.Lists.{moves_by}
use Rattle.keep_moves.specs.Move.{AllApart, Stand, key_eq, remains}
use Rattle.keep_moves.specs.declared.moves.Move.{Move}
use Rattle.keep_moves.specs.declared.moves.Move.TheVariants.{Erase}
use Rattle.keep_moves.proofs.Erased.{AllFilled, Distinct, all_filtered, all_mapped, all_weaker, can_erase, erased, is_in}
use Rattle.keep_moves.proofs.Keys.{key_eq_refl, key_eq_same}
use Rattle.keep_reading.specs.Settled.{cleared, last_event, settled, settled_by}
use Rattle.keep_reading.specs.Due.{BelongsTo, IsAmong, IsErasure, IsMoveOf, IsOver}
use Rattle.keep_reading.specs.Laws.{is_emptying}
use Rattle.keep_reading.proofs.Plain.{all_among, plain}
use Rattle.keep_opening.proofs.Along.{KeysRise, keys_rise}
use Rattle.keep_opening.proofs.Lasting.{LastTold, commit_told, settled_moves}
use Rattle.keep_opening.proofs.Whole.{found_there}
use Rattle.keep_opening.specs.Settling.{moves_for}
use Rattle.keep_opening.specs.Wanted.{is_files}
use Rattle.keep_opening.specs.Remaining.{IsDue, WhatIsDueLeadsOn, due_by, due_in, is_over, over_test}
use Rattle.keep_opening.proofs.Leading.{all_filter, commit_apart, left_can, left_leads, redo_apart, undo_apart}

-- ---- keys that are over

-- a key is among those that pass a test where it passes and is among all
in_filter : (p : Key → Bool) (q : Key) (keys : List Key) → is_in q (filter p keys) ≡ (p q && is_in q keys)
in_filter p q [] = none (p q)
  where
    none : (b : Bool) → false ≡ (b && false)
    none true = refl
    none false = refl
in_filter p q (key ∷ keys) = by (p key) refl (key_eq q key) refl (in_filter p q keys)
  where
    by : (b : Bool) → p key ≡ b → (e : Bool) → key_eq q key ≡ e → is_in q (filter p keys) ≡ (p q && is_in q keys)
        → is_in q (cond b (key ∷ filter p keys) (filter p keys)) ≡ (p q && (key_eq q key || is_in q keys))
    by true is true same rest =
        let here : p q ≡ true = ap p (key_eq_same q key same) ∙ is in
        ap (λ a. a || is_in q (filter p keys)) same ∙ sym (ap₂ (λ a b. a && (b || is_in q keys)) here same)
    by true is false other rest = ap (λ a. a || is_in q (filter p keys)) other ∙ rest ∙ sym (ap (λ a. p q && (a || is_in q keys)) other)
    by false is true same rest =
        let gone : p q ≡ false = ap p (key_eq_same q key same) ∙ is in
        rest ∙ ap (λ a. a && is_in q keys) gone ∙ sym (ap (λ a. a && (key_eq q key || is_in q keys)) gone)
    by false is false other rest = rest ∙ sym (ap (λ a. p q && (a || is_in q keys)) other)

none_in : (key : Key) (keys : List Key) → AllByRecursion (λ y. key_cmp key y ≡ Less) keys → is_in key keys ≡ false
none_in key [] all = refl
none_in key (k ∷ keys) all = ap (λ (r : Ordering). is_eq r || is_in key keys) all.0 ∙ none_in key keys all.1

distinct_filter : (p : Key → Bool) (keys : List Key) → KeysRise keys → Distinct (filter p keys)
distinct_filter p [] rise = tt
distinct_filter p (key ∷ keys) rise = by (p key) (distinct_filter p keys rise.1)
  where
    by : (b : Bool) → Distinct (filter p keys) → Distinct (cond b (key ∷ filter p keys) (filter p keys))
    by true rest = (none_in key (filter p keys) (all_filter (λ y. key_cmp key y ≡ Less) p keys rise.0), rest)
    by false rest = rest

-- each of the keys is among them
members : (front keys : List Key) → AllByRecursion (λ key. is_in key (front ++ keys) ≡ true) keys
members front [] = tt
members front (key ∷ keys) = (
  list_any-append (key_eq key) front (key ∷ keys) ∙ or_later (is_in key front) (is_in key (key ∷ keys)) (ap (λ b. b || is_in key keys) (key_eq_refl key)),
  all_weaker (λ k. is_in k ((front ++ key ∷ []) ++ keys) ≡ true) (λ k. is_in k (front ++ key ∷ keys) ≡ true) (λ k there. subst (λ (ks : List Key). is_in k ks ≡ true) (joined front key keys) there) keys (members (front ++ key ∷ []) keys),
)
  where
    joined : (xs : List Key) (x : Key) (ys : List Key) → (xs ++ x ∷ []) ++ ys ≡ xs ++ x ∷ ys
    joined [] x ys = refl
    joined (z ∷ xs) x ys = ap (λ zs. z ∷ zs) (joined xs x ys)

filled : (content : Content) → AllFilled (finite.get content) (finite.keys content)
filled content =
    all_weaker (λ key. is_in key (finite.keys content) ≡ true) (λ key. is_some (finite.get content key) ≡ true) (λ key there. finite.contains_key-keys content key ∙ there)
    (finite.keys content) (members [] (finite.keys content))

over_is : (n : ℕ) (j : Journal) (key : Key) → is_over n j key ≡ true → IsOver n j key
over_is n j (Live name) is = cc is
over_is n j (Trash m name) is = leb-true m n is
over_is n j (Entry k) is = by (entry_at j.entries k) is
  where
    by : (o : Option the_entry.Entry) → not (is_some o) ≡ true → o ≡ None
    by None e = refl
    by (Some x) e = cc e

-- ---- what is due

plain_due : (j : Journal) (n : ℕ) (kind : EventKind) (stand : Stand) → last_event j ≡ Some (record { number = n; kind = kind }) → is_emptying kind ≡ false → AllApart (moves_by j n kind)
    → IsDue j (filter (remains stand) (moves_by j n kind)) stand
plain_due j n kind stand last it apart =
    let p = plain n kind it in
    let ms = moves_by j n kind in
    record {
      can = left_can ms stand apart;
      belong = all_weaker (IsAmong ms) (IsMoveOf j) (λ m among. subst (λ (o : Option Event). BelongsTo j o m) (sym last) (p.belongs j m among)) (filter (remains stand) ms)
          (all_filter (IsAmong ms) (remains stand) ms (all_among ms apart (p.off j)));
      files = λ q is. ap (λ (g : Stand). g q) (left_leads ms stand apart)
          ∙ sym (ap (λ (g : Stand). g q) (p.settles j stand)) ∙ sym (ap (λ (o : Option Event). option_map_or (λ e. settled_by j e.number e.kind stand) o stand q) last);
    }

over_due : (j : Journal) (n : ℕ) (content : Content) → ((g : Stand) → settled j g ≡ cleared n g) → ((m : Move) → IsErasure n j m → IsMoveOf j m)
    → IsDue j (map Erase (filter (is_over n j) (finite.keys content))) (finite.get content)
over_due j n content settles belongs =
    let g = finite.get content in
    let keys = filter (is_over n j) (finite.keys content) in
    let passed = all_filtered (λ key. is_some (g key) ≡ true) (is_over n j) (finite.keys content) (filled content) in
    record {
      can = can_erase g keys (distinct_filter (is_over n j) (finite.keys content) (keys_rise (finite.entries content) (finite.entries_sorted content)))
          (all_weaker (λ key. (is_some (g key) ≡ true) × (is_over n j key ≡ true)) (λ key. is_some (g key) ≡ true) (λ key both. both.0) keys passed);
      belong = all_mapped (IsMoveOf j) Erase keys
          (all_weaker (λ key. (is_some (g key) ≡ true) × (is_over n j key ≡ true)) (λ key. IsMoveOf j (Erase key)) (λ key both. belongs (Erase key) (over_is n j key both.1)) keys passed);
      files = λ q is. erased keys g q ∙ ap (λ b. cond b None (g q)) (in_filter (is_over n j) q (finite.keys content)) ∙ by q is ∙ sym (ap (λ (h : Stand). h q) (settles g));
    }
  where
    all_there : (a l : Bool) (o : Option (List ℕ)) → cond l o None ≡ o → cond (a && l) None o ≡ cond a None o
    all_there true true o there = refl
    all_there true false o there = sym there
    all_there false l o there = refl

    by : (q : Key) → is_files q ≡ true → cond (is_over n j q && is_in q (finite.keys content)) None (finite.get content q) ≡ cleared n (finite.get content) q
    by (Live name) is = refl
    by (Trash m name) is = all_there (nat_le m n) (is_in (Trash m name) (finite.keys content)) (finite.get content (Trash m name)) (found_there content (Trash m name))
    by (Entry k) is = cc is

kind_due : (j : Journal) (n : ℕ) (kind : EventKind) (content : Content) → IsLegal j → AreWellFormed j → last_event j ≡ Some (record { number = n; kind = kind })
    → IsDue j (due_by j n kind content) (finite.get content)
kind_due j n (Commit c) content legal formed last =
    plain_due j n (Commit c) (finite.get content) last refl (commit_apart n c (well_formed_change j n c formed (commit_told j n c legal last)).once)
kind_due j n Undo content legal formed last =
    plain_due j n Undo (finite.get content) last refl (undo_apart n (change_of j n) (λ c is. (well_formed_change j n c formed is).once))
kind_due j n Redo content legal formed last =
    plain_due j n Redo (finite.get content) last refl (redo_apart n (change_of j n) (λ c is. (well_formed_change j n c formed is).once))
kind_due j n (Empty marks) content legal formed last =
    over_due j n content (λ g. ap (λ (o : Option Event). option_map_or (λ e. settled_by j e.number e.kind g) o g) last)
    (λ m is. subst (λ (o : Option Event). BelongsTo j o m) (sym last) is)

pub due_leads : WhatIsDueLeadsOn
due_leads content opening j reads = by (last_event j) refl
  where
    by : (o : Option Event) → last_event j ≡ o → IsDue j (due_in j content) (finite.get content)
    by None last = subst (λ (ms : List Move). IsDue j ms (finite.get content)) (sym (ap (λ (o : Option Event). option_map_or (λ e. due_by j e.number e.kind content) o []) last)) (record {
      can = record { apart = tt; remain = refl };
      belong = tt;
      files = λ q is. sym (ap (λ (o : Option Event). option_map_or (λ e. settled_by j e.number e.kind (finite.get content)) o (finite.get content) q) last);
    })
    by (Some e) last =
        subst (λ (ms : List Move). IsDue j ms (finite.get content)) (sym (ap (λ (o : Option Event). option_map_or (λ x. due_by j x.number x.kind content) o []) last))
        (kind_due j e.number e.kind content reads.is_open.legal reads.is_open.formed last)

-- ---- which numbers are told

pub told_there : (es : List the_entry.Entry) (k : ℕ) → list_any (λ (x : Notice). x.at == k) (map notice_of es) ≡ is_some (entry_at es k)
told_there [] k = refl
told_there (e ∷ es) k = by (e.at == k) (told_there es k)
  where
    by : (b : Bool) → list_any (λ (x : Notice). x.at == k) (map notice_of es) ≡ is_some (entry_at es k)
        → (b || list_any (λ (x : Notice). x.at == k) (map notice_of es)) ≡ is_some (cond b (Some e) (entry_at es k))
    by true rest = refl
    by false rest = rest

same_test : (n : ℕ) (f g : ℕ → Bool) → ((k : ℕ) → f k ≡ g k) → (key : Key) → over_test n f key ≡ over_test n g key
same_test n f g same (Live name) = refl
same_test n f g same (Trash m name) = refl
same_test n f g same (Entry k) = ap not (same k)

pub same_over : (n : ℕ) (j : Journal) (f : ℕ → Bool) (keys : List Key) → ((k : ℕ) → f k ≡ list_any (λ (x : Notice). x.at == k) (map notice_of j.entries))
    → filter (over_test n f) keys ≡ filter (is_over n j) keys
same_over n j f keys same = filter_agree (over_test n f) (is_over n j) (same_test n f (λ k. is_some (entry_at j.entries k)) (λ k. same k ∙ told_there j.entries k)) keys

-- ---- what is due by what is told of the last event

due_as : (j : Journal) (e : Event) (content : Content) → last_event j ≡ Some e → due_in j content ≡ due_by j e.number e.kind content
due_as j e content last = ap (λ (o : Option Event). option_map_or (λ x. due_by j x.number x.kind content) o []) last

abbrev over_by : Journal → ℕ → Content → List Move
over_by j n content = map Erase (filter (is_over n j) (finite.keys content))

pub due_empty : (j : Journal) (x : Notice) (content : Content) → LastTold j x → x.what ≡ what.Empty → due_in j content ≡ over_by j x.change content
due_empty j x content told is =
    due_as j told.event content told.is ∙ by told.event.number told.event.kind (sym told.what ∙ is)
    ∙ ap (λ (n : ℕ). over_by j n content) (sym told.number)
  where
    by : (n : ℕ) (kind : EventKind) → what_by kind ≡ what.Empty → due_by j n kind content ≡ over_by j n content
    by n (Commit c) e = cc e
    by n Undo e = cc e
    by n Redo e = cc e
    by n (Empty marks) e = refl

abbrev left_by : Journal → What → ℕ → Content → List Move
left_by j w n content = filter (remains (finite.get content)) (moves_for w n (change_of j n))

pub due_plain : (j : Journal) (x : Notice) (content : Content) → IsLegal j → LastTold j x → (x.what ≡ what.Empty → ⊥)
    → (final_number j < x.change) × (due_in j content ≡ left_by j x.what x.change content)
due_plain j x content legal told other = (
  (settled_moves j x legal told other).0,
  due_as j told.event content told.is ∙ by told.event.number told.event.kind told.is (λ is. other (told.what ∙ is))
      ∙ ap₂ (λ (w : What) (n : ℕ). left_by j w n content) (sym told.what) (sym told.number),
)
  where
    by : (n : ℕ) (kind : EventKind) → last_event j ≡ Some (record { number = n; kind = kind }) → (what_by kind ≡ what.Empty → ⊥) → due_by j n kind content ≡ left_by j (what_by kind) n content
    by n (Commit c) last plain = ap (λ (o : Option Change). filter (remains (finite.get content)) (moves_for what.Commit n o)) (sym (commit_told j n c legal last))
    by n Undo last plain = refl
    by n Redo last plain = refl
    by n (Empty marks) last plain = absurd (plain refl)
