-- The last event of a legal journal, its change and its moves.
use Rattle.std.proofs.Common.{◌≡◌, ℕ, zero, suc, ◌+◌, ◌-◌, ◌<◌, nat_le, Bool, true, false, cond, ◌&&◌, ◌||◌, List, [], ◌∷◌, ◌++◌, length, map, Option, Some, None, refl, sym, ap, ◌∙◌, subst, append_assoc, arith}
use Rattle.std.specs.FinMap as finite
use Rattle.std.specs.List.{fold, list_any, slice_get}
use Rattle.std.specs.Option.{option_map_or}
use Rattle.std.proofs.lemmas.List.{length-map}
use Rattle.std.proofs.lemmas.Option.{same_Some, slice_get_within}
use Rattle.keep_change.specs.declared.change.Change.{Change}
use Rattle.keep_change.specs.declared.outline.What.{What}
use Rattle.keep_change.specs.declared.outline.What.TheVariants as what
use Rattle.keep_journal.specs.Event.{committing, notice_of, what_by, what_of}
use Rattle.keep_journal.specs.History.{change_of, final_number, last_change, ComeInTurn, ComesNext, IsLegal, IsNumbered}
use Rattle.keep_journal.specs.Journal.{Journal, posted}
use Rattle.keep_journal.specs.declared.event.Entry as the_entry
use Rattle.keep_journal.specs.declared.event.Event.{Event}
use Rattle.keep_journal.specs.declared.event.EventKind.{EventKind}
use Rattle.keep_journal.specs.declared.event.EventKind.TheVariants.{Commit, Undo, Redo, Empty}
use Rattle.keep_journal.specs.declared.event.Notice.{Notice}
use Rattle.keep_journal.proofs.Commits.{change_of-Commit, final_number-push, IsNumbered-push}
use Rattle.keep_journal.proofs.Legal.{none_numbered}
use Rattle.keep_shelf.proofs.Orders.{key_total}
use Rattle.keep_shelf.specs.Shelved.{Content}
use Rattle.keep_shelf.specs.declared.key.Key.{Key}
use Rattle.keep_shelf.specs.declared.key.Key.TheVariants.{Live, Trash, Entry}
use Rattle.keep_moves.specs.Move.{Stand, finished_all, key_eq}
use Rattle.keep_moves.proofs.Keys.{key_eq_same}
use Rattle.keep_opening.specs.Settling.{is_old, moves_for, swept_in}
use Rattle.keep_opening.proofs.Whole.{found_there}
use Rattle.keep_reading.specs.Settled.{cleared, last_event, settled, settled_by}

-- ---- the last event

-- the journal is another one with the event at its end, which could come there
record Ends (j : Journal) (e : Event) : Type 0 where
  before : Journal
  at : ℕ
  is : j ≡ posted before at e
  numbered : IsNumbered before
  next : ComesNext before (record { at = at; event = e })

abbrev last_of : Option Event → List the_entry.Entry → Option Event
last_of o es = fold (λ before e. Some e.event) o es

ends_from : (i : Journal) (es : List the_entry.Entry) (e : Event) → IsNumbered i → ComeInTurn i es → last_of None es ≡ Some e
    → Ends (record { base = i.base; entries = i.entries ++ es }) e
ends_from i [] e numbered come last = cc last
ends_from i (d ∷ []) e numbered come last =
    let same : d.event ≡ e = same_Some d.event e last in
    subst (Ends (posted i d.at d.event)) same (record { before = i; at = d.at; is = refl; numbered = numbered; next = come.0 })
ends_from i (d ∷ x ∷ xs) e numbered come last =
    subst (λ (es : List the_entry.Entry). Ends (record { base = i.base; entries = es }) e) (append_assoc i.entries (d ∷ []) (x ∷ xs))
    (ends_from (posted i d.at d.event) (x ∷ xs) e (IsNumbered-push i d numbered come.0) come.1 last)

ends : (j : Journal) (e : Event) → IsLegal j → last_event j ≡ Some e → Ends j e
ends j e legal last = ends_from (record { base = j.base; entries = [] }) j.entries e (none_numbered j.base) legal last

-- the change of a commit that is the last event
pub commit_told : (j : Journal) (n : ℕ) (c : Change) → IsLegal j → last_event j ≡ Some (committing n c) → change_of j n ≡ Some c
commit_told j n c legal last =
    let end = ends j (committing n c) legal last in
    ap (λ (i : Journal). change_of i n) end.is ∙ change_of-Commit end.before end.at n c end.numbered end.next.fits

-- ---- what is told of it

pub record LastTold (j : Journal) (x : Notice) : Type 0 where
  pub event : Event
  pub is : last_event j ≡ Some event
  pub what : x.what ≡ what_of event
  pub number : x.change ≡ event.number

last_told : (j : Journal) (o : Option Event) (es : List the_entry.Entry) (k : ℕ) (x : Notice) → k + 1 ≡ length es → Some x ≡ slice_get (map notice_of es) k
    → (e : Event) × (last_of o es ≡ Some e) × (x.what ≡ what_of e) × (x.change ≡ e.number)
last_told j o [] k x end is = cc is
last_told j o (e ∷ []) zero x end is =
    let same : x ≡ notice_of e = same_Some x (notice_of e) is in
    (e.event, refl, ap (λ (y : Notice). y.what) same, ap (λ (y : Notice). y.change) same)
last_told j o (e ∷ []) (suc k) x end is = cc is
last_told j o (e ∷ f ∷ es) zero x end is = absurd (omega arith)
last_told j o (e ∷ f ∷ es) (suc k) x end is = last_told j (Some e.event) (f ∷ es) k x (omega arith) is

told_last : (j : Journal) (k : ℕ) (x : Notice) → k + 1 ≡ length j.entries → Some x ≡ slice_get (map notice_of j.entries) k → LastTold j x
told_last j k x end is =
    let parts = last_told j None j.entries k x end is in
    record { event = parts.0; is = parts.1; what = parts.2; number = parts.3 }

-- the last of what is told of the events is told of the last event
pub last_is : (j : Journal) (ns : List Notice) (x : Notice) → ns ≡ map notice_of j.entries → Some x ≡ slice_get ns (length ns - 1) → LastTold j x
last_is j ns x told last =
    let within = slice_get_within ns (length ns - 1) x (sym last) in
    let count = ap length told ∙ length-map j.entries notice_of in
    told_last j (length ns - 1) x (omega (arith, within, count)) (last ∙ ap (λ (ms : List Notice). slice_get ms (length ns - 1)) told)

pub none_last : (es : List the_entry.Entry) (k : ℕ) → None ≡ slice_get (map notice_of es) k → k ≡ length es - 1 → es ≡ []
none_last [] k none last = refl
none_last (e ∷ es) k none last = absurd (by (e ∷ es) k none (omega arith))
  where
    by : (ds : List the_entry.Entry) (i : ℕ) → None ≡ slice_get (map notice_of ds) i → i < length ds → ⊥
    by [] i gone within = absurd (omega arith)
    by (d ∷ ds) zero gone within = cc gone
    by (d ∷ ds) (suc i) gone within = by ds i gone (omega arith)

-- ---- its moves

-- an event that makes nothing final is about a change that isn't, and its moves are told by that
abbrev AreMoves : Journal → What → ℕ → Type 0
AreMoves j w n = (final_number j < n) × ((g : Stand) → settled j g ≡ finished_all (moves_for w n (change_of j n)) g)

abbrev IsSettledBy : Journal → ℕ → What → Type 0
IsSettledBy j n what.Empty = (g : Stand) → settled j g ≡ cleared n g
IsSettledBy j n what.Commit = AreMoves j what.Commit n
IsSettledBy j n what.Undo = AreMoves j what.Undo n
IsSettledBy j n what.Redo = AreMoves j what.Redo n

settled_as : (j : Journal) (e : Event) (g : Stand) → last_event j ≡ Some e → settled j g ≡ settled_by j e.number e.kind g
settled_as j e g is = ap (λ (o : Option Event). option_map_or (λ x. settled_by j x.number x.kind g) o g) is

settled_kind : (j : Journal) (n : ℕ) (kind : EventKind) → Ends j (record { number = n; kind = kind }) → last_event j ≡ Some (record { number = n; kind = kind })
    → IsSettledBy j n (what_by kind)
settled_kind j n (Commit c) end is =
    let b = end.before in
    let fits : n ≡ last_change b + 1 = end.next.fits in
    let top = end.numbered.last_final in
    let final : final_number j ≡ final_number b = ap final_number end.is ∙ final_number-push b end.at (committing n c) in
    let there : change_of j n ≡ Some c = ap (λ (i : Journal). change_of i n) end.is ∙ change_of-Commit b end.at n c end.numbered fits in
    (omega (arith, fits, top, final), λ g. settled_as j (committing n c) g is ∙ ap (λ (o : Option Change). finished_all (moves_for what.Commit n o) g) (sym there))
settled_kind j n Undo end is =
    let final : final_number j ≡ final_number end.before = ap final_number end.is ∙ final_number-push end.before end.at (record { number = n; kind = Undo }) in
    let above = end.next.fits.0 in
    (omega (arith, final, above), λ g. settled_as j (record { number = n; kind = Undo }) g is)
settled_kind j n Redo end is =
    let final : final_number j ≡ final_number end.before = ap final_number end.is ∙ final_number-push end.before end.at (record { number = n; kind = Redo }) in
    let above = end.next.fits.0 in
    (omega (arith, final, above), λ g. settled_as j (record { number = n; kind = Redo }) g is)
settled_kind j n (Empty marks) end is = λ g. settled_as j (record { number = n; kind = Empty marks }) g is

settled_told : (j : Journal) (x : Notice) → IsLegal j → LastTold j x → IsSettledBy j x.change x.what
settled_told j x legal told =
    let by = settled_kind j told.event.number told.event.kind (ends j told.event legal told.is) told.is in
    subst (IsSettledBy j x.change) (sym told.what) (subst (λ (n : ℕ). IsSettledBy j n (what_of told.event)) (sym told.number) by)

pub settled_empty : (j : Journal) (x : Notice) (g : Stand) → IsLegal j → LastTold j x → x.what ≡ what.Empty → settled j g ≡ cleared x.change g
settled_empty j x g legal told is = (subst (IsSettledBy j x.change) is (settled_told j x legal told)) g

pub settled_moves : (j : Journal) (x : Notice) → IsLegal j → LastTold j x → (x.what ≡ what.Empty → ⊥) → AreMoves j x.what x.change
settled_moves j x legal told other = by x.what other (settled_told j x legal told)
  where
    by : (w : What) → (w ≡ what.Empty → ⊥) → IsSettledBy j x.change w → AreMoves j w x.change
    by what.Commit other is = is
    by what.Undo other is = is
    by what.Redo other is = is
    by what.Empty other is = absurd (other refl)

pub settled_none : (j : Journal) (g : Stand) → j.entries ≡ [] → settled j g ≡ g
settled_none j g none = ap (λ (o : Option Event). option_map_or (λ x. settled_by j x.number x.kind g) o g) (ap (last_of None) none)

-- ---- trash of final changes

swept_at : (n : ℕ) (keys : List Key) (content : Content) (q : Key)
    → finite.get (swept_in n keys content) q ≡ cond (is_old n q && list_any (key_eq q) keys) None (finite.get content q)
swept_at n [] content q = none (is_old n q) (finite.get content q)
  where
    none : (b : Bool) (o : Option (List ℕ)) → o ≡ cond (b && false) None o
    none true o = refl
    none false o = refl
swept_at n (key ∷ keys) content q =
    swept_at n keys (cond (is_old n key) (finite.remove content key) content) q
    ∙ ap (cond (is_old n q && list_any (key_eq q) keys) None) (step (is_old n key) refl)
    ∙ join (is_old n q) (key_eq q key) (is_old n key) (list_any (key_eq q) keys) (finite.get content q) (λ same. sym (ap (is_old n) (key_eq_same q key same)))
  where
    step : (b : Bool) → is_old n key ≡ b → finite.get (cond b (finite.remove content key) content) q ≡ cond (b && key_eq q key) None (finite.get content q)
    step true is = finite.get-remove key_total content key q
    step false is = refl

    join : (a e k l : Bool) (o : Option (List ℕ)) → (e ≡ true → k ≡ a) → cond (a && l) None (cond (k && e) None o) ≡ cond (a && (e || l)) None o
    join true true true l o same = by l
      where
        by : (m : Bool) → cond m None (cond true None o) ≡ None
        by true = refl
        by false = refl
    join true true false l o same = cc (same refl)
    join true false true true o same = refl
    join true false true false o same = refl
    join true false false true o same = refl
    join true false false false o same = refl
    join false true true l o same = cc (same refl)
    join false true false l o same = refl
    join false false true l o same = refl
    join false false false l o same = refl

swept_all : (n : ℕ) (content : Content) (q : Key) → finite.get (swept_in n (finite.keys content) content) q ≡ cleared n (finite.get content) q
swept_all n content (Live name) = swept_at n (finite.keys content) content (Live name)
swept_all n content (Entry k) = swept_at n (finite.keys content) content (Entry k)
swept_all n content (Trash m name) =
    swept_at n (finite.keys content) content (Trash m name)
    ∙ by (nat_le m n) (list_any (key_eq (Trash m name)) (finite.keys content)) (finite.get content (Trash m name)) (found_there content (Trash m name))
  where
    by : (a l : Bool) (o : Option (List ℕ)) → cond l o None ≡ o → cond (a && l) None o ≡ cond a None o
    by true true o there = refl
    by true false o there = sym there
    by false l o there = refl

pub all_swept : (n : ℕ) (content : Content) → finite.get (swept_in n (finite.keys content) content) ≡ cleared n (finite.get content)
all_swept n content = λ i q. swept_all n content q i
