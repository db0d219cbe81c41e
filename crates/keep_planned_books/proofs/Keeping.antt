-- A planned commit keeps a book sound: a strict one was planned on this very book.
use Rattle.std.proofs.Common.{◌≡◌, inl, inr, ℕ, ◌+◌, ◌<◌, Bool, true, false, ◌&&◌, ◌==◌, not, List, [], ◌∷◌, length, Option, None, Some, Ok, Err, refl, sym, subst, ◌∙◌, arith}
use Rattle.std.proofs.lemmas.Bool.Decides.{Decides-eqb}
use Rattle.std.specs.FinSet as set
use Rattle.std.specs.List.{AllByRecursion}
use Rattle.keep_names.specs.declared.id.Id.{Id}
use Rattle.keep_repo.specs.Repository.{Repository}
use Rattle.keep_change.specs.Form.{IsWellFormed}
use Rattle.keep_change.specs.Touch.{facets}
use Rattle.keep_change.specs.declared.change.Planned.{Planned}
use Rattle.keep_change.specs.declared.outline.Outline.{Outline}
use Rattle.keep_hooks.specs.Guards.{Rule}
use Rattle.keep_journal.proofs.Commits.{length_of-push}
use Rattle.keep_journal.specs.History.{length_of}
use Rattle.keep_journal.specs.Kept.{unfinal}
use Rattle.keep_reach.specs.Sound.{IsSound}
use Rattle.keep_sound.specs.Careful.{IsSafe}
use Rattle.keep_sound.specs.Met.{IsPartOf}
use Rattle.keep_view.specs.Shown.{Shown, known_of, shown_of}
use Rattle.keep_ledger.specs.LedgerState.{LedgerState, new_ledger}
use Rattle.keep_ledger.specs.Made.{event_of, with_event}
use Rattle.keep_ledger.specs.Guarding.{event_outline, rules_for}
use Rattle.keep_ledger.specs.Reply.{Answers, Replies, early_refusal, first_of, is_full_for, late_refusal, told_of}
use Rattle.keep_ledger.specs.declared.reply.Refusal.{Refusal}
use Rattle.keep_ledger.specs.declared.reply.Refusal.TheVariants.{Full, Malformed, Stale}
use Rattle.keep_journal.specs.declared.request.Told.{Told}
use Rattle.keep_journal.specs.declared.request.Request.{Request}
use Rattle.keep_journal.specs.declared.request.Request.TheVariants.{Commit, Undo, Redo, Empty}
use Rattle.keep_planned_books.specs.SoundBooks.{BooksAreSound, BooksBeginSound, BooksStaySound, IsSoundBook, KeepsSound, ViewsKnow, known_to}
use Rattle.keep_sound.specs.Restic.{SoundIsWhole}
use Rattle.keep_planned_books.specs.History.{BeginsWhole, IsOneOf, IsPlanned}
use Rattle.keep_planned_books.specs.Jobs.{IsOfJob, KeepsFor, PlannedChangesKeep}

-- ---- a strict commit that is accepted

nothing_early : (early : Option Refusal) (vetoes : List Rule) (o : Outline) (late : Option Refusal) (due told : Told) → Answers early vetoes o late due (Ok told) → early ≡ None
nothing_early None vetoes o late due told h = refl
nothing_early (Some refusal) vetoes o late due told h = cc h

not_stale : (full strict now : Bool) (count : ℕ) → first_of ((full, Full) ∷ (strict && not now, Stale count) ∷ []) ≡ None → strict ≡ true → now ≡ true
not_stale true strict now count none is = cc none
not_stale false false now count none is = cc is
not_stale false true true count none is = refl
not_stale false true false count none is = cc none

-- it was planned at the length that the book has
seen_now : (book : LedgerState) (vetoes : List Rule) (p : Planned) (told : Told) → Replies book vetoes (Commit p) (Ok told) → p.change.strict ≡ true → p.seen ≡ length_of book.events
seen_now book vetoes p told replies strict = cases (p.seen == length_of book.events) refl where
  not_other : (p.seen == length_of book.events) ≡ false → ¬ IsWellFormed p.change
  not_other other formed =
      let free = nothing_early (early_refusal book (Commit p)) (rules_for vetoes (Commit p)) (event_outline book (Commit p)) (late_refusal book (Commit p)) (told_of book.events (Commit p)) told (replies.0 formed) in
      let now : (p.seen == length_of book.events) ≡ true = not_stale (is_full_for book.events (length (facets p.change))) p.change.strict (p.seen == length_of book.events) (length_of book.events) free strict in
      let bad : true ≡ false = sym now ∙ other in
      cc bad

  cases : (b : Bool) → (p.seen == length_of book.events) ≡ b → p.seen ≡ length_of book.events
  cases true same = (Decides-eqb p.seen (length_of book.events)).0 same
  cases false other =
      let malformed : Ok told ≡ Err Malformed = replies.1 (not_other other) in
      cc malformed

-- ---- what is kept of the books of a planned history

-- its history is shorter, and its files are among all that is met
pub record IsEarlier (all : Repository) (count : ℕ) (on : LedgerState) : Type 0 where
  pub shorter : length_of on.events < count
  pub part : IsPartOf on.live all

-- the last book is sound, and the others are earlier
abbrev pub Keep : Repository → List LedgerState → Type 0
Keep all [] = Unit {0}
Keep all (book ∷ earlier) = IsSoundBook all book × AllByRecursion (IsEarlier all (length_of book.events)) earlier

one_so : (P : LedgerState → Type 0) (books : List LedgerState) → AllByRecursion P books → (on : LedgerState) → IsOneOf books on → P on
one_so P [] h on none = absurd none
one_so P (book ∷ books) h on (inl same) = subst P (sym same) h.0
one_so P (book ∷ books) h on (inr more) = one_so P books h.1 on more

all_longer : (all : Repository) (count more : ℕ) → count < more → (books : List LedgerState) → AllByRecursion (IsEarlier all count) books → AllByRecursion (IsEarlier all more) books
all_longer all count more lt [] h = tt
all_longer all count more lt (book ∷ books) h =
    let before : length_of book.events < count = h.0.shorter in
    let shorter : length_of book.events < more = omega arith in
    (record { shorter = shorter; part = h.0.part }, all_longer all count more lt books h.1)

-- the laws on which it rests
pub record Laws : Type 0 where
  pub plans : PlannedChangesKeep IsSound
  pub know : ViewsKnow
  pub begin : BooksBeginSound
  pub stay : BooksStaySound
  pub sound : BooksAreSound
  pub whole : SoundIsWhole

module _ (laws : Laws) (all opening : Repository) (begins : BeginsWhole all opening) where
  abbrev shown_by : LedgerState → Shown
  shown_by on = shown_of on.opening on.events on.live

  module _ (book : LedgerState) (earlier : List LedgerState) (keep : Keep all (book ∷ earlier)) where
    known_so : known_to book ≡ set.contains (known_of book.opening (unfinal book.events))
    known_so i snapshot = laws.know book.opening (unfinal book.events) snapshot i

    own_part : IsPartOf book.live all
    own_part = (laws.sound all book keep.0).part

    its_part : (on : LedgerState) → IsOneOf (book ∷ earlier) on → IsPartOf on.live all
    its_part on (inl same) = subst (λ (x : LedgerState). IsPartOf x.live all) (sym same) own_part
    its_part on (inr more) = (one_so (IsEarlier all (length_of book.events)) earlier keep.1 on more).part

    -- planned at the length that the book has, it was planned on the book
    is_this : (on : LedgerState) → IsOneOf (book ∷ earlier) on → length_of on.events ≡ length_of book.events → on ≡ book
    is_this on (inl same) equal = same
    is_this on (inr more) equal =
        let before : length_of on.events < length_of book.events = (one_so (IsEarlier all (length_of book.events)) earlier keep.1 on more).shorter in
        absurd (omega arith)

    module _ (vetoes : List Rule) (p : Planned) (told : Told) (replies : Replies book vetoes (Commit p) (Ok told))
        (on : LedgerState) (one : IsOneOf (book ∷ earlier) on) (of : IsOfJob all (shown_by on) p) where
      safe_for : KeepsFor IsSound all (shown_by on) p.change
      safe_for = laws.plans all (shown_by on) p begins.files (record { one_text = begins.met.one_text; part = its_part on one }) of

      safe_here : KeepsFor IsSound all (shown_by on) p.change → IsSafe all (known_to book) p.change
      safe_here (inl any) = any (known_to book)
      safe_here (inr (strict, safe)) =
          let same : on ≡ book = is_this on one (sym of.seen ∙ seen_now book vetoes p told replies strict) in
          subst (λ (known : Id → Bool). IsSafe all known p.change) (sym known_so)
          (subst (λ (x : LedgerState). IsSafe all (set.contains (known_of x.opening (unfinal x.events))) p.change) same safe)

      commit_keeps : KeepsSound all book (Commit p)
      commit_keeps = record { adds = of.adds; safe = safe_here safe_for }

    keeps_sound : (vetoes : List Rule) (request : Request) (told : Told) → IsPlanned all (book ∷ earlier) request → Replies book vetoes request (Ok told) → KeepsSound all book request
    keeps_sound vetoes (Commit p) told planned replies = commit_keeps vetoes p told replies planned.0 planned.1 planned.2
    keeps_sound vetoes (Undo n) told planned replies = tt
    keeps_sound vetoes (Redo n) told planned replies = tt
    keeps_sound vetoes (Empty n) told planned replies = tt

    pub keep_next : (vetoes : List Rule) (request : Request) (told : Told) → IsPlanned all (book ∷ earlier) request → Replies book vetoes request (Ok told)
        → Keep all (with_event book request ∷ book ∷ earlier)
    keep_next vetoes request told planned replies =
        let longer : length_of (with_event book request).events ≡ length_of book.events + 1 = length_of-push book.events (length_of book.events + 1) (event_of book request) in
        let more : length_of book.events < length_of (with_event book request).events = omega arith in (
          laws.stay all book vetoes request (Ok told) keep.0 (keeps_sound vetoes request told planned replies) replies,
          (record { shorter = more; part = own_part }, all_longer all (length_of book.events) (length_of (with_event book request).events) more earlier keep.1),
        )

  pub keep_first : Keep all (new_ledger opening ∷ [])
  keep_first = (laws.begin all opening begins.met.part ((laws.whole opening all begins.met.part begins.met.one_text).1 begins.whole), tt)
