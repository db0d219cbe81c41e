-- What a script is served over a shelf, and where that isn't opened.
use Rattle.std.proofs.Common.{◌≡◌, ◌∙◌, ℕ, IfSome, List, Option, Result, ap, inl, inr, length, ◌≤◌, subst, sym}
use Rattle.std.specs.Prelude.{◌≢◌, []}
use Rattle.keep_hooks.specs.Guards.{HooksData}
use Rattle.keep_shelf.specs.Shelved.{Content, Shelved}
use Rattle.keep_ledger.specs.OnShelf.{OnShelf}
use Rattle.keep_ledger.specs.Opened.{IsGivenBack, IsNotOpened, IsOpened}
use Rattle.keep_opening.specs.declared.open_error.OpenError.{OpenError}
use Rattle.keep_opening.specs.declared.open_error.OpenError.TheVariants.{BadEntry, Fault, Memory}
use Rattle.keep_book.specs.Armed.{hooks_of, on_shelf}
use Rattle.keep_book.specs.declared.book.Book.{Book}
use Rattle.keep_jobs.specs.Job.{SettingsData}
use Rattle.keep_jobs.specs.Kits.{KitData}
use Rattle.keep_operators.specs.declared.order.NoCrew.{NoCrew}
use Rattle.keep_operators.specs.declared.order.CrewTally.{CrewTally}
use Rattle.keep_answers.proofs.KnownLemmas.{WritesLines-none, WritesLines-trans}
use Rattle.keep_answers.specs.Known.{Writes, WritesLines}
use Rattle.keep_answers.specs.State.{State, kit_of}
use Rattle.keep_script.proofs.OpeningLemmas.{begun_by}
use Rattle.keep_script.specs.Begun.{begun_over}
use Rattle.keep_script.specs.Left.{IsLeft}
use Rattle.keep_script.specs.Line.{longest_script}
use Rattle.keep_script.specs.Run.{Ends, EndsFrom}
use Rattle.keep_script.specs.Status.{status_unopened}
use Rattle.keep_script.specs.declared.status.RunStatus.{RunStatus}
use Rattle.keep_script.specs.declared.status.RunStatus.TheVariants.{Done, ScriptTooLong, WriteFailed}
use Rattle.keep_options.specs.Option.{OptionsData}
use Rattle.keep_command.proofs.CrewLemmas.{crews-short, follows-where}
use Rattle.keep_command.specs.Damage.{IsRefusedSo, ReportsDamage}
use Rattle.keep_command.specs.Following.{Follows, IsUnopened, Serves}
use Rattle.keep_command.specs.Left.{LeftData, LeftShelf}
use Rattle.keep_command.specs.Running.{KeepsLines, settings_of}
use Rattle.keep_command.specs.declared.ending.Ending.{Ending}
use Rattle.keep_command.specs.declared.ending.Ending.TheVariants.{Ran}

-- a script that was answered so over this book, and what followed
pub serves-run : {S I F g J E h : _} (takes : LeftData → Type 0) (answers : Result CrewTally NoCrew → Type 0) (kit left_kit : KitData) (asked : SettingsData) (options : OptionsData) (book left_book : Book S I F g J E h) (known rest old middle new : Option (List ℕ)) (status : RunStatus) (ended : Ending)
    → asked ≡ settings_of options
    → Writes old middle (λ text. (after : State) × IsLeft after left_book × (left_kit ≡ kit_of after) × Ends (begun_over asked kit book) known rest text status after)
    → Follows takes answers options (on_shelf left_book) (hooks_of left_book) middle new status ended
    → Serves takes answers (Ends (begun_over (settings_of options) kit book) known rest) options old new ended
serves-run takes answers kit left_kit asked options book left_book known rest old middle new status ended same (text, appended, (after, left, kept, ends)) follows = record {
  status = status;
  after = after;
  middle = middle;
  writes = (text, appended, subst (λ (s : SettingsData). Ends (begun_over s kit book) known rest text status after) same ends);
  follows = follows-where takes answers options (on_shelf left_book) _ (hooks_of left_book) _ middle new status ended left.ledger left.armed follows;
}

-- a script that was answered so over a shelf of which that book was opened, and what followed
pub serves-opened : {S I F g J E h : _} (takes : LeftData → Type 0) (answers : Result CrewTally NoCrew → Type 0) (shelf : Shelved) (kit : KitData) (options : OptionsData) (book : Book S I F g J E h) (known rest old new : Option (List ℕ)) (ended : Ending)
    → IsOpened shelf (on_shelf book) → hooks_of book ≡ record { vetoes = []; watches = [] }
    → Serves takes answers (Ends (begun_over (settings_of options) kit book) known rest) options old new ended
    → Serves takes answers (EndsFrom shelf (settings_of options) kit known rest) options old new ended
serves-opened takes answers shelf kit options book known rest old new ended is none h =
    let start = begun_by (settings_of options) kit book none in
    let text = h.writes.0 in
    record {
      status = h.status;
      after = h.after;
      middle = h.middle;
      writes = (text, h.writes.1, (on_shelf book, is, subst (λ (s : State). Ends s known rest text h.status h.after) start h.writes.2));
      follows = h.follows;
    }

-- a refusal says what is wrong with what stood on the shelf at first, since that stands there still
refused-first : (shelf left : Shelved) (error : OpenError) (ended : Ending) → IsGivenBack shelf error left → IsRefusedSo left.content error ended
    → IsRefusedSo shelf.content error ended
refused-first shelf left error ended given (inl is) = inl is
refused-first shelf left error ended given (inr (number, is, tells)) =
    let same : left.content ≡ shelf.content = given.same (λ fault. cc (is, fault)) in
    inr (number, is, subst (λ (content : Content). ReportsDamage content number ended) same tells)

-- a shelf that wasn't opened, and is let go
pub is-unopened : (takes : LeftData → Type 0) (shelf left after : Shelved) (error : OpenError) (ended : Ending) → IsNotOpened shelf error → IsGivenBack shelf error left
    → IsRefusedSo left.content error ended → after.content ≡ left.content → (((number : ℕ) → error ≢ BadEntry number) → after ≡ left) → takes (LeftShelf after)
    → IsUnopened takes shelf ended
is-unopened takes shelf left after error ended why given told same unread taken = record {
  error = error;
  why = why;
  told = refused-first shelf left error ended given told;
  left = left;
  given = given;
  after = after;
  same = same;
  unread = unread;
  let_go = taken;
}

ran-same : (x y : RunStatus) → Ran x ≡ Ran y → x ≡ y
ran-same x y e = cc e

done-written : Done ≡ WriteFailed → ⊥
done-written e = cc e

-- a run keeps lines as the program does, with what follows it
pub keeps-followed : (takes : LeftData → Type 0) (answers : Result CrewTally NoCrew → Type 0) (options : OptionsData) (ledger : OnShelf) (armed : HooksData) (known old middle new : Option (List ℕ)) (status : RunStatus) (ended : Ending)
    → (status ≢ WriteFailed → WritesLines old middle) → (status ≡ ScriptTooLong → IfSome known (λ script. longest_script ≤ length script))
    → Follows takes answers options ledger armed middle new status ended → (ended ≢ Ran WriteFailed → WritesLines middle new) → KeepsLines known old new ended
keeps-followed takes answers options ledger armed known old middle new status ended whole past (inl (idle, taken, same, e)) next = (
  (λ other. WritesLines-trans old middle new (whole (λ failed. other (e ∙ ap Ran failed))) (next other)),
  (λ short. past (ran-same status ScriptTooLong (sym e ∙ short))),
)
keeps-followed takes answers options ledger armed known old middle new status ended whole past (inr (due, crews)) next = (
  (λ other. WritesLines-trans old middle new (whole (λ failed. done-written (sym due.1 ∙ failed))) (next other)),
  (λ short. absurd (crews-short _ _ _ _ _ _ _ _ _ ended crews short)),
)

-- nothing is written where no book is opened
keeps-unopened : (known old : Option (List ℕ)) (error : OpenError) (ended : Ending) → ended ≡ Ran (status_unopened error) → KeepsLines known old old ended
keeps-unopened known old error ended is =
    ((λ other. WritesLines-none old), (λ same. absurd (short error (ran-same (status_unopened error) ScriptTooLong (sym is ∙ same)))))
  where
    short : (e : OpenError) → status_unopened e ≡ ScriptTooLong → ⊥
    short Memory h = cc h
    short (BadEntry n) h = cc h
    short Fault h = cc h

pub keeps-refused : (known old : Option (List ℕ)) (content : Content) (error : OpenError) (ended : Ending) → IsRefusedSo content error ended → KeepsLines known old old ended
keeps-refused known old content error ended (inl is) = keeps-unopened known old error ended is
keeps-refused known old content error ended (inr (number, is, tells)) =
    ((λ other. WritesLines-none old), (λ same. cc (tells.is, same)))
