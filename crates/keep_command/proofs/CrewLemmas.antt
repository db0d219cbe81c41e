-- How the program ends that was to have a crew work.
use Rattle.std.proofs.Common.{◌≡◌, ◌∙◌, ℕ, List, Option, Result, Ok, Err, inl, inr, refl, subst, sym}
use Rattle.keep_hooks.specs.Guards.{HooksData}
use Rattle.keep_ledger.specs.OnShelf.{OnShelf}
use Rattle.keep_jobs.specs.Job.{SettingsData}
use Rattle.keep_operators.specs.Crewed.{IsCrewed}
use Rattle.keep_operators.specs.declared.order.NoCrew.{NoCrew}
use Rattle.keep_operators.specs.declared.order.NoCrew.TheVariants as uncrewed
use Rattle.keep_operators.specs.declared.order.CrewTally.{CrewTally}
use Rattle.keep_script.specs.declared.status.RunStatus.{RunStatus}
use Rattle.keep_script.specs.declared.status.RunStatus.TheVariants.{Done, ScriptTooLong, Untold, WriteFailed}
use Rattle.keep_options.specs.Option.{OptionsData}
use Rattle.keep_command.specs.Ending.{ending_uncrewed}
use Rattle.keep_command.specs.Following.{Crews, Follows, ReportsCrew}
use Rattle.keep_command.specs.Left.{LeftBook, LeftData}
use Rattle.keep_command.specs.declared.ending.Ending.{Ending}
use Rattle.keep_command.specs.declared.ending.Ending.TheVariants.{Ran}

-- a script behind which a crew was to work isn't too long
done-short : Ran Done ≡ Ran ScriptTooLong → ⊥
done-short e = cc e

write-short : Ran WriteFailed ≡ Ran ScriptTooLong → ⊥
write-short e = cc e

untold-short : Ran Untold ≡ Ran ScriptTooLong → ⊥
untold-short e = cc e

uncrewed-short : (error : NoCrew) → ending_uncrewed error ≡ Ran ScriptTooLong → ⊥
uncrewed-short uncrewed.Memory e = cc e
uncrewed-short uncrewed.NoPass e = cc e

pub crews-short : (takes : LeftData → Type 0) (answers : Result CrewTally NoCrew → Type 0) (settings : SettingsData) (time : List ℕ) (size : ℕ) (before : OnShelf) (armed : HooksData) (old new : Option (List ℕ)) (ended : Ending)
    → Crews takes answers settings time size before armed old new ended → ended ≡ Ran ScriptTooLong → ⊥
crews-short takes answers settings time size before armed old new ended (inl h) short = go h.told
  where
    go : ReportsCrew old new size h.tally ended → ⊥
    go (inl (inl (put, e))) = done-short (sym e ∙ short)
    go (inl (inr (part, e))) = write-short (sym e ∙ short)
    go (inr (fewer, same, e)) = untold-short (sym e ∙ short)
crews-short takes answers settings time size before armed old new ended (inr none) short = uncrewed-short none.error (sym none.told ∙ short)

-- a crew that worked by what it was asked for, and was told of
pub crews-worked : (takes : LeftData → Type 0) (answers : Result CrewTally NoCrew → Type 0) (asked settings : SettingsData) (at time : List ℕ) (many size : ℕ) (before after : OnShelf) (armed kept : HooksData) (tally : CrewTally) (old new : Option (List ℕ)) (ended : Ending)
    → asked ≡ settings → at ≡ time → many ≡ size → kept ≡ armed → answers (Ok tally)
    → IsCrewed armed.vetoes asked at many before.state after.state tally.accepted tally.length → takes (LeftBook after kept)
    → ReportsCrew old new size tally ended → Crews takes answers settings time size before armed old new ended
crews-worked takes answers asked settings at time many size before after armed kept tally old new ended by when of_size stays answered h taken told = inl (record {
  after = after;
  tally = tally;
  answered = answered;
  crewed = subst (λ (s : SettingsData). IsCrewed armed.vetoes s time size before.state after.state tally.accepted tally.length) by
      (subst (λ (t : List ℕ). IsCrewed armed.vetoes asked t size before.state after.state tally.accepted tally.length) when
      (subst (λ (n : ℕ). IsCrewed armed.vetoes asked at n before.state after.state tally.accepted tally.length) of_size h));
  let_go = subst (λ (hooks : HooksData). takes (LeftBook after hooks)) stays taken;
  told = told;
})

-- a crew that was refused, with the book handed back as it was
pub crews-uncrewed : (takes : LeftData → Type 0) (answers : Result CrewTally NoCrew → Type 0) (settings : SettingsData) (time : List ℕ) (size : ℕ) (before handed : OnShelf) (armed kept : HooksData) (old : Option (List ℕ)) (error : NoCrew) (ended : Ending)
    → handed ≡ before → kept ≡ armed → answers (Err error) → takes (LeftBook handed kept) → ended ≡ ending_uncrewed error
    → Crews takes answers settings time size before armed old old ended
crews-uncrewed takes answers settings time size before handed armed kept old error ended same stays answered taken told = inr (record {
  error = error;
  answered = answered;
  let_go = subst (λ (book : OnShelf). takes (LeftBook book armed)) same (subst (λ (hooks : HooksData). takes (LeftBook handed hooks)) stays taken);
  told = told;
  unwritten = refl;
})

-- what follows, said of a book with this ledger, under what is armed
pub follows-where : (takes : LeftData → Type 0) (answers : Result CrewTally NoCrew → Type 0) (options : OptionsData) (ledger ledger' : OnShelf) (armed armed' : HooksData) (old new : Option (List ℕ)) (status : RunStatus) (ended : Ending)
    → ledger ≡ ledger' → armed ≡ armed' → Follows takes answers options ledger armed old new status ended → Follows takes answers options ledger' armed' old new status ended
follows-where takes answers options ledger ledger' armed armed' old new status ended stands same h =
    subst (λ (hooks : HooksData). Follows takes answers options ledger' hooks old new status ended) same
    (subst (λ (b : OnShelf). Follows takes answers options b armed old new status ended) stands h)
