-- What follows from what a command means.
use Rattle.std.proofs.Common.{◌≡◌, ℕ, List, Option, Some, None, Result, Ok, Err, inl, inr, ap, refl, subst, ◌∙◌}
use Rattle.std.proofs.lemmas.Bool.{cases_Bool}
use Rattle.std.proofs.lemmas.Iterator.Adapters.{position_from-zero}
use Rattle.std.proofs.lemmas.List.Quantifiers.{position-Some}
use Rattle.std.specs.Prelude.{ok_or, option_map}
use Rattle.std.specs.Str.{bytes_eq}
use Rattle.keep_book.specs.Names.{is_armed}
use Rattle.keep_hooks.specs.Guards.{HooksData, Rule, WatchData}
use Rattle.keep_hooks.specs.declared.limit.Limit.TheVariants.{NoEmpty}
use Rattle.keep_hooks.specs.declared.measure.Measure.TheVariants.{Events}
use Rattle.keep_jobs.specs.Job.{JobData}
use Rattle.keep_jobs.specs.Kits.{KitData, NamedRule}
use Rattle.keep_jobs.specs.Resolving.{job_of}
use Rattle.keep_lines.specs.declared.command.Command.{Command}
use Rattle.keep_lines.specs.declared.command.Command.TheVariants as command
use Rattle.keep_lines.specs.declared.job_line.JobLine.{JobLine}
use Rattle.keep_lines.specs.declared.mistake.Mistake.{Mistake}
use Rattle.keep_lines.specs.declared.question.Question.TheVariants as question
use Rattle.keep_lines.specs.declared.raw_file.RawFile.TheVariants as raw_file
use Rattle.keep_names.specs.declared.file_name.FileName.{FileName}
use Rattle.keep_names.specs.declared.file_name.Kind.TheVariants.{Snapshot}
use Rattle.keep_repo.specs.Repository.{Repository}
use Rattle.keep_answers.specs.Answer.{Arms}
use Rattle.keep_answers.specs.Arming.{Arming, IsThere, hook_place, spare_place, veto_place, watch_place}
use Rattle.keep_answers.specs.Files.{file_meant}
use Rattle.keep_answers.specs.Meaning.{Arm, Compare, Drop, Job, MeantData, Restore, job_meant, meant_by}
use Rattle.keep_answers.specs.State.{State, kit_of}
use Rattle.keep_answers.specs.Text.{arming_answer}
use Rattle.keep_answers.specs.declared.arming.Unarmed.{Unarmed}
use Rattle.keep_answers.specs.declared.hook_place.HookPlace.{HookPlace}
use Rattle.keep_answers.specs.declared.hook_place.HookPlace.TheVariants.{Armed, Veto, Watch}

-- ---- jobs

-- a line means the job whose values were found
pub Job-due : (filters : List NamedRule) (line : JobLine) (asked : JobData) → job_of filters line ≡ Some asked → job_meant filters line ≡ Ok (Job asked)
Job-due filters line asked found = rw found refl

-- ---- hooks

-- what came of arming was told
pub Arms-told : (state after : State) (name : List ℕ) (place : HookPlace) (r : Result (Unit {0}) Unarmed) → Arming state place r after → Arms state name place (arming_answer name r) after
Arms-told state after name Armed (Ok u) h = absurd h
Arms-told state after name (Veto place) (Ok u) h = inr (after, h, record { text = refl; same = refl })
Arms-told state after name (Watch place) (Ok u) h = inr (after, h, record { text = refl; same = refl })
Arms-told state after name Armed (Err why) h = rw h.0 (record { text = refl; same = h.1 })
Arms-told state after name (Veto place) (Err why) h = rw h.0 (inl (record { text = refl; same = h.1 }))
Arms-told state after name (Watch place) (Err why) h = rw h.0 (inl (record { text = refl; same = h.1 }))

-- the kit has what a name was found for
spare_there : (kit : KitData) (name : List ℕ) (veto watch : Option ℕ) (place : HookPlace) → veto_place name kit.vetoes ≡ veto → watch_place name kit.watches ≡ watch → spare_place veto watch ≡ Some place → IsThere place kit
spare_there kit name (Some veto) watch place first second e =
    let within = position-Some (λ (rule : Rule). bytes_eq rule.name name) kit.vetoes veto (record { name = name; limit = NoEmpty }) (position_from-zero (λ (rule : Rule). bytes_eq rule.name name) kit.vetoes ∙ first) in
    let same : Veto veto ≡ place = cc e in
    subst (λ p. IsThere p kit) same within.0
spare_there kit name None (Some watch) place first second e =
    let within = position-Some (λ (rule : WatchData). bytes_eq rule.name name) kit.watches watch (record { name = name; measure = Events }) (position_from-zero (λ (rule : WatchData). bytes_eq rule.name name) kit.watches ∙ second) in
    let same : Watch watch ≡ place = cc e in
    subst (λ p. IsThere p kit) same within.0
spare_there kit name None None place first second e = cc e

hook_there : (armed : HooksData) (kit : KitData) (name : List ℕ) (place : HookPlace) → hook_place armed kit name ≡ Some place → IsThere place kit
hook_there armed kit name place e = elim (cases_Bool (is_armed name armed)) [
  | inl is ↦
      let found : ◌≡◌ {A = Option HookPlace} (Some Armed) (Some place) = rw is at e in
      let same : Armed ≡ place = cc found in
      subst (λ p. IsThere p kit) same tt
  | inr other ↦ spare_there kit name (veto_place name kit.vetoes) (watch_place name kit.watches) place refl refl (rw other at e)
]

-- what a name means is what was found for it
arm_found : (found : Option HookPlace) (word name : List ℕ) (place : HookPlace) (why : Mistake) → ok_or (option_map (Arm word) found) why ≡ Ok (Arm name place) → found ≡ Some place
arm_found None word name place why e = cc e
arm_found (Some p) word name place why e =
    let same : p ≡ place = cc e in
    ap Some same

-- and nothing else means to arm it
other_found : {A : Type 0} (mean : A → MeantData) (found : Option A) (why : Mistake) (meant : MeantData) → ((value : A) → mean value ≡ meant → ⊥) → ok_or (option_map mean found) why ≡ Ok meant → ⊥
other_found mean None why meant other e = cc e
other_found mean (Some value) why meant other e = other value (cc e)

pub arm_there : (state : State) (asked : Command) (name : List ℕ) (place : HookPlace) → meant_by state asked ≡ Ok (Arm name place) → IsThere place (kit_of state)
arm_there state (command.Job line) name place e = absurd (other_found Job (job_of state.filters line) _ (Arm name place) (λ value h. cc h) e)
arm_there state (command.RawFile (raw_file.Add kind bytes)) name place e = cc e
arm_there state (command.RawFile (raw_file.Drop kind target)) name place e = absurd (other_found Drop (file_meant state.book.events kind target) _ (Arm name place) (λ value h. cc h) e)
arm_there state (command.Revision revision) name place e = cc e
arm_there state (command.Cascade n) name place e = cc e
arm_there state (command.Question question.List) name place e = cc e
arm_there state (command.Question question.Count) name place e = cc e
arm_there state (command.Question question.History) name place e = cc e
arm_there state (command.Question question.Audit) name place e = cc e
arm_there state (command.Question question.Totals) name place e = cc e
arm_there state (command.Question (question.Same word)) name place e = absurd (other_found (Compare word.now) (state.notes word.now) _ (Arm name place) (λ (value : Repository) h. cc h) e)
arm_there state (command.Question (question.Restore target)) name place e =
    absurd (other_found (λ (file : FileName). Restore file.id) (file_meant state.book.events Snapshot target) _ (Arm name place) (λ value h. cc h) e)
arm_there state (command.Note word) name place e = cc e
arm_there state (command.Arm word) name place e =
    hook_there state.armed (kit_of state) word.now place (arm_found (hook_place state.armed (kit_of state) word.now) word.now name place _ e)
