-- Where a veto or a watch of a name is, and how it comes to be armed.
use Rattle.std.specs.Prelude.{◌≡◌, ⊤, ℕ, ◌<◌, if◌then◌else◌, List, length, Option, Some, None, Result, Ok, Err, remove, slice_get}
use Rattle.std.specs.List.{position_from}
use Rattle.std.specs.Str.{bytes_eq}
use Rattle.keep_book.specs.Armed.{with_veto, with_watch}
use Rattle.keep_book.specs.Names.{is_armed}
use Rattle.keep_hooks.specs.Guards.{HooksData, Rule, WatchData}
use Rattle.keep_hooks.specs.Rules.{armed_at}
use Rattle.keep_jobs.specs.Kits.{KitData}
use Rattle.keep_journal.specs.History.{length_of}
use Rattle.keep_journal.specs.Journal.{Journal}
use Rattle.keep_answers.specs.State.{State}
use Rattle.keep_answers.specs.declared.arming.Unarmed.{Unarmed}
use Rattle.keep_answers.specs.declared.arming.Unarmed.TheVariants.{DoubleName, Memory}
use Rattle.keep_answers.specs.declared.hook_place.HookPlace.{HookPlace}
use Rattle.keep_answers.specs.declared.hook_place.HookPlace.TheVariants.{Armed, Veto, Watch}

-- the place of the first veto of this name
abbrev pub veto_place : List ℕ → List Rule → Option ℕ
veto_place name vetoes = position_from (λ (veto : Rule). bytes_eq veto.name name) 0 vetoes

-- the place of the first watch of this name
abbrev pub watch_place : List ℕ → List WatchData → Option ℕ
watch_place name watches = position_from (λ (watch : WatchData). bytes_eq watch.name name) 0 watches

-- of a veto and a watch that can be armed, the veto
abbrev pub spare_place : Option ℕ → Option ℕ → Option HookPlace
spare_place (Some veto) watch = Some (Veto veto)
spare_place None (Some watch) = Some (Watch watch)
spare_place None None = None

-- where the veto or the watch of the name is: it is armed, or else the kit has it
abbrev pub hook_place : HooksData → KitData → List ℕ → Option HookPlace
hook_place armed kit name =
    if is_armed name armed then Some Armed else spare_place (veto_place name kit.vetoes) (watch_place name kit.watches)

-- the kit has something at the place
abbrev pub IsThere : HookPlace → KitData → Type 0
IsThere Armed kit = ⊤
IsThere (Veto place) kit = place < length kit.vetoes
IsThere (Watch place) kit = place < length kit.watches

-- a watch is armed at the length that the history has
abbrev pub with_watch_now : Journal → WatchData → HooksData → HooksData
with_watch_now j watch hooks = with_watch (armed_at (length_of j) watch) hooks

-- what is at the place goes from the list, and is armed behind the others, in this way
abbrev pub MovesOne : {A : Type 0} → (A → HooksData → HooksData) → ℕ → List A → HooksData → List A → HooksData → Type 0
MovesOne {A} arm place from armed from' armed' =
    (item : A) × (slice_get from place ≡ Some item) × (from' ≡ remove from place) × (armed' ≡ arm item armed)

-- it does so, or all stays, for want of memory
abbrev pub Moves : {A : Type 0} → (A → HooksData → HooksData) → ℕ → List A → HooksData → Result (Unit {0}) Unarmed
    → List A → HooksData → Type 0
Moves arm place from armed (Ok _) from' armed' = MovesOne arm place from armed from' armed'
Moves arm place from armed (Err why) from' armed' = (why ≡ Memory) × (from' ≡ from) × (armed' ≡ armed)

-- the kit's veto at the place is armed
abbrev pub ArmsVeto : State → ℕ → State → Type 0
ArmsVeto state place after =
    MovesOne with_veto place state.spare_vetoes state.armed after.spare_vetoes after.armed
    × (after ≡ record state { armed = after.armed; spare_vetoes = after.spare_vetoes })

-- the kit's watch at the place is
abbrev pub ArmsWatch : State → ℕ → State → Type 0
ArmsWatch state place after =
    MovesOne (with_watch_now state.book.events) place state.spare_watches state.armed after.spare_watches after.armed
    × (after ≡ record state { armed = after.armed; spare_watches = after.spare_watches })

-- what came of arming what is at the place
abbrev pub Arming : State → HookPlace → Result (Unit {0}) Unarmed → State → Type 0
Arming state Armed (Ok _) after = ⊥
Arming state (Veto place) (Ok _) after = ArmsVeto state place after
Arming state (Watch place) (Ok _) after = ArmsWatch state place after
Arming state Armed (Err why) after = (why ≡ DoubleName) × (after ≡ state)
Arming state (Veto place) (Err why) after = (why ≡ Memory) × (after ≡ state)
Arming state (Watch place) (Err why) after = (why ≡ Memory) × (after ≡ state)
