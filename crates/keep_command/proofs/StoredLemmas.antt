-- What is stored for lines, by names and rules.
use Rattle.std.proofs.Common.{◌≡◌, ℕ, IfOk, List, [], ◌∷◌, Option, Result, Ok, Err, String, codes, inl, refl, string_bytes, subst}
use Rattle.std.specs.Global.{Global}
use Rattle.keep_hooks.specs.declared.limit.Limit.{Limit}
use Rattle.keep_hooks.specs.declared.limit.Limit.TheVariants.{NoEmpty, SnapshotDropsAtMost}
use Rattle.keep_hooks.specs.declared.measure.Measure.{Measure}
use Rattle.keep_hooks.specs.declared.measure.Measure.TheVariants.{Events, FilesWritten}
use Rattle.keep_plan.specs.declared.pick.Pick.{Pick}
use Rattle.keep_plan.specs.declared.pick.Pick.TheVariants.{Any, Host, Tagged}
use Rattle.keep_jobs.specs.Kits.{NamedRule}
use Rattle.keep_shelf.specs.Shelved.{Shelved}
use Rattle.keep_disk.specs.declared.folder_error.FolderError.{FolderError}
use Rattle.keep_operators.specs.declared.order.NoCrew.{NoCrew}
use Rattle.keep_operators.specs.declared.order.CrewTally.{CrewTally}
use Rattle.keep_command.specs.Left.{LeftData}
use Rattle.keep_options.specs.Option.{OptionsData}
use Rattle.keep_command.specs.Following.{EndsBy, EndsWith}
use Rattle.keep_command.specs.Running.{KeepsLines, stored, stored_filters, stored_vetoes, stored_watches}
use Rattle.keep_command.specs.declared.ending.Ending.{Ending}

pub are-filters : (first second third : List ℕ) (p q r : Pick) (host tag : String Global) → first ≡ codes "all" → p ≡ Any → second ≡ codes "host" → q ≡ Host host → third ≡ codes "tagged" → r ≡ Tagged tag
    → (first, p) ∷ (second, q) ∷ (third, r) ∷ [] ≡ stored_filters host tag
are-filters first second third p q r host tag all any of_host is_host of_tag is_tag = rw (all, any, of_host, is_host, of_tag, is_tag) refl

pub are-vetoes : (first second : List ℕ) (p q : Limit) (drops : ℕ) → first ≡ codes "few-drops" → p ≡ SnapshotDropsAtMost drops → second ≡ codes "no-empty" → q ≡ NoEmpty
    → record { name = first; limit = p } ∷ record { name = second; limit = q } ∷ [] ≡ stored_vetoes drops
are-vetoes first second p q drops few is_few empty is_empty = rw (few, is_few, empty, is_empty) refl

pub are-watches : (first second : List ℕ) (p q : Measure) → first ≡ codes "events" → p ≡ Events → second ≡ codes "files" → q ≡ FilesWritten
    → record { name = first; measure = p } ∷ record { name = second; measure = q } ∷ [] ≡ stored_watches
are-watches first second p q events is_events files is_files = rw (events, is_events, files, is_files) refl

-- an end with just the filters of the kit is one by the options
pub ends-by : {S E : Type 0} (shelved : S → Shelved) (gives : Option (List ℕ) → Result S FolderError → Type 0) (takes : LeftData → Type 0) (answers : Result CrewTally NoCrew → Type 0) (r : Result Ending E) (options : OptionsData) (filters : List NamedRule) (host tag : String Global) (known left old new : Option (List ℕ))
    → string_bytes host ≡ options.host → string_bytes tag ≡ options.tagged → filters ≡ stored_filters host tag
    → IfOk r (λ ended. EndsWith shelved gives takes answers (stored filters options.drops) options known left old new ended × KeepsLines known old new ended)
    → IfOk r (λ ended. EndsBy shelved gives takes answers options known left old new ended × KeepsLines known old new ended)
ends-by shelved gives takes answers (Ok ended) options filters host tag known left old new of_host of_tag same h = (
  inl (
    host,
    tag,
    of_host,
    of_tag,
    subst (λ (found : List NamedRule). EndsWith shelved gives takes answers (stored found options.drops) options known left old new ended) same h.0,
  ),
  h.1,
)
ends-by shelved gives takes answers (Err error) options filters host tag known left old new of_host of_tag same h = tt
