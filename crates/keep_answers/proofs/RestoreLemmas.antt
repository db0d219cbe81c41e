-- What a restore gives, entry by entry.
use Rattle.std.proofs.Common.{◌≡◌, ℕ, Bool, IfOk, true, false, List, [], ◌∷◌, ◌++◌, map, length, Option, Result, Ok, Err, Less, String, Vec, Global, string_bytes, refl, sym, ap, subst, ◌∙◌, append_assoc, inl, inr, ◌⊎◌}
use Rattle.std.specs.declared.alloc.AllocError.{AllocError}
use Rattle.std.specs.String.{string_cmp}
use Rattle.std.proofs.lemmas.Bool.{true_from_ne_false}
use Rattle.std.proofs.lemmas.Cmp.{nat_list_cmp_total}
use Rattle.std.proofs.lemmas.List.{length-map}
use Rattle.std.specs.FinMap as finite
use Rattle.std.specs.List.{AllByRecursion, flat_map}
use Rattle.std.specs.List.Sorted.{IsStrictlySortedBy}
use Rattle.std.specs.Map.{keys_of}
use Rattle.std.specs.Result.{result_map_both}
use Rattle.keep_docs.specs.Doc.{Answers}
use Rattle.keep_names.specs.declared.id.Id.{Id}
use Rattle.keep_repo.proofs.Maps.{entries_made, len_made}
use Rattle.keep_repo.specs.Repository.{Repository, is_filled}
use Rattle.keep_read.specs.Findings.{findings_in}
use Rattle.keep_read.specs.Restored.{RestoredData, path_cmp, restored, restored_view, snapshot_facet}
use Rattle.keep_read.specs.declared.finding.Finding.{Finding}
use Rattle.keep_read.specs.declared.restore_error.RestoreError.{RestoreError}
use Rattle.keep_read.specs.declared.restore_error.RestoreError.TheVariants.{NoSnapshot, Reach, Unread}
use Rattle.keep_catalog.specs.declared.reach_error.ReachError.TheVariants.{BadTree, Memory, MissingBlob, TooDeep, WrongHash}
use Rattle.keep_read.specs.declared.restored.RestoredFiles.{RestoredFiles}
use Rattle.keep_answers.specs.Answer.{Restores, Tells}
use Rattle.keep_answers.specs.Known.{Puts}
use Rattle.keep_answers.specs.State.{State}
use Rattle.keep_answers.specs.Text.{audit_answer, audit_last, finding_line, found_answer, no_memory_answer, restore_answer, restored_answer, restored_last, restored_line}
use Rattle.keep_answers.specs.declared.meant.Topic.TheVariants.{Audit}
use Rattle.keep_answers.specs.declared.halt.Halt.{Halt}

-- the entries as contracts see them
abbrev pub pairs : List (String Global × Vec ℕ Global) → List (List ℕ × List ℕ)
pairs es = map (λ e. (string_bytes e.0, e.1.items)) es

all_above : (k : String Global) (es : List (String Global × Vec ℕ Global)) → AllByRecursion (λ y. string_cmp k y ≡ Less) (keys_of es) → AllByRecursion (λ y. path_cmp (string_bytes k) y ≡ Less) (keys_of (pairs es))
all_above k [] h = tt
all_above k (e ∷ es) h = (h.0, all_above k es h.1)

-- entries in the order of their keys are in the order of their paths
sorted_pairs : (es : List (String Global × Vec ℕ Global)) → IsStrictlySortedBy string_cmp (keys_of es) → IsStrictlySortedBy path_cmp (keys_of (pairs es))
unfolding IsStrictlySortedBy
sorted_pairs [] h = tt
sorted_pairs (e ∷ es) h = (all_above e.0 es h.0, sorted_pairs es h.1)

module _ (es : List (String Global × Vec ℕ Global)) (sorted : IsStrictlySortedBy string_cmp (keys_of es)) where
  files_counted : finite.len (finite.from_entries {R = path_cmp} (pairs es)) ≡ length es
  files_counted = len_made nat_list_cmp_total (pairs es) (sorted_pairs es sorted) ∙ length-map es _

  -- the counts that were written are those of the files
  pub Puts-counts : (a b : Option (List ℕ)) (skipped count : ℕ) (text : List ℕ) (r : Result (Unit {0}) Halt) → count ≡ length es → text ≡ restored_last count skipped
      → Puts a b text r → Puts a b (restored_last (finite.len (finite.from_entries {R = path_cmp} (pairs es))) skipped) r
  Puts-counts a b skipped count text r counted told puts =
      subst (λ t. Puts a b t r) (told ∙ ap (λ n. restored_last n skipped) (counted ∙ sym files_counted)) puts

  -- the lines of the files, as far as they were written, and then the rest
  pub restored_split : (skipped : ℕ) (written rest : List ℕ) → written ++ rest ≡ flat_map restored_line (pairs es)
      → restored_answer (record { files = finite.from_entries (pairs es); skipped = skipped })
      ≡ written ++ (rest ++ restored_last (finite.len (finite.from_entries {R = path_cmp} (pairs es))) skipped)
  restored_split skipped written rest split =
      let counts : List ℕ = restored_last (finite.len (finite.from_entries {R = path_cmp} (pairs es))) skipped in
      ap (λ files. flat_map restored_line files ++ counts) (entries_made nat_list_cmp_total (pairs es) (sorted_pairs es sorted))
      ∙ ap (λ l. l ++ counts) (sym split) ∙ append_assoc written rest counts

-- one file more was written
pub next_split : (all left rest : List (String Global × Vec ℕ Global)) (path : String Global) (bytes : Vec ℕ Global) (written line : List ℕ) → left ≡ (path, bytes) ∷ rest
    → line ≡ restored_line (string_bytes path, bytes.items) → written ++ flat_map restored_line (pairs left) ≡ flat_map restored_line (pairs all)
    → (written ++ line) ++ flat_map restored_line (pairs rest) ≡ flat_map restored_line (pairs all)
next_split all left rest path bytes written line first told split =
    append_assoc written line (flat_map restored_line (pairs rest))
    ∙ ap (λ l. written ++ (l ++ flat_map restored_line (pairs rest))) told
    ∙ ap (λ es. written ++ flat_map restored_line (pairs es)) (sym first) ∙ split

-- all files were written
pub last_split : (all left : List (String Global × Vec ℕ Global)) (written : List ℕ) → left ≡ []
    → written ++ flat_map restored_line (pairs left) ≡ flat_map restored_line (pairs all) → written ++ [] ≡ flat_map restored_line (pairs all)
last_split all left written none split = ap (λ es. written ++ flat_map restored_line (pairs es)) (sym none) ∙ split

-- the lines of the findings, as far as they were written, and then the rest
pub audit_split : (findings : List Finding) (written rest : List ℕ) → written ++ rest ≡ flat_map finding_line findings
    → found_answer findings ≡ written ++ (rest ++ audit_last (length findings))
audit_split findings written rest split = ap (λ l. l ++ audit_last (length findings)) (sym split) ∙ append_assoc written rest (audit_last (length findings))

-- what a restore told is what it has to tell, or that memory ran out, where the snapshot was there
restore_told : (is_there : Bool) (due : Result RestoredData RestoreError) (outcome : Result RestoredFiles RestoreError) → Answers (Reach Memory) restored_view due outcome → (is_there ≡ false → outcome ≡ Err NoSnapshot)
    → (restore_answer (result_map_both restored_view (λ e. e) outcome) ≡ restore_answer due) ⊎ ((is_there ≡ true) × (restore_answer (result_map_both restored_view (λ e. e) outcome) ≡ no_memory_answer))
restore_told is_there due (Ok restored) h none = inl (ap restore_answer (sym h))
restore_told is_there due (Err NoSnapshot) h none = inl (ap restore_answer (sym (h (λ e. cc e))))
restore_told is_there due (Err (Unread file)) h none = inl (ap restore_answer (sym (h (λ e. cc e))))
restore_told is_there due (Err (Reach Memory)) h none = inr (true_from_ne_false is_there (λ gone. cc (none gone)), refl)
restore_told is_there due (Err (Reach TooDeep)) h none = inl (ap restore_answer (sym (h (λ e. cc e))))
restore_told is_there due (Err (Reach BadTree)) h none = inl (ap restore_answer (sym (h (λ e. cc e))))
restore_told is_there due (Err (Reach (MissingBlob blob))) h none = inl (ap restore_answer (sym (h (λ e. cc e))))
restore_told is_there due (Err (Reach (WrongHash blob))) h none = inl (ap restore_answer (sym (h (λ e. cc e))))

-- so a restore was answered
pub Restored-tells : (repository : Repository) (snapshot : Id) (outcome : Result RestoredFiles RestoreError) → Answers (Reach Memory) restored_view (restored repository snapshot) outcome
    → (is_filled repository (snapshot_facet snapshot) ≡ false → outcome ≡ Err NoSnapshot)
    → Restores repository snapshot (restore_answer (result_map_both restored_view (λ e. e) outcome))
Restored-tells repository snapshot outcome told none = restore_told (is_filled repository (snapshot_facet snapshot)) (restored repository snapshot) outcome told none

-- what an audit told is what it finds, or that memory ran out
pub Audited-tells : (state : State) (outcome : Result (Vec Finding Global) AllocError) → IfOk outcome (λ findings. findings.items ≡ findings_in state.book.live)
    → Tells state Audit (audit_answer (result_map_both (λ findings. findings.items) (λ error. error) outcome))
Audited-tells state (Ok findings) h = inl (ap found_answer h)
Audited-tells state (Err error) h = inr refl
