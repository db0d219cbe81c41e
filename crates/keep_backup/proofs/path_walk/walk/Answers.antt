use Rattle.std.proofs.Common.{◌≡◌, ◌≢◌, ℕ, Bool, true, false, cond, ltb, map, vec_len, Ok, Err, Some, None, Result, IfErr, IfOk, OnOk, sym, ap, subst, ◌∙◌, rules, tests}
use Rattle.std.proofs.lemmas.Iterator.{YieldsList-from_slice}
use Rattle.std.proofs.lemmas.Iterator.Search.{any_from_yields_List}
use Rattle.std.specs.List.{list_any}
use Rattle.keep_reach.specs.Reach.{most_levels}
use Rattle.keep_build.specs.Blobs.{id_of, is_full}
use Rattle.keep_backup.specs.Files.{file_view, paths_seen}
use Rattle.keep_backup.specs.Folders.{Folder, root_folder}
use Rattle.keep_backup.specs.Paths.{HaveNames, is_too_deep}
use Rattle.keep_backup.specs.Walk.{Took, blobs_of, root_tree}
use Rattle.keep_plan.specs.declared.plan_error.PlanError.{PlanError}
use Rattle.keep_plan.specs.declared.plan_error.PlanError.TheVariants.{Full, Memory, TooDeep}
use Rattle.keep_backup.proofs.Deep.{deep_files, names_within, no_less, root_is}
use Rattle.keep_backup.proofs.path_walk.walk.Goals as goal

within : (c : goal.After-walk_folder-arg-1) → list_any is_too_deep (paths_seen 0 c.args.files.now) ≡ false
within c =
    sym (deep_files c.args.files.now)
    ∙ sym (any_from_yields_List (λ file. ltb 256 (vec_len file.names)) _ _ _ c.any.ensures.ran (YieldsList-from_slice c.args.files.now c.iter.ensures.rest) (λ x b q k. search (rules, tests)))
    ∙ c.if-any.false

pub returns-then-any-clause-refused : goal.returns-then-any-clause-refused
returns-then-any-clause-refused c = λ _.
    let deep = sym (deep_files c.args.files.now)
    ∙ sym (any_from_yields_List (λ file. ltb 256 (vec_len file.names)) _ _ _ c.any.ensures.ran (YieldsList-from_slice c.args.files.now c.iter.ensures.rest) (λ x b q k. search (rules, tests)))
    ∙ c.if-any.true in
    let full = list_any is_full (blobs_of c.args.cut.bytes (root_folder (map file_view c.args.files.now))) in
    ap (λ b. cond b (Some TooDeep) (cond full (Some Full) None)) deep

pub walk_folder-requires-clause-names : goal.walk_folder-requires-clause-names
walk_folder-requires-clause-names c =
    let N : ℕ → Type 0 = λ n. HaveNames n (paths_seen 0 c.args.files.now) in
    subst N (sym (no_less most_levels)) (names_within (paths_seen 0 c.args.files.now) c.requires.named (within c))

always_ok : {T E P : Type 0} (r : Result T E) → P → OnOk r P
always_ok (Ok x) h = h
always_ok (Err e) h = tt

pub returns-clause-within : goal.returns-clause-within
returns-clause-within c =
    always_ok c.walk_folder.result (sym (deep_files c.args.files.now)
    ∙ sym (any_from_yields_List (λ file. ltb 256 (vec_len file.names)) _ _ _ c.any.ensures.ran (YieldsList-from_slice c.args.files.now c.iter.ensures.rest) (λ x b q k. search (rules, tests)))
    ∙ c.if-any.false)

pub returns-clause-took : goal.returns-clause-took
returns-clause-took c =
    let T : Folder → Type 0 = λ folder. OnOk c.walk_folder.result (Took (blobs_of c.args.cut.bytes folder) c.args.storing.now c.walk_folder.new.storing) in
    subst T (root_is c.args.files.now) c.walk_folder.ensures.took

pub returns-clause-root : goal.returns-clause-root
returns-clause-root c =
    let I : Folder → Type 0 = λ folder. IfOk c.walk_folder.result (λ id. id ≡ id_of (root_tree c.args.cut.bytes folder)) in
    subst I (root_is c.args.files.now) c.walk_folder.ensures.id

refused_so : {T : Type 0} (r : Result T PlanError) (deep full : Bool) → deep ≡ false → IfErr r (λ error. error ≢ Memory → (error ≡ Full) × (full ≡ true)) → IfErr r (λ error. error ≢ Memory → cond deep (Some TooDeep) (cond full (Some Full) None) ≡ Some error)
refused_so (Ok x) deep full is h = tt
refused_so (Err e) deep full is h = λ other.
    let due = h other in
    ap (λ b. cond b (Some TooDeep) (cond full (Some Full) None)) is ∙ ap (λ b. cond b (Some Full) None) due.1 ∙ ap (λ x. Some x) (sym due.0)

pub returns-clause-refused : goal.returns-clause-refused
returns-clause-refused c =
    let deep = sym (deep_files c.args.files.now)
    ∙ sym (any_from_yields_List (λ file. ltb 256 (vec_len file.names)) _ _ _ c.any.ensures.ran (YieldsList-from_slice c.args.files.now c.iter.ensures.rest) (λ x b q k. search (rules, tests)))
    ∙ c.if-any.false in
    let R : Folder → Type 0 = λ folder. IfErr c.walk_folder.result (λ error. error ≢ Memory → (error ≡ Full) × (list_any is_full (blobs_of c.args.cut.bytes folder) ≡ true)) in
    refused_so c.walk_folder.result (list_any is_too_deep (paths_seen 0 c.args.files.now)) (list_any is_full (blobs_of c.args.cut.bytes (root_folder (map file_view c.args.files.now)))) deep (subst R (root_is c.args.files.now) c.walk_folder.ensures.refused)
