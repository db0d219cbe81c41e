-- What a list of nodes that was had or refused says.
use Rattle.std.proofs.Common.{◌≡◌, List, [], ◌∷◌, ◌++◌, Result, Ok, Err, refl, sym, ap, ◌∙◌}
use Rattle.keep_names.specs.declared.id.Id.{Id}
use Rattle.keep_nodes.specs.Entries.{EntryData}
use Rattle.keep_read.specs.declared.restore_error.RestoreError.{RestoreError}
use Rattle.keep_looks.specs.Shown.{had, unlisted_by}
use Rattle.keep_looks.specs.declared.unlisted.Unlisted.{Unlisted}

nothing_behind : {A : Type 0} (xs : List A) → xs ≡ xs ++ []
nothing_behind [] = refl
nothing_behind (x ∷ xs) = ap (λ rest. x ∷ rest) (nothing_behind xs)

pub had_ok : (due : Result (List EntryData) RestoreError) (entries : List EntryData) → due ≡ Ok entries → entries ≡ had due
had_ok due entries h = sym (ap had h)

pub had_none : (due : Result (List EntryData) RestoreError) (why : RestoreError) → due ≡ Err why → [] ≡ had due
had_none due why h = sym (ap had h)

pub none_more : (snapshot : Id) (due : Result (List EntryData) RestoreError) (entries : List EntryData) (xs : List Unlisted) → due ≡ Ok entries → xs ≡ xs ++ unlisted_by snapshot due
none_more snapshot due entries xs h = nothing_behind xs ∙ ap (λ more. xs ++ more) (sym (ap (unlisted_by snapshot) h))

pub one_more : (snapshot : Id) (due : Result (List EntryData) RestoreError) (why : RestoreError) (xs : List Unlisted) → due ≡ Err why → xs ++ (record { snapshot = snapshot; why = why } ∷ []) ≡ xs ++ unlisted_by snapshot due
one_more snapshot due why xs h = ap (λ more. xs ++ more) (sym (ap (unlisted_by snapshot) h))
