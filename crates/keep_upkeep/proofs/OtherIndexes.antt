-- The files of the indexes that a new one stands in the place of.
use Rattle.std.proofs.Common.{◌≡◌, Bool, true, false, not, List, [], ◌∷◌, refl, sym, ap, subst, ◌∙◌}
use Rattle.std.specs.List.{AllByRecursion}
use Rattle.std.specs.List.Sorted.{IsStrictlySortedBy}
use Rattle.keep_names.specs.FileName.{named}
use Rattle.keep_names.specs.Laws.{NamesAreOrdered}
use Rattle.keep_names.specs.Orders.{id_cmp, name_cmp}
use Rattle.keep_names.specs.declared.file_name.FileName.{FileName}
use Rattle.keep_names.specs.declared.file_name.Kind.{Kind}
use Rattle.keep_names.specs.declared.file_name.Kind.TheVariants.{Index}
use Rattle.keep_names.specs.declared.id.Id.{Id}
use Rattle.keep_repo.specs.Repository.{Repository}
use Rattle.keep_change.specs.Filling.{has_name}
use Rattle.keep_change.specs.Lists.{file_names}
use Rattle.keep_change.specs.NamedBytes.{NamedBytes}
use Rattle.keep_plan.specs.FilesThere.{files_there}
use Rattle.keep_upkeep.specs.Reindexing.{other_indexes}
use Rattle.keep_upkeep.proofs.EachSo.{each_always, each_mapped, each_passes}
use Rattle.keep_upkeep.proofs.FilesThere.{IsThere, each_there, files_rise}
use Rattle.keep_upkeep.proofs.Rising.{rise_left}

-- files of a kind are of that kind, and there
pub kinds_are : (r : Repository) (kind : Kind) (ids : List Id) → AllByRecursion (λ (n : FileName). n.kind ≡ kind) (file_names (files_there r kind ids))
kinds_are r kind ids =
    each_mapped (λ (n : FileName). n.kind ≡ kind) (λ (f : NamedBytes). f.name) (files_there r kind ids)
    (each_there r kind (λ _. Unit {0}) (λ f. f.name.kind ≡ kind) (λ id f _ is there. ap (λ (n : FileName). n.kind) is) ids (each_always ids))

pub all_there : (r : Repository) (kind : Kind) (ids : List Id) → AllByRecursion (IsThere r) (files_there r kind ids)
all_there r kind ids = each_there r kind (λ _. Unit {0}) (IsThere r) (λ id f _ is there. there) ids (each_always ids)

module _ (r : Repository) (built : List NamedBytes) (ids : List Id) where
  pub others_rise : NamesAreOrdered → IsStrictlySortedBy id_cmp ids → IsStrictlySortedBy name_cmp (file_names (files_there r Index (other_indexes built ids)))
  others_rise names rise =
      files_rise names r Index (other_indexes built ids) (rise_left id_cmp (λ id. not (has_name (file_names built) (named Index id))) ids rise)

  not_true : (b : Bool) → not b ≡ true → b ≡ false
  not_true true h = sym h
  not_true false h = refl

  abbrev IsOther : FileName → Type 0
  IsOther name = has_name (file_names built) name ≡ false

  -- none of them is a new file
  pub others_apart : AllByRecursion (λ (f : NamedBytes). has_name (file_names built) f.name ≡ false) (files_there r Index (other_indexes built ids))
  others_apart =
      each_there r Index (λ id. not (has_name (file_names built) (named Index id)) ≡ true) (λ f. IsOther f.name)
      (λ id f other is there. subst IsOther (sym is) (not_true (has_name (file_names built) (named Index id)) other))
      (other_indexes built ids) (each_passes (λ id. not (has_name (file_names built) (named Index id))) ids)
