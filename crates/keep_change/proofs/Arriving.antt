-- Where the files of a change's result come from.
use Rattle.std.proofs.Common.{◌≡◌, ℕ, suc, ◌<◌, Bool, true, false, cond, List, [], ◌∷◌, length, Some, None, ◌⊎◌, inl, inr, refl, sym, ◌∙◌, arith}
use Rattle.std.specs.FinMap as finite
use Rattle.std.specs.List.{Any}
use Rattle.std.specs.Ordering.{eq_by_cmp}
use Rattle.std.proofs.lemmas.Map.Views.{tells_apart}
use Rattle.std.proofs.lemmas.Option.{same_Some}
use Rattle.keep_names.proofs.Orders.{name_exact, name_total}
use Rattle.keep_names.specs.Orders.{name_cmp}
use Rattle.keep_names.specs.declared.file_name.FileName.{FileName}
use Rattle.keep_change.specs.Filling.{FilesComeFrom}
use Rattle.keep_change.specs.NamedBytes.{NamedBytes}
use Rattle.keep_change.specs.Result.{put_files, remove_files}

module _ {X : Type 0} (P : X → Type 0) where
  any_here : (x : X) (xs : List X) → P x → Any P (x ∷ xs)
  any_here x xs here = (0, x, omega arith, refl, here)

  any_later : (x : X) (xs : List X) → Any P xs → Any P (x ∷ xs)
  any_later x xs rest =
      let within : rest.0 < length xs = rest.2 in
      (suc rest.0, rest.1, omega arith, rest.3, rest.4)

-- the file of this name and these bytes
abbrev is_file : FileName → List ℕ → NamedBytes → Type 0
is_file name bytes f = (f.name ≡ name) × (f.bytes ≡ bytes)

module _ (name : FileName) (bytes : List ℕ) where
  -- a file that is left where some are taken was there
  left_was_there : (fs : List NamedBytes) (m : finite.FinMap name_cmp (List ℕ)) → finite.get (remove_files fs m) name ≡ Some bytes → finite.get m name ≡ Some bytes
  left_was_there [] m left = left
  left_was_there (f ∷ fs) m left =
      split (eq_by_cmp name_cmp name f.name)
      (sym (finite.get-remove name_total m f.name name) ∙ left_was_there fs (finite.remove m f.name) left)
    where
      split : (b : Bool) → cond b None (finite.get m name) ≡ Some bytes → finite.get m name ≡ Some bytes
      split true none = cc none
      split false there = there

  -- a file that is there where some are put was there, or is one of them
  there_or_put : (fs : List NamedBytes) (m : finite.FinMap name_cmp (List ℕ)) → finite.get (put_files fs m) name ≡ Some bytes → (finite.get m name ≡ Some bytes) ⊎ Any (is_file name bytes) fs
  there_or_put [] m there = inl there
  there_or_put (f ∷ fs) m there = either (there_or_put fs (finite.insert m f.name f.bytes) there) where
    split : (b : Bool) → eq_by_cmp name_cmp name f.name ≡ b → cond b (Some f.bytes) (finite.get m name) ≡ Some bytes → (finite.get m name ≡ Some bytes) ⊎ Any (is_file name bytes) (f ∷ fs)
    split true same put =
        inr (any_here (is_file name bytes) f fs (sym (tells_apart name_exact name f.name same), same_Some f.bytes bytes put))
    split false other was = inl was

    either : (finite.get (finite.insert m f.name f.bytes) name ≡ Some bytes) ⊎ Any (is_file name bytes) fs → (finite.get m name ≡ Some bytes) ⊎ Any (is_file name bytes) (f ∷ fs)
    either (inl now) =
        split (eq_by_cmp name_cmp name f.name) refl (sym (finite.get-insert name_total m f.name f.bytes name) ∙ now)
    either (inr later) = inr (any_later (is_file name bytes) f fs later)

pub files_come_from_lem : FilesComeFrom
files_come_from_lem c r name bytes there =
    there_or_put name bytes c.adds r.files (left_was_there name bytes c.drops (put_files c.adds r.files) there)
