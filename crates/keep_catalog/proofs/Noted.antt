-- Files that were read.
use Rattle.std.proofs.Common.{◌≡◌, ◌≢◌, ℕ, List, None, Some, Result, Err, option_map, refl, sym, ap, ◌∙◌}
use Rattle.std.specs.FinMap as finite
use Rattle.keep_names.specs.FileName.{named}
use Rattle.keep_names.specs.declared.file_name.FileName.{FileName}
use Rattle.keep_names.specs.declared.file_name.Kind.{Kind}
use Rattle.keep_names.specs.declared.id.Id.{Id}
use Rattle.keep_repo.specs.Repository.{Repository}
use Rattle.keep_pack.specs.Reading.{Refuses}
use Rattle.keep_names.specs.declared.blob.Blob.{Blob}
use Rattle.keep_pack.specs.declared.pack_error.PackError.{PackError}
use Rattle.keep_pack.specs.declared.pack_error.PackError.TheVariants.{ShortPack, BadHeaderLength, BadBlobType, LengthsDontFit, Memory}
use Rattle.keep_catalog.specs.Files.{file_in}

module _ {X E : Type 0} (r : Repository) (kind : Kind) (id : Id) (reader : List ℕ → Result X E) where
  -- there is no such file
  pub not_there : (name : FileName) → name ≡ named kind id → None ≡ finite.get r.files name → option_map reader (file_in r kind id) ≡ None
  unfolding file_in
  not_there name is absent = ap (option_map reader) (sym (absent ∙ ap (finite.get r.files) is))

  -- what a reader makes of a file that is there
  pub read_as : (name : FileName) (bytes lent : List ℕ) (answer : Result X E) → name ≡ named kind id → Some bytes ≡ finite.get r.files name → lent ≡ bytes → reader lent ≡ answer → option_map reader (file_in r kind id) ≡ Some answer
  unfolding file_in
  read_as name bytes lent answer named_so there same is =
      ap (option_map reader) (sym (there ∙ ap (finite.get r.files) named_so)) ∙ ap (λ b. Some (reader b)) (sym same) ∙ ap Some is

-- a pack's refusal that isn't want of memory is the header's
pub refused : (e : PackError) (header : Result (List Blob) PackError) → e ≢ Memory → Refuses e header → header ≡ Err e
refused ShortPack header other h = h
refused BadHeaderLength header other h = h
refused BadBlobType header other h = h
refused LengthsDontFit header other h = h
refused Memory header other h = absurd (other refl)
