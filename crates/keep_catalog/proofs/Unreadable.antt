-- A pack that can't be read has nothing, so nothing has to go with it.
use Rattle.std.proofs.Common.{◌≡◌, ℕ, true, cond, List, [], None, Some, Result, Ok, Err, is_some, map, refl, sym, ap, ◌∙◌}
use Rattle.std.specs.BTreeMap as tree
use Rattle.std.specs.FinMap as finite
use Rattle.std.specs.Option.{option_and_then, option_map}
use Rattle.std.specs.Result.{result_err}
use Rattle.keep_names.specs.FileName.{named}
use Rattle.keep_names.specs.declared.file_name.FileName.{FileName}
use Rattle.keep_names.specs.declared.file_name.Kind.TheVariants.{Pack}
use Rattle.keep_names.specs.declared.id.Id.{Id}
use Rattle.keep_pack.specs.Reading.{header_of}
use Rattle.keep_repo.specs.Repository.{Repository}
use Rattle.keep_catalog.specs.Files.{what_is_read, why_of, why_unread}
use Rattle.keep_catalog.specs.Kept.{Stored}
use Rattle.keep_catalog.specs.Orders.{packed_blob_cmp}
use Rattle.keep_catalog.specs.Places.{is_among, packed_of, places_stored}
use Rattle.keep_catalog.specs.declared.spot.PackedBlob.{PackedBlob}

says_nothing : {X E W : Type 0} (wrap : E → W) (read : Result (List X) E) → is_some (option_map wrap (result_err read)) ≡ true → what_is_read (Some read) ≡ []
says_nothing wrap (Ok items) refused = cc refused
says_nothing wrap (Err refusal) refused = refl

-- why it can't be read is told by its bytes
why_there : (r : Repository) (name : FileName) (bytes : List ℕ) → finite.get r.files name ≡ Some bytes → is_some (why_unread r name) ≡ true → is_some (why_of name.kind bytes) ≡ true
unfolding why_unread
why_there r name bytes present refused = ap (λ there. is_some (option_and_then (why_of name.kind) there)) (sym present) ∙ refused

module _ (r : Repository) (bytes : List ℕ) where
  pub pack_stores_none : (pack : Id) → finite.get r.files (named Pack pack) ≡ Some bytes → is_some (why_unread r (named Pack pack)) ≡ true → (stored : Stored) (p : PackedBlob) → tree.get packed_blob_cmp stored p ≡ cond (is_among (places_stored pack (Some bytes)) p) None (tree.get packed_blob_cmp stored p)
  pack_stores_none pack present refused stored p =
      let nothing : what_is_read (Some (header_of bytes)) ≡ [] = says_nothing _ (header_of bytes) (why_there r (named Pack pack) bytes present refused) in
      ap (λ blobs. cond (is_among (map (packed_of pack) blobs) p) None (tree.get packed_blob_cmp stored p)) (sym nothing)
