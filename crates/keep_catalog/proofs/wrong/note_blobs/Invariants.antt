use Rattle.std.proofs.Common.{◌≡◌, ◌++◌, map, take}
use Rattle.std.specs.BTreeSet.{contains}
use Rattle.std.specs.List.{list_any}
use Rattle.keep_names.specs.Orders.{blob_cmp}
use Rattle.keep_names.specs.declared.blob.BlobId.{BlobId}
use Rattle.keep_catalog.specs.Orders.{blob_eq}
use Rattle.keep_index.specs.Joining.{first_of_each}
use Rattle.keep_catalog.proofs.Hashes.{in_pack}
use Rattle.keep_catalog.proofs.wrong.note_blobs.Given as goal

abbrev pub invariant-loop-blob : goal.invariant-loop-blob
invariant-loop-blob l = record {
  told : (q : BlobId) → contains blob_cmp l.told q ≡ list_any (blob_eq q) (take l.blob-index l.blobs);
  wrong : l.wrong.items ≡ l.initial.wrong.items ++ map (in_pack l.pack) (first_of_each blob_eq (take l.blob-index l.blobs));
}
