-- What an archive holds is short, and tags are texts.
use Rattle.std.proofs.Common.{◌≡◌, false, ◌||◌, List, [], ◌∷◌, map, Option, None, Some, option_map, refl, sym, ap, ◌∙◌}
use Rattle.std.specs.List.{list_any}
use Rattle.keep_build.specs.Blobs.{is_full}
use Rattle.keep_safety.proofs.Texts.{all_strings}
use Rattle.keep_archive.specs.Archive.{ArchiveData, going_view, held_view}
use Rattle.keep_archive.specs.declared.going.Going.{Going}
use Rattle.keep_archive.specs.declared.held.HeldBlob.{HeldBlob}
use Rattle.keep_safety.specs.Safe.{ArchivesAreShort, TagsAreTexts}

each_short : (hs : List HeldBlob) → list_any is_full (map held_view hs) ≡ false
each_short [] = refl
each_short (h ∷ hs) = (λ i. h.fits i || each_short hs i)

going_short : (o : Option Going) (a : ArchiveData) → option_map going_view o ≡ Some a → list_any is_full a.blobs.held ≡ false
going_short None a is = cc is
going_short (Some g) a is =
    let same : going_view g ≡ a = cc is in
    ap (λ (x : ArchiveData). list_any is_full x.blobs.held) (sym same) ∙ each_short g.blobs.held.items

pub archives_short : ArchivesAreShort
archives_short archive a is = going_short archive.going a is

pub tags_texts : TagsAreTexts
tags_texts tags = all_strings tags
