-- The change of a part is safe.
use Rattle.std.proofs.Common.{◌≡◌, ◌≢◌, true, false, List, All, sym, ap, subst, ◌∙◌}
use Rattle.std.proofs.lemmas.List.Elements.{All-from_recursion, All-nil, recursion_from_All}
use Rattle.std.specs.List.{AllByRecursion}
use Rattle.keep_names.specs.FileName.{named}
use Rattle.keep_names.specs.Laws.{TellsApart}
use Rattle.keep_names.specs.Orders.{name_cmp}
use Rattle.keep_names.specs.declared.file_name.FileName.{FileName}
use Rattle.keep_names.specs.declared.file_name.Kind.TheVariants.{Index, Pack, Snapshot}
use Rattle.keep_names.specs.declared.id.Id.{Id}
use Rattle.keep_change.specs.Filling.{fills}
use Rattle.keep_change.specs.NamedBytes.{NamedBytes}
use Rattle.keep_change.specs.declared.change.Change.{Change}
use Rattle.keep_sound.specs.Careful.{CarefulIsSafe}
use Rattle.keep_sound.specs.Forms.{CoveringIsCareful}
use Rattle.keep_sound.specs.Met.{AddsPart, IsIn}
use Rattle.keep_sound.specs.Standing.{file_facet}
use Rattle.keep_sound.proofs.Covering.{file_of_name}
use Rattle.keep_build.proofs.Built.{adds_so, built_so}
use Rattle.keep_build.specs.Blobs.{BlobData}
use Rattle.keep_build.specs.Stored.{built, index_file, pack_file, packs_built, stored_of}
use Rattle.keep_safety.proofs.Entries.{index_name, pack_name}
use Rattle.keep_archive.specs.Plans.{is_idle, part_of}
use Rattle.keep_archive.proofs.Made.{is_part, part_well_formed}
use Rattle.keep_safety.specs.Safe.{PartIsSafe}

-- the file is no snapshot
abbrev IsBuilt : NamedBytes → Type 0
IsBuilt f = f.name.kind ≢ Snapshot

pack_built : (pack : List BlobData) → IsBuilt (pack_file pack)
pack_built pack is =
    let kind : Pack ≡ Snapshot = sym (ap (λ (n : FileName). n.kind) (pack_name pack)) ∙ is in
    cc kind

index_built : (packs : List (List BlobData)) → IsBuilt (index_file packs)
index_built packs is =
    let kind : Index ≡ Snapshot = sym (ap (λ (n : FileName). n.kind) (index_name packs)) ∙ is in
    cc kind

pub part_safe : TellsApart name_cmp → CoveringIsCareful → CarefulIsSafe → PartIsSafe
part_safe apart covering safe r all known a c is met built_met =
    safe all known c met.one_text (part_well_formed r a c is).once adds (covering all known c (record {
      no_marks = ap (λ (d : Change). d.sets) part.1;
      drops = subst (λ (files : List NamedBytes). All (λ (f : NamedBytes). f.name.kind ≡ Snapshot) files) (sym (ap (λ (d : Change). d.drops) part.1))
          (All-nil (λ (f : NamedBytes). f.name.kind ≡ Snapshot));
      covers = λ snapshot added blob owes. absurd (none_added snapshot added);
    }))
  where
    part : (is_idle (stored_of r a.blobs.held) ≡ false) × (c ≡ part_of (stored_of r a.blobs.held))
    part = is_part r a c is

    each_built : AllByRecursion IsBuilt (stored_of r a.blobs.held).adds
    each_built = adds_so r IsBuilt a.blobs.held (built_so IsBuilt pack_built index_built (packs_built r a.blobs.held))

    adds_are : c.adds ≡ (stored_of r a.blobs.held).adds
    adds_are = ap (λ (d : Change). d.adds) part.1

    adds : AddsPart all c
    adds =
        subst (λ (files : List NamedBytes). All (IsIn all) files) (sym adds_are)
        (All-from_recursion (IsIn all) (stored_of r a.blobs.held).adds (adds_so r (IsIn all) a.blobs.held (recursion_from_All (IsIn all) (built r a.blobs.held) built_met)))

    none_added : (snapshot : Id) → fills c (file_facet Snapshot snapshot) ≡ true → ⊥
    none_added snapshot added =
        let f = file_of_name apart IsBuilt c.adds (named Snapshot snapshot) (subst (λ (files : List NamedBytes). AllByRecursion IsBuilt files) (sym adds_are) each_built) added in
        f.2 (ap (λ (n : FileName). n.kind) f.1)
