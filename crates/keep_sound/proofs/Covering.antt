-- Each of the three forms is careful.
use Rattle.std.proofs.Common.{◌≡◌, Bool, true, false, ◌||◌, List, [], ◌∷◌, refl, sym, ap, ◌∙◌, true≢false}
use Rattle.std.specs.List.{AllByRecursion}
use Rattle.std.specs.Ordering.{eq_by_cmp}
use Rattle.std.proofs.lemmas.List.Elements.{recursion_from_All}
use Rattle.keep_names.specs.FileName.{named}
use Rattle.keep_names.specs.Laws.{TellsApart}
use Rattle.keep_names.specs.Orders.{name_cmp}
use Rattle.keep_names.specs.declared.file_name.FileName.{FileName}
use Rattle.keep_names.specs.declared.file_name.Kind.{Kind}
use Rattle.keep_names.specs.declared.file_name.Kind.TheVariants.{Pack, Index, Snapshot}
use Rattle.keep_names.specs.declared.id.Id.{Id}
use Rattle.keep_repo.specs.declared.facet.Facet.TheVariants.{Mark}
use Rattle.keep_change.specs.Filling.{empties, fills, has_name, has_pack}
use Rattle.keep_change.specs.Lists.{file_names, marked_packs}
use Rattle.keep_change.specs.NamedBytes.{NamedBytes}
use Rattle.keep_change.specs.declared.change.Change.{Change}
use Rattle.keep_sound.specs.Forms.{AreOf, CoveringIsCareful, MarkingIsCareful, RelistingIsCareful}
use Rattle.keep_sound.specs.Standing.{file_facet}

-- a name that stands among those of files is that of one of them
pub file_of_name : TellsApart name_cmp → (P : NamedBytes → Type 0) (files : List NamedBytes) (name : FileName) → AllByRecursion P files → has_name (file_names files) name ≡ true → (f : NamedBytes) × (f.name ≡ name) × P f
file_of_name apart P [] name each among = absurd (true≢false (sym among))
file_of_name apart P (f ∷ fs) name each among = cases (file_of_name apart P fs name each.1) (eq_by_cmp name_cmp name f.name) refl among where
  cases : (has_name (file_names fs) name ≡ true → (g : NamedBytes) × (g.name ≡ name) × P g) → (b : Bool) → eq_by_cmp name_cmp name f.name ≡ b → (b || has_name (file_names fs) name) ≡ true → (g : NamedBytes) × (g.name ≡ name) × P g
  cases later true same _ = (f, sym ((apart name f.name).0 same), each.0)
  cases later false _ rest = later rest

-- so where files are of one kind, no name of another kind stands among theirs
none_of_other : TellsApart name_cmp → (kind : Kind) (files : List NamedBytes) → AreOf kind files → (other : Kind) (id : Id) → (other ≡ kind → ⊥) → has_name (file_names files) (named other id) ≡ true → ⊥
none_of_other apart kind files each other id differs among =
    let f = file_of_name apart (λ g. g.name.kind ≡ kind) files (named other id) (recursion_from_All (λ g. g.name.kind ≡ kind) files each) among in
    differs (sym (ap (λ (n : FileName). n.kind) f.1) ∙ f.2)

-- nothing stands in an empty list
pub none_added : (c : Change) (kind : Kind) (id : Id) → c.adds ≡ [] → fills c (file_facet kind id) ≡ true → ⊥
none_added c kind id none among = true≢false (sym among ∙ ap (λ fs. has_name (file_names fs) (named kind id)) none)

none_dropped : (c : Change) (kind : Kind) (id : Id) → c.drops ≡ [] → empties c (file_facet kind id) ≡ true → ⊥
none_dropped c kind id none among = true≢false (sym among ∙ ap (λ fs. has_name (file_names fs) (named kind id)) none)

none_set : (c : Change) (pack : Id) → c.sets ≡ [] → fills c (Mark pack) ≡ true → ⊥
none_set c pack none among = true≢false (sym among ∙ ap (λ ms. has_pack (marked_packs ms) pack) none)

pub covering_is_careful : TellsApart name_cmp → CoveringIsCareful
covering_is_careful apart all known c covering = record {
  covers = covering.covers;
  packs = λ pack dropped. absurd (none_of_other apart Snapshot c.drops covering.drops Pack pack (λ same. cc same) dropped);
  indexes = λ index dropped blob spot supports. absurd (none_of_other apart Snapshot c.drops covering.drops Index index (λ same. cc same) dropped);
  marks = λ pack marks snapshot is_known. absurd (none_set c pack covering.no_marks marks);
}

pub relisting_is_careful : TellsApart name_cmp → RelistingIsCareful
relisting_is_careful apart all known c relisting = record {
  covers = λ snapshot added blob owes. absurd (none_of_other apart Index c.adds relisting.adds Snapshot snapshot (λ same. cc same) added);
  packs = relisting.packs;
  indexes = relisting.relists;
  marks = λ pack marks snapshot is_known. absurd (none_set c pack relisting.no_marks marks);
}

pub marking_is_careful : MarkingIsCareful
marking_is_careful all known c marking = record {
  covers = λ snapshot added blob owes. absurd (none_added c Snapshot snapshot marking.no_adds added);
  packs = λ pack dropped. absurd (none_dropped c Pack pack marking.no_drops dropped);
  indexes = λ index dropped blob spot supports. absurd (none_dropped c Index index marking.no_drops dropped);
  marks = λ pack marks snapshot is_known. marking.gives snapshot is_known;
}
