-- The order of facets, their text, and what a facet can hold.
use Rattle.std.specs.Prelude.{◌≡◌, ℕ, Bool, List, ◌++◌, codes}
use Rattle.std.specs.Ordering.{eq_by_cmp}
use Rattle.std.specs.declared.cmp.Ordering.{Ordering}
use Rattle.std.specs.declared.cmp.Ordering.TheVariants.{Less}
use Rattle.keep_names.specs.FileName.{file_name_text}
use Rattle.keep_names.specs.Id.{id_text}
use Rattle.keep_names.specs.Orders.{id_cmp, name_cmp}
use Rattle.keep_names.specs.declared.file_name.FileName.{FileName}
use Rattle.keep_names.specs.declared.id.Id.{Id}
use Rattle.keep_repo.specs.declared.facet.Facet.{Facet}
use Rattle.keep_repo.specs.declared.facet.Facet.TheVariants.{File, Mark}
use Rattle.keep_repo.specs.declared.facet.Mark as the_mark
use Rattle.keep_repo.specs.contracts.facet.FacetOrd.TheImpl as the_facet_order

-- files before marks, files by name and marks by pack
abbrev pub facet_cmp : Facet → Facet → Ordering
facet_cmp = (the_facet_order.ghosts).cmp

-- the order of facets in plain words
pub record FacetsAreOrdered : Type 0 where
  pub files_first : (name : FileName) (pack : Id) → facet_cmp (File name) (Mark pack) ≡ Less
  pub files_by_name : (a b : FileName) → facet_cmp (File a) (File b) ≡ name_cmp a b
  pub marks_by_pack : (a b : Id) → facet_cmp (Mark a) (Mark b) ≡ id_cmp a b

-- whether the two are one facet
abbrev pub facet_eq : Facet → Facet → Bool
facet_eq = eq_by_cmp facet_cmp

-- a file's name, or the word `mark` and the pack's id
abbrev pub facet_text : Facet → List ℕ
facet_text (File name) = file_name_text name
facet_text (Mark pack) = codes "mark " ++ id_text pack

-- what a filled facet holds: a file's bytes, or a pack's mark
pub data Content : Type 0 where
  Stored : List ℕ → Content
  Marked : the_mark.Mark → Content
