-- The files of one kind.
use Rattle.std.specs.Prelude.{Bool, List, map, filter}
use Rattle.keep_names.specs.declared.file_name.FileName.{FileName}
use Rattle.keep_names.specs.declared.file_name.Kind.{Kind}
use Rattle.keep_names.specs.declared.id.Id.{Id}
use Rattle.keep_names.specs.contracts.file_name.KindPartialEq.TheImpl as the_kind_eq

-- whether the two are one kind
abbrev pub kind_eq : Kind → Kind → Bool
kind_eq = (the_kind_eq.ghosts).eq

-- the ids of those names that are of this kind, in their order
abbrev pub ids_among : Kind → List FileName → List Id
ids_among kind names = map (λ name. name.id) (filter (λ name. kind_eq name.kind kind) names)
