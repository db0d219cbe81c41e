-- A repository as a value: files by name, as restic's design document lays them out, and marks by pack.
use Rattle.std.specs.Prelude.{ℕ, ℤ, Bool, List, Option, is_some, refl}
use Rattle.std.specs.Option.{option_map}
use Rattle.std.specs.Coded.{Coded, code_by, coded_ℕ, coded_ℤ, coded_list, coded×}
use Rattle.std.specs.FinMap as map
use Rattle.keep_names.specs.Orders.{name_cmp, id_cmp, coded_name, coded_id}
use Rattle.keep_repo.specs.declared.facet.Facet.{Facet}
use Rattle.keep_repo.specs.declared.facet.Facet.TheVariants.{File, Mark}
use Rattle.keep_repo.specs.declared.facet.Mark as the_mark
use Rattle.keep_repo.specs.Facet.{Content, Stored, Marked}

-- the bytes of each file that is there, and the mark of each pack that is marked
pub record Repository : Type 0 where
  pub files : map.FinMap name_cmp (List ℕ)
  pub marks : map.FinMap id_cmp the_mark.Mark

-- the repository without files and marks
abbrev pub empty_repository : Repository
empty_repository = record { files = map.empty; marks = map.empty }

-- what the facet holds, none where it is empty
abbrev pub held : Repository → Facet → Option Content
held repository (File name) = option_map Stored (map.get repository.files name)
held repository (Mark pack) = option_map Marked (map.get repository.marks pack)

-- whether the facet holds something
abbrev pub is_filled : Repository → Facet → Bool
is_filled repository facet = is_some (held repository facet)

-- a mark is its moment
abbrev pub coded_mark : Coded the_mark.Mark
coded_mark = code_by ℤ coded_ℤ (λ m. m.moment) (λ n. record { moment = n }) (λ _. refl)

-- a repository is its two maps
abbrev pub coded_repository : Coded Repository
coded_repository =
    code_by (map.FinMap name_cmp (List ℕ) × map.FinMap id_cmp the_mark.Mark)
    (coded× (map.code coded_name (coded_list coded_ℕ)) (map.code coded_id coded_mark))
    (λ r. (r.files, r.marks)) (λ p. record { files = p.0; marks = p.1 }) (λ _. refl)
