-- What the lists of a change say of a facet: whether it is filled or empty, before the change and after it.
use Rattle.std.specs.Prelude.{◌≡◌, ℕ, ◌⊎◌, Bool, true, false, ◌||◌, List, Some}
use Rattle.std.specs.FinMap as finite
use Rattle.std.specs.List.{Any, list_any}
use Rattle.std.specs.Ordering.{eq_by_cmp}
use Rattle.keep_names.specs.Orders.{id_cmp, name_cmp}
use Rattle.keep_names.specs.declared.file_name.FileName.{FileName}
use Rattle.keep_names.specs.declared.id.Id.{Id}
use Rattle.keep_repo.specs.Repository.{Repository, held, is_filled}
use Rattle.keep_repo.specs.declared.facet.Facet.{Facet}
use Rattle.keep_repo.specs.declared.facet.Facet.TheVariants.{File, Mark}
use Rattle.keep_change.specs.Change.{is_met, is_ready}
use Rattle.keep_change.specs.Form.{HasNoFacetTwice}
use Rattle.keep_change.specs.Lists.{file_names, marked_packs}
use Rattle.keep_change.specs.Result.{result_of}
use Rattle.keep_change.specs.Touch.{writes, before_of, after_of}
use Rattle.keep_change.specs.declared.change.Change.{Change}

-- whether the name, or the pack, is one of these
abbrev pub has_name : List FileName → FileName → Bool
has_name names name = list_any (eq_by_cmp name_cmp name) names

abbrev pub has_pack : List Id → Id → Bool
has_pack packs pack = list_any (eq_by_cmp id_cmp pack) packs

-- whether the change fills the facet: it adds the file, or sets the mark
abbrev pub fills : Change → Facet → Bool
fills c (File name) = has_name (file_names c.adds) name
fills c (Mark pack) = has_pack (marked_packs c.sets) pack

-- whether it empties the facet: it drops the file, or clears the mark
abbrev pub empties : Change → Facet → Bool
empties c (File name) = has_name (file_names c.drops) name
empties c (Mark pack) = has_pack (marked_packs c.clears) pack

-- whether it looks at the facet, which has to be filled
abbrev pub asks_filled : Change → Facet → Bool
asks_filled c (File name) = has_name c.present name
asks_filled c (Mark pack) = has_pack c.marked pack

-- whether it looks at the facet, which has to be empty
abbrev pub asks_empty : Change → Facet → Bool
asks_empty c (File name) = has_name c.absent name
asks_empty c (Mark pack) = has_pack c.unmarked pack

-- where the change is met, the facet is filled before it
abbrev pub finds_filled : Change → Facet → Bool
finds_filled c q = empties c q || asks_filled c q

-- and filled after it
abbrev pub leaves_filled : Change → Facet → Bool
leaves_filled c q = fills c q || asks_filled c q

-- and empty after it
abbrev pub leaves_empty : Change → Facet → Bool
leaves_empty c q = empties c q || asks_empty c q

-- what the repository holds before the change, and its result after it, where the change is met
pub record Follows (c : Change) (r : Repository) : Type 0 where
  pub found : (q : Facet) → finds_filled c q ≡ true → is_filled r q ≡ true
  pub absent : (q : Facet) → asks_empty c q ≡ true → is_filled r q ≡ false
  pub left : (q : Facet) → leaves_filled c q ≡ true → is_filled (result_of c r) q ≡ true
  pub emptied : (q : Facet) → leaves_empty c q ≡ true → is_filled (result_of c r) q ≡ false
  -- what was there stays, unless the change empties it, and what is new the change fills
  pub stays : (q : Facet) → is_filled r q ≡ true → empties c q ≡ false → is_filled (result_of c r) q ≡ true
  pub new : (q : Facet) → is_filled r q ≡ false → is_filled (result_of c r) q ≡ true → fills c q ≡ true

-- each change that is met does as its lists say
abbrev pub FacetsFollow : Type 0
FacetsFollow = (c : Change) (r : Repository) → HasNoFacetTwice c → is_met (held r) c ≡ true → Follows c r

-- each file of a result was there with the same bytes, or is added
abbrev pub FilesComeFrom : Type 0
FilesComeFrom =
    (c : Change) (r : Repository) (name : FileName) (bytes : List ℕ)
    → finite.get (result_of c r).files name ≡ Some bytes
    → (finite.get r.files name ≡ Some bytes) ⊎ Any (λ f. (f.name ≡ name) × (f.bytes ≡ bytes)) c.adds

-- what each facet holds before and after the change, made in this repository
pub record Turns (c : Change) (r : Repository) : Type 0 where
  -- a facet that it writes holds what the change asks for, and then what the change writes
  pub before : (q : Facet) → writes c q ≡ true → held r q ≡ before_of c q
  pub after : (q : Facet) → writes c q ≡ true → held (result_of c r) q ≡ after_of c q
  -- and any other holds what it held
  pub others : (q : Facet) → writes c q ≡ false → held (result_of c r) q ≡ held r q

-- each change that is made where it is ready turns what it writes, and nothing else
abbrev pub WrittenFacetsTurn : Type 0
WrittenFacetsTurn =
    (c : Change) (r : Repository) → HasNoFacetTwice c → is_ready (held r) c ≡ true → Turns c r
