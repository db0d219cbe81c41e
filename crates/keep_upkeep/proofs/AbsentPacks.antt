-- The packs that indexes list and that aren't there.
use Rattle.std.proofs.Common.{◌≡◌, ℕ, ◌+◌, ◌<◌, Bool, true, false, ◌&&◌, ◌||◌, not, cond, List, [], ◌∷◌, ◌++◌, length, map, filter, take, get_or, Option, None, Some, Ordering, refl, sym, ap, subst, ◌∙◌}
use Rattle.std.proofs.Math.Bool.{or_assoc}
use Rattle.std.proofs.lemmas.List.{append-nil, map-append, map_more}
use Rattle.std.proofs.lemmas.List.Concat.{flat_map-append}
use Rattle.std.proofs.lemmas.List.Elements.{filter-append}
use Rattle.std.proofs.lemmas.List.Folds.{list_any-append}
use Rattle.std.specs.BTreeSet.{BTreeSet, contains}
use Rattle.std.specs.Global.{Vec}
use Rattle.std.specs.List.{flat_map, list_any}
use Rattle.std.specs.Ordering.{eq_by_cmp}
use Rattle.keep_names.specs.FileName.{named}
use Rattle.keep_names.specs.Orders.{name_cmp}
use Rattle.keep_names.specs.declared.file_name.FileName.{FileName}
use Rattle.keep_names.specs.declared.file_name.Kind.TheVariants.{Index, Pack}
use Rattle.keep_names.specs.declared.id.Id.{Id}
use Rattle.keep_repo.specs.Repository.{Repository}
use Rattle.keep_index.specs.Index.{PackData, pack_view}
use Rattle.keep_index.specs.declared.index.IndexedPack.{IndexedPack}
use Rattle.keep_change.specs.Filling.{has_name}
use Rattle.keep_change.specs.Lists.{file_names}
use Rattle.keep_change.specs.NamedBytes.{NamedBytes}
use Rattle.keep_catalog.specs.Files.{packs_view}
use Rattle.keep_plan.specs.Storing.{is_there}
use Rattle.keep_upkeep.specs.Repair.{absent_among, absent_listed, other_listings}
use Rattle.keep_upkeep.proofs.LeavingIndexes.{Read}

abbrev pub AreAmong : List FileName → FileName → Bool
AreAmong names name = list_any (eq_by_cmp name_cmp name) names

pub or_none : (b : Bool) → b ≡ (b || false)
or_none true = refl
or_none false = refl

-- ---- packs one after the other

module _ (r : Repository) (xs : List IndexedPack) (i : ℕ) (x : IndexedPack) (lt : i < length xs) (is : x ≡ get_or xs i x) where
  among_more : absent_among r (map pack_view (take (i + 1) xs)) ≡ absent_among r (map pack_view (take i xs)) ++ filter (λ n. not (is_there r n)) (named Pack x.id ∷ [])
  among_more =
      ap (absent_among r) (map_more pack_view xs i x lt)
      ∙ ap (filter (λ n. not (is_there r n))) (map-append (λ (pack : PackData). named Pack pack.id) (map pack_view (take i xs)) (pack_view (get_or xs i x) ∷ []))
      ∙ filter-append (λ n. not (is_there r n)) (map (λ (pack : PackData). named Pack pack.id) (map pack_view (take i xs))) (named Pack (get_or xs i x).id ∷ [])
      ∙ ap (λ (y : IndexedPack). absent_among r (map pack_view (take i xs)) ++ filter (λ n. not (is_there r n)) (named Pack y.id ∷ [])) (sym is)

  pub put_more : (name : FileName) (first old new : Bool) → old ≡ (first || AreAmong (absent_among r (map pack_view (take i xs))) name)
      → new ≡ (old || AreAmong (filter (λ n. not (is_there r n)) (named Pack x.id ∷ [])) name)
      → new ≡ (first || AreAmong (absent_among r (map pack_view (take (i + 1) xs))) name)
  put_more name first old new so step =
      step ∙ ap (λ t. t || AreAmong (filter (λ n. not (is_there r n)) (named Pack x.id ∷ [])) name) so
      ∙ or_assoc first _ _
      ∙ ap (λ t. first || t)
      (sym (ap (λ (names : List FileName). AreAmong names name) among_more
      ∙ list_any-append (eq_by_cmp name_cmp name) (absent_among r (map pack_view (take i xs))) (filter (λ n. not (is_there r n)) (named Pack x.id ∷ []))))

-- ---- indexes one after the other

module _ (r : Repository) (built : List NamedBytes) (all left rest : List Read) (x : Read) (first : left ≡ x ∷ rest) where
  abbrev listed_by : List (Id × List PackData) → List FileName
  listed_by indexes = absent_listed r (other_listings built indexes)

  listed_first : listed_by (map packs_view left) ≡ listed_by (packs_view x ∷ []) ++ listed_by (map packs_view rest)
  listed_first =
      ap (λ (es : List Read). listed_by (map packs_view es)) first
      ∙ ap (absent_listed r) (filter-append (λ (index : Id × List PackData). not (has_name (file_names built) (named Index index.0))) (packs_view x ∷ []) (map packs_view rest))
      ∙ flat_map-append (λ (index : Id × List PackData). absent_among r index.1) (other_listings built (packs_view x ∷ [])) (other_listings built (map packs_view rest))

  pub listing_more : (name : FileName) (old new : Bool) → new ≡ (old || AreAmong (listed_by (packs_view x ∷ [])) name)
      → (old || AreAmong (listed_by (map packs_view left)) name) ≡ AreAmong (listed_by (map packs_view all)) name
      → (new || AreAmong (listed_by (map packs_view rest)) name) ≡ AreAmong (listed_by (map packs_view all)) name
  listing_more name old new step so =
      let here = listed_by (packs_view x ∷ []) in
      let later = listed_by (map packs_view rest) in
      ap (λ t. t || AreAmong later name) step ∙ or_assoc old (AreAmong here name) (AreAmong later name)
      ∙ ap (λ t. old || t) (sym (ap (λ (names : List FileName). AreAmong names name) listed_first
      ∙ list_any-append (eq_by_cmp name_cmp name) here later))
      ∙ so

-- ---- one index

module _ (r : Repository) (built : List NamedBytes) (index : Id) (packs : List IndexedPack) where
  -- its name, with what it says
  abbrev listing_here : List (Id × List PackData)
  listing_here = (index, map pack_view packs) ∷ []

  -- the new index lists nothing that has to be absent
  pub new_listed : (name : FileName) (old : Bool) → has_name (file_names built) (named Index index) ≡ true
      → old ≡ (old || AreAmong (absent_listed r (other_listings built listing_here)) name)
  new_listed name old new =
      or_none old ∙ ap (λ b. old || AreAmong (absent_listed r (cond (not b) listing_here [])) name) (sym new)

  -- another one does
  pub other_listed : (name : FileName) (old now : Bool) → has_name (file_names built) (named Index index) ≡ false
      → now ≡ (old || AreAmong (absent_among r (map pack_view packs)) name)
      → now ≡ (old || AreAmong (absent_listed r (other_listings built listing_here)) name)
  other_listed name old now other put =
      put
      ∙ ap (λ (names : List FileName). old || AreAmong names name) (sym (append-nil (absent_among r (map pack_view packs))))
      ∙ ap (λ b. old || AreAmong (absent_listed r (cond (not b) listing_here [])) name) (sym other)
