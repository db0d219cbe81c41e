-- What becomes of a facet by a change that is met, as the lists of the change say.
use Rattle.std.proofs.Common.{◌≡◌, Bool, true, false, ◌||◌, List, [], ◌∷◌, map, Option, Some, None, refl, sym, ap, ap₂, ◌∙◌, arith}
use Rattle.std.specs.Prelude.{is_none, is_some}
use Rattle.std.specs.List.{list_all, list_any}
use Rattle.std.specs.Option.{option_map, option_map_or}
use Rattle.std.proofs.Math.Bool.{or-false}
use Rattle.std.proofs.lemmas.Bool.{and_parts}
use Rattle.std.proofs.lemmas.List.Folds.{list_all-append}
use Rattle.std.proofs.lemmas.Simd.{map-map}
use Rattle.keep_names.specs.declared.file_name.FileName.{FileName}
use Rattle.keep_names.specs.declared.id.Id.{Id}
use Rattle.keep_repo.specs.Facet.{Content, facet_eq}
use Rattle.keep_repo.specs.Repository.{Repository, held, is_filled}
use Rattle.keep_repo.specs.declared.facet.Facet.{Facet}
use Rattle.keep_repo.specs.declared.facet.Facet.TheVariants.{File, Mark}
use Rattle.keep_change.specs.Change.{Written, added, cleared, dropped, is_met, record_of, reversed, set, written}
use Rattle.keep_change.specs.Filling.{asks_empty, asks_filled, empties, fills, has_name, has_pack}
use Rattle.keep_change.specs.Form.{HasNoFacetTwice}
use Rattle.keep_change.specs.Lists.{file_names, marked_packs}
use Rattle.keep_change.specs.Result.{result_of, reverse_of}
use Rattle.keep_change.specs.Touch.{before_of}
use Rattle.keep_change.specs.declared.change.Change.{Change}
use Rattle.keep_change.proofs.Before.{before-some}
use Rattle.keep_change.proofs.Carry.{held-result_of, record_of-reverse, writes_once}
use Rattle.keep_change.proofs.Once.{count_by-facets}
use Rattle.keep_change.proofs.Records.{RecordAt, a_record, found_passes, no_record, ready_inside, record_at, record_of-reversed, replaced_inside, replaced_outside}

-- ---- the words of the lists, and facets

-- whether a file's name is one of these, or a mark's pack is one of those
abbrev pub in_either : List FileName → List Id → Facet → Bool
in_either names packs (File name) = has_name names name
in_either names packs (Mark pack) = has_pack packs pack

-- a facet is in either list just where some facet of the two equals it
pub in_either_facets : (names : List FileName) (packs : List Id) (q : Facet) → in_either names packs q ≡ (list_any (facet_eq q) (map File names) || list_any (facet_eq q) (map Mark packs))
in_either_facets names packs (File name) = sym (rw (no_packs packs) (or-false _ ∙ by_name names)) where
  no_packs : (ks : List Id) → list_any (facet_eq (File name)) (map Mark ks) ≡ false
  no_packs [] = refl
  no_packs (k ∷ ks) = no_packs ks

  by_name : (ks : List FileName) → list_any (facet_eq (File name)) (map File ks) ≡ has_name ks name
  by_name [] = refl
  by_name (k ∷ ks) = ap (λ b. facet_eq (File name) (File k) || b) (by_name ks)
in_either_facets names packs (Mark pack) = sym (rw (no_names names) (by_pack packs)) where
  no_names : (ks : List FileName) → list_any (facet_eq (Mark pack)) (map File ks) ≡ false
  no_names [] = refl
  no_names (k ∷ ks) = no_names ks

  by_pack : (ks : List Id) → list_any (facet_eq (Mark pack)) (map Mark ks) ≡ has_pack ks pack
  by_pack [] = refl
  by_pack (k ∷ ks) = ap (λ b. facet_eq (Mark pack) (Mark k) || b) (by_pack ks)

module _ (c : Change) where
  -- three of the words are of that form
  empties_either : (q : Facet) → empties c q ≡ in_either (file_names c.drops) (marked_packs c.clears) q
  empties_either (File name) = refl
  empties_either (Mark pack) = refl

  pub asks_filled_either : (q : Facet) → asks_filled c q ≡ in_either c.present c.marked q
  asks_filled_either (File name) = refl
  asks_filled_either (Mark pack) = refl

  pub asks_empty_either : (q : Facet) → asks_empty c q ≡ in_either c.absent c.unmarked q
  asks_empty_either (File name) = refl
  asks_empty_either (Mark pack) = refl

  -- what a change fills, its reverse empties
  empties-reverse : (q : Facet) → empties (reverse_of c) q ≡ fills c q
  empties-reverse (File name) = refl
  empties-reverse (Mark pack) = refl

  -- a change and its reverse have the same facets
  once_reverse : HasNoFacetTwice c → HasNoFacetTwice (reverse_of c)
  once_reverse once q = omega (arith, once q, count_by-facets (facet_eq q) c, count_by-facets (facet_eq q) (reverse_of c))

-- a change empties a facet where it asks it to hold something before
before_is_emptied : (c : Change) → HasNoFacetTwice c → (q : Facet) → is_some (before_of c q) ≡ empties c q
before_is_emptied c once q =
    before-some c once q
    ∙ ap₂ (λ xs ys. list_any (facet_eq q) xs || list_any (facet_eq q) ys) (sym (map-map File (λ f. f.name) c.drops)) (sym (map-map Mark (λ m. m.pack) c.clears))
    ∙ sym (empties_either c q ∙ in_either_facets (file_names c.drops) (marked_packs c.clears) q)

module _ (c : Change) (once : HasNoFacetTwice c) (q : Facet) (o : Option Written) (found : record_of (written c) q ≡ o) where
  -- a facet is emptied where its record asks for something before
  emptied_by : empties c q ≡ is_some (option_map_or (λ w. w.before) o None)
  emptied_by =
      sym (before_is_emptied c once q) ∙ ap (λ (o : Option Written). is_some (option_map_or (λ w. w.before) o None)) found

  -- and filled where its record leaves something
  filled_by : fills c q ≡ is_some (option_map_or (λ w. w.after) o None)
  filled_by =
      sym (empties-reverse c q) ∙ sym (before_is_emptied (reverse_of c) (once_reverse c once) q)
      ∙ ap (λ (o : Option Written). is_some (option_map_or (λ w. w.before) o None)) (record_of-reverse c (writes_once c once) q ∙ record_of-reversed (written c) q ∙ ap (option_map reversed) found)
      ∙ other_way o
    where
      other_way : (o : Option Written) → is_some (option_map_or (λ w. w.before) (option_map reversed o) None) ≡ is_some (option_map_or (λ w. w.after) o None)
      other_way None = refl
      other_way (Some w) = refl

-- ---- what becomes of a facet

-- whether one of the two is there and the other isn't
abbrev is_turn : Option Content → Option Content → Bool
is_turn None y = is_some y
is_turn (Some x) y = is_none y

-- each record fills an empty facet or empties a filled one
all_turn : (c : Change) → list_all (λ w. is_turn w.before w.after) (written c) ≡ true
all_turn c = rw (
  list_all-append turns (map added c.adds) _,
  list_all-append turns (map dropped c.drops) _,
  list_all-append turns (map set c.sets) _,
  each added (λ x. refl) c.adds,
  each dropped (λ x. refl) c.drops,
  each set (λ x. refl) c.sets,
  each cleared (λ x. refl) c.clears,
) refl
  where
    turns : Written → Bool
    turns w = is_turn w.before w.after

    each : {X : Type 0} (f : X → Written) → ((x : X) → turns (f x) ≡ true) → (xs : List X) → list_all turns (map f xs) ≡ true
    each f passes [] = refl
    each f passes (x ∷ xs) = rw (passes x) (each f passes xs)

-- whether a change empties a facet, whether it fills it, and whether it is filled before and after
pub data Became (empty fill before after : Bool) : Type 0 where
  as_it_was : empty ≡ false → fill ≡ false → after ≡ before → Became empty fill before after
  filled_now : empty ≡ false → fill ≡ true → before ≡ false → after ≡ true → Became empty fill before after
  empty_now : empty ≡ true → fill ≡ false → before ≡ true → after ≡ false → Became empty fill before after

-- what its record asks for and leaves says what becomes of a facet
by_turn : (x y : Option Content) (empty fill before after : Bool) → is_turn x y ≡ true → empty ≡ is_some x → fill ≡ is_some y → before ≡ is_some x → after ≡ is_some y → Became empty fill before after
by_turn None None empty fill before after turn e f b a = cc turn
by_turn None (Some y) empty fill before after turn e f b a = filled_now e f b a
by_turn (Some x) None empty fill before after turn e f b a = empty_now e f b a
by_turn (Some x) (Some y) empty fill before after turn e f b a = cc turn

-- a facet that has no record is as it was
pub unwritten : (c : Change) (r : Repository) → HasNoFacetTwice c → (q : Facet) → record_of (written c) q ≡ None → is_filled (result_of c r) q ≡ is_filled r q
unwritten c r once q n =
    ap is_some ((λ i. held-result_of c (writes_once c once) r i q) ∙ replaced_outside (written c) (held r) q n)

module _ (c : Change) (r : Repository) (once : HasNoFacetTwice c) (met : is_met (held r) c ≡ true) where
  -- a facet becomes what its record says, and without one it is as it was
  became_by : (q : Facet) → RecordAt (written c) q → Became (empties c q) (fills c q) (is_filled r q) (is_filled (result_of c r) q)
  became_by q (no_record n a) =
      as_it_was (emptied_by c once q None n) (filled_by c once q None n) (unwritten c r once q n)
  became_by q (a_record w n a same) = by_turn w.before w.after _ _ _ _
      (found_passes (λ w. is_turn w.before w.after) (λ w. facet_eq w.facet q) (written c) w (all_turn c) n)
      (emptied_by c once q (Some w) n) (filled_by c once q (Some w) n)
      (ap is_some (ready_inside (written c) (held r) q w (and_parts _ _ met).0 n same))
      (ap is_some ((λ i. held-result_of c (writes_once c once) r i q) ∙ replaced_inside (written c) (held r) q w n))

  pub became : (q : Facet) → Became (empties c q) (fills c q) (is_filled r q) (is_filled (result_of c r) q)
  became q = became_by q (record_at (written c) q)
