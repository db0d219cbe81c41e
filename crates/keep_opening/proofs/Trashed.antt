-- The trash that is put for one change after another, and the live files beside it.
use Rattle.std.proofs.Common.{◌≡◌, ℕ, ◌<◌, Bool, true, false, cond, List, [], ◌∷◌, map, Option, Some, None, Ordering, Less, refl, sym, ap, ◌∙◌}
use Rattle.std.specs.Cmp.{nat_cmp_total, tied_itself}
use Rattle.std.specs.FinMap as finite
use Rattle.std.specs.List.{AllByRecursion, find, list_any}
use Rattle.std.specs.Option.{option_map, option_map_or, option_or}
use Rattle.std.specs.Ordering.{is_eq, ordering_then}
use Rattle.std.proofs.lemmas.Bool.{and_right, lt-leb}
use Rattle.std.proofs.lemmas.Map.Keys.{sorted_head, sorted_tail}
use Rattle.keep_names.specs.Orders.{name_cmp}
use Rattle.keep_names.specs.declared.file_name.FileName.{FileName}
use Rattle.keep_repo.proofs.Orders.{facet_eq_same}
use Rattle.keep_repo.specs.Facet.{facet_cmp, facet_eq}
use Rattle.keep_repo.specs.declared.facet.Facet.{Facet}
use Rattle.keep_repo.specs.declared.facet.Facet.TheVariants.{File}
use Rattle.keep_change.specs.Form.{IsInOrder, IsWellFormed}
use Rattle.keep_change.specs.NamedBytes.{NamedBytes}
use Rattle.keep_change.specs.declared.change.Change.{Change}
use Rattle.keep_journal.specs.History.{change_of, final_number, last_change, IsNumbered}
use Rattle.keep_journal.specs.Journal.{Journal}
use Rattle.keep_journal.specs.Kept.{is_kept}
use Rattle.keep_journal.specs.Opening.{AreWellFormed}
use Rattle.keep_journal.proofs.Commits.{no_change}
use Rattle.keep_journal.proofs.Later.{well_formed_change}
use Rattle.keep_shelf.proofs.Orders.{key_total}
use Rattle.keep_shelf.specs.Shelved.{Content}
use Rattle.keep_shelf.specs.declared.key.Key.{Key}
use Rattle.keep_shelf.specs.declared.key.Key.TheVariants.{Live, Trash}
use Rattle.keep_moves.specs.Move.{key_eq}
use Rattle.keep_moves.specs.Standing.{trashed}
use Rattle.keep_moves.proofs.Begun.{trashed_none}
use Rattle.keep_moves.proofs.Keys.{key_eq_apart, key_eq_same}
use Rattle.keep_moves.proofs.Trash.{named_one, trashed_out}
use Rattle.keep_reading.specs.Checks.{Files}
use Rattle.keep_opening.proofs.Joined.{either, join, or_none, there_or_none}
use Rattle.keep_opening.specs.Filing.{lived_in, trash_put}
use Rattle.keep_opening.specs.Wanted.{out_of_trash}

-- ---- the trash of one change

same_test : (n : ℕ) (a b : FileName) → key_eq (Trash n a) (Trash n b) ≡ facet_eq (File a) (File b)
same_test n a b = ap (λ (r : Ordering). is_eq (ordering_then r (name_cmp a b))) (tied_itself nat_cmp_total n)

apart_test : (m n : ℕ) (a b : FileName) → (m ≡ n → ⊥) → key_eq (Trash m a) (Trash n b) ≡ false
apart_test m n a b apart = key_eq_apart (Trash m a) (Trash n b) (λ same. apart (number same))
  where
    number : Trash m a ≡ Trash n b → m ≡ n
    number same = cc

-- no later file has the name
no_later : (q : Facet) (fs : List NamedBytes) → AllByRecursion (λ y. facet_cmp q y ≡ Less) (map (λ f. File f.name) fs) → find (λ f. facet_eq q (File f.name)) fs ≡ None
no_later q [] all = refl
no_later q (f ∷ fs) all = ap (λ b. cond b (Some f) (find (λ (g : NamedBytes). facet_eq q (File g.name)) fs)) (ap is_eq all.0) ∙ no_later q fs all.1

abbrev bytes_named : FileName → List NamedBytes → Option (List ℕ)
bytes_named name fs = option_map (λ f. f.bytes) (named_one name fs)

put_same : (n : ℕ) (fs : List NamedBytes) (content : Content) (name : FileName) → IsInOrder (map (λ f. File f.name) fs)
    → finite.get (trash_put n fs content) (Trash n name) ≡ option_or (bytes_named name fs) (finite.get content (Trash n name))
put_same n [] content name sorted = refl
put_same n (f ∷ fs) content name sorted =
    put_same n fs (finite.insert content (Trash n f.name) f.bytes) name (sorted_tail facet_cmp (File f.name) (map (λ (g : NamedBytes). File g.name) fs) sorted)
    ∙ ap (option_or (bytes_named name fs)) (finite.get-insert key_total content (Trash n f.name) f.bytes (Trash n name) ∙ ap (λ b. cond b (Some f.bytes) (finite.get content (Trash n name))) (same_test n name f.name))
    ∙ by (facet_eq (File name) (File f.name)) refl (finite.get content (Trash n name))
  where
    by : (b : Bool) → facet_eq (File name) (File f.name) ≡ b → (o : Option (List ℕ))
        → option_or (bytes_named name fs) (cond b (Some f.bytes) o) ≡ option_or (option_map (λ g. g.bytes) (cond b (Some f) (named_one name fs))) o
    by true is o =
        let none : named_one name fs ≡ None =
        ap (λ (q : Facet). find (λ (g : NamedBytes). facet_eq q (File g.name)) fs) (facet_eq_same (File name) (File f.name) is)
        ∙ no_later (File f.name) fs (sorted_head facet_cmp (File f.name) (map (λ (g : NamedBytes). File g.name) fs) sorted) in
        ap (λ p. option_or (option_map (λ (g : NamedBytes). g.bytes) p) (Some f.bytes)) none
    by false is o = refl

put_other : (n : ℕ) (fs : List NamedBytes) (content : Content) (q : Key) → ((f : NamedBytes) → key_eq q (Trash n f.name) ≡ false) → finite.get (trash_put n fs content) q ≡ finite.get content q
put_other n [] content q apart = refl
put_other n (f ∷ fs) content q apart =
    put_other n fs (finite.insert content (Trash n f.name) f.bytes) q apart
    ∙ finite.get-insert key_total content (Trash n f.name) f.bytes q ∙ ap (λ b. cond b (Some f.bytes) (finite.get content q)) (apart f)

-- ---- one more change

abbrev outs : Journal → ℕ → Option Change → List NamedBytes
outs j n o = option_map_or (λ c. cond (is_kept j n) c.drops c.adds) o []

pub trash_here : (j : Journal) (n : ℕ) (old new : Content) (name : FileName) → AreWellFormed j → final_number j < n → new ≡ trash_put n (out_of_trash j n) old
    → finite.get old (Trash n name) ≡ None → finite.get new (Trash n name) ≡ trashed j n name
trash_here j n old new name formed above made none =
    ap (λ (c : Content). finite.get c (Trash n name)) made ∙ by (change_of j n) refl
  where
    ordered : (b : Bool) (c : Change) → IsWellFormed c → IsInOrder (map (λ f. File f.name) (cond b c.drops c.adds))
    ordered true c well = well.in_order.drops
    ordered false c well = well.in_order.adds

    by : (o : Option Change) → change_of j n ≡ o → finite.get (trash_put n (outs j n (change_of j n)) old) (Trash n name) ≡ trashed j n name
    by None is = ap (λ p. finite.get (trash_put n (outs j n p) old) (Trash n name)) is ∙ none ∙ sym (trashed_none j n name is)
    by (Some c) is =
        let well = well_formed_change j n c formed is in
        ap (λ p. finite.get (trash_put n (outs j n p) old) (Trash n name)) is
        ∙ put_same n (cond (is_kept j n) c.drops c.adds) old name (ordered (is_kept j n) c well)
        ∙ ap (option_or (bytes_named name (cond (is_kept j n) c.drops c.adds))) none
        ∙ or_none (bytes_named name (cond (is_kept j n) c.drops c.adds))
        ∙ sym (trashed_out j (record { number = n; change = c }) name above is well.once)

pub trash_there : (j : Journal) (m n : ℕ) (old new : Content) (name : FileName) → (m ≡ n → ⊥) → new ≡ trash_put n (out_of_trash j n) old → finite.get new (Trash m name) ≡ finite.get old (Trash m name)
trash_there j m n old new name apart made =
    ap (λ (c : Content). finite.get c (Trash m name)) made ∙ put_other n (out_of_trash j n) old (Trash m name) (λ f. apart_test m n name f.name apart)

pub live_there : (j : Journal) (n : ℕ) (old new : Content) (name : FileName) → new ≡ trash_put n (out_of_trash j n) old → finite.get new (Live name) ≡ finite.get old (Live name)
live_there j n old new name made = ap (λ (c : Content). finite.get c (Live name)) made ∙ put_other n (out_of_trash j n) old (Live name) (λ f. refl)

-- a change past the last one has no trash
pub trash_past : (j : Journal) (n : ℕ) (name : FileName) → IsNumbered j → last_change j < n → trashed j n name ≡ None
trash_past j n name numbered past =
    trashed_none j n name (no_change j n numbered (and_right _ _ (lt-leb n (last_change j) past)))

-- ---- live files

pub lived_trash : (files : Files) (names : List FileName) (content : Content) (n : ℕ) (name : FileName) → finite.get (lived_in files names content) (Trash n name) ≡ finite.get content (Trash n name)
lived_trash files [] content n name = refl
lived_trash files (x ∷ names) content n name = lived_trash files names (option_map_or (finite.insert content (Live x)) (finite.get files x) content) n name ∙ by (finite.get files x)
  where
    by : (o : Option (List ℕ)) → finite.get (option_map_or (finite.insert content (Live x)) o content) (Trash n name) ≡ finite.get content (Trash n name)
    by None = refl
    by (Some bytes) = finite.get-insert key_total content (Live x) bytes (Trash n name)

lived_step : (files : Files) (x : FileName) (content : Content) (name : FileName)
    → finite.get (option_map_or (finite.insert content (Live x)) (finite.get files x) content) (Live name)
    ≡ cond (key_eq (Live name) (Live x)) (option_or (finite.get files x) (finite.get content (Live name))) (finite.get content (Live name))
lived_step files x content name = by (finite.get files x)
  where
    by : (o : Option (List ℕ)) → finite.get (option_map_or (finite.insert content (Live x)) o content) (Live name)
        ≡ cond (key_eq (Live name) (Live x)) (option_or o (finite.get content (Live name))) (finite.get content (Live name))
    by None = either (key_eq (Live name) (Live x)) (finite.get content (Live name))
    by (Some bytes) = finite.get-insert key_total content (Live x) bytes (Live name)

lived_at : (files : Files) (names : List FileName) (content : Content) (name : FileName)
    → finite.get (lived_in files names content) (Live name) ≡ option_or (cond (list_any (λ x. key_eq (Live name) (Live x)) names) (finite.get files name) None) (finite.get content (Live name))
lived_at files [] content name = refl
lived_at files (x ∷ names) content name =
    lived_at files names (option_map_or (finite.insert content (Live x)) (finite.get files x) content) name
    ∙ ap (option_or (cond (list_any (λ y. key_eq (Live name) (Live y)) names) (finite.get files name) None)) (lived_step files x content name)
    ∙ join (key_eq (Live name) (Live x)) (list_any (λ y. key_eq (Live name) (Live y)) names) (finite.get files name) (finite.get files x) (finite.get content (Live name))
    (λ same. ap (finite.get files) (name_is (key_eq_same (Live name) (Live x) same)))
  where
    name_is : Live name ≡ Live x → x ≡ name
    name_is same = cc

-- the live files stand there where none did
pub lived_all : (files : Files) (content : Content) (name : FileName) → finite.get content (Live name) ≡ None
    → finite.get (lived_in files (finite.keys files) content) (Live name) ≡ finite.get files name
lived_all files content name none =
    lived_at files (finite.keys files) content name
    ∙ ap (option_or (cond (list_any (λ x. key_eq (Live name) (Live x)) (finite.keys files)) (finite.get files name) None)) none
    ∙ or_none (cond (list_any (λ x. key_eq (Live name) (Live x)) (finite.keys files)) (finite.get files name) None)
    ∙ ap (λ b. cond b (finite.get files name) None) (sym (finite.contains_key-keys files name)) ∙ there_or_none (finite.get files name)
