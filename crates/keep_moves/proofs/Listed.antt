-- The moves of a change's records are those that its lists tell.
use Rattle.std.proofs.Common.{◌≡◌, ℕ, Bool, true, false, ◌&&◌, List, [], ◌∷◌, ◌++◌, map, Option, Some, None, refl, ap, ap₂, ◌∙◌, append-nil}
use Rattle.std.specs.List.{cons_option, filter_map, list_all}
use Rattle.std.specs.Option.{option_map, option_map_or}
use Rattle.std.proofs.lemmas.List.Elements.{filter_map-append}
use Rattle.std.proofs.lemmas.List.Folds.{list_all-append}
use Rattle.keep_names.specs.declared.file_name.FileName.{FileName}
use Rattle.keep_repo.specs.declared.facet.Facet.{Facet}
use Rattle.keep_repo.specs.declared.facet.Facet.TheVariants.{File, Mark}
use Rattle.keep_change.specs.Change.{Written, added, cleared, dropped, record_of, reversed, set, written}
use Rattle.keep_change.specs.declared.change.Change.{Change}
use Rattle.keep_change.proofs.Carry.{reversed_written}
use Rattle.keep_change.proofs.Records.{record_of-reversed}
use Rattle.keep_moves.specs.Lists.{back_of, commit_moves, out_of, put_of, redo_moves, undo_moves}
use Rattle.keep_moves.specs.Standing.{file_bytes}
use Rattle.keep_moves.specs.declared.moves.Move.{Move}
use Rattle.keep_moves.proofs.About.{move_of}
use Rattle.keep_moves.proofs.Turned.{after_in, before_in, turns, turns_by}

module _ {X : Type 0} (first : Bool) (n : ℕ) (f : X → Written) where
  -- records of files tell a move each
  each_told : (g : X → Move) → ((x : X) → move_of first n (f x) ≡ Some (g x)) → (xs : List X) → filter_map (move_of first n) (map f xs) ≡ map g xs
  each_told g is [] = refl
  each_told g is (x ∷ xs) = ap₂ cons_option (is x) (each_told g is xs)

  -- and those of marks none
  none_told : ((x : X) → move_of first n (f x) ≡ None) → (xs : List X) → filter_map (move_of first n) (map f xs) ≡ []
  none_told is [] = refl
  none_told is (x ∷ xs) = ap₂ cons_option (is x) (none_told is xs)

four_lists : (first : Bool) (n : ℕ) (a b c d : List Written) (ms ps : List Move)
    → filter_map (move_of first n) a ≡ ms → filter_map (move_of first n) b ≡ ps → filter_map (move_of first n) c ≡ [] → filter_map (move_of first n) d ≡ []
    → filter_map (move_of first n) (a ++ (b ++ (c ++ d))) ≡ ms ++ ps
four_lists first n a b c d ms ps ea eb ec ed =
    filter_map-append (move_of first n) a (b ++ (c ++ d))
    ∙ ap₂ ◌++◌ ea (filter_map-append (move_of first n) b (c ++ d) ∙ ap₂ ◌++◌ eb (filter_map-append (move_of first n) c d ∙ ap₂ ◌++◌ ec ed) ∙ append-nil ps)

pub commit_listed : (n : ℕ) (c : Change) → filter_map (move_of true n) (written c) ≡ commit_moves n c
commit_listed n c = four_lists true n (map added c.adds) (map dropped c.drops) (map set c.sets) (map cleared c.clears) (map put_of c.adds) (map (out_of n) c.drops)
    (each_told true n added put_of (λ x. refl) c.adds) (each_told true n dropped (out_of n) (λ x. refl) c.drops)
    (none_told true n set (λ x. refl) c.sets) (none_told true n cleared (λ x. refl) c.clears)

pub redo_listed : (n : ℕ) (c : Change) → filter_map (move_of false n) (written c) ≡ redo_moves n c
redo_listed n c = four_lists false n (map added c.adds) (map dropped c.drops) (map set c.sets) (map cleared c.clears) (map (back_of n) c.adds) (map (out_of n) c.drops)
    (each_told false n added (back_of n) (λ x. refl) c.adds) (each_told false n dropped (out_of n) (λ x. refl) c.drops)
    (none_told false n set (λ x. refl) c.sets) (none_told false n cleared (λ x. refl) c.clears)

pub undo_listed : (n : ℕ) (c : Change) → filter_map (move_of false n) (map reversed (written c)) ≡ undo_moves n c
undo_listed n c =
    ap (filter_map (move_of false n)) (reversed_written c)
    ∙ four_lists false n (map dropped c.adds) (map added c.drops) (map cleared c.sets) (map set c.clears) (map (out_of n) c.adds) (map (back_of n) c.drops)
    (each_told false n dropped (out_of n) (λ x. refl) c.adds) (each_told false n added (back_of n) (λ x. refl) c.drops)
    (none_told false n cleared (λ x. refl) c.sets) (none_told false n set (λ x. refl) c.clears)

-- ---- each record of a file fills it or empties it

all_turn : {X : Type 0} (f : X → Written) → ((x : X) → turns (f x) ≡ true) → (xs : List X) → list_all turns (map f xs) ≡ true
all_turn f is [] = refl
all_turn f is (x ∷ xs) = ap₂ ◌&&◌ (is x) (all_turn f is xs)

pub written_turns : (c : Change) → list_all turns (written c) ≡ true
written_turns c = rw (
  list_all-append turns (map added c.adds) (map dropped c.drops ++ (map set c.sets ++ map cleared c.clears)),
  list_all-append turns (map dropped c.drops) (map set c.sets ++ map cleared c.clears),
  list_all-append turns (map set c.sets) (map cleared c.clears),
  all_turn added (λ x. refl) c.adds,
  all_turn dropped (λ x. refl) c.drops,
  all_turn set (λ x. refl) c.sets,
  all_turn cleared (λ x. refl) c.clears,
) refl

other_way : (f : Facet) (a b : Option (List ℕ)) → turns_by f a b ≡ turns_by f b a
other_way (File name) None None = refl
other_way (File name) None (Some y) = refl
other_way (File name) (Some x) None = refl
other_way (File name) (Some x) (Some y) = refl
other_way (Mark pack) a b = refl

pub reversed_turn : (ws : List Written) → list_all turns (map reversed ws) ≡ list_all turns ws
reversed_turn [] = refl
reversed_turn (w ∷ ws) = ap₂ ◌&&◌ (other_way w.facet (file_bytes w.after) (file_bytes w.before)) (reversed_turn ws)

-- ---- what they ask for is what the reversed ones leave, and the other way round

pub after_reversed : (ws : List Written) (name : FileName) → after_in (map reversed ws) name ≡ before_in ws name
after_reversed ws name = ap (λ o. file_bytes (option_map_or (λ (w : Written). w.after) o None)) (record_of-reversed ws (File name)) ∙ by (record_of ws (File name))
  where
    by : (o : Option Written) → file_bytes (option_map_or (λ (w : Written). w.after) (option_map reversed o) None) ≡ file_bytes (option_map_or (λ (w : Written). w.before) o None)
    by None = refl
    by (Some w) = refl

pub before_reversed : (ws : List Written) (name : FileName) → before_in (map reversed ws) name ≡ after_in ws name
before_reversed ws name = ap (λ o. file_bytes (option_map_or (λ (w : Written). w.before) o None)) (record_of-reversed ws (File name)) ∙ by (record_of ws (File name))
  where
    by : (o : Option Written) → file_bytes (option_map_or (λ (w : Written). w.before) (option_map reversed o) None) ≡ file_bytes (option_map_or (λ (w : Written). w.after) o None)
    by None = refl
    by (Some w) = refl
