-- What the moves of a change's records leave: live files and the trash are exchanged.
use Rattle.std.proofs.Common.{◌≡◌, ℕ, ◌==◌, Bool, true, false, cond, ◌&&◌, List, [], ◌∷◌, Option, Some, None, is_none, is_some, refl, sym, ap, ◌∙◌}
use Rattle.std.specs.FinMap as finite
use Rattle.std.specs.List.{AllByRecursion, filter_map, list_all}
use Rattle.std.specs.Option.{option_map, option_map_or}
use Rattle.keep_names.specs.declared.file_name.FileName.{FileName}
use Rattle.keep_repo.specs.Facet.{Stored, facet_eq}
use Rattle.keep_repo.specs.Repository.{Repository, held}
use Rattle.keep_repo.specs.declared.facet.Facet.{Facet}
use Rattle.keep_repo.specs.declared.facet.Facet.TheVariants.{File, Mark}
use Rattle.keep_repo.proofs.Orders.{facet_eq_refl, facet_eq_same}
use Rattle.keep_change.specs.Change.{Written, is_as_written, record_of, replaced}
use Rattle.keep_change.proofs.Records.{RecordAt, WritesOnce, a_record, among, and_both, found_passes, no_record, once_head, once_tail, or_first, or_second, ready_inside, record_at}
use Rattle.keep_shelf.specs.declared.key.Key.TheVariants.{Live, Trash}
use Rattle.keep_moves.specs.Move.{CanMake, Stand, key_eq, moved_all, remains}
use Rattle.keep_moves.specs.Standing.{file_bytes}
use Rattle.keep_moves.proofs.About.{all_apart, left_by_it, move_by, move_of, moved_all-cons, moved_by, remain-cons, remains_by}
use Rattle.keep_moves.proofs.Keys.{key_eq_refl}

-- ---- a name's two places

-- what stands there as a live file, and in the trash of change n
abbrev Places : Type 0
Places = Option (List ℕ) × Option (List ℕ)

abbrev places : Stand → ℕ → FileName → Places
places h n name = (h (Live name), h (Trash n name))

-- what a move makes of them, by what the facet holds afterwards
abbrev exchanged : Bool → Option (List ℕ) → Places → Places
exchanged first None p = (None, p.0)
exchanged true (Some bytes) p = (Some bytes, p.1)
exchanged false (Some bytes) p = (p.1, None)

-- of its own file
at_own : (first : Bool) (n : ℕ) (name : FileName) (after : Option (List ℕ)) (h : Stand) → places (moved_by (move_by first n (File name) after) h) n name ≡ exchanged first after (places h n name)
at_own first n name None h =
    ap (λ b. (cond b None (h (Live name)), cond (key_eq (Trash n name) (Trash n name)) (h (Live name)) (h (Trash n name)))) (key_eq_refl (Live name))
    ∙ ap (λ b. (None, cond b (h (Live name)) (h (Trash n name)))) (key_eq_refl (Trash n name))
at_own true n name (Some bytes) h = ap (λ b. (cond b (Some bytes) (h (Live name)), h (Trash n name))) (key_eq_refl (Live name))
at_own false n name (Some bytes) h =
    ap (λ b. (cond b (h (Trash n name)) (h (Live name)), cond (key_eq (Trash n name) (Trash n name)) None (h (Trash n name)))) (key_eq_refl (Live name))
    ∙ ap (λ b. (h (Trash n name), cond b None (h (Trash n name)))) (key_eq_refl (Trash n name))

-- and of another one
at_other : (first : Bool) (n : ℕ) (f : Facet) (after : Option (List ℕ)) (h : Stand) (name : FileName) → facet_eq f (File name) ≡ false → places (moved_by (move_by first n f after) h) n name ≡ places h n name
at_other first n f after h name apart =
    ap (λ o. (o, moved_by (move_by first n f after) h (Trash n name))) (left_by_it first n f after h (Live name) apart)
    ∙ ap (λ o. (h (Live name), o)) (left_by_it first n f after h (Trash n name) (rw apart (and_false (n == n))))
  where
    and_false : (b : Bool) → (b && false) ≡ false
    and_false true = refl
    and_false false = refl

at_facet : (first : Bool) (n : ℕ) (f : Facet) (after : Option (List ℕ)) (h : Stand) (name : FileName) → f ≡ File name → places (moved_by (move_by first n f after) h) n name ≡ exchanged first after (places h n name)
at_facet first n f after h name same =
    ap (λ x. places (moved_by (move_by first n x after) h) n name) same ∙ at_own first n name after h

-- what all of them make of a name's two places is what its record says
pub exchanged_all : (first : Bool) (n : ℕ) (ws : List Written) → WritesOnce ws → (h : Stand) (name : FileName)
    → places (moved_all (filter_map (move_of first n) ws) h) n name
    ≡ option_map_or (λ w. exchanged first (file_bytes w.after) (places h n name)) (record_of ws (File name)) (places h n name)
exchanged_all first n [] once h name = refl
exchanged_all first n (w ∷ ws) once h name =
    ap (λ (g : Stand). places g n name) (moved_all-cons (move_of first n w) (filter_map (move_of first n) ws) h)
    ∙ exchanged_all first n ws (once_tail w ws once) h1 name
    ∙ by (facet_eq w.facet (File name)) refl
  where
    h1 : Stand
    h1 = moved_by (move_of first n w) h

    none_left : (o : RecordAt ws (File name)) → facet_eq w.facet (File name) ≡ true → record_of ws (File name) ≡ None
    none_left (no_record e a) same = e
    none_left (a_record v e a f) same =
        let is : w.facet ≡ File name = facet_eq_same w.facet (File name) same in
        let free : among (File name) ws ≡ false = ap (λ q. among q ws) (sym is) ∙ once_head w ws once in
        cc (sym a ∙ free)

    by : (b : Bool) → facet_eq w.facet (File name) ≡ b
        → option_map_or (λ v. exchanged first (file_bytes v.after) (places h1 n name)) (record_of ws (File name)) (places h1 n name)
        ≡ option_map_or (λ v. exchanged first (file_bytes v.after) (places h n name)) (cond b (Some w) (record_of ws (File name))) (places h n name)
    by true same =
        ap (λ o. option_map_or (λ v. exchanged first (file_bytes v.after) (places h1 n name)) o (places h1 n name)) (none_left (record_at ws (File name)) same)
        ∙ at_facet first n w.facet (file_bytes w.after) h name (facet_eq_same w.facet (File name) same)
    by false apart =
        ap (λ p. option_map_or (λ v. exchanged first (file_bytes v.after) p) (record_of ws (File name)) p) (at_other first n w.facet (file_bytes w.after) h name apart)

-- ---- records that fill an empty file, or empty a filled one

abbrev one_way : Option (List ℕ) → Option (List ℕ) → Bool
one_way None after = is_some after
one_way (Some bytes) after = is_none after

-- whether the record does, if it is of a file
abbrev pub turns_by : Facet → Option (List ℕ) → Option (List ℕ) → Bool
turns_by (File name) before after = one_way before after
turns_by (Mark pack) before after = true

abbrev pub turns : Written → Bool
turns w = turns_by w.facet (file_bytes w.before) (file_bytes w.after)

-- what the records leave in a file, and what they ask it to hold before, of those that they are of
abbrev pub after_in : List Written → FileName → Option (List ℕ)
after_in ws name = file_bytes (option_map_or (λ w. w.after) (record_of ws (File name)) None)

abbrev pub before_in : List Written → FileName → Option (List ℕ)
before_in ws name = file_bytes (option_map_or (λ w. w.before) (record_of ws (File name)) None)

-- each record is the one of its facet, where no facet stands twice
recorded : (ws : List Written) → WritesOnce ws → AllByRecursion (λ w. record_of ws w.facet ≡ Some w) ws
recorded [] once = tt
recorded (w ∷ ws) once =
    (ap (λ b. cond b (Some w) (record_of ws w.facet)) (facet_eq_refl w.facet), behind ws (once_head w ws once) (recorded ws (once_tail w ws once)))
  where
    behind : (us : List Written) → among w.facet us ≡ false → AllByRecursion (λ v. record_of ws v.facet ≡ Some v) us → AllByRecursion (λ v. record_of (w ∷ ws) v.facet ≡ Some v) us
    behind [] apart all = tt
    behind (u ∷ us) apart all =
        (ap (λ b. cond b (Some w) (record_of ws u.facet)) (or_first (facet_eq w.facet u.facet) (among w.facet us) apart) ∙ all.0, behind us (or_second (facet_eq w.facet u.facet) (among w.facet us) apart) all.1)

-- a move remains, where what it takes is there and nothing is in its way
one_remains : (first : Bool) (n : ℕ) (name : FileName) (before after : Option (List ℕ)) (h : Stand) → one_way before after ≡ true → h (Live name) ≡ before → h (Trash n name) ≡ cond first None after
    → remains_by (move_by first n (File name) after) h ≡ true
one_remains first n name None None h way l t = cc way
one_remains true n name (Some old) None h way l t = rw (l, t) refl
one_remains false n name (Some old) None h way l t = rw (l, t) refl
one_remains true n name None (Some bytes) h way l t = rw l refl
one_remains false n name None (Some bytes) h way l t = rw (l, t) refl
one_remains first n name (Some old) (Some bytes) h way l t = cc way

-- the records can be turned: they are as asked, and the trash has what they bring back, and nothing the first time
pub record CanTurn (first : Bool) (n : ℕ) (ws : List Written) (live : Repository) (h : Stand) : Type 0 where
  pub once : WritesOnce ws
  pub turn : list_all turns ws ≡ true
  pub ready : list_all (is_as_written (held live)) ws ≡ true
  pub lives : (name : FileName) → h (Live name) ≡ finite.get live.files name
  pub trash : (name : FileName) → h (Trash n name) ≡ cond first None (after_in ws name)

-- a file's bytes, by what its facet holds
pub bytes_held : (r : Repository) (name : FileName) → file_bytes (held r (File name)) ≡ finite.get r.files name
bytes_held r name = same (finite.get r.files name)
  where
    same : (o : Option (List ℕ)) → file_bytes (option_map Stored o) ≡ o
    same None = refl
    same (Some bytes) = refl

module _ (first : Bool) (n : ℕ) (ws : List Written) (live : Repository) (h : Stand) (can : CanTurn first n ws live h) where
  lives_as : (name : FileName) → h (Live name) ≡ file_bytes (held live (File name))
  lives_as name = can.lives name ∙ sym (bytes_held live name)

  -- what is to be there before, of a file that has a record
  asked_for : (name : FileName) (w : Written) → record_of ws (File name) ≡ Some w → w.facet ≡ File name → h (Live name) ≡ file_bytes w.before
  asked_for name w found same = lives_as name ∙ ap file_bytes (ready_inside ws (held live) (File name) w can.ready found same)

  one_way_at : (name : FileName) (w : Written) → record_of ws (File name) ≡ Some w → w.facet ≡ File name → one_way (file_bytes w.before) (file_bytes w.after) ≡ true
  one_way_at name w found same =
      ap (λ f. turns_by f (file_bytes w.before) (file_bytes w.after)) (sym same)
      ∙ found_passes turns (λ v. facet_eq v.facet (File name)) ws w can.turn found

  trash_at : (name : FileName) (o : Option Written) → record_of ws (File name) ≡ o → h (Trash n name) ≡ cond first None (file_bytes (option_map_or (λ w. w.after) o None))
  trash_at name o found =
      can.trash name ∙ ap (λ r. cond first None (file_bytes (option_map_or (λ (w : Written). w.after) r None))) found

  -- ---- what they leave

  -- of a file without a record
  by_none : (name : FileName) → record_of ws (File name) ≡ None → (file_bytes (replaced ws (held live) (File name)) ≡ h (Live name)) × (before_in ws name ≡ h (Trash n name))
  by_none name none = (
    ap (λ o. file_bytes (option_map_or (λ (w : Written). w.after) o (held live (File name)))) none ∙ sym (lives_as name),
    ap (λ o. file_bytes (option_map_or (λ (w : Written). w.before) o None)) none ∙ sym (trash_at name None none ∙ nothing first),
  )
    where
      nothing : (b : Bool) → cond b None (file_bytes None) ≡ None
      nothing true = refl
      nothing false = refl

  -- and of one that has a record
  by_one : (f : Bool) (before after l t : Option (List ℕ)) → one_way before after ≡ true → l ≡ before → t ≡ cond f None after → (exchanged f after (l, t)).0 ≡ after × ((exchanged f after (l, t)).1 ≡ before)
  by_one f None None l t way is_l is_t = cc way
  by_one true None (Some bytes) l t way is_l is_t = (refl, is_t)
  by_one false None (Some bytes) l t way is_l is_t = (is_t, refl)
  by_one f (Some old) None l t way is_l is_t = (refl, is_l)
  by_one f (Some old) (Some bytes) l t way is_l is_t = cc way

  abbrev after_moves : Stand
  after_moves = moved_all (filter_map (move_of first n) ws) h

  both_places : (name : FileName) → (after_moves (Live name) ≡ file_bytes (replaced ws (held live) (File name))) × (after_moves (Trash n name) ≡ before_in ws name)
  both_places name = by (record_at ws (File name))
    where
      made : (o : Option Written) → record_of ws (File name) ≡ o → places after_moves n name ≡ option_map_or (λ w. exchanged first (file_bytes w.after) (places h n name)) o (places h n name)
      made o found =
          exchanged_all first n ws can.once h name
          ∙ ap (λ r. option_map_or (λ (w : Written). exchanged first (file_bytes w.after) (places h n name)) r (places h n name)) found

      by : RecordAt ws (File name) → (after_moves (Live name) ≡ file_bytes (replaced ws (held live) (File name))) × (after_moves (Trash n name) ≡ before_in ws name)
      by (no_record none a) =
          let left = by_none name none in
          (ap (λ (p : Places). p.0) (made None none) ∙ sym left.0, ap (λ (p : Places). p.1) (made None none) ∙ sym left.1)
      by (a_record w found a same) =
          let sides = by_one first (file_bytes w.before) (file_bytes w.after) (h (Live name)) (h (Trash n name)) (one_way_at name w found same) (asked_for name w found same) (trash_at name (Some w) found) in (
            ap (λ (p : Places). p.0) (made (Some w) found) ∙ sides.0 ∙ sym (ap (λ o. file_bytes (option_map_or (λ (w : Written). w.after) o (held live (File name)))) found),
            ap (λ (p : Places). p.1) (made (Some w) found) ∙ sides.1 ∙ sym (ap (λ o. file_bytes (option_map_or (λ (w : Written). w.before) o None)) found),
          )

  pub live_after : (name : FileName) → after_moves (Live name) ≡ file_bytes (replaced ws (held live) (File name))
  live_after name = (both_places name).0

  pub trash_after : (name : FileName) → after_moves (Trash n name) ≡ before_in ws name
  trash_after name = (both_places name).1

  -- ---- and they can be made

  remains_of : (w : Written) → record_of ws w.facet ≡ Some w → remains_by (move_of first n w) h ≡ true
  remains_of w found = by w.facet refl
    where
      by : (f : Facet) → w.facet ≡ f → remains_by (move_by first n f (file_bytes w.after)) h ≡ true
      by (Mark pack) same = refl
      by (File name) same =
          let here : record_of ws (File name) ≡ Some w = ap (record_of ws) (sym same) ∙ found in
          one_remains first n name (file_bytes w.before) (file_bytes w.after) h (one_way_at name w here same) (asked_for name w here same) (trash_at name (Some w) here)

  remain_of : (us : List Written) → AllByRecursion (λ w. record_of ws w.facet ≡ Some w) us → list_all (remains h) (filter_map (move_of first n) us) ≡ true
  remain_of [] all = refl
  remain_of (u ∷ us) all =
      remain-cons (move_of first n u) (filter_map (move_of first n) us) h
      ∙ and_both (remains_by (move_of first n u) h) (list_all (remains h) (filter_map (move_of first n) us)) (remains_of u all.0) (remain_of us all.1)

  pub can_make : CanMake (filter_map (move_of first n) ws) h
  can_make = record { apart = all_apart first n ws can.once; remain = remain_of ws (recorded ws can.once) }
