-- The moves that a change's records tell, and the keys that they use.
use Rattle.std.proofs.Common.{◌≡◌, ℕ, ◌==◌, Bool, true, false, cond, ◌&&◌, List, [], ◌∷◌, Option, Some, None, refl, sym, ap, ◌∙◌}
use Rattle.std.specs.List.{AllByRecursion, cons_option, filter_map, list_all}
use Rattle.std.specs.Option.{option_map_or}
use Rattle.std.proofs.Math.Bool.{or-false}
use Rattle.std.proofs.lemmas.Bool.{eq-eqb}
use Rattle.keep_names.specs.declared.file_name.FileName.{FileName}
use Rattle.keep_repo.specs.Facet.{facet_eq}
use Rattle.keep_repo.specs.declared.facet.Facet.{Facet}
use Rattle.keep_repo.specs.declared.facet.Facet.TheVariants.{File, Mark}
use Rattle.keep_repo.proofs.Orders.{facet_eq_refl, facet_eq_same}
use Rattle.keep_change.specs.Change.{Written}
use Rattle.keep_change.proofs.Records.{WritesOnce, among, and_second, facet_eq_symm, once_head, once_tail, or_first, or_second}
use Rattle.keep_shelf.specs.declared.key.Key.{Key}
use Rattle.keep_shelf.specs.declared.key.Key.TheVariants.{Live, Trash, Entry}
use Rattle.keep_moves.specs.Move.{AllApart, AreApart, Stand, key_eq, moved, moved_all, remains, uses}
use Rattle.keep_moves.specs.Standing.{file_bytes}
use Rattle.keep_moves.specs.declared.moves.Move.{Move}
use Rattle.keep_moves.specs.declared.moves.Move.TheVariants.{Put, Shift}
use Rattle.keep_moves.proofs.Apart.{outside}
use Rattle.keep_moves.proofs.Keys.{key_eq_apart}

-- ---- the move that a record tells

-- a file comes to be: for the first time it is put, and later it comes back from the trash of change n
abbrev pub coming : Bool → ℕ → FileName → List ℕ → Move
coming first n name bytes = cond first (Put (Live name) bytes) (Shift (Trash n name) (Live name))

-- the move for a facet that holds these bytes afterwards, or none; marks aren't moved
abbrev pub move_by : Bool → ℕ → Facet → Option (List ℕ) → Option Move
move_by first n (File name) (Some bytes) = Some (coming first n name bytes)
move_by first n (File name) None = Some (Shift (Live name) (Trash n name))
move_by first n (Mark pack) after = None

abbrev pub move_of : Bool → ℕ → Written → Option Move
move_of first n w = move_by first n w.facet (file_bytes w.after)

-- what a move that is there makes
abbrev pub moved_by : Option Move → Stand → Stand
moved_by o h = option_map_or (λ m. moved m h) o h

abbrev pub remains_by : Option Move → Stand → Bool
remains_by o h = option_map_or (remains h) o true

abbrev uses_by : Option Move → Key → Bool
uses_by o q = option_map_or (λ m. uses m q) o false

pub moved_all-cons : (o : Option Move) (ms : List Move) (h : Stand) → moved_all (cons_option o ms) h ≡ moved_all ms (moved_by o h)
moved_all-cons None ms h = refl
moved_all-cons (Some m) ms h = refl

pub remain-cons : (o : Option Move) (ms : List Move) (h : Stand) → list_all (remains h) (cons_option o ms) ≡ (remains_by o h && list_all (remains h) ms)
remain-cons None ms h = refl
remain-cons (Some m) ms h = refl

-- ---- the keys that it uses

-- whether the key is of the facet's file, or of its place in the trash of change n
abbrev pub is_about : ℕ → Key → Facet → Bool
is_about n (Live name) f = facet_eq f (File name)
is_about n (Trash m name) f = m == n && facet_eq f (File name)
is_about n (Entry k) f = false

live_apart : (x name : FileName) → facet_eq (File x) (File name) ≡ false → key_eq (Live name) (Live x) ≡ false
live_apart x name e = facet_eq_symm (File name) (File x) ∙ e

trash_apart : (m n : ℕ) (x name : FileName) → (m == n && facet_eq (File x) (File name)) ≡ false → key_eq (Trash m name) (Trash n x) ≡ false
trash_apart m n x name e = key_eq_apart (Trash m name) (Trash n x) (λ same. no (numbers same) (names same))
  where
    numbers : Trash m name ≡ Trash n x → m ≡ n
    numbers same = cc

    names : Trash m name ≡ Trash n x → name ≡ x
    names same = cc

    no : m ≡ n → name ≡ x → ⊥
    no number named =
        let t : (m == n) ≡ true = eq-eqb m n number in
        let s : facet_eq (File x) (File name) ≡ true = ap (λ y. facet_eq (File x) (File y)) named ∙ facet_eq_refl (File x) in
        cc (sym (rw (t, s) at e))

-- it uses no key that isn't about its facet
unused : (first : Bool) (n : ℕ) (f : Facet) (after : Option (List ℕ)) (q : Key) → is_about n q f ≡ false → uses_by (move_by first n f after) q ≡ false
unused true n (File x) (Some bytes) (Live name) e = live_apart x name e
unused true n (File x) (Some bytes) (Trash m name) e = refl
unused true n (File x) (Some bytes) (Entry k) e = refl
unused false n (File x) (Some bytes) (Live name) e = live_apart x name e
unused false n (File x) (Some bytes) (Trash m name) e = or-false (key_eq (Trash m name) (Trash n x)) ∙ trash_apart m n x name e
unused false n (File x) (Some bytes) (Entry k) e = refl
unused first n (File x) None (Live name) e = or-false (key_eq (Live name) (Live x)) ∙ live_apart x name e
unused first n (File x) None (Trash m name) e = trash_apart m n x name e
unused first n (File x) None (Entry k) e = refl
unused first n (Mark pack) after q e = refl

-- so it leaves the others
pub left_by_it : (first : Bool) (n : ℕ) (f : Facet) (after : Option (List ℕ)) (h : Stand) (q : Key) → is_about n q f ≡ false → moved_by (move_by first n f after) h q ≡ h q
left_by_it first n f after h q e = by (move_by first n f after) (unused first n f after q e)
  where
    by : (o : Option Move) → uses_by o q ≡ false → moved_by o h q ≡ h q
    by None u = refl
    by (Some m) u = outside m h q u

-- ---- the moves of several records

-- keys that are about none of them are left
pub left_by_all : (first : Bool) (n : ℕ) (ws : List Written) (h : Stand) (q : Key) → ((f : Facet) → is_about n q f ≡ false) → moved_all (filter_map (move_of first n) ws) h q ≡ h q
left_by_all first n [] h q none = refl
left_by_all first n (w ∷ ws) h q none =
    ap (λ (g : Stand). g q) (moved_all-cons (move_of first n w) (filter_map (move_of first n) ws) h)
    ∙ left_by_all first n ws (moved_by (move_of first n w) h) q none
    ∙ left_by_it first n w.facet (file_bytes w.after) h q (none w.facet)

-- a key is about one facet
about_one : (n : ℕ) (q : Key) (f g : Facet) → facet_eq f g ≡ false → is_about n q f ≡ true → is_about n q g ≡ false
about_one n (Live name) f g apart e = ap (λ x. facet_eq g x) (sym (facet_eq_same f (File name) e)) ∙ facet_eq_symm g f ∙ apart
about_one n (Trash m name) f g apart e =
    let same : f ≡ File name = facet_eq_same f (File name) (and_second (m == n) (facet_eq f (File name)) e) in
    off (m == n) (ap (λ x. facet_eq g x) (sym same) ∙ facet_eq_symm g f ∙ apart)
  where
    off : (b : Bool) → facet_eq g (File name) ≡ false → (b && facet_eq g (File name)) ≡ false
    off true x = x
    off false x = refl
about_one n (Entry k) f g apart e = refl

used_about : (first : Bool) (n : ℕ) (f : Facet) (after : Option (List ℕ)) (m : Move) (q : Key) → move_by first n f after ≡ Some m → uses m q ≡ true → is_about n q f ≡ true
used_about first n f after m q is used = by (is_about n q f) refl
  where
    by : (b : Bool) → is_about n q f ≡ b → is_about n q f ≡ true
    by true e = e
    by false e =
        let free : uses_by (Some m) q ≡ false = ap (λ o. uses_by o q) (sym is) ∙ unused first n f after q e in
        cc (sym used ∙ free)

-- moves for other facets are apart from it
apart_from : (first : Bool) (n : ℕ) (w : Written) (m : Move) (ws : List Written) → move_of first n w ≡ Some m → among w.facet ws ≡ false → AllByRecursion (AreApart m) (filter_map (move_of first n) ws)
apart_from first n w m [] is apart = tt
apart_from first n w m (v ∷ ws) is apart =
    by (move_of first n v) refl (apart_from first n w m ws is (or_second (facet_eq w.facet v.facet) (among w.facet ws) apart))
  where
    other : facet_eq w.facet v.facet ≡ false
    other = or_first (facet_eq w.facet v.facet) (among w.facet ws) apart

    by : (o : Option Move) → move_of first n v ≡ o → AllByRecursion (AreApart m) (filter_map (move_of first n) ws) → AllByRecursion (AreApart m) (cons_option o (filter_map (move_of first n) ws))
    by None e rest = rest
    by (Some p) e rest =
        ((λ q used. ap (λ o. uses_by o q) (sym e) ∙ unused first n v.facet (file_bytes v.after) q (about_one n q w.facet v.facet other (used_about first n w.facet (file_bytes w.after) m q is used))), rest)

-- so all of them are apart, where no facet stands twice
pub all_apart : (first : Bool) (n : ℕ) (ws : List Written) → WritesOnce ws → AllApart (filter_map (move_of first n) ws)
all_apart first n [] once = tt
all_apart first n (w ∷ ws) once = by (move_of first n w) refl (all_apart first n ws (once_tail w ws once))
  where
    by : (o : Option Move) → move_of first n w ≡ o → AllApart (filter_map (move_of first n) ws) → AllApart (cons_option o (filter_map (move_of first n) ws))
    by None e rest = rest
    by (Some m) e rest = (apart_from first n w m ws e (once_head w ws once), rest)
