-- Mentions that are put at the end of a list, and taken from it.
use Rattle.std.proofs.Common.{◌≡◌, ℕ, zero, suc, ◌+◌, ◌-◌, ◌≤◌, nat_lt, Bool, true, false, ◌||◌, cond, List, [], ◌∷◌, ◌++◌, length, map, replicate, take, Some, None, refl, sym, ap, subst, ◌∙◌, arith}
use Rattle.std.specs.Prelude.{count_by}
use Rattle.std.specs.List.{list_any}
use Rattle.std.specs.Option.{option_to_list}
use Rattle.std.proofs.lemmas.Bool.{le-ltb, lt-ltb}
use Rattle.std.proofs.lemmas.List.{append_assoc, length-append, length-replicate, length-take, replicate-append-replicate, take-take, take_at, take_all}
use Rattle.std.proofs.lemmas.List.Sums.{sum_by-append, sum_by-cons}
use Rattle.keep_repo.specs.Facet.{facet_eq}
use Rattle.keep_repo.specs.declared.facet.Facet.{Facet}
use Rattle.keep_repo.specs.declared.facet.Facet.TheVariants.{File, Mark}
use Rattle.keep_change.specs.Form.{HasNoFacetTwice}
use Rattle.keep_change.specs.Touch.{facets, touches, writes, written_facets}
use Rattle.keep_change.specs.declared.change.Change.{Change}
use Rattle.keep_touch.specs.Followed.{without_last}
use Rattle.keep_touch.specs.Mentions.{mention_of, mentions, NotesOneMore, NoteTheSame}
use Rattle.keep_touch.specs.Noting.{asked_facets, times, Forgets, Notes}
use Rattle.keep_touch.specs.declared.mention.Mention.{Mention}
use Rattle.keep_touch.specs.declared.touch.Touch.{Touch}
use Rattle.keep_touch.proofs.Listing.{asked_listed, written_listed}

-- ---- lists without their last

pub without_none : {X : Type 0} (xs : List X) → without_last 0 xs ≡ xs
without_none xs = take_all (length xs - 0) xs (omega arith)

pub without_more : {X : Type 0} (a b : ℕ) (xs : List X) → without_last b (without_last a xs) ≡ without_last (a + b) xs
without_more a b xs =
    let shorter : length (take (length xs - a) xs) ≡ length xs - a = length-take (length xs - a) xs ∙ omega arith in
    ap (λ n. take (n - b) (take (length xs - a) xs)) shorter
    ∙ take-take ((length xs - a) - b) (length xs - a) xs (omega arith)
    ∙ ap (λ n. take n xs) (omega arith)

pub without_end : {X : Type 0} (n : ℕ) (xs ys : List X) → length ys ≡ n → without_last n (xs ++ ys) ≡ xs
without_end n xs ys is_n =
    let longer : length (xs ++ ys) ≡ length xs + n = length-append xs ys ∙ ap (λ l. length xs + l) is_n in
    ap (λ l. take (l - n) (xs ++ ys)) longer ∙ take_at xs ys (length xs + n - n) (omega arith)

-- ---- one list of facets after another

times-append : (q : Facet) (fs gs : List Facet) → times q (fs ++ gs) ≡ times q fs + times q gs
times-append q fs gs = sum_by-append (λ f. cond (facet_eq q f) 1 0) fs gs

-- one list is noted after the other
pub noted_both : (m : Mention) (fs gs : List Facet) (old mid new : Touch) → Notes m fs old mid → Notes m gs mid new → Notes m (fs ++ gs) old new
noted_both m fs gs old mid new one other q =
    other q
    ∙ ap (λ ms. ms ++ replicate (times q gs) m) (one q)
    ∙ append_assoc (mentions old q) (replicate (times q fs) m) (replicate (times q gs) m)
    ∙ ap (λ ms. mentions old q ++ ms) (replicate-append-replicate (times q fs) (times q gs) m ∙ ap (λ n. replicate n m) (sym (times-append q fs gs)))

-- the four lists of what a change writes, and of what it only looks at
pub noted_written : (m : Mention) (c : Change) (old mid new : Touch)
    → Notes m (map (λ f. File f.name) c.adds ++ map (λ f. File f.name) c.drops) old mid → Notes m (map (λ s. Mark s.pack) c.sets ++ map (λ s. Mark s.pack) c.clears) mid new
    → Notes m (written_facets c) old new
noted_written m c old mid new files marks = subst (λ fs. Notes m fs old new) (sym (written_listed c))
    (noted_both m (map (λ f. File f.name) c.adds ++ map (λ f. File f.name) c.drops) (map (λ s. Mark s.pack) c.sets ++ map (λ s. Mark s.pack) c.clears) old mid new files marks)

pub noted_asked : (m : Mention) (c : Change) (old mid new : Touch)
    → Notes m (map File c.present ++ map File c.absent) old mid → Notes m (map Mark c.marked ++ map Mark c.unmarked) mid new
    → Notes m (asked_facets c) old new
noted_asked m c old mid new files marks = subst (λ fs. Notes m fs old new) (sym (asked_listed c))
    (noted_both m (map File c.present ++ map File c.absent) (map Mark c.marked ++ map Mark c.unmarked) old mid new files marks)

-- and forgotten
Forgets-append : (fs gs : List Facet) (old mid new : Touch) → Forgets fs old mid → Forgets gs mid new → Forgets (fs ++ gs) old new
Forgets-append fs gs old mid new one other q =
    other q
    ∙ ap (without_last (times q gs)) (one q)
    ∙ without_more (times q fs) (times q gs) (mentions old q)
    ∙ ap (λ n. without_last n (mentions old q)) (sym (times-append q fs gs))

-- ---- a whole change

among_counted : (p : Facet → Bool) (fs : List Facet) → list_any p fs ≡ nat_lt 0 (count_by p fs)
among_counted p [] = sym (le-ltb 0 0 (omega arith))
among_counted p (f ∷ fs) = sum_split (p f) (among_counted p fs) ∙ ap (nat_lt 0) (sym (sum_by-cons (λ g. cond (p g) 1 0) f fs))
  where
    sum_split : (b : Bool) → list_any p fs ≡ nat_lt 0 (count_by p fs) → (b || list_any p fs) ≡ nat_lt 0 (cond b 1 0 + count_by p fs)
    sum_split true rest = sym (lt-ltb 0 (1 + count_by p fs) (omega arith))
    sum_split false rest = rest ∙ ap (nat_lt 0) (omega arith)

abbrev pub noting : ℕ → Bool → Mention
noting n writes = record { number = n; writes = writes }

-- where a facet is written a times and looked at b times, and not twice, the change is noted once or not at all
once_noted : (n a b : ℕ) → a + b ≤ 1
    → replicate a (noting n true) ++ replicate b (noting n false) ≡ option_to_list (cond (nat_lt 0 (a + b)) (Some (noting n (nat_lt 0 a))) None)
once_noted n zero zero once = refl
once_noted n zero (suc zero) once = refl
once_noted n (suc zero) zero once = refl
once_noted n zero (suc (suc b)) once = absurd (omega arith)
once_noted n (suc zero) (suc b) once = absurd (omega arith)
once_noted n (suc (suc a)) b once = absurd (omega arith)

noted_once : (n : ℕ) (c : Change) (q : Facet) → HasNoFacetTwice c
    → replicate (times q (written_facets c)) (noting n true) ++ replicate (times q (asked_facets c)) (noting n false)
    ≡ option_to_list (mention_of q (record { number = n; change = c }))
noted_once n c q once =
    let split : times q (facets c) ≡ times q (written_facets c) + times q (asked_facets c) = times-append q (written_facets c) (asked_facets c) in
    let touched : touches c q ≡ nat_lt 0 (times q (written_facets c) + times q (asked_facets c)) = among_counted (facet_eq q) (facets c) ∙ ap (nat_lt 0) split in
    let written : writes c q ≡ nat_lt 0 (times q (written_facets c)) = among_counted (facet_eq q) (written_facets c) in
    once_noted n (times q (written_facets c)) (times q (asked_facets c)) (omega (arith, once q, split))
    ∙ sym (ap (λ w. option_to_list (cond (touches c q) (Some (noting n w)) None)) written
    ∙ ap (λ b. option_to_list (cond b (Some (noting n (nat_lt 0 (times q (written_facets c))))) None)) touched)

pub noted_whole : (n : ℕ) (c : Change) (old mid new : Touch) → HasNoFacetTwice c
    → Notes (noting n true) (written_facets c) old mid → Notes (noting n false) (asked_facets c) mid new
    → NotesOneMore old new (record { number = n; change = c })
noted_whole n c old mid new once written asked q =
    asked q
    ∙ ap (λ ms. ms ++ replicate (times q (asked_facets c)) (noting n false)) (written q)
    ∙ append_assoc (mentions old q) _ _
    ∙ ap (λ ms. mentions old q ++ ms) (noted_once n c q once)

-- a whole note is taken back
pub forgotten_whole : (n : ℕ) (c : Change) (before old mid new : Touch) → HasNoFacetTwice c → NotesOneMore before old (record { number = n; change = c })
    → Forgets (asked_facets c) old mid → Forgets (written_facets c) mid new → NoteTheSame before new
forgotten_whole n c before old mid new once noted asked written q =
    let both = Forgets-append (asked_facets c) (written_facets c) old mid new asked written q in
    let counted : times q (asked_facets c ++ written_facets c) ≡ times q (asked_facets c) + times q (written_facets c) = times-append q (asked_facets c) (written_facets c) in
    let long : length (option_to_list (mention_of q (record { number = n; change = c }))) ≡ times q (written_facets c) + times q (asked_facets c) =
    ap length (sym (noted_once n c q once))
    ∙ length-append (replicate (times q (written_facets c)) (noting n true)) (replicate (times q (asked_facets c)) (noting n false))
    ∙ omega (arith, length-replicate (times q (written_facets c)) (noting n true), length-replicate (times q (asked_facets c)) (noting n false)) in
    both
    ∙ ap (without_last (times q (asked_facets c ++ written_facets c))) (noted q)
    ∙ without_end (times q (asked_facets c ++ written_facets c)) (mentions before q) (option_to_list (mention_of q (record { number = n; change = c }))) (omega (arith, long, counted))
