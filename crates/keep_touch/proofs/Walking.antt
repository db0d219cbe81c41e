-- How the facets that a change writes are walked, one after another.
use Rattle.std.proofs.Common.{◌≡◌, ℕ, ◌+◌, ◌<◌, ◌≤◌, ◌==◌, nat_lt, Bool, true, false, ◌&&◌, ◌||◌, cond, List, [], ◌∷◌, ◌++◌, length, get_or, map, take, Option, Some, None, ◌⊎◌, inl, inr, refl, sym, ap, subst, ◌∙◌, arith}
use Rattle.std.specs.List.{filter, list_any, AllByRecursion}
use Rattle.std.specs.Option.{is_some, option_map_or}
use Rattle.std.proofs.lemmas.Bool.{and_from, cases_Bool, cond-false, cond-true, false≢true, lt-ltb, ltb-true, or_cases, or_left, or_right}
use Rattle.std.proofs.lemmas.List.{map_more}
use Rattle.std.proofs.lemmas.List.Folds.{list_any-append}
use Rattle.std.proofs.lemmas.Option.{same_Some}
use Rattle.keep_repo.specs.contracts.facet.FacetOrd.TheImpl.Laws as the_facet_laws
use Rattle.keep_repo.specs.declared.facet.Facet.{Facet}
use Rattle.keep_repo.specs.declared.facet.Facet.TheVariants.{File, Mark}
use Rattle.keep_repo.proofs.Orders.{facet_eq_refl, facet_eq_same}
use Rattle.keep_change.specs.Touch.{leans_on, touches, written_facets}
use Rattle.keep_change.specs.declared.change.Change.{Change}
use Rattle.keep_journal.specs.History.{change_of, last_change, IsNumbered}
use Rattle.keep_journal.specs.Journal.{Journal}
use Rattle.keep_journal.specs.Kept.{kept_change}
use Rattle.keep_journal.proofs.Later.{a_kept_change}
use Rattle.keep_touch.specs.Finding.{in_force}
use Rattle.keep_touch.specs.Mentions.{mentions, AreNoted}
use Rattle.keep_touch.specs.declared.mention.Mention.{Mention}
use Rattle.keep_touch.specs.declared.touch.Touch.{Touch}
use Rattle.keep_touch.proofs.Listing.{written_listed}
use Rattle.keep_touch.proofs.Picking.{all_weaker}
use Rattle.keep_touch.proofs.Putting.{same_key}
use Rattle.keep_touch.specs.Gathering.{is_pending, is_walked, touches_after, touches_kept, Finds, Walks}
use Rattle.keep_touch.specs.declared.gathered.Gathered.{Gathered}
use Rattle.keep_touch.proofs.Members.{kept_within}
use Rattle.keep_touch.proofs.Mentioned.{mentioned}

-- ---- one list of facets after another

pub walks_none : (j : Journal) (n : ℕ) (found : Gathered) → Walks j n [] found found
walks_none j n found = record {
  stay = λ m h. h;
  only = λ m h. inl h;
  walked_stay = λ q h. h;
  walked = tt;
  covers = λ covered. covered;
}

both_all : {X : Type 0} (P : X → Type 0) (xs ys : List X) → AllByRecursion P xs → AllByRecursion P ys → AllByRecursion P (xs ++ ys)
both_all P [] ys one other = other
both_all P (x ∷ xs) ys one other = (one.0, both_all P xs ys one.1 other)

pub walks_both : (j : Journal) (n : ℕ) (fs gs : List Facet) (old mid new : Gathered) → Walks j n fs old mid → Walks j n gs mid new → Walks j n (fs ++ gs) old new
walks_both j n fs gs old mid new one other = record {
  stay = λ m h. other.stay m (one.stay m h);
  only = λ m h. elim (other.only m h) [
    | inl before ↦ elim (one.only m before) [
      | inl was ↦ inl was
      | inr here ↦ inr (list_any-append (λ q. touches_after j n q m) fs gs ∙ or_left (list_any (λ q. touches_after j n q m) fs) _ here)
    ]
    | inr there ↦ inr (list_any-append (λ q. touches_after j n q m) fs gs ∙ or_right (list_any (λ q. touches_after j n q m) fs) _ there)
  ];
  walked_stay = λ q h. other.walked_stay q (one.walked_stay q h);
  walked = both_all (λ q. is_walked new q ≡ true) fs gs (all_weaker (λ q h. other.walked_stay q h) fs one.walked) other.walked;
  covers = λ covered. other.covers (one.covers covered);
}

-- one member more
pub walks_more : {X : Type 0} (facet_of : X → Facet) (members : List X) (i : ℕ) (x : X) (j : Journal) (n : ℕ) (old mid new : Gathered)
    → i < length members → x ≡ get_or members i x
    → Walks j n (map facet_of (take i members)) old mid → Walks j n (facet_of x ∷ []) mid new → Walks j n (map facet_of (take (i + 1) members)) old new
walks_more facet_of members i x j n old mid new within read one other =
    let longer : map facet_of (take (i + 1) members) ≡ map facet_of (take i members) ++ facet_of x ∷ [] =
    map_more facet_of members i x within ∙ ap (λ y. map facet_of (take i members) ++ facet_of y ∷ []) (sym read) in
    subst (λ fs. Walks j n fs old new) (sym longer) (walks_both j n (map facet_of (take i members)) (facet_of x ∷ []) old mid new one other)

-- ---- one facet

always : (b : Bool) → cond b true true ≡ true
always true = refl
always false = refl

module _ (old new : Gathered) (q : Facet) (put : (f : Facet) → is_walked new f ≡ cond (same_key q f) true (is_walked old f)) where
  walked_still : (f : Facet) → is_walked old f ≡ true → is_walked new f ≡ true
  walked_still f h = put f ∙ ap (cond (same_key q f) true) h ∙ always (same_key q f)

  walked_now : is_walked new q ≡ true
  walked_now = put q ∙ cond-true (same_key q q) true (is_walked old q) (the_facet_laws.matches_eq-law q q ∙ facet_eq_refl q)

  walked_before : (f : Facet) → is_walked new f ≡ true → (q ≡ f) ⊎ (is_walked old f ≡ true)
  walked_before f h = elim (cases_Bool (same_key q f)) [
    | inl same ↦ inl (facet_eq_same q f (sym (the_facet_laws.matches_eq-law q f) ∙ same))
    | inr other ↦ inr (sym (put f ∙ cond-false (same_key q f) true (is_walked old f) other) ∙ h)
  ]

  -- it was walked before, and nothing is done
  pub walks_again : (j : Journal) (n : ℕ) → is_walked old q ≡ true → ((m : ℕ) → is_pending new m ≡ is_pending old m) → Walks j n (q ∷ []) old new
  walks_again j n was same = record {
    stay = λ m h. same m ∙ h;
    only = λ m h. inl (sym (same m) ∙ h);
    walked_stay = walked_still;
    walked = (walked_now, tt);
    covers = λ covered f m walked later. same m ∙ covered f m (elim (walked_before f walked) [
      | inl is ↦ subst (λ g. is_walked old g ≡ true) is was
      | inr before ↦ before
    ]) later;
  }

  -- the later changes that touch it are found
  pub walks_one : (j : Journal) (n : ℕ) → ((m : ℕ) → is_pending new m ≡ (is_pending old m || touches_after j n q m)) → Walks j n (q ∷ []) old new
  walks_one j n found = record {
    stay = λ m h. found m ∙ or_left (is_pending old m) (touches_after j n q m) h;
    only = λ m h. elim (or_cases (is_pending old m) (touches_after j n q m) (sym (found m) ∙ h)) [
      | inl was ↦ inl was
      | inr later ↦ inr (or_left (touches_after j n q m) false later)
    ];
    walked_stay = walked_still;
    walked = (walked_now, tt);
    covers = λ covered f m walked later. found m ∙ elim (walked_before f walked) [
      | inl is ↦ or_right (is_pending old m) (touches_after j n q m) (subst (λ g. touches_after j n g m ≡ true) (sym is) later)
      | inr before ↦ or_left (is_pending old m) (touches_after j n q m) (covered f m before later)
    ];
  }

-- the mentions that were gone through
pub put_mentions : (touch : Touch) (j : Journal) (q : Facet) (n : ℕ) (ms : List Mention) (was now : ℕ → Bool) → AreNoted touch j → IsNumbered j
    → ms ≡ filter (λ x. nat_lt n x.number) (mentions touch q)
    → ((m : ℕ) → now m ≡ (was m || list_any (λ x. (x.number == m) && in_force j x.number) ms))
    → (m : ℕ) → now m ≡ (was m || touches_after j n q m)
put_mentions touch j q n ms was now noted numbered are put m =
    put m
    ∙ ap (λ xs. was m || list_any (λ x. (x.number == m) && in_force j x.number) xs) are
    ∙ ap (λ b. was m || b) (mentioned touch j q n m noted numbered)

-- ---- a whole change

no_facet : (fs : List Facet) → list_any (λ q. false) fs ≡ false
no_facet [] = refl
no_facet (f ∷ fs) = no_facet fs

-- a later change that touches one of these facets
touching : (above : Bool) (o : Option Change) (fs : List Facet) → list_any (λ q. above && option_map_or (λ c. touches c q) o false) fs ≡ true
    → (above ≡ true) × ((c : Change) × ((o ≡ Some c) × (list_any (touches c) fs ≡ true)))
touching true (Some c) fs h = (refl, (c, (refl, h)))
touching true None fs h = absurd (false≢true (sym (no_facet fs) ∙ h))
touching false o fs h = absurd (false≢true (sym (no_facet fs) ∙ h))

-- one of the facets that passes the test
picked : (P : Facet → Type 0) (test : Facet → Bool) (fs : List Facet) → AllByRecursion P fs → list_any test fs ≡ true → (q : Facet) × (P q × (test q ≡ true))
picked P test [] all h = absurd (false≢true h)
picked P test (f ∷ fs) all h = elim (or_cases (test f) (list_any test fs) h) [
  | inl here ↦ (f, (all.0, here))
  | inr there ↦ picked P test fs all.1 there
]

pub walked_finds : (j : Journal) (n : ℕ) (c : Change) (old new : Gathered) → kept_change j n ≡ Some c → Walks j n (written_facets c) old new → Finds j n old new
walked_finds j n c old new is_c walks =
    let is_n : change_of j n ≡ Some c = (a_kept_change j n c is_c).1 in
    record {
      stay = walks.stay;
      only = λ m h. elim (walks.only m h) [
        | inl was ↦ inl was
        | inr later ↦
            let it = touching (nat_lt n m) (kept_change j m) (written_facets c) later in
            inr (record { change = it.1.0; other = c; is_m = it.1.1.0; is_n = is_n; later = ltb-true n m it.0; touches = it.1.1.1 })
      ];
      leaning = λ covered m leans.
          let same : leans.other ≡ c = same_Some leans.other c (sym leans.is_n ∙ is_n) in
          let touched : list_any (touches leans.change) (written_facets c) ≡ true = subst (λ d. leans_on leans.change d ≡ true) same leans.touches in
          let it = picked (λ q. is_walked new q ≡ true) (touches leans.change) (written_facets c) walks.walked touched in
          walks.covers covered it.0 m it.1.0
          (and_from (nat_lt n m) (touches_kept j it.0 m) (lt-ltb n m leans.later) (ap (λ o. option_map_or (λ d. touches d it.0) o false) leans.is_m ∙ it.1.1));
      covers = walks.covers;
    }

-- nothing leans on the last change
pub finds_nothing : (j : Journal) (n : ℕ) (found : Gathered) → IsNumbered j → last_change j ≤ n → Finds j n found found
finds_nothing j n found numbered last = record {
  stay = λ m h. h;
  only = λ m h. inl h;
  leaning = λ covered m leans. absurd (omega (arith, leans.later, kept_within j m numbered (ap is_some leans.is_m)));
  covers = λ covered. covered;
}

-- the four lists of what a change writes
pub walks_lists : (c : Change) (j : Journal) (n : ℕ) (old one two three new : Gathered)
    → Walks j n (map (λ f. File f.name) c.adds) old one → Walks j n (map (λ f. File f.name) c.drops) one two
    → Walks j n (map (λ m. Mark m.pack) c.sets) two three → Walks j n (map (λ m. Mark m.pack) c.clears) three new
    → Walks j n (written_facets c) old new
walks_lists c j n old one two three new adds drops sets clears =
    subst (λ fs. Walks j n fs old new) (sym (written_listed c))
    (walks_both j n _ _ old two new (walks_both j n _ _ old one two adds drops) (walks_both j n _ _ two three new sets clears))
