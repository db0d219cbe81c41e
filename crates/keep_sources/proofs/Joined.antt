-- What was met of some names, and then of others.
use Rattle.std.proofs.Common.{◌≡◌, ℕ, ◌-◌, ◌≤◌, List, [], ◌∷◌, ◌++◌, map, true, refl, sym, ap, ◌∙◌, subst}
use Rattle.std.proofs.lemmas.List.{append-nil, append_assoc}
use Rattle.keep_sources.proofs.GivenAll.{gives-append, gives-one}
use Rattle.keep_sources.specs.Given.{Given, GivesAll, ClosedFolder, OpenedFolder}
use Rattle.keep_sources.specs.Job.{is_asked}
use Rattle.keep_sources.specs.Met.{Met, End, Then, Inside, below, given_of, given_of_leaf, names_of, skips_of, skips_of_leaf, unsaid}
use Rattle.keep_sources.specs.Told.{Told}
use Rattle.keep_sources.specs.Took.{IsMet, Took, TookLeaf, TookListed, listed_names, skip_view}
use Rattle.keep_sources.specs.declared.scope.Scope.{Scope}
use Rattle.keep_sources.specs.declared.stat.StatKind.TheVariants.{Folder}
use Rattle.keep_sources.specs.declared.stat.Stat.{Stat}
use Rattle.keep_sources.specs.declared.skipped.Skipped.{Skipped}
use Rattle.keep_sources.specs.declared.source.FolderListing.{FolderListing}

join : Met → Met → Met
join End b = b
join (Then n l r) b = Then n l (join r b)
join (Inside n s u i r) b = Inside n s u i (join r b)

names-join : (a b : Met) → names_of (join a b) ≡ names_of a ++ names_of b
unfolding join
names-join End b = refl
names-join (Then n l r) b = ap (λ g. n ∷ g) (names-join r b)
names-join (Inside n s u i r) b = ap (λ g. n ∷ g) (names-join r b)

given-join : (a b : Met) → given_of (join a b) ≡ given_of a ++ given_of b
unfolding join
given-join End b = refl
given-join (Then n l r) b =
    ap (λ g. given_of_leaf n l ++ g) (given-join r b) ∙ sym (append_assoc (given_of_leaf n l) (given_of r) (given_of b))
given-join (Inside n s u i r) b =
    ap (λ g. OpenedFolder n ∷ (given_of i ++ (ClosedFolder s ∷ g))) (given-join r b)
    ∙ ap (λ g. OpenedFolder n ∷ g) (sym (append_assoc (given_of i) (ClosedFolder s ∷ given_of r) (given_of b)))

skips-join : (f : List ℕ) (a b : Met) → skips_of f (join a b) ≡ skips_of f a ++ skips_of f b
unfolding join
skips-join f End b = refl
skips-join f (Then n l r) b =
    ap (λ g. skips_of_leaf (below f n) l ++ g) (skips-join f r b)
    ∙ sym (append_assoc (skips_of_leaf (below f n) l) (skips_of f r) (skips_of f b))
skips-join f (Inside n s u i r) b =
    ap (λ g. (unsaid (below f n) u ++ skips_of (below f n) i) ++ g) (skips-join f r b)
    ∙ sym (append_assoc (unsaid (below f n) u ++ skips_of (below f n) i) (skips_of f r) (skips_of f b))

met-join : (t : Told) (j : Scope) (k : ℕ) (f : List ℕ) (a b : Met) → IsMet t j k f a → IsMet t j k f b → IsMet t j k f (join a b)
unfolding join
met-join t j k f End b ha hb = hb
met-join t j k f (Then n l r) b ha hb = (ha.0, met-join t j k f r b ha.1 hb)
met-join t j k f (Inside n s u i r) b ha hb = (ha.0, ha.1, met-join t j k f r b ha.2 hb)

module _ {X : Type 0} (gives : X → Given → X → Type 0) (t : Told) (j : Scope) (k : ℕ) (f : List ℕ) where
  -- no name was taken
  pub took_none : (g : X) (s : List Skipped) → Took t gives j k f [] g g s s
  took_none g s = record { met = End; is = tt; all = refl; gave = refl; named = sym (append-nil (map skip_view s)) }

  -- some names were taken, and then others
  pub took_more : (ns ms : List (List ℕ)) (g g' g'' : X) (s s' s'' : List Skipped)
      → Took t gives j k f ns g g' s s' → Took t gives j k f ms g' g'' s' s'' → Took t gives j k f (ns ++ ms) g g'' s s''
  took_more ns ms g g' g'' s s' s'' a b = record {
    met = join a.met b.met;
    is = met-join t j k f a.met b.met a.is b.is;
    all = names-join a.met b.met ∙ (λ i. a.all i ++ b.all i);
    gave = subst (λ all. GivesAll gives g all g'') (sym (given-join a.met b.met)) (gives-append gives g g' g'' (given_of a.met) (given_of b.met) a.gave b.gave);
    named = b.named ∙ ap (λ l. l ++ skips_of f b.met) a.named ∙ append_assoc (map skip_view s) (skips_of f a.met) (skips_of f b.met)
        ∙ ap (λ l. map skip_view s ++ l) (sym (skips-join f a.met b.met));
  }

  -- a name that isn't a folder's was taken
  pub took_leaf : (n path : List ℕ) (g g' : X) (s s' : List Skipped)
      → path ≡ below f n → TookLeaf t gives j k path n g g' s s' → Took t gives j k f (n ∷ []) g g' s s'
  took_leaf n path g g' s s' is a =
      let h : TookLeaf t gives j k (below f n) n g g' s s' = subst (λ p. TookLeaf t gives j k p n g g' s s') is a in
      record {
        met = Then n h.leaf End;
        is = (h.is, tt);
        all = refl;
        gave = subst (λ all. GivesAll gives g all g') (sym (append-nil (given_of_leaf n h.leaf))) h.gave;
        named = h.named ∙ ap (λ l. map skip_view s ++ l) (sym (append-nil (skips_of_leaf (below f n) h.leaf)));
      }

  -- the names of a listing were taken, behind those that can't be said
  pub took_listed : (listing : FolderListing) (g g' : X) (s s' s'' : List Skipped)
      → map skip_view s' ≡ map skip_view s ++ unsaid f listing.unsayable → Took t gives j k f (listed_names listing) g g' s' s''
      → TookListed t gives j k f listing g g' s s''
  took_listed listing g g' s s' s'' un a = record {
    met = a.met;
    is = a.is;
    all = a.all;
    gave = a.gave;
    named = a.named ∙ ap (λ l. l ++ skips_of f a.met) un ∙ append_assoc (map skip_view s) (unsaid f listing.unsayable) (skips_of f a.met);
  }

  -- a folder was taken, with all below it
  pub took_folder : (n path : List ℕ) (sight : Stat) (listing : FolderListing) (g g1 g2 g' : X) (s s' : List Skipped)
      → path ≡ below f n → is_asked j path ≡ true → t.saw path sight → sight.kind ≡ Folder → 1 ≤ k → t.listed path listing
      → gives g (OpenedFolder n) g1 → TookListed t gives j (k - 1) path listing g1 g2 s s' → gives g2 (ClosedFolder sight) g'
      → Took t gives j k f (n ∷ []) g g' s s'
  took_folder n path sight listing g g1 g2 g' s s' is asked saw kind reached told opened a closed =
      let h : TookListed t gives j (k - 1) (below f n) listing g1 g2 s s' = subst (λ p. TookListed t gives j (k - 1) p listing g1 g2 s s') is a in
      record {
        met = Inside n sight listing.unsayable h.met End;
        is = (
          record {
            asked = subst (λ p. is_asked j p ≡ true) is asked;
            seen = subst (λ p. t.saw p sight) is saw;
            folder = kind;
            reached = reached;
            listing = listing;
            listed = subst (λ p. t.listed p listing) is told;
            sayable = sym h.all;
            unsayable = refl;
          },
          h.is,
          tt,
        );
        all = refl;
        gave = (g1, opened, gives-append gives g1 g2 g' (given_of h.met) (ClosedFolder sight ∷ []) h.gave (gives-one gives g2 g' (ClosedFolder sight) closed));
        named = h.named ∙ ap (λ l. map skip_view s ++ l) (sym (append-nil (unsaid (below f n) listing.unsayable ++ skips_of (below f n) h.met)));
      }
