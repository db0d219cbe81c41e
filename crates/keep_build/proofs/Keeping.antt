-- What is kept after one more blob was offered.
use Rattle.std.proofs.Common.{◌≡◌, ℕ, Bool, true, false, ◌||◌, cond, not, List, [], ◌∷◌, ◌++◌, map, Option, None, Some, is_none, is_some, option_map, refl, sym, ap, subst, ◌∙◌, append_assoc, append-nil}
use Rattle.std.specs.BTreeMap.{is_at}
use Rattle.std.specs.BTreeSet.{BTreeSet, contains}
use Rattle.std.specs.Cmp.{eq_by_cmp_equiv}
use Rattle.std.specs.Global.{Vec}
use Rattle.std.specs.List.{list_any}
use Rattle.std.proofs.Math.Bool.{or-false, or-true}
use Rattle.std.proofs.lemmas.List.{map-append}
use Rattle.std.proofs.lemmas.List.Elements.{All-nil, All-push, All-same}
use Rattle.std.proofs.lemmas.List.Folds.{list_any-append}
use Rattle.std.proofs.lemmas.Map.Views.{tells_apart}
use Rattle.keep_names.proofs.Orders.{blob_exact, blob_total}
use Rattle.keep_names.specs.Orders.{blob_cmp}
use Rattle.keep_names.specs.Sha256.{sha256}
use Rattle.keep_names.specs.declared.blob.BlobId.{BlobId}
use Rattle.keep_names.specs.declared.blob.BlobType.TheVariants.{Content, Tree}
use Rattle.keep_names.specs.declared.id.Id.{Id}
use Rattle.keep_repo.specs.Repository.{Repository}
use Rattle.keep_pack.specs.Pack.{HasOwnId}
use Rattle.keep_catalog.specs.Orders.{blob_eq}
use Rattle.keep_catalog.specs.Places.{chosen_listing, reuse_of}
use Rattle.keep_catalog.specs.declared.spot.Spot.{Spot}
use Rattle.keep_plan.specs.Reuse.{RestOn}
use Rattle.keep_plan.specs.declared.reuses.Reuses.{Reuses}
use Rattle.keep_plan.proofs.Sets.{or_swap}
use Rattle.keep_plan.proofs.Used.{none_more_used}
use Rattle.keep_build.specs.Blobs.{BlobData, blob_id_of, is_full, is_new, is_tree_type, names_once, new_of}
use Rattle.keep_build.specs.Storing.{AreKept, Keeps, Text, blob_view, text_bytes}
use Rattle.keep_build.specs.declared.storing.Storing.{Storing}
use Rattle.keep_build.proofs.Firsts.{is_seen, names_again, names_other, new_again, new_more, new_same, new_there}

-- a name whose id is the SHA-256 of the bytes
pub own_name : (name : BlobId) (bytes : List ℕ) → name.id.0 ≡ sha256 bytes → name ≡ blob_id_of (name.blob_type, bytes)
own_name name bytes is = ap (λ (digest : List ℕ). record { id = record { 0 = digest }; blob_type = name.blob_type }) is

-- nothing is kept of none
pub none_kept : (kept : List (BlobId × Text)) → kept ≡ [] → AreKept [] kept
none_kept kept none = record {
  blobs_are = ap (map blob_view) none;
  ids_are = All-same (HasOwnId text_bytes) kept [] none (All-nil (HasOwnId text_bytes));
}

-- one more that is kept
pub one_kept : (blobs : List BlobData) (kept : List (BlobId × Text)) (one : BlobId × Text) (b : BlobData) → blob_view one ≡ b → HasOwnId text_bytes one → AreKept blobs kept → AreKept (blobs ++ b ∷ []) (kept ++ one ∷ [])
one_kept blobs kept one b view own are = record {
  blobs_are = map-append blob_view kept (one ∷ []) ∙ (λ i. are.blobs_are i ++ view i ∷ []);
  ids_are = All-push (HasOwnId text_bytes) kept one are.ids_are own;
}

-- a test of one more
list_any-more : {X : Type 0} (test : X → Bool) (xs : List X) (x : X) → list_any test (xs ++ x ∷ []) ≡ (list_any test xs || (test x || false))
list_any-more test xs x = list_any-append test xs (x ∷ [])

module _ (r : Repository) (named : List BlobId) (offered : List BlobData) (b : BlobData) (s : Storing) (keeps : Keeps r named offered s) (fits : is_full b ≡ false) (name : BlobId) (own : name ≡ blob_id_of b) where
  short : list_any is_full (offered ++ b ∷ []) ≡ false
  short = list_any-more is_full offered b ∙ (λ i. keeps.fits i || (fits i || false))

  seen_more : (q : BlobId) → list_any (blob_eq q) (map blob_id_of (offered ++ b ∷ [])) ≡ (list_any (blob_eq q) (map blob_id_of offered) || (blob_eq q (blob_id_of b) || false))
  seen_more q = ap (list_any (blob_eq q)) (map-append blob_id_of offered (b ∷ [])) ∙ list_any-more (blob_eq q) (map blob_id_of offered) (blob_id_of b)

  -- a blob that comes again
  pub kept_again : contains blob_cmp s.seen name ≡ true → Keeps r named (offered ++ b ∷ []) s
  kept_again before = record {
    catalog = keeps.catalog;
    fits = short;
    seen = λ q. keeps.seen q ∙ same_seen q (blob_eq q (blob_id_of b)) refl ∙ sym (seen_more q);
    pieces = subst (λ (blobs : List BlobData). AreKept blobs s.pieces.items) (sym (new_again r offered b Content seen)) keeps.pieces;
    trees = subst (λ (blobs : List BlobData). AreKept blobs s.trees.items) (sym (new_again r offered b Tree seen)) keeps.trees;
    reuses = subst (λ (names : List BlobId). RestOn r (named ++ names) s.reuses) (sym (names_again r offered b seen)) keeps.reuses;
  } where
    seen : is_seen b offered ≡ true
    seen = sym (keeps.seen (blob_id_of b)) ∙ ap (contains blob_cmp s.seen) (sym own) ∙ before

    same_seen : (q : BlobId) (t : Bool) → blob_eq q (blob_id_of b) ≡ t → list_any (blob_eq q) (map blob_id_of offered) ≡ (list_any (blob_eq q) (map blob_id_of offered) || (blob_eq q (blob_id_of b) || false))
    same_seen q true same =
        ap (λ x. list_any (blob_eq x) (map blob_id_of offered)) (tells_apart blob_exact q (blob_id_of b) same) ∙ seen
        ∙ sym (or-true (list_any (blob_eq q) (map blob_id_of offered)))
        ∙ ap (λ t. list_any (blob_eq q) (map blob_id_of offered) || (t || false)) (sym same)
    same_seen q false other = sym (or-false (list_any (blob_eq q) (map blob_id_of offered))) ∙ ap (λ t. list_any (blob_eq q) (map blob_id_of offered) || (t || false)) (sym other)

  module _ (seen' : BTreeSet BlobId) (before : contains blob_cmp s.seen name ≡ false)
      (put : (q : BlobId) → contains blob_cmp seen' q ≡ cond (is_at (blob_cmp name) q) true (contains blob_cmp s.seen q)) where
    unseen : is_seen b offered ≡ false
    unseen = sym (keeps.seen (blob_id_of b)) ∙ ap (contains blob_cmp s.seen) (sym own) ∙ before

    now_seen : (q : BlobId) → contains blob_cmp seen' q ≡ list_any (blob_eq q) (map blob_id_of (offered ++ b ∷ []))
    now_seen q =
        put q ∙ ap (λ x. cond (is_at (blob_cmp x) q) true (contains blob_cmp s.seen q)) own
        ∙ ap (λ t. cond t true (contains blob_cmp s.seen q)) ((eq_by_cmp_equiv blob_total).symm (blob_id_of b) q)
        ∙ or_swap (blob_eq q (blob_id_of b)) (contains blob_cmp s.seen q)
        ∙ ap (λ t. t || (blob_eq q (blob_id_of b) || false)) (keeps.seen q) ∙ sym (seen_more q)

    is_new_of : (o : Option (Spot × Id)) → is_none o ≡ is_none {T = Id × Id} (option_map (λ (e : Spot × Id). (e.0.pack, e.1)) o)
    is_new_of None = refl
    is_new_of (Some e) = refl

    new_is : is_new r b ≡ is_none (reuse_of r (blob_id_of b))
    new_is = is_new_of (chosen_listing r (blob_id_of b))

    use_is : (o : Option (Id × Id)) → o ≡ reuse_of s.catalog name → reuse_of r (blob_id_of b) ≡ o
    use_is o is = (λ i. reuse_of ((sym keeps.catalog) i) ((sym own) i)) ∙ sym is

    -- what is rested on, where the blob's name stands behind the others
    abbrev RestsMore : Reuses → Type 0
    RestsMore reuses = RestOn r ((named ++ names_once offered) ++ blob_id_of b ∷ []) reuses

    rests_now : (reuses : Reuses) → RestsMore reuses → RestOn r (named ++ names_once (offered ++ b ∷ [])) reuses
    rests_now reuses rests =
        subst (λ (names : List BlobId). RestOn r names reuses)
        (append_assoc named (names_once offered) (blob_id_of b ∷ []) ∙ ap (λ (names : List BlobId). named ++ names) (sym (names_other r offered b unseen))) rests

    -- one that has a place rests on its pack and its index
    pub kept_there : (pair : Id × Id) (reuses' : Reuses) → Some pair ≡ reuse_of s.catalog name
        → (reuse_of r (blob_id_of b) ≡ Some pair → RestOn r (named ++ names_once offered) s.reuses → RestsMore reuses')
        → Keeps r named (offered ++ b ∷ []) (record s { seen = seen'; reuses = reuses' })
    kept_there pair reuses' reused more =
        let is : reuse_of r (blob_id_of b) ≡ Some pair = use_is (Some pair) reused in
        let there : is_new r b ≡ false = new_is ∙ ap is_none is in
        record {
          catalog = keeps.catalog;
          fits = short;
          seen = now_seen;
          pieces = subst (λ (blobs : List BlobData). AreKept blobs s.pieces.items) (sym (new_there r offered b Content unseen there)) keeps.pieces;
          trees = subst (λ (blobs : List BlobData). AreKept blobs s.trees.items) (sym (new_there r offered b Tree unseen there)) keeps.trees;
          reuses = rests_now reuses' (more is keeps.reuses);
        }

    module _ (unused : None ≡ reuse_of s.catalog name) where
      none : reuse_of r (blob_id_of b) ≡ None
      none = use_is None unused

      is_new_here : is_new r b ≡ true
      is_new_here = new_is ∙ ap is_none none

      reuses_so : RestOn r (named ++ names_once (offered ++ b ∷ [])) s.reuses
      reuses_so = rests_now s.reuses (none_more_used r (named ++ names_once offered) (blob_id_of b) s.reuses none keeps.reuses)

      -- a new piece
      pub kept_piece : (pieces' : Vec (BlobId × Text)) → b.0 ≡ Content → AreKept (new_of Content r offered ++ b ∷ []) pieces'.items → Keeps r named (offered ++ b ∷ []) (record s { seen = seen'; pieces = pieces' })
      kept_piece pieces' of are = record {
        catalog = keeps.catalog;
        fits = short;
        seen = now_seen;
        pieces = subst (λ (blobs : List BlobData). AreKept blobs pieces'.items) (sym (new_more r offered b Content unseen is_new_here (ap (λ t. not (is_tree_type t)) of))) are;
        trees = subst (λ (blobs : List BlobData). AreKept blobs s.trees.items) (sym (new_same r offered b Tree unseen (ap is_tree_type of))) keeps.trees;
        reuses = reuses_so;
      }

      -- a new tree
      pub kept_tree : (trees' : Vec (BlobId × Text)) → b.0 ≡ Tree → AreKept (new_of Tree r offered ++ b ∷ []) trees'.items → Keeps r named (offered ++ b ∷ []) (record s { seen = seen'; trees = trees' })
      kept_tree trees' of are = record {
        catalog = keeps.catalog;
        fits = short;
        seen = now_seen;
        pieces = subst (λ (blobs : List BlobData). AreKept blobs s.pieces.items) (sym (new_same r offered b Content unseen (ap (λ t. not (is_tree_type t)) of))) keeps.pieces;
        trees = subst (λ (blobs : List BlobData). AreKept blobs trees'.items) (sym (new_more r offered b Tree unseen is_new_here (ap is_tree_type of))) are;
        reuses = reuses_so;
      }

-- one more blob that is named, before any is offered
module _ (r : Repository) (named : List BlobId) (name : BlobId) (s : Storing) (keeps : Keeps r named [] s) where
  alone : (names : List BlobId) (reuses : Reuses) → RestOn r (names ++ names_once []) reuses → RestOn r names reuses
  alone names reuses rests = subst (λ (all : List BlobId). RestOn r all reuses) (append-nil names) rests

  whole : (names : List BlobId) (reuses : Reuses) → RestOn r names reuses → RestOn r (names ++ names_once []) reuses
  whole names reuses rests = subst (λ (all : List BlobId). RestOn r all reuses) (sym (append-nil names)) rests

  pub claimed : (reuses' : Reuses) → (RestOn r named s.reuses → RestOn r (named ++ name ∷ []) reuses') → Keeps r (named ++ name ∷ []) [] (record s { reuses = reuses' })
  claimed reuses' more = record {
    catalog = keeps.catalog;
    fits = keeps.fits;
    seen = keeps.seen;
    pieces = keeps.pieces;
    trees = keeps.trees;
    reuses = whole (named ++ name ∷ []) reuses' (more (alone named s.reuses keeps.reuses));
  }

  reused_here : (o : Option (Id × Id)) → o ≡ reuse_of s.catalog name → reuse_of r name ≡ o
  reused_here o is = ap (λ (q : Repository). reuse_of q name) (sym keeps.catalog) ∙ sym is

  pub claimed_there : (pair : Id × Id) (reuses' : Reuses) → Some pair ≡ reuse_of s.catalog name
      → (reuse_of r name ≡ Some pair → RestOn r named s.reuses → RestOn r (named ++ name ∷ []) reuses')
      → Keeps r (named ++ name ∷ []) [] (record s { reuses = reuses' })
  claimed_there pair reuses' reused more = claimed reuses' (more (reused_here (Some pair) reused))

  pub claimed_none : None ≡ reuse_of s.catalog name → Keeps r (named ++ name ∷ []) [] s
  claimed_none unused = claimed s.reuses (none_more_used r named name s.reuses (reused_here None unused))

  is_some_of : (o : Option (Spot × Id)) → is_some o ≡ is_some {T = Id × Id} (option_map (λ (e : Spot × Id). (e.0.pack, e.1)) o)
  is_some_of None = refl
  is_some_of (Some e) = refl

  pub placed : (o : Option (Id × Id)) → o ≡ reuse_of s.catalog name → is_some o ≡ is_some (chosen_listing r name)
  placed o is = ap is_some (sym (reused_here o is)) ∙ sym (is_some_of (chosen_listing r name))
