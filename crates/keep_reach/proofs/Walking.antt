-- What a walk remembers, one blob later.
use Rattle.std.proofs.Common.{◌≡◌, ◌↔◌, ◌⊎◌, ℕ, zero, suc, ◌+◌, ◌-◌, ◌<◌, ◌≤◌, max, Bool, true, false, cond, List, [], ◌∷◌, ◌++◌, length, get_or, take, Some, Ok, is_some, refl, sym, ap, subst, ◌∙◌, inl, inr, arith}
use Rattle.std.specs.BTreeMap.{IsOrdered, is_at}
use Rattle.std.specs.BTreeMap as tree
use Rattle.std.specs.List.Sorted.{IsStrictlySortedBy}
use Rattle.std.specs.Map.{keys_of, lookup}
use Rattle.keep_names.specs.Orders.{blob_cmp}
use Rattle.keep_names.specs.declared.blob.BlobId.{BlobId}
use Rattle.keep_names.specs.declared.blob.BlobType.TheVariants.{Content}
use Rattle.keep_catalog.specs.Orders.{blob_eq}
use Rattle.keep_reach.specs.Reach.{HasBlob, Naming, Names, Reaches}
use Rattle.keep_reach.specs.Walk.{Choosing, Grew, GrewAll, HasHeight, HaveHeight, IsWalked, Knows, KnowsAll, ReachedFrom, Walked}
use Rattle.keep_reach.specs.declared.reached_blobs.ReachedBlob.{ReachedBlob}
use Rattle.keep_catalog.proofs.Growing.{taken_more}
use Rattle.keep_reach.proofs.Heights.{one_higher}
use Rattle.keep_catalog.proofs.SpotOrders.{blob_eq_same, blob_eq_refl}

-- a blob of one of two lists
pub in_one : (xs ys : List BlobId) (b : BlobId) → HasBlob (xs ++ ys) b → HasBlob xs b ⊎ HasBlob ys b
in_one [] ys b h = inr h
in_one (x ∷ xs) ys b (inl here) = inl (inl here)
in_one (x ∷ xs) ys b (inr there) = elim (in_one xs ys b there) [ inl left ↦ inl (inr left) | inr right ↦ inr right ]

pub in_first : (xs ys : List BlobId) (b : BlobId) → HasBlob xs b → HasBlob (xs ++ ys) b
in_first (x ∷ xs) ys b (inl here) = inl here
in_first (x ∷ xs) ys b (inr there) = inr (in_first xs ys b there)
in_first [] ys b h = absurd h

pub in_last : (xs : List BlobId) (b : BlobId) → HasBlob (xs ++ b ∷ []) b
in_last [] b = inl refl
in_last (x ∷ xs) b = inr (in_last xs b)

module _ (old new : Walked) (blob : BlobId) (found : ReachedBlob) (put : (q : BlobId) → tree.get blob_cmp new q ≡ cond (is_at (blob_cmp blob) q) (Some found) (tree.get blob_cmp old q)) where
  put_here : tree.get blob_cmp new blob ≡ Some found
  put_here = put blob ∙ ap (λ b. cond b (Some found) (tree.get blob_cmp old blob)) (blob_eq_refl blob)

  put_there : (q : BlobId) → blob_eq blob q ≡ false → tree.get blob_cmp new q ≡ tree.get blob_cmp old q
  put_there q other = put q ∙ ap (λ b. cond b (Some found) (tree.get blob_cmp old q)) other

  pub put_known : Knows new blob
  put_known = record { known = ap is_some put_here }

  pub put_keeps : (q : BlobId) → Knows old q → Knows new q
  put_keeps q knows = cases (blob_eq blob q) refl where
    cases : (b : Bool) → blob_eq blob q ≡ b → Knows new q
    cases true same = subst (Knows new) (blob_eq_same blob q same) put_known
    cases false other = record { known = ap is_some (put_there q other) ∙ knows.known }

  -- what is known is the blob, or was known
  pub put_from : (q : BlobId) → Knows new q → (blob ≡ q) ⊎ Knows old q
  put_from q knows = cases (blob_eq blob q) refl where
    cases : (b : Bool) → blob_eq blob q ≡ b → (blob ≡ q) ⊎ Knows old q
    cases true same = inl (blob_eq_same blob q same)
    cases false other = inr (record { known = sym (ap is_some (put_there q other)) ∙ knows.known })

  -- what holds of each remembered blob, and of this one
  put_holds : (P : BlobId → ReachedBlob → Type 0) → ((q : BlobId) (f : ReachedBlob) → tree.get blob_cmp old q ≡ Some f → P q f) → P blob found → (q : BlobId) (f : ReachedBlob) → tree.get blob_cmp new q ≡ Some f → P q f
  put_holds P before here q f is = cases (blob_eq blob q) refl where
    cases : (b : Bool) → blob_eq blob q ≡ b → P q f
    cases true same =
        let there : blob ≡ q = blob_eq_same blob q same in
        let G : BlobId → Type 0 = λ x. tree.get blob_cmp new x ≡ Some f in
        let at : tree.get blob_cmp new blob ≡ Some f = subst G (sym there) is in
        let e : found ≡ f = cc (put_here, at) in
        let Q : BlobId → Type 0 = λ x. P x f in
        subst Q there (subst (P blob) e here)
    cases false other = before q f (sym (put_there q other) ∙ is)

  module _ (named : Naming) where
    -- a blob is remembered after all that it names
    pub put_walked : (chosen : Choosing) → IsWalked named chosen old → HasHeight named blob found.height → chosen blob ≡ Some (found.spot, found.index) → ((b : BlobId) → Names named blob b → Knows old b) → IsOrdered blob_cmp new → IsWalked named chosen new
    put_walked chosen walked has place names ordered = record {
      ordered = ordered;
      heights = put_holds (λ b f. HasHeight named b f.height) walked.heights has;
      places = put_holds (λ b f. chosen b ≡ Some (f.spot, f.index)) walked.places place;
      closed = λ a b knows named_so. elim (put_from a knows) [
        | inl same ↦ let N : BlobId → Type 0 = λ x. Names named x b in put_keeps b (names b (subst N (sym same) named_so))
        | inr was ↦ put_keeps b (walked.closed a b was named_so)
      ];
    }

    -- a piece reaches itself
    pub piece_grew : (levels : ℕ) → blob.blob_type ≡ Content → Grew named levels blob old new
    piece_grew levels piece = record {
      kept = put_keeps;
      came = λ b knows. elim (put_from b knows) [ inl same ↦ inr (itself levels b same) | inr was ↦ inl was ];
    } where
      itself : (n : ℕ) (b : BlobId) → blob ≡ b → Reaches named n blob b
      itself zero b same = (rw piece refl, same)
      itself (suc n) b same = inl same

  -- a tree reaches itself and what is reached from what it names
  pub tree_grew : (named : Naming) (before : Walked) (levels : ℕ) (xs : List BlobId) → 0 < levels → named blob ≡ Ok xs → GrewAll named (levels - 1) xs before old → Grew named levels blob before new
  tree_grew named before zero xs h is grew = absurd (omega arith)
  tree_grew named before (suc levels) xs h is grew = record {
    kept = λ b was. put_keeps b (grew.kept b was);
    came = λ b knows. elim (put_from b knows) [
      | inl same ↦ inr (inl same)
      | inr was ↦ elim (grew.came b was) [ inl first ↦ inl first | inr from ↦ inr (inr (below b from)) ]
    ];
  } where
    below : (b : BlobId) → ReachedFrom named (suc levels - 1) xs b → (c : BlobId) × Names named blob c × Reaches named levels c b
    below b from =
        let same : suc levels - 1 ≡ levels = omega arith in
        let R : ℕ → Type 0 = λ n. Reaches named n from.top b in
        (from.top, rw is from.among, subst R same from.reached)

abbrev in_order : List (BlobId × ReachedBlob) → Type 0
in_order es = IsStrictlySortedBy blob_cmp (keys_of es)

module _ (named : Naming) (chosen : Choosing) where
  -- what a walk over a list has done
  pub record HasWalked (levels : ℕ) (blobs : List BlobId) (highest : ℕ) (old now : Walked) : Type 0 where
    pub walked : IsWalked named chosen now
    pub height : HaveHeight named blobs highest
    pub within : highest ≤ levels
    pub known : KnowsAll now blobs
    pub grew : GrewAll named levels blobs old now

  pub one_walked : (levels : ℕ) (xs : List BlobId) (i : ℕ) (x d : BlobId) (highest height : ℕ) (old now later : Walked) → i < length xs → x ≡ get_or xs i d → HasWalked levels (take i xs) highest old now → HasHeight named x height → height ≤ levels → Knows later x → IsWalked named chosen later → Grew named levels x now later → HasWalked levels (take (i + 1) xs) (max highest height) old later
  one_walked levels xs i x d highest height old now later lt is has tall within knows walked grew = record {
    walked = walked;
    height = one_higher named xs i x d highest height lt is has.height tall;
    within = let low : highest ≤ levels = has.within in omega arith;
    known = record {
      each = λ b h. elim (in_one (take i xs) (x ∷ []) b (subst (has_blob b) more h)) [
        | inl before ↦ grew.kept b (has.known.each b before)
        | inr last ↦ elim last [ inl same ↦ subst (Knows later) same knows | inr none ↦ absurd none ]
      ];
    };
    grew = record {
      kept = λ b was. grew.kept b (has.grew.kept b was);
      came = λ b knew. elim (grew.came b knew) [
        | inl before ↦ elim (has.grew.came b before) [
          | inl first ↦ inl first
          | inr from ↦ inr (record { top = from.top; among = subst (has_blob from.top) (sym more) (in_first (take i xs) (x ∷ []) from.top from.among); reached = from.reached })
        ]
        | inr from ↦ inr (record { top = x; among = subst (has_blob x) (sym more) (in_last (take i xs) x); reached = from })
      ];
    };
  } where
    has_blob : BlobId → List BlobId → Type 0
    has_blob b ys = HasBlob ys b

    more : take (i + 1) xs ≡ take i xs ++ x ∷ []
    more = taken_more xs i x d lt is

  -- what is reached from a known blob is known
  reached_known : (walked : Walked) (levels : ℕ) (a b : BlobId) → IsWalked named chosen walked → Knows walked a → Reaches named levels a b → Knows walked b
  reached_known walked zero a b closed knows reaches = subst (Knows walked) reaches.1 knows
  reached_known walked (suc levels) a b closed knows (inl same) = subst (Knows walked) same knows
  reached_known walked (suc levels) a b closed knows (inr through) =
      reached_known walked levels through.0 b closed (closed.closed a through.0 knows through.1) through.2

  -- a map with the same entries
  pub same_walked : (old new : Walked) → new.entries ≡ old.entries → IsWalked named chosen old → IsWalked named chosen new
  same_walked old new same walked = record {
    heights = λ b f is. walked.heights b f (sym (got b) ∙ is);
    places = λ b f is. walked.places b f (sym (got b) ∙ is);
    closed = λ a b knows names. record { known = ap is_some (got b) ∙ (walked.closed a b (record { known = sym (ap is_some (got a)) ∙ knows.known }) names).known };
    ordered = subst in_order (sym same) walked.ordered;
  } where
    got : (b : BlobId) → tree.get blob_cmp new b ≡ tree.get blob_cmp old b
    got b = ap (lookup (is_at (blob_cmp b))) same

  -- after a walk of several blobs from nothing just what one of them reaches is known
  pub all_reached : (levels : ℕ) (tops : List BlobId) (none walked : Walked) → none.entries ≡ [] → KnowsAll walked tops → IsWalked named chosen walked → GrewAll named levels tops none walked → (b : BlobId) → Knows walked b ↔ ReachedFrom named levels tops b
  all_reached levels tops none walked empty knows closed grew b = (
    λ knew. elim (grew.came b knew) [ inl was ↦ absurd (nothing was) | inr from ↦ from ],
    λ from. reached_known walked levels from.top b closed (knows.each from.top from.among) from.reached,
  ) where
    nothing : Knows none b → ⊥
    nothing was = let h : is_some (tree.get blob_cmp none b) ≡ true = was.known in cc (rw empty at h)

  -- a blob that names nothing names no blob
  pub nothing_named : (blob : BlobId) → named blob ≡ Ok [] → (b : BlobId) → Names named blob b → ⊥
  nothing_named blob is b names = (rw is at names)

  -- what a blob names is known, where its list is
  pub names_known : (blob : BlobId) (xs : List BlobId) (walked : Walked) → named blob ≡ Ok xs → KnowsAll walked xs → (b : BlobId) → Names named blob b → Knows walked b
  names_known blob xs walked is all b names = all.each b (rw is at names)
