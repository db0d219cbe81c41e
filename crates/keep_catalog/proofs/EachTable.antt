-- Each of the tables follows a file that comes or goes.
use Rattle.std.proofs.Common.{◌≡◌, ℕ, Bool, true, false, ◌&&◌, cond, List, Option, None, Some, Result, Ok, Err, is_some, refl, sym, ap, ◌∙◌}
use Rattle.std.proofs.lemmas.Map.Views.{tells_apart}
use Rattle.std.specs.BTreeMap as tree
use Rattle.std.specs.Cmp.{eq_by_cmp_equiv}
use Rattle.std.specs.FinMap as finite
use Rattle.std.specs.List.{flat_map}
use Rattle.std.specs.Option.{option_and_then, option_or}
use Rattle.std.specs.Result.{result_ok}
use Rattle.keep_index.specs.Index.{PackData}
use Rattle.keep_index.specs.declared.index_error.IndexError.{IndexError}
use Rattle.keep_names.proofs.Orders.{id_exact, id_total, name_exact, name_total}
use Rattle.keep_names.specs.FileName.{named}
use Rattle.keep_names.specs.contracts.file_name.FileNameOrd.TheImpl.Laws as the_name_laws
use Rattle.keep_names.specs.declared.blob.BlobId.{BlobId}
use Rattle.keep_names.specs.declared.file_name.FileName.{FileName}
use Rattle.keep_names.specs.declared.file_name.Kind.TheVariants.{Pack, Index}
use Rattle.keep_names.specs.declared.id.Id.{Id}
use Rattle.keep_repo.specs.Repository.{Repository}
use Rattle.keep_catalog.specs.Files.{index_of, index_read, packs_in, what_is_read, why_of, why_unread}
use Rattle.keep_catalog.specs.Kept.{IsHashedIn, IsListedIn, IsStoredIn, Listed, Stored, lists_at, lists_in, places_said}
use Rattle.keep_catalog.specs.Orders.{name_eq, packed_blob_cmp, same_id, same_name}
use Rattle.keep_catalog.specs.Places.{at, is_among, is_honest, is_stored, listed_of, places_listed, places_stored}
use Rattle.keep_catalog.specs.declared.spot.Listing.{Listing}
use Rattle.keep_catalog.specs.declared.spot.PackedBlob.{PackedBlob}
use Rattle.keep_catalog.specs.declared.unread.FileError.{FileError}
use Rattle.keep_catalog.proofs.Ids.{id_refl}
use Rattle.keep_catalog.proofs.Replaced.{IsReplaced, honest_after, lists_after, lists_own, of_pack, said_by, stored_after, stored_own, unread_after}

-- ---- tests

pub id_symm : (a b : Id) → same_id a b ≡ same_id b a
id_symm = (eq_by_cmp_equiv id_total).symm

-- `==` of names is the one that their order gives
pub same_as_order : same_name ≡ name_eq
same_as_order i a b = the_name_laws.matches_eq-law a b i

name_symm : (a b : FileName) → same_name a b ≡ name_eq b a
name_symm a b = ap (λ same. same a b) same_as_order ∙ (eq_by_cmp_equiv name_total).symm a b

-- what comes is there, and what was there stays
comes : (a b was : Bool) → (a ≡ true → b ≡ true) → (b ≡ true → was ≡ false) → cond a true was ≡ cond b a was
comes true true was f g = refl
comes true false was f g = cc (f refl)
comes false true was f g = g refl
comes false false was f g = refl

-- what goes isn't there, and the others stay
goes : (a b was : Bool) → (a ≡ true → b ≡ true) → (b ≡ true → was ≡ a) → cond a false was ≡ cond b false was
goes true true was f g = refl
goes true false was f g = cc (f refl)
goes false true was f g = g refl
goes false false was f g = refl

some_or : (a : Bool) (v o : Option (Option Bool)) → is_some (cond a v o) ≡ cond a (is_some v) (is_some o)
some_or true v o = refl
some_or false v o = refl

-- ---- packs

module _ (pack : Id) (bytes : List ℕ) where
  abbrev pub stored_here : PackedBlob → Bool
  stored_here p = is_among (places_stored pack (Some bytes)) p

  of_this : (p : PackedBlob) → stored_here p ≡ true → same_id p.spot.pack pack ≡ true
  of_this p h = ap (λ x. same_id x pack) (of_pack pack _ p h) ∙ id_refl pack

module _ (r after : Repository) (pack : Id) (bytes : List ℕ) (old new : Stored) (kept : IsStoredIn r old) where
  -- the pack comes
  module _ (replaced : IsReplaced r after (named Pack pack) (Some bytes)) (absent : finite.get r.files (named Pack pack) ≡ None) (put : (p : PackedBlob) → tree.get packed_blob_cmp new p ≡ cond (stored_here pack bytes p) (Some None) (tree.get packed_blob_cmp old p)) where
    pub stored_comes : IsStoredIn after new
    stored_comes p =
        ap is_some (put p) ∙ some_or (stored_here pack bytes p) (Some None) (tree.get packed_blob_cmp old p)
        ∙ ap (cond (stored_here pack bytes p) true) (kept p)
        ∙ comes (stored_here pack bytes p) (same_id p.spot.pack pack) (is_stored r p) (of_this pack bytes p) (stored_own r pack None absent p)
        ∙ sym (stored_after r after pack (Some bytes) replaced p)

    pub hashed_comes : IsHashedIn r old → IsHashedIn after new
    hashed_comes hashed p honest got = cases (stored_here pack bytes p) refl (same_id p.spot.pack pack) refl where
      cases : (a : Bool) → stored_here pack bytes p ≡ a → (b : Bool) → same_id p.spot.pack pack ≡ b → is_honest after p.blob p.spot ≡ honest
      cases true here b same = cc (put p, ap (λ t. cond t (Some None) (tree.get packed_blob_cmp old p)) here, got)
      cases false passed true same =
          let was : tree.get packed_blob_cmp old p ≡ Some (Some honest) = sym (put p ∙ ap (λ t. cond t (Some None) (tree.get packed_blob_cmp old p)) passed) ∙ got in
          cc (stored_own r pack None absent p same, kept p, ap is_some was)
      cases false passed false other =
          let was : tree.get packed_blob_cmp old p ≡ Some (Some honest) = sym (put p ∙ ap (λ t. cond t (Some None) (tree.get packed_blob_cmp old p)) passed) ∙ got in
          honest_after r after pack (Some bytes) replaced p other ∙ hashed p honest was

  -- the pack goes
  module _ (replaced : IsReplaced r after (named Pack pack) None) (present : finite.get r.files (named Pack pack) ≡ Some bytes) (took : (p : PackedBlob) → tree.get packed_blob_cmp new p ≡ cond (stored_here pack bytes p) None (tree.get packed_blob_cmp old p)) where
    pub stored_goes : IsStoredIn after new
    stored_goes p =
        ap is_some (took p) ∙ some_or (stored_here pack bytes p) None (tree.get packed_blob_cmp old p)
        ∙ ap (cond (stored_here pack bytes p) false) (kept p)
        ∙ goes (stored_here pack bytes p) (same_id p.spot.pack pack) (is_stored r p) (of_this pack bytes p) (stored_own r pack (Some bytes) present p)
        ∙ sym (stored_after r after pack None replaced p)

    pub hashed_goes : IsHashedIn r old → IsHashedIn after new
    hashed_goes hashed p honest got = cases (stored_here pack bytes p) refl (same_id p.spot.pack pack) refl where
      cases : (a : Bool) → stored_here pack bytes p ≡ a → (b : Bool) → same_id p.spot.pack pack ≡ b → is_honest after p.blob p.spot ≡ honest
      cases true here b same = cc (took p, ap (λ t. cond t None (tree.get packed_blob_cmp old p)) here, got)
      cases false passed true same =
          let was : tree.get packed_blob_cmp old p ≡ Some (Some honest) = sym (took p ∙ ap (λ t. cond t None (tree.get packed_blob_cmp old p)) passed) ∙ got in
          cc (stored_own r pack (Some bytes) present p same, passed, kept p, ap is_some was)
      cases false passed false other =
          let was : tree.get packed_blob_cmp old p ≡ Some (Some honest) = sym (took p ∙ ap (λ t. cond t None (tree.get packed_blob_cmp old p)) passed) ∙ got in
          honest_after r after pack None replaced p other ∙ hashed p honest was

-- ---- indexes

-- what an index lists is told by what it says
pub said_places : (o : Option (List ℕ)) → places_said (index_read o) ≡ places_listed o
said_places None = refl
said_places (Some bytes) = cases (index_of bytes) where
  cases : (read : Result (List PackData) IndexError) → places_said (result_ok read) ≡ flat_map listed_of (what_is_read (Some read))
  cases (Ok packs) = refl
  cases (Err refusal) = refl

module _ (r after : Repository) (index : Id) (old new : Listed) (kept : IsListedIn r old) where
  abbrev said_here : Option (List PackData) → BlobId → Listing → Bool
  said_here packs blob l = is_among (places_said packs) (at blob l.spot)

  is_here : (a b was : Bool) → (b ≡ true → was ≡ false) → cond (b && a) true was ≡ cond b a was
  is_here true true was f = refl
  is_here false true was f = f refl
  is_here a false was f = refl

  is_gone : (a b was : Bool) → (b ≡ true → was ≡ a) → cond (b && a) false was ≡ cond b false was
  is_gone true true was f = refl
  is_gone false true was f = f refl
  is_gone a false was f = refl

  own_here : (o : Option (List ℕ)) → finite.get r.files (named Index index) ≡ o → (blob : BlobId) (l : Listing) → same_id l.index index ≡ true → lists_in r blob l ≡ said_here (index_read o) blob l
  own_here o is blob l same =
      lists_own r index o is blob l same ∙ ap (λ places. is_among places (at blob l.spot)) (sym (said_places o))

  here_after : (o : Option (List ℕ)) → IsReplaced r after (named Index index) o → (blob : BlobId) (l : Listing) → lists_in after blob l ≡ cond (same_id l.index index) (said_here (index_read o) blob l) (lists_in r blob l)
  here_after o replaced blob l =
      lists_after r after index o replaced blob l
      ∙ ap (λ places. cond (same_id l.index index) (is_among places (at blob l.spot)) (lists_in r blob l)) (sym (said_places o))

  pub listed_comes : (bytes : List ℕ) → IsReplaced r after (named Index index) (Some bytes) → finite.get r.files (named Index index) ≡ None → ((blob : BlobId) (l : Listing) → lists_at new blob l ≡ cond (same_id index l.index && said_here (index_read (Some bytes)) blob l) true (lists_at old blob l)) → IsListedIn after new
  listed_comes bytes replaced absent put blob l =
      let said = said_here (index_read (Some bytes)) blob l in
      put blob l ∙ ap (λ b. cond (b && said) true (lists_at old blob l)) (id_symm index l.index)
      ∙ ap (cond (same_id l.index index && said) true) (kept blob l)
      ∙ is_here said (same_id l.index index) (lists_in r blob l) (own_here None absent blob l)
      ∙ sym (here_after (Some bytes) replaced blob l)

  pub listed_goes : IsReplaced r after (named Index index) None → ((blob : BlobId) (l : Listing) → lists_at new blob l ≡ cond (same_id index l.index && said_here (packs_in r index) blob l) false (lists_at old blob l)) → IsListedIn after new
  listed_goes replaced took blob l =
      let o = finite.get r.files (named Index index) in
      let said = said_here (index_read o) blob l in
      took blob l ∙ ap (λ packs. cond (same_id index l.index && said_here packs blob l) false (lists_at old blob l)) (said_by r index o refl)
      ∙ ap (λ b. cond (b && said) false (lists_at old blob l)) (id_symm index l.index)
      ∙ ap (cond (same_id l.index index && said) false) (kept blob l)
      ∙ is_gone said (same_id l.index index) (lists_in r blob l) (own_here o refl blob l)
      ∙ sym (here_after None replaced blob l)

-- ---- what a file says, kept under its name

module _ {X : Type 0} (name : Id) (was before after new : Id → Option X) (kept : (q : Id) → was q ≡ before q) where
  or_none : (o : Option X) → option_or o None ≡ o
  or_none None = refl
  or_none (Some x) = refl

  pub said_comes : (own : Option X) → before name ≡ None → ((q : Id) → after q ≡ cond (same_id q name) own (before q)) → ((q : Id) → new q ≡ option_or (cond (same_id name q) own None) (was q)) → (q : Id) → new q ≡ after q
  said_comes own absent so put q =
      put q ∙ ap (λ b. option_or (cond b own None) (was q)) (id_symm name q)
      ∙ ap (option_or (cond (same_id q name) own None)) (kept q)
      ∙ cases (same_id q name) refl ∙ sym (so q) where
        cases : (b : Bool) → same_id q name ≡ b → option_or (cond b own None) (before q) ≡ cond b own (before q)
        cases true same = ap (option_or own) (ap before (tells_apart id_exact q name same) ∙ absent) ∙ or_none own
        cases false other = refl

  pub said_goes : ((q : Id) → after q ≡ cond (same_id q name) None (before q)) → ((q : Id) → new q ≡ cond (same_id name q) None (was q)) → (q : Id) → new q ≡ after q
  said_goes so took q =
      took q ∙ ap (λ b. cond b None (was q)) (id_symm name q)
      ∙ ap (cond (same_id q name) None) (kept q) ∙ sym (so q)

-- ---- files that can't be read

none_unread : (r : Repository) (name q : FileName) → finite.get r.files name ≡ None → name_eq q name ≡ true → why_unread r q ≡ None
unfolding why_unread
none_unread r name q absent same = ap (option_and_then (why_of q.kind)) (ap (finite.get r.files) (tells_apart name_exact q name same) ∙ absent)

module _ (r after : Repository) (name : FileName) (bytes : List ℕ) (old new : FileName → Option FileError) (kept : (q : FileName) → old q ≡ why_unread r q) where
  pub unread_comes : IsReplaced r after name (Some bytes) → finite.get r.files name ≡ None → ((q : FileName) → new q ≡ option_or (cond (same_name name q) (why_of name.kind bytes) None) (old q)) → (q : FileName) → new q ≡ why_unread after q
  unread_comes replaced absent put q =
      put q ∙ ap (λ b. option_or (cond b (why_of name.kind bytes) None) (old q)) (name_symm name q)
      ∙ ap (option_or (cond (name_eq q name) (why_of name.kind bytes) None)) (kept q)
      ∙ cases (name_eq q name) refl
      ∙ sym (unread_after r after name (Some bytes) replaced q) where
        or_none : (o : Option FileError) → option_or o None ≡ o
        or_none None = refl
        or_none (Some why) = refl

        cases : (b : Bool) → name_eq q name ≡ b → option_or (cond b (why_of name.kind bytes) None) (why_unread r q) ≡ cond b (why_of name.kind bytes) (why_unread r q)
        cases true same = ap (option_or (why_of name.kind bytes)) (none_unread r name q absent same) ∙ or_none (why_of name.kind bytes)
        cases false other = refl

  pub unread_goes : IsReplaced r after name None → ((q : FileName) → new q ≡ cond (same_name name q) None (old q)) → (q : FileName) → new q ≡ why_unread after q
  unread_goes replaced took q =
      took q ∙ ap (λ b. cond b None (old q)) (name_symm name q) ∙ ap (cond (name_eq q name) None) (kept q)
      ∙ sym (unread_after r after name None replaced q)
