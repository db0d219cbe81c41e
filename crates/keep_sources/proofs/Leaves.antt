-- What became of a name that isn't a folder's, and of a folder.
use Rattle.std.proofs.Common.{◌≡◌, ℕ, ◌-◌, ◌≤◌, true, false, inl, inr, Option, None, Some, Result, Ok, Err, OnOk, List, [], ◌∷◌, ◌++◌, map, refl, sym, ap, ◌∙◌, subst}
use Rattle.std.proofs.lemmas.List.{append-nil}
use Rattle.keep_names.specs.declared.id.Id.{Id}
use Rattle.keep_sources.proofs.GivenAll.{gives-append, gives-one}
use Rattle.keep_sources.proofs.Joined.{took_folder}
use Rattle.keep_sources.specs.Given.{Given, ClosedFolder, DroppedFile, EndedFile, GotOther, GotSame, OpenedFolder, Wrote}
use Rattle.keep_sources.specs.Job.{IsUnchanged, is_asked}
use Rattle.keep_sources.specs.Met.{Excluded, Missed, Other, Same, Whole, Broken, below, change_of, named, sized, total}
use Rattle.keep_sources.specs.Told.{Told}
use Rattle.keep_sources.specs.Took.{CopiedFile, IsNewFile, Took, TookLeaf, TookListed, is_other, skip_view}
use Rattle.keep_sources.specs.declared.scope.Scope.{Scope}
use Rattle.keep_sources.specs.declared.stat.StatKind.TheVariants.{File, Folder}
use Rattle.keep_sources.specs.declared.stat.Stat.{Stat}
use Rattle.keep_sources.specs.declared.skipped.Skipped.{Skipped}
use Rattle.keep_sources.specs.declared.skipped.Why.{Why}
use Rattle.keep_sources.specs.declared.skipped.Why.TheVariants.{TooDeep}
use Rattle.keep_sources.specs.declared.source.FolderListing.{FolderListing}

pub on_ok : {A E P Q : Type 0} (r : Result A E) → (P → Q) → OnOk r P → OnOk r Q
on_ok (Ok x) f h = f h
on_ok (Err e) f h = tt

module _ {X : Type 0} (gives : X → Given → X → Type 0) (t : Told) (j : Scope) (k : ℕ) (path n : List ℕ) where
  pub left_out : (g : X) (s : List Skipped) → is_asked j path ≡ false → TookLeaf t gives j k path n g g s s
  left_out g s out = record { leaf = Excluded; is = out; gave = refl; named = sym (append-nil (map skip_view s)) }

  pub missed : (g g' : X) (s s' : List Skipped) (why : Why) → is_asked j path ≡ true → t.lost path why → g' ≡ g
      → map skip_view s' ≡ map skip_view s ++ (path, why) ∷ [] → TookLeaf t gives j k path n g g' s s'
  missed g g' s s' why asked lost same says = record { leaf = Missed why; is = (asked, inl lost); gave = same; named = says }

  pub too_deep : (g g' : X) (s s' : List Skipped) (sight : Stat) → is_asked j path ≡ true → k ≡ 0 → t.saw path sight → sight.kind ≡ Folder → g' ≡ g
      → map skip_view s' ≡ map skip_view s ++ (path, TooDeep) ∷ [] → TookLeaf t gives j k path n g g' s s'
  too_deep g g' s s' sight asked deep saw kind same says = record {
    leaf = Missed TooDeep;
    is = (asked, inr (refl, deep, (sight, saw, kind)));
    gave = same;
    named = says;
  }

  pub other : (g g' : X) (s : List Skipped) (sight : Stat) → is_asked j path ≡ true → t.saw path sight → is_other sight.kind ≡ true
      → gives g (GotOther n sight) g' → TookLeaf t gives j k path n g g' s s
  other g g' s sight asked saw is gave = record {
    leaf = Other sight;
    is = (asked, saw, is);
    gave = gives-one gives g g' (GotOther n sight) gave;
    named = sym (append-nil (map skip_view s));
  }

  pub same : (g g' : X) (s : List Skipped) (sight : Stat) (content : List Id) → is_asked j path ≡ true → t.saw path sight → sight.kind ≡ File
      → IsUnchanged j path sight content → gives g (GotSame n content sight) g' → TookLeaf t gives j k path n g g' s s
  same g g' s sight content asked saw is known gave = record {
    leaf = Same sight content;
    is = (asked, saw, is, known);
    gave = gives-one gives g g' (GotSame n content sight) gave;
    named = sym (append-nil (map skip_view s));
  }

  pub broken : (g g' g'' : X) (s s' : List Skipped) (sight : Stat) (size : ℕ) (failure : Option Why) (why : Why) → is_asked j path ≡ true
      → IsNewFile t j path sight → CopiedFile t gives path sight.size g g' size failure → failure ≡ Some why → gives g' DroppedFile g''
      → map skip_view s' ≡ map skip_view s ++ (path, why) ∷ [] → TookLeaf t gives j k path n g g'' s s'
  broken g g' g'' s s' sight size failure why asked new copied is gave says =
      let h : CopiedFile t gives path sight.size g g' size (Some why) = subst (CopiedFile t gives path sight.size g g' size) is copied in
      record {
        leaf = Broken sight h.pieces why;
        is = (asked, new, h.read, h.ended);
        gave = gives-append gives g g' g'' (map Wrote h.pieces) (DroppedFile ∷ []) h.gave (gives-one gives g' g'' DroppedFile gave);
        named = says;
      }

  pub whole : (g g' g'' : X) (s s' : List Skipped) (sight : Stat) (size : ℕ) (failure : Option Why) → is_asked j path ≡ true
      → IsNewFile t j path sight → CopiedFile t gives path sight.size g g' size failure → failure ≡ None
      → gives g' (EndedFile n (sized sight size)) g'' → map skip_view s' ≡ map skip_view s ++ named path (change_of size sight.size)
      → TookLeaf t gives j k path n g g'' s s'
  whole g g' g'' s s' sight size failure asked new copied is gave says =
      let h : CopiedFile t gives path sight.size g g' size None = subst (CopiedFile t gives path sight.size g g' size) is copied in
      let e = h.bytes in
      let ended : gives g' (EndedFile n (sized sight (total h.pieces))) g'' = subst (λ m. gives g' (EndedFile n (sized sight m)) g'') e gave in
      record {
        leaf = Whole sight h.pieces;
        is = (asked, new, h.read, rw e at h.ended);
        gave = gives-append gives g g' g'' (map Wrote h.pieces) (EndedFile n (sized sight (total h.pieces)) ∷ []) h.gave
            (gives-one gives g' g'' (EndedFile n (sized sight (total h.pieces))) ended);
        named = says ∙ ap (λ m. map skip_view s ++ named path (change_of m sight.size)) e;
      }

-- a folder was taken, by the calls that it takes
pub folder_ends : {X : Type 0} (gives : X → Given → X → Type 0) (t : Told) (j : Scope) (k : ℕ) (f n path text : List ℕ) (sight : Stat) (listing : FolderListing)
    (g g1 g2 g3 g4 : X) (s s1 s2 : List Skipped)
    → path ≡ below f n → text ≡ path → is_asked j path ≡ true → t.saw path sight → sight.kind ≡ Folder → 1 ≤ k → t.listed text listing
    → gives g (OpenedFolder n) g1 → TookListed t gives j (k - 1) text listing g1 g2 s s1 → g3 ≡ g2 → s2 ≡ s1
    → gives g3 (ClosedFolder sight) g4 → Took t gives j k f (n ∷ []) g g4 s s2
folder_ends gives t j k f n path text sight listing g g1 g2 g3 g4 s s1 s2 is spelt asked saw kind reached listed opened took room same closed =
    let a : TookListed t gives j (k - 1) path listing g1 g2 s s1 = subst (λ p. TookListed t gives j (k - 1) p listing g1 g2 s s1) spelt took in
    let told : t.listed path listing = subst (λ p. t.listed p listing) spelt listed in
    let shut : gives g2 (ClosedFolder sight) g4 = subst (λ x. gives x (ClosedFolder sight) g4) room closed in
    let ends = took_folder gives t j k f n path sight listing g g1 g2 g4 s s1 is asked saw kind reached told opened a shut in
    subst (λ l. Took t gives j k f (n ∷ []) g g4 s l) (sym same) ends
