-- What is named is to blame.
use Rattle.std.proofs.Common.{◌≡◌, ℕ, ◌==◌, Bool, true, false, cond, List, [], ◌∷◌, ◌++◌, map, Option, Some, None, is_some, refl, sym, ap, ◌∙◌, subst}
use Rattle.std.specs.FinMap as finite
use Rattle.std.specs.List.{AllByRecursion, cons_option, filter_map}
use Rattle.std.specs.Str.{bytes_eq}
use Rattle.std.proofs.lemmas.Bool.{eq-eqb}
use Rattle.std.proofs.lemmas.Option.{same_Some}
use Rattle.std.proofs.lemmas.Slice.Eq.{bytes_eq-Decides}
use Rattle.keep_names.specs.declared.file_name.FileName.{FileName}
use Rattle.keep_repo.specs.Repository.{Repository}
use Rattle.keep_journal.specs.Journal.{Journal}
use Rattle.keep_journal.specs.declared.event.Entry as the_entry
use Rattle.keep_journal.specs.declared.event.Event.{Event}
use Rattle.keep_journal.specs.Lasting.{entry_at}
use Rattle.keep_shelf.specs.Shelved.{Content}
use Rattle.keep_shelf.specs.declared.key.Key.{Key}
use Rattle.keep_shelf.specs.declared.key.Key.TheVariants.{Live, Trash, Entry}
use Rattle.keep_entries.specs.Entry.{IsEntry, SaysNothing}
use Rattle.keep_moves.specs.Move.{Stand}
use Rattle.keep_moves.specs.Standing.{trashed}
use Rattle.keep_reading.specs.Bad.{first_bad, first_bad_after, is_bad}
use Rattle.keep_reading.specs.Leaves.{AreLeaves, IsLeaf, Tells, entries_of, leaf_at}
use Rattle.keep_reading.specs.Lists.{IsListed, Lists}
use Rattle.keep_reading.specs.Reads.{Reads, told}
use Rattle.keep_reading.specs.Settled.{settled}
use Rattle.keep_reading.specs.declared.leaf.Leaf.{Leaf}
use Rattle.keep_reading.proofs.Ascending.{all_found, found_holds, found_number, rises_from_sorted}
use Rattle.keep_reading.proofs.Bad.{one_is_bad}
use Rattle.keep_reading.proofs.Listed.{lists_same}
use Rattle.keep_opening.specs.Wanted.{is_files}
use Rattle.keep_opening.proofs.Glued.{live_found}
use Rattle.keep_damage.specs.Asked.{IsAsked, asked_live, live_of}
use Rattle.keep_damage.specs.Blame.{IsToBlame, IsWrongAt, SameEntries}
use Rattle.keep_damage.specs.Compared.{difference_at, difference_between}
use Rattle.keep_damage.specs.Entries.{entry_finding, sign_of}
use Rattle.keep_damage.specs.Teller.{teller_of}
use Rattle.keep_damage.specs.declared.finding.Finding.{Finding}
use Rattle.keep_damage.specs.declared.finding.Finding.TheVariants.{NoEntry, Misplaced, OtherBytes, Untold, Missing}
use Rattle.keep_damage.proofs.Still.{live_as_asked}

-- ---- files

-- what is read with the same entries is read of the same journal
same_told : (stand other : Stand) (es : List the_entry.Entry) (o : Repository) (i : Journal) → Lists stand es → SameEntries stand other → Reads other o i → i ≡ told es
same_told stand other es o i lists same reads =
    let listed : Lists other es = record {
      each = lists.each;
      ascending = lists.ascending;
      listed = λ k. subst (λ (b : Option (List ℕ)). IsListed b (entry_at es k)) (sym (same k)) (lists.listed k);
    } in
    reads.tells ∙ ap told (lists_same other reads.entries es reads.lists listed)

module _ (stand : Stand) (es : List the_entry.Entry) (lists : Lists stand es) (there asked : Content)
    (made : finite.get there ≡ settled (told es) stand) (is_asked : IsAsked (told es) there asked) where
  live_there : (name : FileName) → finite.get (live_of there) name ≡ finite.get there (Live name)
  live_there name = live_found there (record { files = finite.empty; marks = finite.empty }) name refl

  -- a key under which the same stands where something is read has there what is asked
  key_as_asked : (q : Key) → is_files q ≡ true → (other : Stand) (o : Repository) (i : Journal) → SameEntries stand other → settled i other q ≡ settled i stand q → Reads other o i
      → finite.get asked q ≡ finite.get there q
  key_as_asked (Live name) file other o i same here reads =
      let is : i ≡ told es = same_told stand other es o i lists same reads in
      let live : finite.get reads.live.files name ≡ finite.get (live_of there) name =
      sym (reads.files name) ∙ here ∙ ap (λ (k : Journal). settled k stand (Live name)) is ∙ ap (λ (g : Stand). g (Live name)) (sym made) ∙ sym (live_there name) in
      let as_asked = live_as_asked i o (live_of there) name reads.is_open.unbroken (ap (λ (r : Repository). finite.get r.files name) (sym reads.is_open.state) ∙ live) in
      is_asked.live name ∙ ap (λ (k : Journal). finite.get (asked_live k (live_of there)) name) (sym is) ∙ as_asked ∙ live_there name
  key_as_asked (Trash n name) file other o i same here reads =
      let is : i ≡ told es = same_told stand other es o i lists same reads in
      is_asked.trash n name ∙ sym (subst (λ (k : Journal). settled k other (Trash n name) ≡ trashed k n name) is (reads.trash n name))
      ∙ ap (λ (k : Journal). settled k other (Trash n name)) (sym is) ∙ here
      ∙ ap (λ (k : Journal). settled k stand (Trash n name)) is ∙ ap (λ (g : Stand). g (Trash n name)) (sym made)
  key_as_asked (Entry k) file other o i same here reads = cc file

  -- what differs is wrong
  wrong_at : (q : Key) → is_files q ≡ true → (finite.get there q ≡ finite.get asked q → ⊥) → IsWrongAt stand q
  wrong_at q file differ other o i same here reads = differ (sym (key_as_asked q file other o i same here reads))

  between : (q : Key) (f : Finding) (t a : Option (List ℕ)) → difference_between (told es) q t a ≡ Some f → ((t ≡ a → ⊥) → IsWrongAt stand q) → IsToBlame stand f
  between q f (Some t) (Some a) found wrong = by (bytes_eq t a) refl found
    where
      by : (b : Bool) → bytes_eq t a ≡ b → cond b None (Some (OtherBytes q (teller_of (told es) q))) ≡ Some f → IsToBlame stand f
      by true is none = cc none
      by false is some =
          subst (IsToBlame stand) (same_Some (OtherBytes q (teller_of (told es) q)) f some)
          (wrong (λ same. cc (is, (bytes_eq-Decides t a).1 (same_Some t a same))))
  between q f (Some t) None found wrong = subst (IsToBlame stand) (same_Some (Untold q) f found) (wrong (λ same. cc same))
  between q f None (Some a) found wrong = subst (IsToBlame stand) (same_Some (Missing q) f found) (wrong (λ same. cc same))
  between q f None None found wrong = cc found

  pub difference_blames : (q : Key) (f : Finding) → difference_at (told es) there asked q ≡ Some f → IsToBlame stand f
  difference_blames q f found = by (is_files q) refl found
    where
      by : (b : Bool) → is_files q ≡ b → cond b (difference_between (told es) q (finite.get there q) (finite.get asked q)) None ≡ Some f → IsToBlame stand f
      by true file is = between q f (finite.get there q) (finite.get asked q) is (wrong_at q file)
      by false file is = cc is

-- ---- entries

abbrev number_of : the_entry.Entry → ℕ
number_of e = e.at

abbrev place_of : Leaf → ℕ
place_of leaf = leaf.at

no_entry : (other : Stand) (o : Repository) (j : Journal) (n : ℕ) (bytes : List ℕ) → other (Entry n) ≡ Some bytes → SaysNothing n bytes → Reads other o j → ⊥
no_entry other o j n bytes is tells reads =
    by (entry_at reads.entries n) refl (subst (λ (b : Option (List ℕ)). IsListed b (entry_at reads.entries n)) is (reads.lists.listed n))
  where
    by : (a : Option the_entry.Entry) → entry_at reads.entries n ≡ a → IsListed (Some bytes) a → ⊥
    by None found spells = spells
    by (Some e) found spells =
        let entry : IsEntry e = found_holds number_of IsEntry reads.entries n e reads.lists.each found in
        let at : e.at ≡ n = found_number number_of reads.entries n e found in
        tells e.event (subst (λ (k : ℕ). IsEntry (record { at = k; event = e.event })) at entry) spells

other_leaves : (stand other : Stand) (leaves : List Leaf) → AreLeaves stand leaves → SameEntries stand other → AreLeaves other leaves
other_leaves stand other leaves are same = record {
  ascend = are.ascend;
  each = λ k. subst (λ (b : Option (List ℕ)). IsLeaf b (leaf_at leaves k)) (sym (same k)) (are.each k);
}

pub entries_blame : (stand : Stand) (leaves : List Leaf) (first : ℕ) → AreLeaves stand leaves → first_bad leaves ≡ Some first
    → AllByRecursion (λ leaf. (f : Finding) → entry_finding first (sign_of leaf) ≡ Some f → IsToBlame stand f) leaves
entries_blame stand leaves first are bad =
    all_found place_of (λ leaf. (f : Finding) → entry_finding first (sign_of leaf) ≡ Some f → IsToBlame stand f) leaves (rises_from_sorted place_of leaves are.ascend)
    (λ k leaf found f is. one k (stand (Entry k)) refl leaf (found_number place_of leaves k leaf found)
    (subst (λ (o : Option Leaf). IsLeaf (stand (Entry k)) o) found (are.each k)) f is)
  where
    misplaced : IsToBlame stand (Misplaced first)
    misplaced other o j same reads = one_is_bad other leaves first o j (other_leaves stand other leaves are same) bad reads

    event : (n : ℕ) (bytes : List ℕ) (e : Option Event) → stand (Entry n) ≡ Some bytes → Tells n bytes e → (f : Finding)
        → cond (is_some e) (cond (n == first) (Some (Misplaced n)) None) (Some (NoEntry n)) ≡ Some f → IsToBlame stand f
    event n bytes None is tells f found =
        subst (IsToBlame stand) (same_Some (NoEntry n) f found) (λ other o j same reads. no_entry other o j n bytes (same ∙ is) tells reads)
    event n bytes (Some e) is tells f found = by (n == first) found
      where
        by : (b : Bool) → cond b (Some (Misplaced n)) None ≡ Some f → IsToBlame stand f
        by true some = subst (IsToBlame stand) (same_Some (Misplaced n) f some) misplaced
        by false none = cc none

    one : (k : ℕ) (b : Option (List ℕ)) → stand (Entry k) ≡ b → (leaf : Leaf) → leaf.at ≡ k → IsLeaf b (Some leaf) → (f : Finding) → entry_finding first (sign_of leaf) ≡ Some f → IsToBlame stand f
    one k None is leaf at tells f found = absurd tells
    one k (Some bytes) is leaf at tells f found = event leaf.at bytes leaf.event (ap (λ n. stand (Entry n)) at ∙ is) tells f found

-- the first one with which something is wrong is found
pub first_found : (f : ℕ) (before : List the_entry.Entry) (leaves : List Leaf) (first : ℕ) → first_bad_after f before leaves ≡ Some first
    → filter_map (entry_finding first) (map sign_of leaves) ≡ [] → ⊥
first_found f before [] first bad none = cc bad
first_found f before (leaf ∷ leaves) first bad none =
    by (λ is empty. first_found f (before ++ entries_of (leaf ∷ [])) leaves first is empty) (is_bad f before leaf) bad
  where
    rest : List Finding
    rest = filter_map (entry_finding first) (map sign_of leaves)

    later : (o : Option Finding) → cons_option o rest ≡ [] → rest ≡ []
    later None h = h
    later (Some y) h = cc h

    here : (e : Option Event) (b : Bool) → b ≡ true → cons_option (cond (is_some e) (cond b (Some (Misplaced leaf.at)) None) (Some (NoEntry leaf.at))) rest ≡ [] → ⊥
    here None b is h = cc h
    here (Some e) true is h = cc h
    here (Some e) false is h = cc is

    by : (first_bad_after f (before ++ entries_of (leaf ∷ [])) leaves ≡ Some first → rest ≡ [] → ⊥)
        → (b : Bool) → cond b (Some leaf.at) (first_bad_after f (before ++ entries_of (leaf ∷ [])) leaves) ≡ Some first → ⊥
    by past true is = here leaf.event (leaf.at == first) (eq-eqb leaf.at first (same_Some leaf.at first is)) none
    by past false is = past is (later (entry_finding first (sign_of leaf)) none)
