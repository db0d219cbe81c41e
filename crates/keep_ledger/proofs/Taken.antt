-- A shelf that has live files alone says that nothing happened.
use Rattle.std.proofs.Common.{◌≡◌, ◌∙◌, ℕ, ◌≤◌, Bool, true, false, cond, List, [], ◌∷◌, length, map, Option, Some, None, is_some, ap, refl, sym, subst}
use Rattle.std.specs.Prelude.{nat_le}
use Rattle.std.specs.FinMap as finite
use Rattle.std.specs.List.{filter_map, list_all, list_any}
use Rattle.std.proofs.lemmas.List.Elements.{All-nil}
use Rattle.keep_names.proofs.Orders.{name_total}
use Rattle.keep_names.specs.Orders.{id_cmp, name_cmp}
use Rattle.keep_names.specs.declared.file_name.FileName.{FileName}
use Rattle.keep_repo.proofs.Maps.{no_entries}
use Rattle.keep_change.specs.Fold.{Numbered, fold_of}
use Rattle.keep_change.specs.Form.{IsWellFormed}
use Rattle.keep_change.specs.Limits.{facet_limit}
use Rattle.keep_change.specs.Marks.{pack_mark}
use Rattle.keep_change.specs.Touch.{facets}
use Rattle.keep_journal.specs.Kept.{kept}
use Rattle.keep_journal.proofs.Legal.{none_numbered}
use Rattle.keep_shelf.specs.Key.{key_cmp}
use Rattle.keep_shelf.specs.Shelved.{Content}
use Rattle.keep_shelf.specs.declared.key.Key.{Key}
use Rattle.keep_shelf.specs.declared.key.Key.TheVariants.{Live, Trash, Entry}
use Rattle.keep_moves.specs.Move.{key_eq}
use Rattle.keep_reading.specs.Lists.{IsListed}
use Rattle.keep_reading.specs.Reads.{Reads}
use Rattle.keep_reading.proofs.Checked.{one_reading_lem}
use Rattle.keep_ledger.specs.Opened.{FilesAloneAreOpened, is_live, live_file, live_on}

-- ---- the live files

either : {A : Type 0} (b : Bool) (x : A) → x ≡ cond b x x
either true x = refl
either false x = refl

find_live : (name : FileName) (es : List (Key × List ℕ))
    → finite.find name_cmp name (filter_map (λ (e : Key × List ℕ). live_file e.0 e.1) es) ≡ finite.find key_cmp (Live name) es
find_live name [] = refl
find_live name ((Live other, bytes) ∷ es) = ap (cond (key_eq (Live name) (Live other)) (Some bytes)) (find_live name es)
find_live name ((Trash n other, bytes) ∷ es) = find_live name es
find_live name ((Entry k, bytes) ∷ es) = find_live name es

pub live_at : (content : Content) (name : FileName) → finite.get (live_on content).files name ≡ finite.get content (Live name)
live_at content name =
    finite.get-from_entries name_total (filter_map (λ (e : Key × List ℕ). live_file e.0 e.1) (finite.entries content)) name
    ∙ find_live name (finite.entries content) ∙ sym (finite.get-entries content (Live name))

-- ---- nothing else stands there

no_trash : (n : ℕ) (name : FileName) (keys : List Key) → list_all is_live keys ≡ true → list_any (key_eq (Trash n name)) keys ≡ false
no_trash n name [] live = refl
no_trash n name (Live other ∷ keys) live = no_trash n name keys live
no_trash n name (Trash m other ∷ keys) live = cc live
no_trash n name (Entry k ∷ keys) live = cc live

no_entry : (i : ℕ) (keys : List Key) → list_all is_live keys ≡ true → list_any (key_eq (Entry i)) keys ≡ false
no_entry i [] live = refl
no_entry i (Live other ∷ keys) live = no_entry i keys live
no_entry i (Trash m other ∷ keys) live = cc live
no_entry i (Entry k ∷ keys) live = cc live

nothing_at : (o : Option (List ℕ)) → is_some o ≡ false → o ≡ None
nothing_at None e = refl
nothing_at (Some x) e = cc e

-- where all keys are those of live files, they say that nothing happened
pub says_nothing : (content : Content) → list_all is_live (finite.keys content) ≡ true → Reads (finite.get content) (live_on content) (record { base = 0; entries = [] })
says_nothing content live = record {
  entries = [];
  lists = record { each = tt; ascending = tt; listed = λ k. subst (λ o. IsListed o None) (sym (no_bytes k)) tt };
  follow = tt;
  tells = refl;
  marks = ap (map pack_mark) (no_entries id_cmp);
  live = live_on content;
  is_open = record {
    numbered = none_numbered 0;
    legal = tt;
    formed = All-nil (λ (c : Numbered). IsWellFormed c.change);
    within = All-nil (λ (c : Numbered). length (facets c.change) ≤ facet_limit);
    unbroken = refl;
    state = refl;
    marks = tt;
  };
  files = λ name. sym (live_at content name);
  trash = λ n name. nothing_at _ (finite.contains_key-keys content (Trash n name) ∙ no_trash n name (finite.keys content) live) ∙ either (nat_le n 0) None;
}
  where
    no_bytes : (k : ℕ) → finite.get content (Entry k) ≡ None
    no_bytes k = nothing_at _ (finite.contains_key-keys content (Entry k) ∙ no_entry k (finite.keys content) live)

-- so they are opened
pub files_alone : FilesAloneAreOpened
files_alone = record {
  fresh = λ s b live is.
      let same = one_reading_lem (finite.get s.content) b.state.opening (live_on s.content) b.state.events (record { base = 0; entries = [] }) is.reads (says_nothing s.content live) in
      let whole : b.state.live ≡ live_on s.content = is.is_open.state ∙ ap (λ j. fold_of (kept j) b.state.opening) same.1 ∙ same.0 in
      λ i. record { opening = same.0 i; events = same.1 i; live = whole i };
  taken = λ s k live refused. refused.unread (live_on s.content) (record { base = 0; entries = [] }) (says_nothing s.content live);
}
