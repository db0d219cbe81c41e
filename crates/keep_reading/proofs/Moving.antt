-- A move of the last event is made: what the shelf says stays.
use Rattle.std.proofs.Common.{◌≡◌, ℕ, zero, suc, nat_le, Bool, true, false, cond, List, [], ◌∷◌, Option, Some, None, refl, sym, ap, ◌∙◌, arith, subst}
use Rattle.std.specs.FinMap as finite
use Rattle.std.specs.Option.{option_map_or, unwrap_or}
use Rattle.std.proofs.lemmas.Bool.{leb-false}
use Rattle.keep_repo.specs.Repository.{Repository}
use Rattle.keep_change.specs.Marks.{marks_of}
use Rattle.keep_journal.specs.History.{final_number, last_marks}
use Rattle.keep_journal.specs.Journal.{Journal}
use Rattle.keep_journal.specs.declared.event.Entry as the_entry
use Rattle.keep_journal.specs.declared.event.Event.{Event}
use Rattle.keep_journal.specs.declared.event.EventKind.{EventKind}
use Rattle.keep_journal.specs.declared.event.EventKind.TheVariants.{Commit, Undo, Redo, Empty}
use Rattle.keep_journal.specs.Lasting.{Follow, entry_at, lasting_among, lasting}
use Rattle.keep_journal.proofs.KeptTold.{marks_is}
use Rattle.keep_shelf.specs.Shelved.{called}
use Rattle.keep_shelf.specs.declared.key.Key.{Key}
use Rattle.keep_shelf.specs.declared.key.Key.TheVariants.{Live, Trash, Entry}
use Rattle.keep_moves.specs.Calls.{made_in}
use Rattle.keep_moves.specs.Lists.{moves_by}
use Rattle.keep_moves.specs.Move.{AllApart, CanMake, Stand, finished_all, moved, remains}
use Rattle.keep_moves.specs.declared.moves.Move.{Move}
use Rattle.keep_moves.specs.declared.moves.Move.TheVariants.{Put, Shift, Erase}
use Rattle.keep_moves.proofs.Apart.{first_remains, one_made, outside, rest_can}
use Rattle.keep_moves.proofs.Keys.{key_eq_apart}
use Rattle.keep_moves.proofs.Played.{made_stands}
use Rattle.keep_reading.specs.Lists.{IsListed, Lists}
use Rattle.keep_reading.specs.Reads.{Reads, all_of, marks_in, told}
use Rattle.keep_reading.specs.Settled.{cleared, last_event, settled_by}
use Rattle.keep_reading.specs.Due.{BelongsBy, BelongsTo, IsAmong, IsErasure, IsOver}
use Rattle.keep_reading.specs.Laws.{AMoveReads, MovesRead}
use Rattle.keep_reading.proofs.Without.{final_without, follow_without, idle, lists_without, told_without, without}

-- ---- at the keys of files

abbrev IsFile : Key → Type 0
IsFile (Live name) = Unit {0}
IsFile (Trash n name) = Unit {0}
IsFile (Entry k) = ⊥

among_settles : (ms : List Move) (m : Move) (stand : Stand) → IsAmong ms m → remains stand m ≡ true → finished_all ms (moved m stand) ≡ finished_all ms stand
among_settles ms m stand among remain =
    subst (λ ns. finished_all ns (moved m stand) ≡ finished_all ns stand) (sym among.is)
    (one_made among.before m among.later stand (subst AllApart among.is among.apart) remain)

-- what is over is gone from what is settled
over_settles : (n : ℕ) (j : Journal) (key : Key) (stand : Stand) → IsOver n j key → (q : Key) → IsFile q → cleared n (moved (Erase key) stand) q ≡ cleared n stand q
over_settles n j (Live x) stand over q file = absurd over
over_settles n j (Entry i) stand over (Live name) file = refl
over_settles n j (Entry i) stand over (Trash m name) file = refl
over_settles n j (Entry i) stand over (Entry k) file = absurd file
over_settles n j (Trash l x) stand over (Live name) file = refl
over_settles n j (Trash l x) stand over (Entry k) file = absurd file
over_settles n j (Trash l x) stand over (Trash m name) file = by (nat_le m n) refl
  where
    number : Trash m name ≡ Trash l x → m ≡ l
    number same = cc

    by : (b : Bool) → nat_le m n ≡ b → cond b None (moved (Erase (Trash l x)) stand (Trash m name)) ≡ cond b None (stand (Trash m name))
    by true upto = refl
    by false above =
        ap (λ t. cond t None (stand (Trash m name)))
        (key_eq_apart (Trash m name) (Trash l x) (λ same. omega (arith, number same, leb-false m n above)))

erasure_settles : (n : ℕ) (j : Journal) (m : Move) (stand : Stand) → IsErasure n j m → (q : Key) → IsFile q → cleared n (moved m stand) q ≡ cleared n stand q
erasure_settles n j (Put key bytes) stand over q file = absurd over
erasure_settles n j (Shift from to) stand over q file = absurd over
erasure_settles n j (Erase key) stand over q file = over_settles n j key stand over q file

settles_by : (j : Journal) (n : ℕ) (kind : EventKind) (m : Move) (stand : Stand) → BelongsBy j n kind m → remains stand m ≡ true → (q : Key) → IsFile q
    → settled_by j n kind (moved m stand) q ≡ settled_by j n kind stand q
settles_by j n (Commit c) m stand among remain q file = ap (λ (g : Stand). g q) (among_settles (moves_by j n (Commit c)) m stand among remain)
settles_by j n Undo m stand among remain q file = ap (λ (g : Stand). g q) (among_settles (moves_by j n Undo) m stand among remain)
settles_by j n Redo m stand among remain q file = ap (λ (g : Stand). g q) (among_settles (moves_by j n Redo) m stand among remain)
settles_by j n (Empty marks) m stand over remain q file = erasure_settles n j m stand over q file

settles : (j : Journal) (o : Option Event) (m : Move) (stand : Stand) → BelongsTo j o m → remains stand m ≡ true → (q : Key) → IsFile q
    → option_map_or (λ e. settled_by j e.number e.kind (moved m stand)) o (moved m stand) q ≡ option_map_or (λ e. settled_by j e.number e.kind stand) o stand q
settles j None m stand belongs remain q file = absurd belongs
settles j (Some e) m stand belongs remain q file = settles_by j e.number e.kind m stand belongs remain q file

-- ---- at the keys of entries

-- what the entries say
record Says (stand : Stand) (opening : Repository) (j : Journal) : Type 0 where
  entries : List the_entry.Entry
  lists : Lists stand entries
  follow : Follow 0 entries
  tells : j ≡ told entries
  marks : marks_of opening ≡ marks_in entries

-- where all entries stay
says_still : (stand : Stand) (opening : Repository) (j : Journal) (m : Move) → Reads stand opening j → ((k : ℕ) → moved m stand (Entry k) ≡ stand (Entry k)) → Says (moved m stand) opening j
says_still stand opening j m r same = record {
  entries = r.entries;
  lists = record {
    each = r.lists.each;
    ascending = r.lists.ascending;
    listed = λ k. subst (λ o. IsListed o (entry_at r.entries k)) (sym (same k)) (r.lists.listed k);
  };
  follow = r.follow;
  tells = r.tells;
  marks = r.marks;
}

-- where one goes that tells nothing
says_without : (stand : Stand) (opening : Repository) (j : Journal) (k : ℕ) → Reads stand opening j → entry_at j.entries k ≡ None → Says (moved (Erase (Entry k)) stand) opening j
says_without stand opening j k r over =
    let f = final_number (all_of r.entries) in
    let silent = idle k f r.entries (subst (λ (i : Journal). entry_at i.entries k ≡ None) r.tells over) in
    let same : told (without k r.entries) ≡ told r.entries =
    ap (λ g. record { base = g; entries = lasting_among g (without k r.entries) }) (final_without k f r.entries 0 0 silent refl (λ so. so))
    ∙ ap (λ es. record { base = f; entries = es }) (told_without k f r.entries silent) in
    record {
      entries = without k r.entries;
      lists = lists_without k stand r.entries r.lists;
      follow = follow_without k 0 0 r.entries r.follow (omega arith);
      tells = r.tells ∙ sym same;
      marks = r.marks ∙ ap (λ o. unwrap_or o []) (sym (marks_is (all_of r.entries)) ∙ ap last_marks (sym same) ∙ marks_is (all_of (without k r.entries)));
    }

says_erased : (stand : Stand) (opening : Repository) (j : Journal) (n : ℕ) (m : Move) → Reads stand opening j → IsErasure n j m → Says (moved m stand) opening j
says_erased stand opening j n (Put key bytes) r over = absurd over
says_erased stand opening j n (Shift from to) r over = absurd over
says_erased stand opening j n (Erase (Live name)) r over = absurd over
says_erased stand opening j n (Erase (Trash l name)) r over = says_still stand opening j (Erase (Trash l name)) r (λ k. refl)
says_erased stand opening j n (Erase (Entry k)) r over = says_without stand opening j k r over

says_among : (stand : Stand) (opening : Repository) (j : Journal) (ms : List Move) (m : Move) → Reads stand opening j → IsAmong ms m → Says (moved m stand) opening j
says_among stand opening j ms m r among = says_still stand opening j m r (λ k. outside m stand (Entry k) (among.off k))

says_by : (stand : Stand) (opening : Repository) (j : Journal) (n : ℕ) (kind : EventKind) (m : Move) → Reads stand opening j → BelongsBy j n kind m → Says (moved m stand) opening j
says_by stand opening j n (Commit c) m r among = says_among stand opening j (moves_by j n (Commit c)) m r among
says_by stand opening j n Undo m r among = says_among stand opening j (moves_by j n Undo) m r among
says_by stand opening j n Redo m r among = says_among stand opening j (moves_by j n Redo) m r among
says_by stand opening j n (Empty marks) m r over = says_erased stand opening j n m r over

says : (stand : Stand) (opening : Repository) (j : Journal) (o : Option Event) (m : Move) → Reads stand opening j → BelongsTo j o m → Says (moved m stand) opening j
says stand opening j None m r belongs = absurd belongs
says stand opening j (Some e) m r belongs = says_by stand opening j e.number e.kind m r belongs

-- ---- at all of them

pub a_move_reads : AMoveReads
a_move_reads stand opening j m r belongs remain =
    let said = says stand opening j (last_event j) m r belongs in
    record {
      entries = said.entries;
      lists = said.lists;
      follow = said.follow;
      tells = said.tells;
      marks = said.marks;
      live = r.live;
      is_open = r.is_open;
      files = λ name. settles j (last_event j) m stand belongs remain (Live name) tt ∙ r.files name;
      trash = λ n name. settles j (last_event j) m stand belongs remain (Trash n name) tt ∙ r.trash n name;
    }

pub moves_read : MovesRead
moves_read opening j due s zero read can = (tt, read)
moves_read opening j [] s (suc i) read can = (tt, read)
moves_read opening j (m ∷ due) s (suc i) read can =
    let remain = first_remains m due (finite.get s.content) can in
    let stands = made_stands m s.content remain in
    let next : Reads (finite.get (made_in m s.content)) opening (lasting j) =
    subst (λ (g : Stand). Reads g opening (lasting j)) (sym stands) (a_move_reads (finite.get s.content) opening (lasting j) m read.reads read.belong.0 remain) in
    let rest = moves_read opening j due (called s (made_in m s.content)) i (record { reads = next; belong = read.belong.1 })
    (subst (CanMake due) (sym stands) (rest_can m due (finite.get s.content) can)) in
    ((next, rest.0), rest.1)
