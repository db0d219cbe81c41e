-- What holds wherever the program stops.
use Rattle.std.proofs.Common.{◌≡◌, ℕ, Bool, ◌⊎◌, inl, inr, List, [], ◌∷◌, ◌++◌, refl, sym, ap, ◌∙◌, subst, append_assoc}
use Rattle.std.proofs.lemmas.List.{append-nil}
use Rattle.keep_files.specs.Act.{Act, CanDo, HasFailed, Made, Removed, Renamed, Seen, Synced, Wrote, after, done, failed}
use Rattle.keep_files.specs.Stands.{Stands}
use Rattle.keep_files.specs.declared.tree_error.TreeError.{TreeError}
use Rattle.keep_files.specs.declared.tree_error.TreeError.TheVariants.{Broken, Unknown}
use Rattle.keep_keyed_folder.specs.Order.{AreSynced}
use Rattle.keep_keyed_folder.specs.Stops.{HoldsAtStops, HoldsWithin, Keeps, after_all}

after-append : (stands : Stands) (first next : List Act) → after_all stands (first ++ next) ≡ after_all (after_all stands first) next
after-append stands [] next = refl
after-append stands (act ∷ first) next = after-append (after stands act) first next

stops-append : (P : Stands → Type 0) (stands : Stands) (first next : List Act) → HoldsAtStops P stands first → HoldsAtStops P (after_all stands first) next → HoldsAtStops P stands (first ++ next)
stops-append P stands [] next h k = k
stops-append P stands (act ∷ first) next h k = (h.0, h.1, stops-append P (after stands act) first next h.2 k)

stops_end : (P : Stands → Type 0) (stands : Stands) (acts : List Act) → HoldsAtStops P stands acts → P (after_all stands acts)
stops_end P stands [] h = h
stops_end P stands (act ∷ acts) h = stops_end P (after stands act) acts h.2

within_weaker : (P Q : Stands → Type 0) (stands : Stands) (act : Act) → ((s : Stands) → P s → Q s) → HoldsWithin P stands act → HoldsWithin Q stands act
within_weaker P Q stands (Wrote path bytes) follows h = λ part. follows _ (h part)
within_weaker P Q stands (Renamed from to) follows h = follows stands h
within_weaker P Q stands (Removed path) follows h = follows stands h
within_weaker P Q stands (Made path) follows h = follows stands h
within_weaker P Q stands (Synced path) follows h = follows stands h

stops_weaker : (P Q : Stands → Type 0) (stands : Stands) (acts : List Act) → ((s : Stands) → P s → Q s) → HoldsAtStops P stands acts → HoldsAtStops Q stands acts
stops_weaker P Q stands [] follows h = follows stands h
stops_weaker P Q stands (act ∷ acts) follows h = (follows stands h.0, within_weaker P Q stands act follows h.1, stops_weaker P Q (after stands act) acts follows h.2)

pub keeps_weaker : (P Q : Stands → Type 0) (old new : Seen) → ((s : Stands) → P s → Q s) → Keeps P old new → Keeps Q old new
keeps_weaker P Q old new follows h = record {
  added = h.added;
  acts = h.acts;
  stands = h.stands;
  stops = stops_weaker P Q old.stands h.added follows h.stops;
}

-- it holds at the end too
pub keeps_end : (P : Stands → Type 0) (old new : Seen) → Keeps P old new → P new.stands
keeps_end P old new h = subst P (sym h.stands) (stops_end P old.stands h.added h.stops)

-- nothing was done
pub keeps_still : (P : Stands → Type 0) (old new : Seen) → P old.stands → new.acts ≡ old.acts → new.stands ≡ old.stands → Keeps P old new
keeps_still P old new h acts stands = record {
  added = [];
  acts = acts ∙ sym (append-nil old.acts);
  stands = stands;
  stops = h;
}

pub keeps_failing : (P : Stands → Type 0) (old new : Seen) → P old.stands → new ≡ failed old → Keeps P old new
keeps_failing P old new h is = keeps_still P old new h (ap (λ (s : Seen). s.acts) is) (ap (λ (s : Seen). s.stands) is)

pub keeps_then : (P : Stands → Type 0) (old mid new : Seen) → Keeps P old mid → Keeps P mid new → Keeps P old new
keeps_then P old mid new first next = record {
  added = first.added ++ next.added;
  acts = next.acts ∙ ap (λ l. l ++ next.added) first.acts ∙ append_assoc old.acts first.added next.added;
  stands = next.stands ∙ ap (λ s. after_all s next.added) first.stands ∙ sym (after-append old.stands first.added next.added);
  stops = stops-append P old.stands first.added next.added first.stops (subst (λ s. HoldsAtStops P s next.added) first.stands next.stops);
}

-- one act was done
pub keeps_done : (P : Stands → Type 0) (old new : Seen) (act : Act) → new ≡ done old act → P old.stands → HoldsWithin P old.stands act → P (after old.stands act) → Keeps P old new
keeps_done P old new act is before within ends = record {
  added = act ∷ [];
  acts = ap (λ (s : Seen). s.acts) is;
  stands = ap (λ (s : Seen). s.stands) is;
  stops = (before, within, ends);
}

keeps_maybe : (P : Stands → Type 0) (old new : Seen) (act : Act) → (new ≡ failed old) ⊎ (CanDo old.stands act × (new ≡ failed (done old act))) → P old.stands → HoldsWithin P old.stands act → (CanDo old.stands act → P (after old.stands act)) → Keeps P old new
keeps_maybe P old new act (inl is) before within ends = keeps_failing P old new before is
keeps_maybe P old new act (inr h) before within ends = record {
  added = act ∷ [];
  acts = ap (λ (s : Seen). s.acts) h.1;
  stands = ap (λ (s : Seen). s.stands) h.1;
  stops = (before, within, ends h.0);
}

-- one act failed
pub keeps_failed : (P : Stands → Type 0) (old new : Seen) (act : Act) (e : TreeError) → HasFailed old act e new → P old.stands → HoldsWithin P old.stands act → (CanDo old.stands act → P (after old.stands act)) → Keeps P old new
keeps_failed P old new act Broken h before within ends = keeps_failing P old new before h
keeps_failed P old new (Wrote path bytes) Unknown (inl is) before within ends = keeps_failing P old new before is
keeps_failed P old new (Wrote path bytes) Unknown (inr h) before within ends = keeps_maybe P old new (Wrote path h.0) (inr h.1) before within (λ _. within h.0)
keeps_failed P old new (Renamed from to) Unknown h before within ends = keeps_maybe P old new (Renamed from to) h before within ends
keeps_failed P old new (Removed path) Unknown h before within ends = keeps_maybe P old new (Removed path) h before within ends
keeps_failed P old new (Made path) Unknown h before within ends = keeps_maybe P old new (Made path) h before within ends
keeps_failed P old new (Synced path) Unknown h before within ends = keeps_maybe P old new (Synced path) h before within ends

synced_after : (stands : Stands) (path : List ℕ) (s : Bool) (acts : List Act) → AreSynced s (path ∷ []) acts → after_all stands acts ≡ stands
synced_after stands path s [] h = refl
synced_after stands path s (Synced folder ∷ rest) h = ap (after_all stands) h.1
synced_after stands path s (Wrote other bytes ∷ rest) h = absurd h
synced_after stands path s (Renamed from to ∷ rest) h = absurd h
synced_after stands path s (Removed other ∷ rest) h = absurd h
synced_after stands path s (Made other ∷ rest) h = absurd h

synced_stops : (P : Stands → Type 0) (stands : Stands) (path : List ℕ) (s : Bool) (acts : List Act) → P stands → AreSynced s (path ∷ []) acts → HoldsAtStops P stands acts
synced_stops P stands path s [] h holders_synced = h
synced_stops P stands path s (Synced folder ∷ rest) h holders_synced = (h, h, subst (HoldsAtStops P stands) (sym holders_synced.1) h)
synced_stops P stands path s (Wrote other bytes ∷ rest) h holders_synced = absurd holders_synced
synced_stops P stands path s (Renamed from to ∷ rest) h holders_synced = absurd holders_synced
synced_stops P stands path s (Removed other ∷ rest) h holders_synced = absurd holders_synced
synced_stops P stands path s (Made other ∷ rest) h holders_synced = absurd holders_synced

-- a folder was synced, or that failed
pub keeps_synced : (P : Stands → Type 0) (old new : Seen) (path : List ℕ) (s : Bool) → P old.stands → new.stands ≡ old.stands
    → ((synced : List Act) × AreSynced s (path ∷ []) synced × (new.acts ≡ old.acts ++ synced)) → Keeps P old new
keeps_synced P old new path s h stands holders_synced = record {
  added = holders_synced.0;
  acts = holders_synced.2;
  stands = stands ∙ sym (synced_after old.stands path s holders_synced.0 holders_synced.1);
  stops = synced_stops P old.stands path s holders_synced.0 h holders_synced.1;
}
