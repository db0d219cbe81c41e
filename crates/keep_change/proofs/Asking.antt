-- A change is met where the repository has just what each of its lists asks for.
use Rattle.std.proofs.Common.{◌≡◌, ℕ, Bool, true, false, List, [], ◌∷◌, ◌++◌, map, Option, Some, None, refl, ap, ◌∙◌}
use Rattle.std.specs.Prelude.{All, IsSome, is_none, is_some}
use Rattle.std.specs.FinMap as finite
use Rattle.std.specs.List.{list_all}
use Rattle.std.specs.Option.{option_map}
use Rattle.std.proofs.lemmas.Bool.{and_from}
use Rattle.std.proofs.lemmas.Bool.Decides.{Decides-int_eq}
use Rattle.std.proofs.lemmas.List.Elements.{All-head, All-tail}
use Rattle.std.proofs.lemmas.List.Folds.{list_all-append}
use Rattle.std.proofs.lemmas.Slice.Eq.{bytes_eq-Decides}
use Rattle.keep_names.specs.declared.file_name.FileName.{FileName}
use Rattle.keep_names.specs.declared.id.Id.{Id}
use Rattle.keep_repo.specs.Facet.{Marked, Stored}
use Rattle.keep_repo.specs.Repository.{Repository, held}
use Rattle.keep_repo.specs.declared.facet.Mark as the_mark
use Rattle.keep_change.specs.Change.{added, cleared, dropped, file_asked, holds_same, is_as_asked, is_as_written, mark_asked, set}
use Rattle.keep_change.specs.Lists.{WhatIsAskedIsMet}
use Rattle.keep_change.specs.NamedBytes.{NamedBytes}
use Rattle.keep_change.specs.declared.change.PackMark.{PackMark}

-- all pass where each does
all_pass : {X W : Type 0} (P : X → Type 0) (p : W → Bool) (f : X → W) (xs : List X) → ((x : X) → P x → p (f x) ≡ true) → All P xs → list_all p (map f xs) ≡ true
all_pass P p f [] passes all = refl
all_pass P p f (x ∷ xs) passes all =
    and_from _ _ (passes x (All-head P x xs all)) (all_pass P p f xs passes (All-tail P x xs all))

both_pass : {W : Type 0} (p : W → Bool) (xs ys : List W) → list_all p xs ≡ true → list_all p ys ≡ true → list_all p (xs ++ ys) ≡ true
both_pass p xs ys first rest = list_all-append p xs ys ∙ and_from _ _ first rest

is_some-option_map : {A B : Type 0} (f : A → B) (o : Option A) → IsSome o → is_some (option_map f o) ≡ true
is_some-option_map f None there = there
is_some-option_map f (Some x) there = refl

add_passes : (r : Repository) (f : NamedBytes) → finite.get r.files f.name ≡ None → is_as_written (held r) (added f) ≡ true
add_passes r f is = ap (λ (o : Option (List ℕ)). holds_same (option_map Stored o) None) is

drop_passes : (r : Repository) (f : NamedBytes) → finite.get r.files f.name ≡ Some f.bytes → is_as_written (held r) (dropped f) ≡ true
drop_passes r f is =
    ap (λ (o : Option (List ℕ)). holds_same (option_map Stored o) (Some (Stored f.bytes))) is ∙ (bytes_eq-Decides f.bytes f.bytes).1 refl

set_passes : (r : Repository) (m : PackMark) → finite.get r.marks m.pack ≡ None → is_as_written (held r) (set m) ≡ true
set_passes r m is = ap (λ (o : Option the_mark.Mark). holds_same (option_map Marked o) None) is

clear_passes : (r : Repository) (m : PackMark) → finite.get r.marks m.pack ≡ Some m.mark → is_as_written (held r) (cleared m) ≡ true
clear_passes r m is =
    ap (λ (o : Option the_mark.Mark). holds_same (option_map Marked o) (Some (Marked m.mark))) is ∙ (Decides-int_eq m.mark.moment m.mark.moment).1 refl

absent_passes : (r : Repository) (name : FileName) → finite.get r.files name ≡ None → is_as_asked (held r) (file_asked false name) ≡ true
absent_passes r name is = ap (λ (o : Option (List ℕ)). is_none (option_map Stored o)) is

unmarked_passes : (r : Repository) (pack : Id) → finite.get r.marks pack ≡ None → is_as_asked (held r) (mark_asked false pack) ≡ true
unmarked_passes r pack is = ap (λ (o : Option the_mark.Mark). is_none (option_map Marked o)) is

pub what_is_asked_is_met_lem : WhatIsAskedIsMet
what_is_asked_is_met_lem c r has =
    let ready = is_as_written (held r) in
    let asks = is_as_asked (held r) in
    and_from _ _
    (both_pass ready (map added c.adds) _ (all_pass _ ready added c.adds (add_passes r) has.adds)
    (both_pass ready (map dropped c.drops) _ (all_pass _ ready dropped c.drops (drop_passes r) has.drops)
    (both_pass ready (map set c.sets) _ (all_pass _ ready set c.sets (set_passes r) has.sets)
    (all_pass _ ready cleared c.clears (clear_passes r) has.clears))))
    (both_pass asks (map (file_asked true) c.present) _
    (all_pass _ asks (file_asked true) c.present (λ name there. is_some-option_map Stored (finite.get r.files name) there) has.present)
    (both_pass asks (map (file_asked false) c.absent) _ (all_pass _ asks (file_asked false) c.absent (absent_passes r) has.absent)
    (both_pass asks (map (mark_asked true) c.marked) _
    (all_pass _ asks (mark_asked true) c.marked (λ pack there. is_some-option_map Marked (finite.get r.marks pack) there) has.marked)
    (all_pass _ asks (mark_asked false) c.unmarked (unmarked_passes r) has.unmarked))))
