-- One thing, put at its place.
use Rattle.std.proofs.Common.{◌≡◌, ℕ, Bool, true, false, cond, ◌⊎◌, inl, inr, Option, Some, None, Result, Ok, Err, OnOk, OnErr, List, [], ◌∷◌, ◌++◌, string_bytes, refl, sym, subst, arith}
use Rattle.std.specs.List.{Contains}
use Rattle.std.specs.Str.{bytes_eq}
use Rattle.std.proofs.lemmas.List.Elements.{Contains-append_left, Contains-append_right, Contains-push}
use Rattle.keep_names.specs.declared.id.Id.{Id}
use Rattle.keep_targets.specs.Call.{Call, Did, MakeFile, MakeFolder, MakeLink}
use Rattle.keep_targets.specs.declared.attributes.Owner.{Owner}
use Rattle.keep_putting.proofs.Care.{still_folder}
use Rattle.keep_putting.specs.Careful.{IsCarefulFrom, IsOwn, IsOwnFolder, IsOwnLink, IsOwnPlace}
use Rattle.keep_putting.specs.Filling.{IsHurt, Source}
use Rattle.keep_putting.specs.Folders.{AreMade, Folders}
use Rattle.keep_putting.specs.Hurts.{why_of}
use Rattle.keep_putting.specs.Leaving.{IsNamedNext}
use Rattle.keep_putting.specs.Places.{IsPlaceOf, placed, root_alone}
use Rattle.keep_putting.specs.Putting.{HasNoPlace, IsFilePut, IsOneDone, IsPut, Stage}
use Rattle.keep_putting.specs.declared.hurt.Hurt.{Hurt}
use Rattle.keep_putting.specs.declared.left_out.Why.{Why}
use Rattle.keep_putting.specs.declared.left_out.Why.TheVariants as why
use Rattle.keep_putting.specs.declared.wanted.Wanted.{Wanted}
use Rattle.keep_putting.specs.declared.wanted.What.{What}

-- a place below a folder that was made
pub place_is_own : (folders : Folders) (calls : List Call) (wanted : Wanted) (place : List ℕ) → AreMade folders calls → IsPlaceOf folders wanted place
    → IsOwnPlace calls place
place_is_own folders calls wanted place made at = record {
  folder = at.folder;
  name = string_bytes at.name;
  own = made at.home at.folder at.made;
  named = at.named;
  leads = at.leads;
}

pub still_made : (folders : Folders) (before after : List Call) → IsCarefulFrom before after → AreMade folders before → AreMade folders after
still_made folders before after course made = λ path place at. still_folder before after place course (made path place at)

-- ---- a folder more

grown : (before after more : List Call) (place : List ℕ) → after ≡ before ++ more → IsOwnFolder before place → IsOwnFolder after place
grown before after more place same (inl root) = inl root
grown before after more place same (inr there) =
    inr (subst (λ c. Contains c (Did (MakeFolder place))) (sym same) (Contains-append_left before more (Did (MakeFolder place)) there))

pick : (b : Bool) (place found : List ℕ) (other : Option (List ℕ)) (after : List Call) → (other ≡ Some found → IsOwnFolder after found)
    → Contains after (Did (MakeFolder place)) → cond b (Some place) other ≡ Some found → IsOwnFolder after found
pick true place found other after old there is =
    let same : place ≡ found = cc is in
    inr (subst (λ p. Contains after (Did (MakeFolder p))) same there)
pick false place found other after old there is = old is

pub after_note : {E : Type 0} (result : Result (Unit {0}) E) (old new : Folders) (path place : List ℕ) (before after : List Call)
    → after ≡ before ++ Did (MakeFolder place) ∷ [] → OnOk result (new ≡ placed old path place) → OnErr result (new ≡ old)
    → AreMade old before → AreMade new after
after_note (Ok _) old new path place before after same ok err made =
    let there = subst (λ c. Contains c (Did (MakeFolder place))) (sym same) (Contains-push before (Did (MakeFolder place))) in
    subst (λ f. AreMade f after) (sym ok) (λ q found at.
    pick (bytes_eq path q) place found (old q) after (λ is. grown before after (Did (MakeFolder place) ∷ []) found same (made q found is)) there at)
after_note (Err _) old new path place before after same ok err made =
    subst (λ f. AreMade f after) (sym err) (λ q found at. grown before after (Did (MakeFolder place) ∷ []) found same (made q found at))

-- ---- what was made

first_of : (call : Call) (more : List Call) → Contains (call ∷ more) call
first_of call more = (0, omega arith, refl)

pub file_is_own : (before after more : List Call) (place : List ℕ) → after ≡ before ++ Did (MakeFile place) ∷ more → IsOwn after place
file_is_own before after more place same =
    inl (subst (λ c. Contains c (Did (MakeFile place))) (sym same)
    (Contains-append_right before (Did (MakeFile place) ∷ more) (Did (MakeFile place)) (first_of (Did (MakeFile place)) more)))

pub link_is_own : (before after : List Call) (place to : List ℕ) → after ≡ before ++ Did (MakeLink place to) ∷ [] → IsOwnLink after place
link_is_own before after place to same = (to, subst (λ c. Contains c (Did (MakeLink place to))) (sym same) (Contains-push before (Did (MakeLink place to))))

-- ---- how one ends

pub file_hurt : {E : Type 0} (result : Result (Unit {0}) E) (pieces : Source) (caller : Owner) (wanted : Wanted) (content : List Id) (place : List ℕ)
    (old new : Stage) (hurt : Hurt) (why : Why) → IsHurt pieces place content old.calls new.calls hurt → why ≡ why_of hurt
    → new.folders ≡ old.folders → new.counts ≡ old.counts
    → OnOk result (IsNamedNext old.left new.left wanted why) → OnOk result (IsFilePut pieces caller wanted content place old new)
file_hurt (Ok _) pieces caller wanted content place old new hurt why is same folders counts named =
    inr (hurt, is, subst (IsNamedNext old.left new.left wanted) same named, folders, counts)
file_hurt (Err _) pieces caller wanted content place old new hurt why is same folders counts named = named

pub no_place : (folders : Folders) (wanted : Wanted) (cause : Why) → (cause ≡ why.BadName) ⊎ (cause ≡ why.NoFolder)
    → (cause ≡ why.BadName → HasNoPlace folders wanted why.BadName) → (cause ≡ why.NoFolder → HasNoPlace folders wanted why.NoFolder)
    → HasNoPlace folders wanted cause
no_place folders wanted cause (inl is) unnamed homeless = subst (HasNoPlace folders wanted) (sym is) (unnamed is)
no_place folders wanted cause (inr is) unnamed homeless = subst (HasNoPlace folders wanted) (sym is) (homeless is)

pub left_out : {E : Type 0} (result : Result (Unit {0}) E) (pieces : Source) (caller : Owner) (wanted : Wanted) (why : Why) (old new : Stage)
    → HasNoPlace old.folders wanted why → new.calls ≡ old.calls → new.folders ≡ old.folders → new.counts ≡ old.counts
    → OnOk result (IsNamedNext old.left new.left wanted why) → OnOk result (IsOneDone pieces caller wanted old new)
left_out (Ok _) pieces caller wanted why old new none calls folders counts named = inr (why, none, (calls, named, folders, counts))
left_out (Err _) pieces caller wanted why old new none calls folders counts named = named

pub one_done : {E : Type 0} (result : Result (Unit {0}) E) (pieces : Source) (caller : Owner) (wanted : Wanted) (what : What) (place : List ℕ)
    (old new : Stage) → wanted.what ≡ what → IsPlaceOf old.folders wanted place
    → OnOk result (IsPut pieces caller wanted what place old new) → OnOk result (IsOneDone pieces caller wanted old new)
one_done (Ok _) pieces caller wanted what place old new is at done =
    inl (place, at, subst (λ w. IsPut pieces caller wanted w place old new) (sym is) done)
one_done (Err _) pieces caller wanted what place old new is at done = done

-- ---- where a restore begins

root_only : (b : Bool) (place : List ℕ) → cond b (Some []) None ≡ Some place → place ≡ []
root_only true place is = cc is
root_only false place is = cc is

pub begun_made : (folders : Folders) (calls : List Call) → folders ≡ root_alone → AreMade folders calls
begun_made folders calls same = subst (λ f. AreMade f calls) (sym same) (λ path place is. inl (root_only (bytes_eq [] path) place is))
