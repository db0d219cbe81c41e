-- Blobs that are offered one after the other.
use Rattle.std.proofs.Common.{◌≡◌, ◌≢◌, Bool, true, false, ◌||◌, List, [], ◌∷◌, ◌++◌, Result, Ok, Err, OnOk, IfErr, refl, sym, ap, subst, ◌∙◌, true≢false, append_assoc, append-nil}
use Rattle.std.specs.List.{list_any}
use Rattle.keep_names.specs.declared.blob.BlobId.{BlobId}
use Rattle.keep_repo.specs.Repository.{Repository}
use Rattle.keep_build.specs.Blobs.{BlobData, is_full}
use Rattle.keep_build.specs.Storing.{Keeps}
use Rattle.keep_backup.specs.Walk.{Took}
use Rattle.keep_plan.specs.declared.plan_error.PlanError.{PlanError}
use Rattle.keep_plan.specs.declared.plan_error.PlanError.TheVariants.{Full, Memory}
use Rattle.keep_build.specs.declared.storing.Storing.{Storing}

-- of all that is to be offered just this rest is left
pub record HasTaken (all rest : List BlobData) (old now : Storing) : Type 0 where
  pub done : List BlobData
  pub took : Took done old now
  pub whole : all ≡ done ++ rest

pub none_taken : (all : List BlobData) (old : Storing) → HasTaken all all old old
none_taken all old = record {
  done = [];
  took = record { kept = λ r named offered keeps. let K : List BlobData → Type 0 = λ bs. Keeps r named bs old in subst K (sym (append-nil offered)) keeps };
  whole = refl;
}

pub more_taken : (all xs rest left : List BlobData) (old now later : Storing) → left ≡ xs ++ rest → HasTaken all left old now → Took xs now later → HasTaken all rest old later
more_taken all xs rest left old now later e has took = record {
  done = has.done ++ xs;
  took = record {
    kept = λ r named offered keeps.
        let K : List BlobData → Type 0 = λ bs. Keeps r named bs later in
        subst K (append_assoc offered has.done xs) (took.kept r named (offered ++ has.done) (has.took.kept r named offered keeps));
  };
  whole = has.whole ∙ ap (λ bs. has.done ++ bs) e ∙ sym (append_assoc has.done xs rest);
}

pub all_taken : (all rest : List BlobData) (old now : Storing) → rest ≡ [] → HasTaken all rest old now → Took all old now
all_taken all rest old now none has =
    let T : List BlobData → Type 0 = λ bs. Took bs old now in
    subst T (sym (has.whole ∙ ap (λ bs. has.done ++ bs) none ∙ append-nil has.done)) has.took

-- two walks in a row
pub both_took : (xs ys : List BlobData) (old now later : Storing) → Took xs old now → Took ys now later → Took (xs ++ ys) old later
both_took xs ys old now later first second = record {
  kept = λ r named offered keeps.
      let K : List BlobData → Type 0 = λ bs. Keeps r named bs later in
      subst K (append_assoc offered xs ys) (second.kept r named (offered ++ xs) (first.kept r named offered keeps));
}

-- ---- a blob that is too long

or-true : (b : Bool) → (b || true) ≡ true
or-true true = refl
or-true false = refl

one_of_two : (a b c : Bool) → (b ≡ true → c ≡ true) → (a || b) ≡ true → (a || c) ≡ true
one_of_two true b c more h = refl
one_of_two false b c more h = more h

pub full_first : (xs ys : List BlobData) → list_any is_full xs ≡ true → list_any is_full (xs ++ ys) ≡ true
full_first [] ys h = absurd (true≢false (sym h))
full_first (x ∷ xs) ys h = one_of_two (is_full x) (list_any is_full xs) (list_any is_full (xs ++ ys)) (full_first xs ys) h

pub full_last : (xs ys : List BlobData) → list_any is_full ys ≡ true → list_any is_full (xs ++ ys) ≡ true
full_last [] ys h = h
full_last (x ∷ xs) ys h = ap (λ b. is_full x || b) (full_last xs ys h) ∙ or-true (is_full x)

-- what is left has one that is too long
pub full_left : (all xs rest left : List BlobData) (old now : Storing) → left ≡ xs ++ rest → HasTaken all left old now → list_any is_full xs ≡ true → list_any is_full all ≡ true
full_left all xs rest left old now e has full =
    ap (list_any is_full) (has.whole ∙ ap (λ bs. has.done ++ bs) e) ∙ full_last has.done (xs ++ rest) (full_first xs rest full)

-- ---- what the answer of one offer says

pub took_one : {T E : Type 0} (r : Result T E) (b : BlobData) (old new : Storing) → OnOk r ((q : Repository) (named : List BlobId) (offered : List BlobData) → Keeps q named offered old → Keeps q named (offered ++ b ∷ []) new) → OnOk r (Took (b ∷ []) old new)
took_one (Ok x) b old new h = record { kept = h }
took_one (Err e) b old new h = tt

pub refused_one : {T : Type 0} (r : Result T PlanError) (b : BlobData) → IfErr r (λ error. error ≢ Memory → (error ≡ Full) × (is_full b ≡ true)) → IfErr r (λ error. error ≢ Memory → (error ≡ Full) × (list_any is_full (b ∷ []) ≡ true))
refused_one (Ok x) b h = tt
refused_one (Err e) b h = λ other. let due = h other in (due.0, ap (λ x. x || false) due.1)

pub refused_as : {T : Type 0} (r : Result T PlanError) (b c : BlobData) → b ≡ c → IfErr r (λ error. error ≢ Memory → (error ≡ Full) × (is_full b ≡ true)) → IfErr r (λ error. error ≢ Memory → (error ≡ Full) × (list_any is_full (c ∷ []) ≡ true))
refused_as r b c same h =
    let R : BlobData → Type 0 = λ x. IfErr r (λ error. error ≢ Memory → (error ≡ Full) × (is_full x ≡ true)) in
    refused_one r c (subst R same h)

-- a refusal of what comes later
pub refused_after : {T : Type 0} (r : Result T PlanError) (xs ys : List BlobData) → IfErr r (λ error. error ≢ Memory → (error ≡ Full) × (list_any is_full ys ≡ true)) → IfErr r (λ error. error ≢ Memory → (error ≡ Full) × (list_any is_full (xs ++ ys) ≡ true))
refused_after (Ok x) xs ys h = tt
refused_after (Err e) xs ys h = λ other. let due = h other in (due.0, full_last xs ys due.1)
