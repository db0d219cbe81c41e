-- What a walk has finished, step by step.
use Rattle.std.proofs.Common.{◌≡◌, ◌⊎◌, inl, inr, Bool, true, false, ◌||◌, cond, List, [], ◌∷◌, ◌++◌, refl, sym, ap, ap₂, subst, ◌∙◌}
use Rattle.std.proofs.lemmas.List.{append-nil, append_assoc}
use Rattle.std.proofs.lemmas.List.Folds.{list_any-append}
use Rattle.std.specs.Cmp.{IsEquivalence, eq_by_cmp_equiv}
use Rattle.std.specs.List.{list_any}
use Rattle.keep_names.proofs.Orders.{blob_total}
use Rattle.keep_index.proofs.Firsts.{any_firsts, firsts_more}
use Rattle.keep_index.specs.Joining.{first_of_each}
use Rattle.keep_build.specs.Blobs.{BlobData, blob_id_of, is_full, is_same}
use Rattle.keep_rewrite.specs.Finishing.{Finishes, HasBlobData, StandsFor}

-- ---- what is among blobs

pub in_first : (xs ys : List BlobData) (b : BlobData) → HasBlobData xs b → HasBlobData (xs ++ ys) b
in_first [] ys b h = absurd h
in_first (x ∷ xs) ys b (inl here) = inl here
in_first (x ∷ xs) ys b (inr there) = inr (in_first xs ys b there)

pub in_second : (xs ys : List BlobData) (b : BlobData) → HasBlobData ys b → HasBlobData (xs ++ ys) b
in_second [] ys b h = h
in_second (x ∷ xs) ys b h = inr (in_second xs ys b h)

pub in_either : (xs ys : List BlobData) (b : BlobData) → HasBlobData (xs ++ ys) b → HasBlobData xs b ⊎ HasBlobData ys b
in_either [] ys b h = inr h
in_either (x ∷ xs) ys b (inl here) = inl (inl here)
in_either (x ∷ xs) ys b (inr there) = cases (in_either xs ys b there) where
  cases : HasBlobData xs b ⊎ HasBlobData ys b → HasBlobData (x ∷ xs) b ⊎ HasBlobData ys b
  cases (inl h) = inl (inr h)
  cases (inr h) = inr h

-- what passes a test among these
any_among : (p : BlobData → Bool) (xs : List BlobData) (b : BlobData) → HasBlobData xs b → p b ≡ true → list_any p xs ≡ true
any_among p [] b h is = absurd h
any_among p (x ∷ xs) b (inl here) is = ap (λ t. t || list_any p xs) (ap p here ∙ is)
any_among p (x ∷ xs) b (inr there) is = ap (λ t. p x || t) (any_among p xs b there is) ∙ or_true (p x) where
  or_true : (t : Bool) → (t || true) ≡ true
  or_true true = refl
  or_true false = refl

or_false : (b : Bool) → (b || false) ≡ b
or_false true = refl
or_false false = refl

or_had : (a b : Bool) → (b ≡ true → a ≡ true) → (a || b) ≡ a
or_had true b h = refl
or_had false true h = sym (h refl)
or_had false false h = refl

same_laws : IsEquivalence is_same
same_laws =
    let laws = eq_by_cmp_equiv blob_total in
    record {
      refl = λ b. laws.refl (blob_id_of b);
      symm = λ a b. laws.symm (blob_id_of a) (blob_id_of b);
      congr = λ a b c. laws.congr (blob_id_of a) (blob_id_of b) (blob_id_of c);
    }

-- ---- one list stands for another

-- whether the same was there is the same
seen_alike : (all once : List BlobData) → StandsFor all once → (b : BlobData) → list_any (is_same b) all ≡ list_any (is_same b) once
seen_alike all once stands b =
    sym (any_firsts is_same same_laws b all) ∙ ap (list_any (is_same b)) stands.firsts ∙ any_firsts is_same same_laws b once

full_more : (xs : List BlobData) (b : BlobData) → list_any is_full (xs ++ b ∷ []) ≡ (list_any is_full xs || is_full b)
full_more xs b = list_any-append is_full xs (b ∷ []) ∙ ap (λ t. list_any is_full xs || t) (or_false (is_full b))

-- one more in both
more_stands : (all once : List BlobData) (b : BlobData) → StandsFor all once → StandsFor (all ++ b ∷ []) (once ++ b ∷ [])
more_stands all once b stands = record {
  firsts = firsts_more is_same same_laws all b
      ∙ ap₂ (λ xs t. xs ++ cond t [] (b ∷ [])) stands.firsts (seen_alike all once stands b)
      ∙ sym (firsts_more is_same same_laws once b);
  full = full_more all b ∙ ap (λ t. t || is_full b) stands.full ∙ sym (full_more once b);
  among = λ x h. elim (in_either once (b ∷ []) x h) [
    | inl was ↦ in_first all (b ∷ []) x (stands.among x was)
    | inr last ↦ in_second all (b ∷ []) x last
  ];
}

-- one that is there already
again_stands : (all once : List BlobData) (b : BlobData) → HasBlobData once b → StandsFor all once → StandsFor (all ++ b ∷ []) once
again_stands all once b there stands =
    let was = stands.among b there in
    let seen : list_any (is_same b) all ≡ true = any_among (is_same b) all b was (same_laws.refl b) in
    record {
      firsts = firsts_more is_same same_laws all b
          ∙ ap (λ t. first_of_each is_same all ++ cond t [] (b ∷ [])) seen
          ∙ append-nil (first_of_each is_same all) ∙ stands.firsts;
      full = full_more all b ∙ or_had (list_any is_full all) (is_full b) (any_among is_full all b was) ∙ stands.full;
      among = λ x h. in_first all (b ∷ []) x (stands.among x h);
    }

all_again : (all once trees : List BlobData) → ((b : BlobData) → HasBlobData trees b → HasBlobData once b) → StandsFor all once → StandsFor (all ++ trees) once
all_again all once [] there stands = subst (λ xs. StandsFor xs once) (sym (append-nil all)) stands
all_again all once (b ∷ trees) there stands =
    subst (λ xs. StandsFor xs once) (append_assoc all (b ∷ []) trees)
    (all_again (all ++ b ∷ []) once trees (λ x h. there x (inr h)) (again_stands all once b (there b (inl refl)) stands))

-- nothing stands for nothing
pub none_stands : StandsFor [] []
none_stands = record { firsts = refl; full = refl; among = λ b h. h }

-- ---- what was finished

pub none_finished : (trees : List BlobData) → Finishes trees trees []
none_finished trees = record {
  kept = λ b h. h;
  there = λ b h. absurd h;
  stands = λ all stands. subst (λ xs. StandsFor xs trees) (sym (append-nil all)) stands;
}

-- what was finished before is there
pub known_finished : (trees more : List BlobData) → ((b : BlobData) → HasBlobData more b → HasBlobData trees b) → Finishes trees trees more
known_finished trees more there = record {
  kept = λ b h. h;
  there = there;
  stands = λ all stands. all_again all trees more there stands;
}

pub one_finished : (trees : List BlobData) (b : BlobData) → Finishes trees (trees ++ b ∷ []) (b ∷ [])
one_finished trees b = record {
  kept = λ x h. in_first trees (b ∷ []) x h;
  there = λ x h. in_second trees (b ∷ []) x h;
  stands = λ all stands. more_stands all trees b stands;
}

-- one after the other
pub both_finished : (old mid new first second : List BlobData) → Finishes old mid first → Finishes mid new second → Finishes old new (first ++ second)
both_finished old mid new first second before after = record {
  kept = λ b h. after.kept b (before.kept b h);
  there = λ b h. elim (in_either first second b h) [
    | inl one ↦ after.kept b (before.there b one)
    | inr two ↦ after.there b two
  ];
  stands = λ all stands. subst (λ xs. StandsFor xs new) (append_assoc all first second) (after.stands (all ++ first) (before.stands all stands));
}
