-- What passes have seen and counted, taken in one by one.
use Rattle.std.proofs.Common.{◌≡◌, ◌∙◌, ℕ, zero, suc, ◌+◌, ◌<◌, List, [], ◌∷◌, ◌++◌, length, ap, append_assoc, arith, subst, sym}
use Rattle.std.proofs.lemmas.List.{append-nil}
use Rattle.std.proofs.lemmas.List.Sums.{sum_by-cons}
use Rattle.std.specs.List.{All, slice_index_or}
use mathlib.Core.List.{IsPrefix}
use Rattle.keep_journal.specs.declared.event.Event.{Event}
use Rattle.keep_register.specs.Known.{Known}
use Rattle.keep_crew.specs.Asking.{count_of}

-- some passes were taken in, from the end: what they had seen begins the list, and so many they counted
pub record AreTaken (es : List Event) (all left : List Known) (parts amount : ℕ) : Type 0 where
  pub done : List Known
  pub rest : all ≡ left ++ done
  pub begins : All (λ p. IsPrefix p.seen es) done
  pub counts : amount ≡ count_of done
  pub long : parts ≡ length done

-- none yet
pub none_taken : (es : List Event) (all : List Known) (parts amount : ℕ) → parts ≡ 0 → amount ≡ 0 → AreTaken es all all parts amount
none_taken es all parts amount no_parts nothing = record {
  done = [];
  rest = sym (append-nil all);
  begins = λ k d within. absurd (omega arith);
  counts = nothing;
  long = no_parts;
}

-- one more
pub one_taken : (es : List Event) (all left before : List Known) (parts amount : ℕ) (p : Known) → AreTaken es all before parts amount
    → before ≡ left ++ p ∷ [] → IsPrefix p.seen es → AreTaken es all left (parts + 1) (amount + p.counted)
one_taken es all left before parts amount p taken is begins = record {
  done = p ∷ taken.done;
  rest = taken.rest ∙ (ap (λ xs. xs ++ taken.done) is ∙ append_assoc left (p ∷ []) taken.done);
  begins = each;
  counts = omega (arith, taken.counts, sum_by-cons (λ (q : Known). q.counted) p taken.done);
  long = omega (arith, taken.long);
}
  where
    each : (k : ℕ) (d : Known) → k < length (p ∷ taken.done) → IsPrefix (slice_index_or (p ∷ taken.done) k d).seen es
    each zero d within = begins
    each (suc k) d within = taken.begins k d (omega arith)

-- all of them were taken in
pub record AreIn (es : List Event) (all : List Known) (parts amount : ℕ) : Type 0 where
  pub begins : All (λ p. IsPrefix p.seen es) all
  pub counts : amount ≡ count_of all
  pub long : parts ≡ length all

pub all_taken : (es : List Event) (all left : List Known) (parts amount : ℕ) → AreTaken es all left parts amount → left ≡ []
    → AreIn es all parts amount
all_taken es all left parts amount taken none =
    let whole : all ≡ taken.done = taken.rest ∙ ap (λ xs. xs ++ taken.done) none in
    record {
      begins = subst (λ (xs : List Known). All (λ p. IsPrefix p.seen es) xs) (sym whole) taken.begins;
      counts = taken.counts ∙ ap count_of (sym whole);
      long = taken.long ∙ ap (λ (xs : List Known). length xs) (sym whole);
    }
