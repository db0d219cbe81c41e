-- The words of a line that forgets snapshots: rules, each cut at its first `=`, and counts that stand once.
use Rattle.std.proofs.Common.{◌≡◌, ◌≢◌, ℕ, ◌+◌, ◌^◌, ◌<◌, ◌≤◌, Bool, inl, inr, true, false, eqb, List, [], ◌∷◌, ◌++◌, codes, count_by, get_or, is_some, map, Option, Some, None, Result, Ok, Err, IsSome, IfSome, ◌↔◌, String, string_bytes, refl, sym, ap, ap₂, subst, ◌∙◌, lit<, arith}
use Rattle.std.proofs.lemmas.Bool.{cases_Bool, eqb-false}
use Rattle.std.proofs.lemmas.Fmt.{decimal_injective}
use Rattle.std.proofs.lemmas.List.Sums.{sum_by-cons}
use Rattle.std.specs.Fmt.{decimal}
use Rattle.std.specs.Global.{Global, Vec}
use Rattle.std.specs.List.{list_any}
use Rattle.std.specs.Prelude.{⊤, cond, nat_le}
use Rattle.std.specs.Result.{OkIff, result_ok}
use Rattle.std.specs.Str.Iter.{LacksByte}
use Rattle.keep_lines.specs.Policies.{counted_by}
use Rattle.keep_lines.specs.declared.forget_line.Rule.{Rule}
use Rattle.keep_lines.specs.declared.forget_line.Rule.TheVariants as rule
use Rattle.keep_lines.specs.declared.forget_line.Span.{Span}
use Rattle.keep_lines.specs.declared.forget_line.Span.TheVariants.{Last, Day, Week, Month, Year}
use Rattle.keep_labels.specs.declared.count.Count.{Count}
use Rattle.keep_lines.proofs.WordLists.{lacks-cons, lacks-nil, lacks-not, lacks-tail, parts_for_filter}
use Rattle.keep_lines.specs.ForgetLine.{IsCounted, IsForget, IsRule, count_once, forget_text, rule_text, stands_once}
use Rattle.keep_names.specs.Parses.{NonePrints, Parses}
use Rattle.keep_names.specs.Number.{IsNumber}
use Rattle.keep_lines.specs.WordList.{IsForFilter, filter_text}

-- ---- a word and its first `=`

-- the first place of a byte cuts a text in one way
pub cut_first : (c : ℕ) (a b d e : List ℕ) → LacksByte c a → LacksByte c d → a ++ c ∷ b ≡ d ++ c ∷ e → (a ≡ d) × (b ≡ e)
cut_first c [] b [] e h k same =
    let tail : b ≡ e = cc in
    (refl, tail)
cut_first c [] b (x ∷ d) e h k same =
    let head : x ≡ c = cc in
    absurd (k 0 (omega arith) head)
cut_first c (x ∷ a) b [] e h k same =
    let head : x ≡ c = cc in
    absurd (h 0 (omega arith) head)
cut_first c (x ∷ a) b (y ∷ d) e h k same =
    let head : x ≡ y = cc in
    let tail : a ++ c ∷ b ≡ d ++ c ∷ e = cc in
    let rest = cut_first c a b d e (lacks-tail c x a h) (lacks-tail c y d k) tail in
    (rw (head, rest.0) refl, rest.1)

-- a text lacks a byte, where no byte of it is that one
pub lacks_test : (c : ℕ) (bs : List ℕ) → list_any (λ b. eqb b c) bs ≡ false → LacksByte c bs
lacks_test c [] e = lacks-nil c
lacks_test c (b ∷ bs) e = elim (cases_Bool (eqb b c)) [
  | inl same ↦ absurd (cc (rw same at e))
  | inr other ↦ lacks-cons c b bs (eqb-false b c other) (lacks_test c bs (rw other at e))
]

-- the names of what is counted
name_of : Span → List ℕ
name_of Last = codes "last"
name_of Day = codes "daily"
name_of Week = codes "weekly"
name_of Month = codes "monthly"
name_of Year = codes "yearly"

lacks_name : (span : Span) → LacksByte 61 (name_of span)
unfolding name_of
lacks_name Last = lacks_test 61 (codes "last") refl
lacks_name Day = lacks_test 61 (codes "daily") refl
lacks_name Week = lacks_test 61 (codes "weekly") refl
lacks_name Month = lacks_test 61 (codes "monthly") refl
lacks_name Year = lacks_test 61 (codes "yearly") refl

-- a rule that counts is a name and a count
parts_of_rule : (r : Rule) → IsCounted r → (span : Span) × (count : Count) × (rule_text r ≡ name_of span ++ 61 ∷ decimal count.number)
unfolding name_of
parts_of_rule (rule.Last count) h = (Last, count, refl)
parts_of_rule (rule.Daily count) h = (Day, count, refl)
parts_of_rule (rule.Weekly count) h = (Week, count, refl)
parts_of_rule (rule.Monthly count) h = (Month, count, refl)
parts_of_rule (rule.Yearly count) h = (Year, count, refl)
parts_of_rule (rule.Tag tag) h = absurd h

-- ---- rules that count

-- none has what isn't a count behind the sign
pub no_count : (name value : List ℕ) → LacksByte 61 name → NonePrints (λ (count : Count). ⊤) (λ count. decimal count.number) value → NonePrints IsCounted rule_text (name ++ 61 ∷ value)
no_count name value lacks none r h e =
    let parts = parts_of_rule r h in
    none parts.1 tt (cut_first 61 (name_of parts.0) (decimal parts.1.number) name value (lacks_name parts.0) lacks (sym parts.2 ∙ e)).1

-- none has another name in front of it
named : (name : List ℕ) → name ≢ codes "last" → name ≢ codes "daily" → name ≢ codes "weekly" → name ≢ codes "monthly" → name ≢ codes "yearly" → (span : Span) → name_of span ≢ name
unfolding name_of
named name last daily weekly monthly yearly Last e = last (sym e)
named name last daily weekly monthly yearly Day e = daily (sym e)
named name last daily weekly monthly yearly Week e = weekly (sym e)
named name last daily weekly monthly yearly Month e = monthly (sym e)
named name last daily weekly monthly yearly Year e = yearly (sym e)

pub no_name : (name value : List ℕ) → LacksByte 61 name → name ≢ codes "last" → name ≢ codes "daily" → name ≢ codes "weekly" → name ≢ codes "monthly" → name ≢ codes "yearly" → NonePrints IsCounted rule_text (name ++ 61 ∷ value)
no_name name value lacks last daily weekly monthly yearly r h e =
    let parts = parts_of_rule r h in
    named name last daily weekly monthly yearly parts.0 (cut_first 61 (name_of parts.0) (decimal parts.1.number) name value (lacks_name parts.0) lacks (sym parts.2 ∙ e)).0

-- ---- rules

-- a word without the sign is no rule's
pub no_sign : (word : List ℕ) → LacksByte 61 word → NonePrints IsRule rule_text word
no_sign word lacks (rule.Last count) said e = lacks-not 61 (codes "last") (decimal count.number) (subst (LacksByte 61) (sym e) lacks)
no_sign word lacks (rule.Daily count) said e = lacks-not 61 (codes "daily") (decimal count.number) (subst (LacksByte 61) (sym e) lacks)
no_sign word lacks (rule.Weekly count) said e = lacks-not 61 (codes "weekly") (decimal count.number) (subst (LacksByte 61) (sym e) lacks)
no_sign word lacks (rule.Monthly count) said e = lacks-not 61 (codes "monthly") (decimal count.number) (subst (LacksByte 61) (sym e) lacks)
no_sign word lacks (rule.Yearly count) said e = lacks-not 61 (codes "yearly") (decimal count.number) (subst (LacksByte 61) (sym e) lacks)
no_sign word lacks (rule.Tag tag) said e = lacks-not 61 (codes "tag") (string_bytes tag) (subst (LacksByte 61) (sym e) lacks)

not_counted : (name value : List ℕ) → LacksByte 61 name → name ≢ codes "tag" → NonePrints IsCounted rule_text (name ++ 61 ∷ value) → (r : Rule) → rule_text r ≢ name ++ 61 ∷ value
not_counted name value lacks other h (rule.Last count) e = h (rule.Last count) tt e
not_counted name value lacks other h (rule.Daily count) e = h (rule.Daily count) tt e
not_counted name value lacks other h (rule.Weekly count) e = h (rule.Weekly count) tt e
not_counted name value lacks other h (rule.Monthly count) e = h (rule.Monthly count) tt e
not_counted name value lacks other h (rule.Yearly count) e = h (rule.Yearly count) tt e
not_counted name value lacks other h (rule.Tag tag) e = other (sym (cut_first 61 (codes "tag") (string_bytes tag) name value (lacks_test 61 (codes "tag") refl) lacks e).0)

-- where the name isn't that of tags, the rules that count are all that the word can be
pub counted_parsed : (word name value : List ℕ) (found : Option Rule) → word ≡ name ++ 61 ∷ value → LacksByte 61 name → LacksByte 32 word → name ≢ codes "tag"
    → Parses IsCounted rule_text (name ++ 61 ∷ value) found → Parses IsRule rule_text word found
counted_parsed word name value (Some r) split lacks spaceless other h = (subst (LacksByte 32) (sym (h.1 ∙ sym split)) spaceless, h.1 ∙ sym split)
counted_parsed word name value None split lacks spaceless other h = λ r said e. not_counted name value lacks other h r (e ∙ split)

-- ---- counts that stand once

-- the first letter of a rule's word says what it counts
letter_of : Span → ℕ
letter_of Last = 108
letter_of Day = 100
letter_of Week = 119
letter_of Month = 109
letter_of Year = 121

letter_tells : (span : Span) (r : Rule) → is_some (counted_by span r) ≡ eqb (get_or (rule_text r) 0 0) (letter_of span)
unfolding letter_of
letter_tells Last (rule.Last count) = refl
letter_tells Last (rule.Daily count) = refl
letter_tells Last (rule.Weekly count) = refl
letter_tells Last (rule.Monthly count) = refl
letter_tells Last (rule.Yearly count) = refl
letter_tells Last (rule.Tag tag) = refl
letter_tells Day (rule.Last count) = refl
letter_tells Day (rule.Daily count) = refl
letter_tells Day (rule.Weekly count) = refl
letter_tells Day (rule.Monthly count) = refl
letter_tells Day (rule.Yearly count) = refl
letter_tells Day (rule.Tag tag) = refl
letter_tells Week (rule.Last count) = refl
letter_tells Week (rule.Daily count) = refl
letter_tells Week (rule.Weekly count) = refl
letter_tells Week (rule.Monthly count) = refl
letter_tells Week (rule.Yearly count) = refl
letter_tells Week (rule.Tag tag) = refl
letter_tells Month (rule.Last count) = refl
letter_tells Month (rule.Daily count) = refl
letter_tells Month (rule.Weekly count) = refl
letter_tells Month (rule.Monthly count) = refl
letter_tells Month (rule.Yearly count) = refl
letter_tells Month (rule.Tag tag) = refl
letter_tells Year (rule.Last count) = refl
letter_tells Year (rule.Daily count) = refl
letter_tells Year (rule.Weekly count) = refl
letter_tells Year (rule.Monthly count) = refl
letter_tells Year (rule.Yearly count) = refl
letter_tells Year (rule.Tag tag) = refl

counted_words : (span : Span) (rules : List Rule) → count_by (λ r. is_some (counted_by span r)) rules ≡ count_by (λ word. eqb (get_or word 0 0) (letter_of span)) (map rule_text rules)
counted_words span [] = refl
counted_words span (r ∷ rules) =
    sum_by-cons (λ (x : Rule). cond (is_some (counted_by span x)) 1 0) r rules
    ∙ ap₂ (λ (b : Bool) (n : ℕ). cond b 1 0 + n) (letter_tells span r) (counted_words span rules)
    ∙ sym (sum_by-cons (λ (word : List ℕ). cond (eqb (get_or word 0 0) (letter_of span)) 1 0) (rule_text r) (map rule_text rules))

-- so rules of the same words count alike
same_once : (span : Span) (a b : List Rule) → map rule_text a ≡ map rule_text b → stands_once span a ≡ stands_once span b
same_once span a b same =
    ap (λ (n : ℕ). nat_le n 1)
    (counted_words span a ∙ ap (λ words. count_by (λ word. eqb (get_or word 0 0) (letter_of span)) words) same ∙ sym (counted_words span b))

same_counts : (a b : List Rule) → map rule_text a ≡ map rule_text b → count_once a ≡ count_once b
same_counts a b same = rw (same_once Last a b same, same_once Day a b same, same_once Week a b same, same_once Month a b same, same_once Year a b same) refl

-- where a count stands twice, the words are no forget's
pub count_twice : (asked : String Global × Vec Rule) (text : List ℕ) → IsForFilter IsRule asked → filter_text rule_text asked ≡ text → count_once asked.1.items ≡ false → NonePrints IsForget forget_text text
count_twice asked text is same twice = λ forget h e.
    let own = parts_for_filter IsRule rule_text (λ r said. said) asked text is same in
    let other = parts_for_filter IsRule rule_text (λ r said. said) (forget.filter, forget.rules) text h.0 e in
    let whole : string_bytes forget.filter ∷ map rule_text forget.rules.items ≡ string_bytes asked.0 ∷ map rule_text asked.1.items = sym other ∙ own in
    let words : map rule_text forget.rules.items ≡ map rule_text asked.1.items = cc in
    let once : count_once asked.1.items ≡ true = sym (same_counts forget.rules.items asked.1.items words) ∙ h.1 in
    cc (sym twice ∙ once)

-- ---- counts

-- a count's number has 64 bits
small : (count : Count) → count.number < 2 ^ 64
small count =
    let wide : 1048576 < 2 ^ 64 = lit< tt in
    omega (arith, wide, count.in_range)

-- a word whose number is out of range is no count's
pub no_range : (word : List ℕ) (number : ℕ) → IsNumber number → decimal number ≡ word → ((0 < number) × (number ≤ 1048576) → ⊥) → NonePrints (λ (count : Count). ⊤) (λ count. decimal count.number) word
no_range word number is same out count h e =
    let number_is : count.number ≡ number = decimal_injective count.number number (small count) is (e ∙ sym same) in
    out (subst (λ n. (0 < n) × (n ≤ 1048576)) number_is count.in_range)

-- nor is one whose number doesn't have 32 bits
pub no_width : {E : Type 0} (word : List ℕ) (number : ℕ) (r : Result ℕ E) → IsNumber number × (decimal number ≡ word) → OkIff r (number < 4294967296) number → result_ok r ≡ None
    → NonePrints (λ (count : Count). ⊤) (λ count. decimal count.number) word
no_width word number (Ok n) is h none = cc none
no_width word number (Err e) is h none = no_range word number is.0 is.1 (λ fits. h (omega (arith, fits)))

-- the count that is made of a number is the word's
narrowed : {E : Type 0} (number n : ℕ) (r : Result ℕ E) → OkIff r (number < 4294967296) number → Some n ≡ result_ok r → n ≡ number
narrowed number n (Ok m) h same =
    let both : n ≡ m = cc in
    both ∙ h.1
narrowed number n (Err e) h same = cc same

pub count_parsed : {E : Type 0} (word : List ℕ) (number n : ℕ) (r : Result ℕ E) (found : Option Count) → IsNumber number × (decimal number ≡ word) → OkIff r (number < 4294967296) number → Some n ≡ result_ok r
    → IsSome found ↔ ((0 < n) × (n ≤ 1048576)) → IfSome found (λ count. count.number ≡ n) → Parses (λ (count : Count). ⊤) (λ count. decimal count.number) word found
count_parsed word number n r (Some count) is h same accepted value = (tt, ap decimal (value ∙ narrowed number n r h same) ∙ is.1)
count_parsed word number n r None is h same accepted value =
    let number_is = narrowed number n r h same in
    no_range word number is.0 is.1 (λ fits. cc (accepted.1 (subst (λ m. (0 < m) × (m ≤ 1048576)) (sym number_is) fits)))
