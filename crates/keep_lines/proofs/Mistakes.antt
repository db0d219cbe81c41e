-- Why a text is no command's, where that is known.
use Rattle.std.proofs.Common.{◌≡◌, ◌≢◌, ℕ, ◌<◌, ◌⊎◌, inl, inr, List, ◌∷◌, ◌++◌, codes, length, get_or, Option, Some, None, Bor, refl, sym, ap, subst, ◌∙◌, append_assoc, arith, eqb, lit<}
use Rattle.std.proofs.Math.Seq.{get_or-append_seam}
use Rattle.std.proofs.lemmas.List.{length-append}
use Rattle.std.proofs.lemmas.Str.Pattern.{IsSplitOnceResult, split_once_first, split_parts}
use Rattle.std.specs.List.{after_first, before_first}
use Rattle.std.specs.Str.Iter.{LacksByte}
use Rattle.keep_names.specs.FileName.{kind_text, IsKind}
use Rattle.keep_names.specs.declared.file_name.Kind.{Kind}
use Rattle.keep_lines.specs.Command.{IsCommand, IsNoCommand, command_text}
use Rattle.keep_lines.specs.Mistake.{AsksHex, AsksKind, AsksMore, AsksName, AsksNumber, AsksTarget, AsksWords, BeginsAsNone, EndsInNo, HasNoKind}
use Rattle.keep_names.specs.Parses.{Parses}
use Rattle.keep_lines.specs.Word.{AreBytes, IsTarget, hex_word, target_text}
use Rattle.keep_lines.specs.declared.command.Command.{Command}
use Rattle.keep_lines.specs.declared.command.Command.TheVariants.{RawFile}
use Rattle.keep_lines.specs.declared.raw_file.RawFile.TheVariants.{Add, Drop}

-- ---- a text and its first space

-- a text that is cut at its first space, where it has one
pub cut_first : (text : List ℕ) (r : Option (Bor (List ℕ) × Bor (List ℕ))) (x : Bor (List ℕ) × Bor (List ℕ)) → IsSplitOnceResult 32 text r → r ≡ Some x → text ≡ x.0.now ++ 32 ∷ x.1.now
cut_first text None x h e = cc e
cut_first text (Some y) x h e =
    let same : y ≡ x = cc in
    (split_parts 32 text (Some y) h (lit< tt)).0 ∙ ap (λ (p : Bor (List ℕ) × Bor (List ℕ)). p.0.now ++ 32 ∷ p.1.now) same

-- what stands before it has none
pub no_space_before : (text : List ℕ) (r : Option (Bor (List ℕ) × Bor (List ℕ))) (x : Bor (List ℕ) × Bor (List ℕ)) → IsSplitOnceResult 32 text r → r ≡ Some x → LacksByte 32 x.0.now
no_space_before text None x h e = cc e
no_space_before text (Some y) x h e =
    let same : y ≡ x = cc in
    subst (λ (p : Bor (List ℕ) × Bor (List ℕ)). LacksByte 32 p.0.now) same (split_parts 32 text (Some y) h (lit< tt)).1

-- the first word of a text, and what stands behind it and a space
first_word : List ℕ → List ℕ
first_word text = before_first (λ b. eqb b 32) text

other_words : List ℕ → List ℕ
other_words text = after_first (λ b. eqb b 32) text

first_cut : (text : List ℕ) (r : Option (Bor (List ℕ) × Bor (List ℕ))) (x : Bor (List ℕ) × Bor (List ℕ)) → IsSplitOnceResult 32 text r → r ≡ Some x → x.0.now ≡ first_word text
unfolding first_word
first_cut text None x h e = cc e
first_cut text (Some y) x h e =
    let same : y ≡ x = cc in
    subst (λ (p : Bor (List ℕ) × Bor (List ℕ)). p.0.now ≡ before_first (λ b. eqb b 32) text) same (split_once_first 32 text (Some y) h (lit< tt)).1

-- a text that isn't cut has no space
no_space : (text : List ℕ) (r : Option (Bor (List ℕ) × Bor (List ℕ))) → IsSplitOnceResult 32 text r → r ≡ None → (front rest : List ℕ) → text ≢ front ++ 32 ∷ rest
no_space text (Some x) h e front rest split = cc e
no_space text None h e front rest split =
    let long = length-append front (32 ∷ rest) in
    let within : length front < length text = rw split (omega (arith, long)) in
    split_parts 32 text None h (lit< tt) (length front) within (ap (λ l. get_or l (length front) 0) split ∙ get_or-append_seam front 32 rest 0)

-- ---- the words that lines begin with

-- a word behind which a line ends with one word, or with any number
abbrev AsksOne : List ℕ → Type 0
AsksOne verb = AsksNumber verb ⊎ (AsksName verb ⊎ (AsksWords verb ⊎ (verb ≡ codes "restore")))

abbrev pub IsVerb : List ℕ → Type 0
IsVerb verb = AsksNumber verb ⊎ (AsksName verb ⊎ (AsksWords verb ⊎ ((verb ≡ codes "restore") ⊎ AsksKind verb)))

number_first : (front rest : List ℕ) → AsksNumber front → AsksNumber (first_word (front ++ 32 ∷ rest))
unfolding first_word
number_first front rest (inl e) = inl (ap (λ f. first_word (f ++ 32 ∷ rest)) e)
number_first front rest (inr (inl e)) = inr (inl (ap (λ f. first_word (f ++ 32 ∷ rest)) e))
number_first front rest (inr (inr (inl e))) = inr (inr (inl (ap (λ f. first_word (f ++ 32 ∷ rest)) e)))
number_first front rest (inr (inr (inr (inl e)))) = inr (inr (inr (inl (ap (λ f. first_word (f ++ 32 ∷ rest)) e))))
number_first front rest (inr (inr (inr (inr e)))) = inr (inr (inr (inr (ap (λ f. first_word (f ++ 32 ∷ rest)) e))))

name_first : (front rest : List ℕ) → AsksName front → AsksName (first_word (front ++ 32 ∷ rest))
unfolding first_word
name_first front rest (inl e) = inl (ap (λ f. first_word (f ++ 32 ∷ rest)) e)
name_first front rest (inr (inl e)) = inr (inl (ap (λ f. first_word (f ++ 32 ∷ rest)) e))
name_first front rest (inr (inr e)) = inr (inr (ap (λ f. first_word (f ++ 32 ∷ rest)) e))

kind_first : (front rest : List ℕ) → AsksKind front → AsksKind (first_word (front ++ 32 ∷ rest))
unfolding first_word
kind_first front rest (inl e) = inl (ap (λ f. first_word (f ++ 32 ∷ rest)) e)
kind_first front rest (inr e) = inr (ap (λ f. first_word (f ++ 32 ∷ rest)) e)

words_first : (front rest : List ℕ) → AsksWords front → AsksWords (first_word (front ++ 32 ∷ rest))
unfolding first_word
words_first front rest (inl e) = inl (ap (λ f. first_word (f ++ 32 ∷ rest)) e)
words_first front rest (inr (inl e)) = inr (inl (ap (λ f. first_word (f ++ 32 ∷ rest)) e))
words_first front rest (inr (inr (inl e))) = inr (inr (inl (ap (λ f. first_word (f ++ 32 ∷ rest)) e)))
words_first front rest (inr (inr (inr e))) = inr (inr (inr (ap (λ f. first_word (f ++ 32 ∷ rest)) e)))

restore_first : (front rest : List ℕ) → front ≡ codes "restore" → first_word (front ++ 32 ∷ rest) ≡ codes "restore"
unfolding first_word
restore_first front rest e = ap (λ f. first_word (f ++ 32 ∷ rest)) e

-- a front of two words, and what follows
regrouped : (verb word rest front : List ℕ) → front ≡ verb ++ 32 ∷ word → front ++ 32 ∷ rest ≡ verb ++ 32 ∷ (word ++ 32 ∷ rest)
regrouped verb word rest front e = ap (λ f. f ++ 32 ∷ rest) e ∙ append_assoc verb (32 ∷ word) (32 ∷ rest)

-- a text with such a front begins with one of these words
verb_first : (front rest : List ℕ) → AsksMore front → IsVerb (first_word (front ++ 32 ∷ rest))
verb_first front rest (inl asks) = inl (number_first front rest asks)
verb_first front rest (inr (inl asks)) = inr (inl (name_first front rest asks))
verb_first front rest (inr (inr (inl e))) = inr (inr (inl (words_first front rest e)))
verb_first front rest (inr (inr (inr (inl e)))) = inr (inr (inr (inl (restore_first front rest e))))
verb_first front rest (inr (inr (inr (inr (verb, word, asks, e))))) =
    inr (inr (inr (inr (subst (λ l. AsksKind (first_word l)) (sym (regrouped verb word rest front e)) (kind_first verb (word ++ 32 ∷ rest) asks)))))

-- ---- no command

-- a text of one word
pub none_of_one : (text : List ℕ) (r : Option (Bor (List ℕ) × Bor (List ℕ))) → IsSplitOnceResult 32 text r → r ≡ None → BeginsAsNone text
none_of_one text r h e = λ front rest asks split. no_space text r h e front rest split

-- one that begins with another word
pub none_of_other : (text : List ℕ) (r : Option (Bor (List ℕ) × Bor (List ℕ))) (x : Bor (List ℕ) × Bor (List ℕ)) → IsSplitOnceResult 32 text r → r ≡ Some x → (IsVerb x.0.now → ⊥) → BeginsAsNone text
none_of_other text r x h e other = λ front rest asks split.
    other (subst IsVerb (sym (first_cut text r x h e ∙ ap first_word split)) (verb_first front rest asks))

-- a kind is asked for, and no word follows the next one
AsksOne-letter : (verb : List ℕ) → AsksOne verb → (get_or verb 1 0 ≢ 100) × (get_or verb 0 0 ≢ 100)
AsksOne-letter verb (inl (inl e)) = rw e (λ h. omega (arith, h), λ h. omega (arith, h))
AsksOne-letter verb (inl (inr (inl e))) = rw e (λ h. omega (arith, h), λ h. omega (arith, h))
AsksOne-letter verb (inl (inr (inr (inl e)))) = rw e (λ h. omega (arith, h), λ h. omega (arith, h))
AsksOne-letter verb (inl (inr (inr (inr (inl e))))) = rw e (λ h. omega (arith, h), λ h. omega (arith, h))
AsksOne-letter verb (inl (inr (inr (inr (inr e))))) = rw e (λ h. omega (arith, h), λ h. omega (arith, h))
AsksOne-letter verb (inr (inl (inl e))) = rw e (λ h. omega (arith, h), λ h. omega (arith, h))
AsksOne-letter verb (inr (inl (inr (inl e)))) = rw e (λ h. omega (arith, h), λ h. omega (arith, h))
AsksOne-letter verb (inr (inl (inr (inr e)))) = rw e (λ h. omega (arith, h), λ h. omega (arith, h))
AsksOne-letter verb (inr (inr (inl (inl e)))) = rw e (λ h. omega (arith, h), λ h. omega (arith, h))
AsksOne-letter verb (inr (inr (inl (inr (inl e))))) = rw e (λ h. omega (arith, h), λ h. omega (arith, h))
AsksOne-letter verb (inr (inr (inl (inr (inr (inl e)))))) = rw e (λ h. omega (arith, h), λ h. omega (arith, h))
AsksOne-letter verb (inr (inr (inl (inr (inr (inr e)))))) = rw e (λ h. omega (arith, h), λ h. omega (arith, h))
AsksOne-letter verb (inr (inr (inr e))) = rw e (λ h. omega (arith, h), λ h. omega (arith, h))

two_words : (verb : List ℕ) → AsksKind verb → AsksOne verb → ⊥
two_words verb (inl e) one = (AsksOne-letter verb one).0 (ap (λ l. get_or l 1 0) e)
two_words verb (inr e) one = (AsksOne-letter verb one).1 (ap (λ l. get_or l 0 0) e)

kind_words : (verb rest : List ℕ) → AsksKind verb → (first_word (verb ++ 32 ∷ rest) ≡ verb) × (other_words (verb ++ 32 ∷ rest) ≡ rest)
unfolding first_word other_words
kind_words verb rest (inl e) = rw e (refl, refl)
kind_words verb rest (inr e) = rw e (refl, refl)

pub none_of_two : (verb rest : List ℕ) (r : Option (Bor (List ℕ) × Bor (List ℕ))) → AsksKind verb → IsSplitOnceResult 32 rest r → r ≡ None → BeginsAsNone (verb ++ 32 ∷ rest)
none_of_two verb rest r asks h e = λ front more asks_more split.
    let same : first_word (front ++ 32 ∷ more) ≡ verb = sym (ap first_word split) ∙ (kind_words verb rest asks).0 in
    let no : (one : AsksOne (first_word (front ++ 32 ∷ more))) → ⊥ = λ one. two_words verb asks (subst AsksOne same one) in
    elim asks_more [
      | inl number ↦ no (inl (number_first front more number))
      | inr (inl name) ↦ no (inr (inl (name_first front more name)))
      | inr (inr (inl words)) ↦ no (inr (inr (inl (words_first front more words))))
      | inr (inr (inr (inl restore))) ↦ no (inr (inr (inr (restore_first front more restore))))
      | inr (inr (inr (inr (other, word, other_asks, same_front)))) ↦
          let whole : verb ++ 32 ∷ rest ≡ other ++ 32 ∷ (word ++ 32 ∷ more) = split ∙ regrouped other word more front same_front in
          let left : rest ≡ word ++ 32 ∷ more = sym (kind_words verb rest asks).1 ∙ (ap other_words whole ∙ (kind_words other (word ++ 32 ∷ more) other_asks).1) in
          no_space rest r h e word more left
    ]

-- ---- last words

-- what stands behind the front of a command's text isn't one of its values, where the whole is no command's
pub ends_in_no : {A : Type 0} (AsksIt : List ℕ → Type 0) (Counts : A → Type 0) (print : A → List ℕ) (make : A → Command) (front text rest : List ℕ) → AsksIt front → IsNoCommand text → text ≡ front ++ 32 ∷ rest
    → ((value : A) → Counts value → IsCommand (make value)) → ((value : A) → command_text (make value) ≡ front ++ 32 ∷ print value) → EndsInNo AsksIt Counts print text
ends_in_no AsksIt Counts print make front text rest asks none split counts texts =
    (front, rest, asks, split, λ value is e. none (make value) (counts value is) (texts value ∙ ap (λ l. front ++ 32 ∷ l) e ∙ sym split))

-- a word that isn't a kind, and one that is
pub no_kind : (verb word rest : List ℕ) (found : Option Kind) → AsksKind verb → LacksByte 32 word → Parses IsKind kind_text word found → found ≡ None → HasNoKind (verb ++ 32 ∷ (word ++ 32 ∷ rest))
no_kind verb word rest None asks lacks h e = (verb, word, rest, asks, lacks, refl, h)
no_kind verb word rest (Some kind) asks lacks h e = cc e

kind_of : (word : List ℕ) (found : Option Kind) → Parses IsKind kind_text word found → found ≢ None → (kind : Kind) × (kind_text kind ≡ word)
kind_of word None h e = absurd (e refl)
kind_of word (Some kind) h e = (kind, h.1)

-- so what follows it isn't bytes, or a file
pub no_bytes_added : (word rest : List ℕ) (found : Option Kind) → Parses IsKind kind_text word found → found ≢ None → IsNoCommand (codes "add" ++ 32 ∷ (word ++ 32 ∷ rest))
    → EndsInNo AsksHex AreBytes hex_word (codes "add" ++ 32 ∷ (word ++ 32 ∷ rest))
no_bytes_added word rest found h some none =
    let kind = kind_of word found h some in
    ends_in_no AsksHex AreBytes hex_word (λ bytes. RawFile (Add kind.0 bytes)) (codes "add " ++ word) _ rest (kind.0, ap (λ w. codes "add " ++ w) (sym kind.1)) none refl (λ bytes is. is)
    (λ bytes. ap (λ w. codes "add " ++ (w ++ 32 ∷ hex_word bytes)) kind.1)

pub no_file_dropped : (word rest : List ℕ) (found : Option Kind) → Parses IsKind kind_text word found → found ≢ None → IsNoCommand (codes "drop" ++ 32 ∷ (word ++ 32 ∷ rest))
    → EndsInNo AsksTarget IsTarget target_text (codes "drop" ++ 32 ∷ (word ++ 32 ∷ rest))
no_file_dropped word rest found h some none =
    let kind = kind_of word found h some in
    ends_in_no AsksTarget IsTarget target_text (λ target. RawFile (Drop kind.0 target)) (codes "drop " ++ word) _ rest (inr (kind.0, ap (λ w. codes "drop " ++ w) (sym kind.1))) none refl (λ target is. is)
    (λ target. ap (λ w. codes "drop " ++ (w ++ 32 ∷ target_text target)) kind.1)
