-- A text that begins with another byte is none: its first token is a fault, or stands where no value begins.
use Rattle.std.proofs.Common.{◌≡◌, ℕ, ◌+◌, ◌==◌, Bool, true, false, cond, ◌||◌, List, [], ◌∷◌, drop, None, Some, refl, sym, subst, ap, ◌∙◌}
use Rattle.std.proofs.lemmas.Bool.{eqb-true}
use Rattle.std.specs.Char.{is_ascii_digit}
use Rattle.std.specs.List.{prefix_len, slice_get}
use Rattle.std.specs.Option.{option_and_then}
use Rattle.json.specs.Ascii as ascii
use Rattle.json.specs.Json.{if_last, value}
use Rattle.json.specs.Lex.{quote, backslash, operator, space, other, Lexeme, token, Mode, between, in_word, fresh, lex, lex_byte, operator_lexeme, punctuate}
use Rattle.json.specs.Token.{Token}
use Rattle.json.specs.Word.{after_digits, after_exponent, after_fraction, after_minus, after_number, after_whole, is_operator, is_space, literal, number_before, word}
use Rattle.serde_json.specs.Read.{max_depth, of_json, read}
use Rattle.keep_docs.specs.Begun.{begins_literal, begins_number, begins_text, begins_value}

-- ---- which of the bytes it isn't

left_false : (a b : Bool) → (a || b) ≡ false → a ≡ false
left_false true b h = h
left_false false b h = refl

right_false : (a b : Bool) → (a || b) ≡ false → b ≡ false
right_false true b h = cc h
right_false false b h = h

-- what holds at each of these bytes
at_byte : (P : ℕ → Type 0) (n x : ℕ) → P n → (x == n) ≡ true → P x
at_byte P n x p is = subst P (sym (eqb-true x n is)) p

-- ---- lists of lexemes without a value at the front

abbrev HasNone : List Lexeme → Type 0
HasNone ls = value max_depth (punctuate fresh ls) ≡ None

bad_first : (ls : List Lexeme) → HasNone (token Token.bad ∷ ls)
unfolding punctuate value
bad_first ls = refl

module _ (x : ℕ) (xs : List ℕ) (none : begins_value x ≡ false) where
  past_number : (begins_literal x || ((x == ascii.quote) || ((x == ascii.open_bracket) || (x == ascii.open_brace)))) ≡ false
  past_number = right_false (begins_number x) _ none

  past_literal : ((x == ascii.quote) || ((x == ascii.open_bracket) || (x == ascii.open_brace))) ≡ false
  past_literal = right_false (begins_literal x) _ past_number

  past_quote : ((x == ascii.open_bracket) || (x == ascii.open_brace)) ≡ false
  past_quote = right_false (x == ascii.quote) _ past_literal

  no_literal : begins_literal x ≡ false
  no_literal = left_false _ _ past_number

  not_minus : (x == ascii.minus) ≡ false
  not_minus = left_false (x == ascii.minus) (is_ascii_digit x) (left_false _ _ none)

  not_digit : is_ascii_digit x ≡ false
  not_digit = right_false (x == ascii.minus) _ (left_false _ _ none)

  not_t : (x == ascii.lower_t) ≡ false
  not_t = left_false _ _ no_literal

  not_f : (x == ascii.lower_f) ≡ false
  not_f = left_false (x == ascii.lower_f) (x == ascii.lower_n) (right_false (x == ascii.lower_t) _ no_literal)

  not_n : (x == ascii.lower_n) ≡ false
  not_n = right_false (x == ascii.lower_f) _ (right_false (x == ascii.lower_t) _ no_literal)

  not_quote : (x == ascii.quote) ≡ false
  not_quote = left_false _ _ past_literal

  not_bracket : (x == ascii.open_bracket) ≡ false
  not_bracket = left_false (x == ascii.open_bracket) (x == ascii.open_brace) past_quote

  not_brace : (x == ascii.open_brace) ≡ false
  not_brace = right_false (x == ascii.open_bracket) _ past_quote

  zero_is_digit : (b : Bool) → (x == ascii.zero) ≡ b → b ≡ false
  zero_is_digit true is = at_byte (λ y. is_ascii_digit y ≡ false → true ≡ false) ascii.zero x (λ h. h) is not_digit
  zero_is_digit false is = refl

  -- ---- a word

  no_digits : after_digits (x ∷ xs) ≡ None
  no_digits = ap (λ b. cond (cond b (1 + prefix_len is_ascii_digit xs) 0 == 0) None (Some (drop (cond b (1 + prefix_len is_ascii_digit xs) 0) (x ∷ xs)))) not_digit

  no_whole : after_whole (after_minus (x ∷ xs)) ≡ None
  no_whole =
      ap (λ b. after_whole (cond b xs (x ∷ xs))) not_minus
      ∙ ap (λ b. cond b (Some xs) (after_digits (x ∷ xs))) (zero_is_digit _ refl)
      ∙ no_digits

  no_word : word (x ∷ xs) ≡ Token.bad
  unfolding word after_number
  no_word =
      let number : Token = number_before (x ∷ xs) (option_and_then after_exponent (option_and_then after_fraction (after_whole (after_minus (x ∷ xs))))) in
      let t : Token = literal ascii.true_text (Token.boolean true) (x ∷ xs) in
      let f : Token = literal ascii.false_text (Token.boolean false) (x ∷ xs) in
      let n : Token = literal ascii.null_text Token.null (x ∷ xs) in
      ap (λ b. cond b t (cond (x == ascii.lower_f) f (cond (x == ascii.lower_n) n number))) not_t
      ∙ ap (λ b. cond b f (cond (x == ascii.lower_n) n number)) not_f
      ∙ ap (λ b. cond b n number) not_n
      ∙ ap (λ o. number_before (x ∷ xs) (option_and_then after_exponent (option_and_then after_fraction o))) no_whole

  -- ---- the first lexeme

  abbrev AfterOperator : ℕ → Type 0
  AfterOperator y = begins_value y ≡ false → (ls : List Lexeme) → HasNone (operator_lexeme y ∷ ls)

  operators : (a b c d e f : Bool) → (x == ascii.open_brace) ≡ a → (x == ascii.close_brace) ≡ b → (x == ascii.open_bracket) ≡ c → (x == ascii.close_bracket) ≡ d → (x == ascii.colon) ≡ e → (x == ascii.comma) ≡ f → is_operator x ≡ true → AfterOperator x
  unfolding punctuate value
  operators true b c d e f p q r s t u is = cc (p, not_brace)
  operators false true c d e f p q r s t u is = at_byte AfterOperator ascii.close_brace x (λ h ls. refl) q
  operators false false true d e f p q r s t u is = cc (r, not_bracket)
  operators false false false true e f p q r s t u is = at_byte AfterOperator ascii.close_bracket x (λ h ls. refl) s
  operators false false false false true f p q r s t u is = at_byte AfterOperator ascii.colon x (λ h ls. refl) t
  operators false false false false false true p q r s t u is = at_byte AfterOperator ascii.comma x (λ h ls. refl) u
  operators false false false false false false p q r s t u is = cc (p, q, r, s, t, u, is)

  class_is : (a b c d : Bool) → (x == ascii.quote) ≡ a → (x == ascii.backslash) ≡ b → is_operator x ≡ c → is_space x ≡ d → d ≡ false → (k : Mode → List Lexeme) → HasNone (lex_byte between (cond a quote (cond b backslash (cond c operator (cond d space other)))) x xs k)
  class_is true b c d p q r s t k = cc (p, not_quote)
  class_is false true c d p q r s t k = bad_first (k in_word)
  class_is false false true d p q r s t k = operators _ _ _ _ _ _ refl refl refl refl refl refl r none (k between)
  class_is false false false true p q r s t k = cc t
  class_is false false false false p q r s t k = subst (λ found. HasNone (token found ∷ k in_word)) (sym no_word) (bad_first (k in_word))

first_of_none : (x : ℕ) (xs : List ℕ) → begins_text x ≡ false → read (x ∷ xs) ≡ None
unfolding lex
first_of_none x xs none =
    ap (λ found. option_and_then of_json (option_and_then (λ p. if_last p.0 p.1) found))
    (class_is x xs (right_false (is_space x) _ none) _ _ _ _ refl refl refl refl (left_false _ _ none) (λ next. lex next xs))

pub begins_none : (bytes : List ℕ) (x : ℕ) → Some x ≡ slice_get bytes 0 → begins_text x ≡ false → read bytes ≡ None
begins_none [] x is none = cc is
begins_none (y ∷ ys) x is none = first_of_none y ys (cc (is, none))
