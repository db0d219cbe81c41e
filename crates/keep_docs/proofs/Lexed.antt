-- The keys and strings among the tokens of a text in UTF-8 are UTF-8.
use Rattle.std.proofs.Common.{◌≡◌, ℕ, ◌<◌, ◌==◌, Bool, true, false, cond, ◌&&◌, ◌-◌, List, [], ◌∷◌, ◌++◌, length, take, drop, nat_eq, Option, None, Some, IsUtf8, refl, sym, subst, arith, append_assoc}
use Rattle.std.proofs.lemmas.Bool.{eqb-true}
use Rattle.std.specs.List.{AllByRecursion, starts_with}
use Rattle.json.specs.Ascii as ascii
use Rattle.json.specs.Lex.{Class, quote, backslash, operator, space, other, Lexeme, token, comma, colon, Mode, between, in_word, in_string, in_escape}
use Rattle.json.specs.Lex.{Place, fresh, after_value, after_comma, after_key, begins_colon, class, if_allowed, lex, lex_byte, may_begin, may_close, operator_lexeme, place_token, punctuate, string_token, tokens}
use Rattle.json.specs.Text.{content, plain}
use Rattle.json.specs.Token.{Token}
use Rattle.json.specs.Word.{after_number, ends_word, head, is_operator, is_space, literal, number_before, word}
use Rattle.keep_docs.proofs.Strings.{IsUtf8-content, behind}

-- what a token carries is UTF-8, where it is a key or a string
abbrev pub HasText : Token → Type 0
HasText Token.begin_object = Unit {0}
HasText Token.end_object = Unit {0}
HasText Token.begin_array = Unit {0}
HasText Token.end_array = Unit {0}
HasText (Token.key s) = IsUtf8 s
HasText (Token.string s) = IsUtf8 s
HasText (Token.number s) = Unit {0}
HasText (Token.boolean b) = Unit {0}
HasText Token.null = Unit {0}
HasText Token.bad = Unit {0}

abbrev pub HaveText : List Token → Type 0
HaveText ts = AllByRecursion HasText ts

abbrev LexemeText : Lexeme → Type 0
LexemeText (token t) = HasText t
LexemeText comma = Unit {0}
LexemeText colon = Unit {0}

abbrev LexemesText : List Lexeme → Type 0
LexemesText ls = AllByRecursion LexemeText ls

-- ---- one lexeme

operator_at : (a b c d e : Bool) → LexemeText (cond a (token Token.begin_object) (cond b (token Token.end_object) (cond c (token Token.begin_array) (cond d (token Token.end_array) (cond e comma colon)))))
operator_at true b c d e = tt
operator_at false true c d e = tt
operator_at false false true d e = tt
operator_at false false false true e = tt
operator_at false false false false true = tt
operator_at false false false false false = tt

operator_text : (x : ℕ) → LexemeText (operator_lexeme x)
operator_text x = operator_at (x == ascii.open_brace) (x == ascii.close_brace) (x == ascii.open_bracket) (x == ascii.close_bracket) (x == ascii.comma)

literal_text : (b : Bool) (t : Token) → HasText t → HasText (cond b t Token.bad)
literal_text true t h = h
literal_text false t h = tt

number_text : (t : List ℕ) (o : Option (List ℕ)) → HasText (number_before t o)
number_text t None = tt
number_text t (Some rest) = literal_text (ends_word rest) (Token.number (take (length t - length rest) t)) tt

word_at : (a b c : Bool) (x y z w : Token) → HasText x → HasText y → HasText z → HasText w → HasText (cond a x (cond b y (cond c z w)))
word_at true b c x y z w p q r s = p
word_at false true c x y z w p q r s = q
word_at false false true x y z w p q r s = r
word_at false false false x y z w p q r s = s

word_text : (t : List ℕ) → HasText (word t)
unfolding word
word_text t =
    word_at (head t == ascii.lower_t) (head t == ascii.lower_f) (head t == ascii.lower_n)
    (literal ascii.true_text (Token.boolean true) t) (literal ascii.false_text (Token.boolean false) t) (literal ascii.null_text Token.null t) (number_before t (after_number t))
    (literal_text (starts_with nat_eq t ascii.true_text && ends_word (drop (length ascii.true_text) t)) (Token.boolean true) tt)
    (literal_text (starts_with nat_eq t ascii.false_text && ends_word (drop (length ascii.false_text) t)) (Token.boolean false) tt)
    (literal_text (starts_with nat_eq t ascii.null_text && ends_word (drop (length ascii.null_text) t)) Token.null tt)
    (number_text t (after_number t))

string_text : (o : Option (List ℕ)) → ((s : List ℕ) → o ≡ Some s → IsUtf8 s) → HasText (string_token o)
string_text None h = tt
string_text (Some s) h = h s refl

byte_text : (m : Mode) (c : Class) (x : ℕ) (xs : List ℕ) (k : Mode → List Lexeme) → (c ≡ quote → IsUtf8 xs) → ((next : Mode) → LexemesText (k next)) → LexemesText (lex_byte m c x xs k)
byte_text between quote x xs k text all = (string_text (content plain xs) (λ s is. IsUtf8-content xs s (text refl) is), all in_string)
byte_text between backslash x xs k text all = (tt, all in_word)
byte_text between operator x xs k text all = (operator_text x, all between)
byte_text between space x xs k text all = all between
byte_text between other x xs k text all = (word_text (x ∷ xs), all in_word)
byte_text in_word quote x xs k text all = all in_word
byte_text in_word backslash x xs k text all = all in_word
byte_text in_word operator x xs k text all = (operator_text x, all between)
byte_text in_word space x xs k text all = all between
byte_text in_word other x xs k text all = all in_word
byte_text in_string quote x xs k text all = all between
byte_text in_string backslash x xs k text all = all in_escape
byte_text in_string operator x xs k text all = all in_string
byte_text in_string space x xs k text all = all in_string
byte_text in_string other x xs k text all = all in_string
byte_text in_escape quote x xs k text all = all in_string
byte_text in_escape backslash x xs k text all = all in_string
byte_text in_escape operator x xs k text all = all in_string
byte_text in_escape space x xs k text all = all in_string
byte_text in_escape other x xs k text all = all in_string

-- ---- all lexemes

quote_first : (a b c d : Bool) → cond a quote (cond b backslash (cond c operator (cond d space other))) ≡ quote → a ≡ true
quote_first true b c d e = refl
quote_first false true c d e = cc
quote_first false false true d e = cc
quote_first false false false true e = cc
quote_first false false false false e = cc

quote_small : (x : ℕ) → class x ≡ quote → x < 128
quote_small x e =
    let is : x ≡ 34 = eqb-true x 34 (quote_first (x == ascii.quote) (x == ascii.backslash) (is_operator x) (is_space x) e) in
    omega arith

lex_text : (m : Mode) (before xs : List ℕ) → IsUtf8 (before ++ xs) → LexemesText (lex m xs)
unfolding lex
lex_text m before [] utf8 = tt
lex_text m before (x ∷ xs) utf8 =
    byte_text m (class x) x xs (λ next. lex next xs) (λ is. behind before x xs utf8 (quote_small x is))
    (λ next. lex_text next (before ++ x ∷ []) xs (subst IsUtf8 (sym (append_assoc before (x ∷ []) xs)) utf8))

-- ---- tokens

allowed : (b : Bool) (t : Token) (k : Place → List Token) (next : Place) → HasText t → HaveText (k next) → HaveText (if_allowed b t k next)
allowed true t k next h all = (h, all)
allowed false t k next h all = (tt, tt)

place_text : (p : Place) (t : Token) (b : Bool) (k : Place → List Token) → HasText t → ((next : Place) → HaveText (k next)) → HaveText (place_token p t b k)
place_text p Token.begin_object b k h all = allowed (may_begin p) Token.begin_object k fresh tt (all fresh)
place_text p Token.end_object b k h all = allowed (may_close p) Token.end_object k after_value tt (all after_value)
place_text p Token.begin_array b k h all = allowed (may_begin p) Token.begin_array k fresh tt (all fresh)
place_text p Token.end_array b k h all = allowed (may_close p) Token.end_array k after_value tt (all after_value)
place_text p (Token.key s) b k h all = (tt, tt)
place_text p (Token.string s) true k h all = allowed (may_begin p) (Token.key s) k after_key h (all after_key)
place_text p (Token.string s) false k h all = allowed (may_begin p) (Token.string s) k after_value h (all after_value)
place_text p (Token.number s) b k h all = allowed (may_begin p) (Token.number s) k after_value tt (all after_value)
place_text p (Token.boolean c) b k h all = allowed (may_begin p) (Token.boolean c) k after_value tt (all after_value)
place_text p Token.null b k h all = allowed (may_begin p) Token.null k after_value tt (all after_value)
place_text p Token.bad b k h all = (tt, tt)

punctuate_text : (p : Place) (ls : List Lexeme) → LexemesText ls → HaveText (punctuate p ls)
unfolding punctuate
punctuate_text fresh [] h = tt
punctuate_text after_value [] h = tt
punctuate_text after_comma [] h = (tt, tt)
punctuate_text after_key [] h = (tt, tt)
punctuate_text fresh (token t ∷ ls) h = place_text fresh t (begins_colon ls) (λ next. punctuate next ls) h.0 (λ next. punctuate_text next ls h.1)
punctuate_text after_value (token t ∷ ls) h = place_text after_value t (begins_colon ls) (λ next. punctuate next ls) h.0 (λ next. punctuate_text next ls h.1)
punctuate_text after_comma (token t ∷ ls) h = place_text after_comma t (begins_colon ls) (λ next. punctuate next ls) h.0 (λ next. punctuate_text next ls h.1)
punctuate_text after_key (token t ∷ ls) h = place_text after_key t (begins_colon ls) (λ next. punctuate next ls) h.0 (λ next. punctuate_text next ls h.1)
punctuate_text fresh (comma ∷ ls) h = (tt, tt)
punctuate_text after_value (comma ∷ ls) h = punctuate_text after_comma ls h.1
punctuate_text after_comma (comma ∷ ls) h = (tt, tt)
punctuate_text after_key (comma ∷ ls) h = (tt, tt)
punctuate_text fresh (colon ∷ ls) h = (tt, tt)
punctuate_text after_value (colon ∷ ls) h = (tt, tt)
punctuate_text after_comma (colon ∷ ls) h = (tt, tt)
punctuate_text after_key (colon ∷ ls) h = punctuate_text fresh ls h.1

pub tokens_text : (text : List ℕ) → IsUtf8 text → HaveText (tokens text)
tokens_text text utf8 = punctuate_text fresh (lex between text) (lex_text between [] text utf8)
