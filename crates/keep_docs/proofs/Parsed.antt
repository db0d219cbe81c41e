-- The keys and strings of the JSON that is read of a text in UTF-8 are UTF-8.
use Rattle.std.proofs.Common.{◌≡◌, ℕ, zero, suc, List, [], ◌∷◌, length, Option, None, Some, option_and_then, IsUtf8, subst}
use Rattle.json.specs.Json as json
use Rattle.json.specs.Json.{Parse, after_end_array, items, items_step, members, members_step, parse_map, read_key, value, value_with}
use Rattle.json.specs.Lex.{tokens}
use Rattle.json.specs.Token.{Token}
use Rattle.keep_docs.proofs.Lexed.{HaveText, tokens_text}
use Rattle.std.proofs.lemmas.Option.{none-some}

-- the keys and strings are UTF-8
abbrev mutual
  pub JsonText : json.Json → Type 0
  JsonText json.null = Unit {0}
  JsonText (json.boolean b) = Unit {0}
  JsonText (json.number s) = Unit {0}
  JsonText (json.string s) = IsUtf8 s
  JsonText (json.array js) = ItemsText js
  JsonText (json.object ms) = MembersText ms

  pub ItemsText : json.Items → Type 0
  ItemsText json.no_items = Unit {0}
  ItemsText (json.item j js) = JsonText j × ItemsText js

  pub MembersText : json.Members → Type 0
  MembersText json.no_members = Unit {0}
  MembersText (json.member k j ms) = IsUtf8 k × JsonText j × MembersText ms

abbrev Reads : {A : Type 0} → (A → Type 0) → Option (A × List Token) → Type 0
Reads P None = Unit {0}
Reads P (Some p) = P p.0 × HaveText p.1

abbrev Keeps : {A : Type 0} → (A → Type 0) → Parse A → Type 0
Keeps P p = (ts : List Token) → HaveText ts → Reads P (p ts)

mapped : {A B : Type 0} (P : A → Type 0) (Q : B → Type 0) (h : A → B) → ((a : A) → P a → Q (h a)) → (o : Option (A × List Token)) → Reads P o → Reads Q (parse_map h o)
mapped P Q h k None x = tt
mapped P Q h k (Some p) x = (k p.0 x.0, x.1)

and_more : {B : Type 0} (Q : B → Type 0) (h : json.Json → B → B) → ((j : json.Json) (b : B) → JsonText j → Q b → Q (h j b)) → (more : Parse B) → Keeps Q more
    → (o : Option (json.Json × List Token)) → Reads JsonText o → Reads Q (option_and_then (λ q. parse_map (h q.0) (more q.1)) o)
and_more Q h k more keeps None x = tt
and_more Q h k more keeps (Some q) x = mapped Q Q (h q.0) (λ b y. k q.0 b x.0 y) (more q.1) (keeps q.1 x.1)

abbrev RestText : Option (List Token) → Type 0
RestText None = Unit {0}
RestText (Some ts) = HaveText ts

after_end : (ts : List Token) → HaveText ts → RestText (after_end_array ts)
after_end [] h = tt
after_end (Token.begin_object ∷ ts) h = tt
after_end (Token.end_object ∷ ts) h = tt
after_end (Token.begin_array ∷ ts) h = tt
after_end (Token.end_array ∷ ts) h = h.1
after_end (Token.key s ∷ ts) h = tt
after_end (Token.string s ∷ ts) h = tt
after_end (Token.number s ∷ ts) h = tt
after_end (Token.boolean b ∷ ts) h = tt
after_end (Token.null ∷ ts) h = tt
after_end (Token.bad ∷ ts) h = tt

abbrev KeyText : Option (List ℕ) → Type 0
KeyText None = Unit {0}
KeyText (Some k) = IsUtf8 k

key_read : (ts : List Token) → HaveText ts → Reads KeyText (read_key ts)
key_read [] h = tt
key_read (Token.begin_object ∷ ts) h = tt
key_read (Token.end_object ∷ ts) h = (tt, h.1)
key_read (Token.begin_array ∷ ts) h = tt
key_read (Token.end_array ∷ ts) h = tt
key_read (Token.key s ∷ ts) h = (h.0, h.1)
key_read (Token.string s ∷ ts) h = tt
key_read (Token.number s ∷ ts) h = tt
key_read (Token.boolean b ∷ ts) h = tt
key_read (Token.null ∷ ts) h = tt
key_read (Token.bad ∷ ts) h = tt

module _ (p : Parse json.Json) (keeps : Keeps JsonText p) where
  item_turn : (more : Parse json.Items) → Keeps ItemsText more → (ts : List Token) → HaveText ts → (o : Option (List Token)) → RestText o → Reads ItemsText (items_step p more ts o)
  item_turn more again ts all (Some r) rest = (tt, rest)
  item_turn more again ts all None rest = and_more ItemsText json.item (λ j b x y. (x, y)) more again (p ts) (keeps ts all)

  Keeps-items : (n : ℕ) → Keeps ItemsText (items p n)
  unfolding items
  Keeps-items zero ts all = tt
  Keeps-items (suc n) ts all = item_turn (items p n) (Keeps-items n) ts all (after_end_array ts) (after_end ts all)

  member_turn : (more : Parse json.Members) → Keeps MembersText more → (o : Option (Option (List ℕ) × List Token)) → Reads KeyText o
      → Reads MembersText (option_and_then (λ q. members_step p more q.0 q.1) o)
  member_turn more again None h = tt
  member_turn more again (Some (None, s)) h = (tt, h.1)
  member_turn more again (Some (Some k, s)) h = and_more MembersText (json.member k) (λ j b x y. (h.0, x, y)) more again (p s) (keeps s h.1)

  Keeps-members : (n : ℕ) → Keeps MembersText (members p n)
  unfolding members
  Keeps-members zero ts all = tt
  Keeps-members (suc n) ts all = member_turn (members p n) (Keeps-members n) (read_key ts) (key_read ts all)

one_level : (a : Parse json.Items) (o : Parse json.Members) → ((ts : List Token) → HaveText ts → Reads JsonText (parse_map json.array (a ts)))
    → ((ts : List Token) → HaveText ts → Reads JsonText (parse_map json.object (o ts))) → Keeps JsonText (value_with a o)
one_level a o p q [] h = tt
one_level a o p q (Token.begin_object ∷ ts) h = q ts h.1
one_level a o p q (Token.end_object ∷ ts) h = tt
one_level a o p q (Token.begin_array ∷ ts) h = p ts h.1
one_level a o p q (Token.end_array ∷ ts) h = tt
one_level a o p q (Token.key s ∷ ts) h = tt
one_level a o p q (Token.string s ∷ ts) h = (h.0, h.1)
one_level a o p q (Token.number s ∷ ts) h = (tt, h.1)
one_level a o p q (Token.boolean b ∷ ts) h = (tt, h.1)
one_level a o p q (Token.null ∷ ts) h = (tt, h.1)
one_level a o p q (Token.bad ∷ ts) h = tt

Keeps-value : (d : ℕ) → Keeps JsonText (value d)
unfolding value
Keeps-value zero = one_level (λ ts. None) (λ ts. None) (λ ts h. tt) (λ ts h. tt)
Keeps-value (suc d) =
    one_level (λ ts. items (value d) (length ts) ts) (λ ts. members (value d) (length ts) ts)
    (λ ts h. mapped ItemsText JsonText json.array (λ js x. x) (items (value d) (length ts) ts) (Keeps-items (value d) (Keeps-value d) (length ts) ts h))
    (λ ts h. mapped MembersText JsonText json.object (λ ms x. x) (members (value d) (length ts) ts) (Keeps-members (value d) (Keeps-value d) (length ts) ts h))

last_text : (o : Option (json.Json × List Token)) (j : json.Json) → Reads JsonText o → option_and_then (λ p. json.if_last p.0 p.1) o ≡ Some j → JsonText j
last_text None j h e = absurd (none-some j e)
last_text (Some (i, [])) j h e = let same : i ≡ j = cc in subst JsonText same h.0
last_text (Some (i, t ∷ ts)) j h e = absurd (none-some j e)

-- the JSON of a text in UTF-8
pub JsonText-parsed : (text : List ℕ) (d : ℕ) (j : json.Json) → IsUtf8 text → option_and_then (λ p. json.if_last p.0 p.1) (json.value d (tokens text)) ≡ Some j → JsonText j
JsonText-parsed text d j utf8 e = last_text (json.value d (tokens text)) j (Keeps-value d (tokens text) (tokens_text text utf8)) e
