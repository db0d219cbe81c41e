-- A readable value reads back from its text.
use Rattle.std.proofs.Common.{◌≡◌, ℕ, suc, ◌^◌, ◌<◌, ◌≤◌, max, pos, negsuc, List, [], ◌∷◌, Bool, true, false, ◌||◌, Option, Some, option_map, option_and_then, Ok, IsUtf8, decimal, refl, sym, ap, ap₂, ◌∙◌, arith, append-nil}
use Rattle.std.proofs.lemmas.Fmt.{IsAscii-decimal}
use Rattle.std.proofs.lemmas.Str.{IsUtf8-append, IsUtf8-from_ascii, IsUtf8-nil, is_utf8-from_IsUtf8}
use Rattle.json.specs.Lex.{tokens}
use Rattle.json.specs.Token.{Token}
use Rattle.json.specs.Print.{quoted}
use Rattle.json.specs.Json as json
use Rattle.json.specs.Tree as tree
use Rattle.json.proofs.Printed.Decimals.{IsNumber-decimal, IsNumber-signed_decimal}
use Rattle.json.proofs.Printed.Tokens.{tokens-print}
use Rattle.json.proofs.Printed.Trees.{ArePrintable-json_tokens, value-json_tokens}
use Rattle.json.proofs.Printed.Utf8.{IsUtf8-are_ascii, IsUtf8-boolean, IsUtf8-quoted}
use Rattle.serde_json.specs.Data.{Num, unsigned, negative, float, Data, null, boolean, number, string, array, object, Items, no_items, item, Members, no_members, member, put, depth, items_depth, members_depth}
use Rattle.serde_json.specs.Read.{read, of_json, of_items, of_members, max_depth}
use Rattle.serde_json.specs.Written.{has_float, items_have_float, members_have_float, outline, items_outline, members_outline, number_text, compact_text, items_text, members_text, comma_if}
use Rattle.serde_json.proofs.Numbers.{number_of-decimal, number_of-negative}
use Rattle.serde_json.proofs.Texts.{print-outline}
use Rattle.keep_docs.specs.Doc.{doc_of}
use Rattle.keep_docs.specs.Readable.{IsWhole, IsReadable, AreReadable, HasReadable}
use Rattle.keep_docs.proofs.Members.{join, join_none, join_more, Precede, precede_more, put_last}

-- ---- no float

whole_number : (n : Num) → IsWhole n → has_float (number n) ≡ false
whole_number (unsigned n) h = refl
whole_number (negative z) h = refl
whole_number (float x) h = absurd h

neither : (a b : Bool) → a ≡ false → b ≡ false → (a || b) ≡ false
neither true b e f = cc
neither false b e f = f

mutual
  pub has_float-IsReadable : (d : Data) → IsReadable d → has_float d ≡ false
  has_float-IsReadable null h = refl
  has_float-IsReadable (boolean b) h = refl
  has_float-IsReadable (number n) h = whole_number n h
  has_float-IsReadable (string s) h = refl
  has_float-IsReadable (array ds) h = items_have_float-AreReadable ds h
  has_float-IsReadable (object ms) h = members_have_float-HasReadable ms h

  items_have_float-AreReadable : (ds : Items) → AreReadable ds → items_have_float ds ≡ false
  items_have_float-AreReadable no_items h = refl
  items_have_float-AreReadable (item d ds) h = neither (has_float d) (items_have_float ds) (has_float-IsReadable d h.0) (items_have_float-AreReadable ds h.1)

  members_have_float-HasReadable : (ms : Members) → HasReadable ms → members_have_float ms ≡ false
  members_have_float-HasReadable no_members h = refl
  members_have_float-HasReadable (member k d ms) h = neither (has_float d) (members_have_float ms) (has_float-IsReadable d h.1) (members_have_float-HasReadable ms h.3)

-- ---- the text is UTF-8

decimal_utf8 : (n : ℕ) → n < 2 ^ 64 → IsUtf8 (decimal n)
decimal_utf8 n h = IsUtf8-from_ascii _ (IsAscii-decimal n h)

number_utf8 : (n : Num) → IsWhole n → IsUtf8 (number_text n)
number_utf8 (unsigned n) h = decimal_utf8 n h
number_utf8 (negative (pos n)) h = absurd h
number_utf8 (negative (negsuc n)) h = IsUtf8-append (45 ∷ []) (decimal (suc n)) (IsUtf8-are_ascii _ refl) (decimal_utf8 (suc n) (omega arith))
number_utf8 (float x) h = absurd h

comma_utf8 : (later : Bool) → IsUtf8 (comma_if later)
comma_utf8 true = IsUtf8-are_ascii _ refl
comma_utf8 false = IsUtf8-nil

mutual
  pub IsUtf8-compact_text : (d : Data) → IsReadable d → IsUtf8 (compact_text d)
  IsUtf8-compact_text null h = IsUtf8-are_ascii _ refl
  IsUtf8-compact_text (boolean b) h = IsUtf8-boolean b
  IsUtf8-compact_text (number n) h = number_utf8 n h
  IsUtf8-compact_text (string s) h = IsUtf8-quoted s h
  IsUtf8-compact_text (array ds) h = IsUtf8-append (91 ∷ []) _ (IsUtf8-are_ascii _ refl) (IsUtf8-items_text false ds h)
  IsUtf8-compact_text (object ms) h = IsUtf8-append (123 ∷ []) _ (IsUtf8-are_ascii _ refl) (IsUtf8-members_text false ms h)

  IsUtf8-items_text : (later : Bool) (ds : Items) → AreReadable ds → IsUtf8 (items_text later ds)
  IsUtf8-items_text later no_items h = IsUtf8-are_ascii _ refl
  IsUtf8-items_text later (item d ds) h =
      IsUtf8-append _ _ (comma_utf8 later) (IsUtf8-append _ _ (IsUtf8-compact_text d h.0) (IsUtf8-items_text true ds h.1))

  IsUtf8-members_text : (later : Bool) (ms : Members) → HasReadable ms → IsUtf8 (members_text later ms)
  IsUtf8-members_text later no_members h = IsUtf8-are_ascii _ refl
  IsUtf8-members_text later (member k d ms) h =
      IsUtf8-append _ _ (comma_utf8 later)
      (IsUtf8-append (quoted k) _ (IsUtf8-quoted k h.0)
      (IsUtf8-append (58 ∷ []) _ (IsUtf8-are_ascii _ refl) (IsUtf8-append _ _ (IsUtf8-compact_text d h.1) (IsUtf8-members_text true ms h.3))))

-- ---- its JSON can be printed, and is as deep

number_prints : (n : Num) → IsWhole n → tree.HasNumbers (json.number (number_text n))
number_prints (unsigned n) h = IsNumber-decimal n h
number_prints (negative (pos n)) h = absurd h
number_prints (negative (negsuc n)) h = IsNumber-signed_decimal (negsuc n) h
number_prints (float x) h = absurd h

mutual
  HasNumbers-outline : (d : Data) → IsReadable d → tree.HasNumbers (outline d)
  HasNumbers-outline null h = tt
  HasNumbers-outline (boolean b) h = tt
  HasNumbers-outline (number n) h = number_prints n h
  HasNumbers-outline (string s) h = tt
  HasNumbers-outline (array ds) h = ItemsHaveNumbers-outline ds h
  HasNumbers-outline (object ms) h = MembersHaveNumbers-outline ms h

  ItemsHaveNumbers-outline : (ds : Items) → AreReadable ds → tree.ItemsHaveNumbers (items_outline ds)
  ItemsHaveNumbers-outline no_items h = tt
  ItemsHaveNumbers-outline (item d ds) h = (HasNumbers-outline d h.0, ItemsHaveNumbers-outline ds h.1)

  MembersHaveNumbers-outline : (ms : Members) → HasReadable ms → tree.MembersHaveNumbers (members_outline ms)
  MembersHaveNumbers-outline no_members h = tt
  MembersHaveNumbers-outline (member k d ms) h = (HasNumbers-outline d h.1, MembersHaveNumbers-outline ms h.3)

mutual
  depth-outline : (d : Data) → tree.depth (outline d) ≡ depth d
  depth-outline null = refl
  depth-outline (boolean b) = refl
  depth-outline (number n) = refl
  depth-outline (string s) = refl
  depth-outline (array ds) = ap suc (items_depth-outline ds)
  depth-outline (object ms) = ap suc (members_depth-outline ms)

  items_depth-outline : (ds : Items) → tree.items_depth (items_outline ds) ≡ items_depth ds
  items_depth-outline no_items = refl
  items_depth-outline (item d ds) = ap₂ max (depth-outline d) (items_depth-outline ds)

  members_depth-outline : (ms : Members) → tree.members_depth (members_outline ms) ≡ members_depth ms
  members_depth-outline no_members = refl
  members_depth-outline (member k d ms) = ap₂ max (depth-outline d) (members_depth-outline ms)

-- ---- its JSON stands for it

number_back : (n : Num) → IsWhole n → of_json (json.number (number_text n)) ≡ Some (number n)
number_back (unsigned n) h = ap (option_map number) (number_of-decimal n h)
number_back (negative (pos n)) h = absurd h
number_back (negative (negsuc n)) h = ap (option_map number) (number_of-negative n h)
number_back (float x) h = absurd h

mutual
  of_json-outline : (d : Data) → IsReadable d → of_json (outline d) ≡ Some d
  of_json-outline null h = refl
  of_json-outline (boolean b) h = refl
  of_json-outline (number n) h = number_back n h
  of_json-outline (string s) h = refl
  of_json-outline (array ds) h = ap (option_map array) (of_items-outline ds h)
  of_json-outline (object ms) h = ap (option_map object) (of_members-outline ms no_members h tt)

  of_items-outline : (ds : Items) → AreReadable ds → of_items (items_outline ds) ≡ Some ds
  of_items-outline no_items h = refl
  of_items-outline (item d ds) h = rw (of_json-outline d h.0, of_items-outline ds h.1)

  of_members-outline : (ms done : Members) → HasReadable ms → Precede done ms → of_members (members_outline ms) done ≡ Some (join done ms)
  of_members-outline no_members done h before = ap Some (sym (join_none done))
  of_members-outline (member k d ms) done h before =
      let last = put_last done k d ms before in
      ap (option_and_then (λ e. of_members (members_outline ms) (put k e done))) (of_json-outline d h.1) ∙ ap (of_members (members_outline ms)) last
      ∙ of_members-outline ms (join done (member k d no_members)) h.3 (precede_more done k d ms before h.2) ∙ ap Some (join_more done k d ms)

-- ---- the text

-- the value of the JSON that was read, if nothing follows
abbrev whole : Option (json.Json × List Token) → Option Data
whole o = option_and_then of_json (option_and_then (λ p. json.if_last p.0 p.1) o)

tokens-compact_text : (d : Data) → IsReadable d → tokens (compact_text d) ≡ tree.json_tokens (outline d)
tokens-compact_text d h = ap tokens (sym (print-outline d)) ∙ tokens-print _ (ArePrintable-json_tokens (outline d) (HasNumbers-outline d h))

-- the text of a readable value is read as the value
pub read-compact_text : (d : Data) → IsReadable d → depth d ≤ max_depth → read (compact_text d) ≡ Some d
read-compact_text d h shallow =
    let deep = depth-outline d in
    ap whole (ap (json.value max_depth) (tokens-compact_text d h ∙ sym (append-nil _)) ∙ value-json_tokens (outline d) max_depth [] (omega (arith, deep)))
    ∙ of_json-outline d h

-- and as a document
pub doc_of-compact_text : (d : Data) → IsReadable d → depth d ≤ max_depth → doc_of (compact_text d) ≡ Ok d
doc_of-compact_text d h shallow =
    rw (is_utf8-from_IsUtf8 _ (IsUtf8-compact_text d h), read-compact_text d h shallow, has_float-IsReadable d h)
