-- What is read of the bytes of a document is readable, and nests to at most 127 levels.
use Rattle.std.proofs.Common.{◌≡◌, ℕ, zero, suc, ◌^◌, ◌<◌, ◌≤◌, ◌==◌, Bool, true, false, cond, ◌&&◌, nat_lt, nat_le, ltb-true, List, Option, None, Some, option_map, option_and_then, drop, slice_index, Ok, Err, IsUtf8, refl, subst, arith}
use Rattle.std.proofs.lemmas.Bool.{and_parts, leb-true, or_parts}
use Rattle.std.proofs.lemmas.Str.{IsUtf8-from_is_utf8}
use Rattle.std.specs.Str.{is_utf8}
use Rattle.fast_float.specs.Text.{minus, Parts, scan, digits_of, with_sign}
use Rattle.json.specs.Json as json
use Rattle.json.specs.Lex.{tokens}
use Rattle.serde_json.specs.Data.{Num, unsigned, negative, float}
use Rattle.serde_json.specs.Data.{Data, null, boolean, number, string, array, object, depth}
use Rattle.serde_json.specs.Data.{Items, no_items, item, Members, no_members, member, put}
use Rattle.serde_json.specs.Read.{float_of, is_integer, max_depth, number_from, number_of, read}
use Rattle.serde_json.specs.Read.{of_json, of_items, of_members}
use Rattle.serde_json.specs.Written.{has_float, items_have_float, members_have_float}
use Rattle.serde_json.proofs.Nesting.{depth-read}
use Rattle.keep_docs.specs.Doc.{doc_of, whole_value}
use Rattle.keep_docs.specs.Readable.{AreReadable, HasReadable, IsReadable, IsWhole, StandsBefore}
use Rattle.keep_docs.specs.declared.doc.DocError.{DocError}
use Rattle.keep_docs.specs.declared.doc.DocError.TheVariants.{NotJson, BadNumber}
use Rattle.keep_docs.proofs.Built.{so_put}
use Rattle.keep_docs.proofs.Parsed.{ItemsText, JsonText, JsonText-parsed, MembersText}

-- ---- values with floats

-- a number that is no float is whole and fits
abbrev FitsNumber : Num → Type 0
FitsNumber (unsigned n) = IsWhole (unsigned n)
FitsNumber (negative z) = IsWhole (negative z)
FitsNumber (float x) = Unit {0}

-- readable but for its floats
abbrev mutual
  IsKept : Data → Type 0
  IsKept null = Unit {0}
  IsKept (boolean b) = Unit {0}
  IsKept (number n) = FitsNumber n
  IsKept (string s) = IsUtf8 s
  IsKept (array ds) = AreKept ds
  IsKept (object ms) = HasKept ms

  AreKept : Items → Type 0
  AreKept no_items = Unit {0}
  AreKept (item d ds) = IsKept d × AreKept ds

  HasKept : Members → Type 0
  HasKept no_members = Unit {0}
  HasKept (member k d ms) = IsUtf8 k × IsKept d × StandsBefore k ms × HasKept ms

-- ---- numbers

chosen_fits : (whole : Bool) (x : Num) (other : Option Num) (m : Num) → (whole ≡ true → FitsNumber x)
    → (other ≡ Some m → FitsNumber m) → cond whole (Some x) other ≡ Some m → FitsNumber m
chosen_fits true x other m here later e = let same : x ≡ m = cc in subst FitsNumber same (here refl)
chosen_fits false x other m here later e = later e

float_fits : (finite : Bool) (x n : Num) → FitsNumber x → cond finite (Some x) None ≡ Some n → FitsNumber n
float_fits true x n h e = let same : x ≡ n = cc in subst FitsNumber same h
float_fits false x n h e = cc

float_of_fits : (sign : Bool) (p : Parts) (m : Num) → float_of sign p ≡ Some m → FitsNumber m
float_of_fits sign p m e = float_fits _ _ m tt e

negative_fits : (n : ℕ) → 0 < n → n ≤ 2 ^ 63 → FitsNumber (negative (with_sign true n))
negative_fits zero h k = absurd (omega arith)
negative_fits (suc m) h k = let small : m < 2 ^ 63 = omega arith in small

number_from_fits : (sign : Bool) (p : Parts) (m : Num) → number_from sign p ≡ Some m → FitsNumber m
number_from_fits true p m e =
    let n = digits_of p in
    chosen_fits (is_integer p && nat_lt 0 n && nat_le n (2 ^ 63)) (negative (with_sign true n)) (float_of true p) m
    (λ whole. let parts = and_parts (is_integer p && nat_lt 0 n) (nat_le n (2 ^ 63)) whole in
    negative_fits n (ltb-true 0 n (and_parts (is_integer p) (nat_lt 0 n) parts.0).1) (leb-true n (2 ^ 63) parts.1)) (float_of_fits true p m) e
number_from_fits false p m e =
    let n = digits_of p in
    chosen_fits (is_integer p && nat_lt n (2 ^ 64)) (unsigned n) (float_of false p) m
    (λ whole. ltb-true n (2 ^ 64) (and_parts (is_integer p) (nat_lt n (2 ^ 64)) whole).1) (float_of_fits false p m) e

either_sign : (minus : Bool) (p q : Parts) (m : Num)
    → cond minus (number_from true p) (number_from false q) ≡ Some m → FitsNumber m
either_sign true p q m e = number_from_fits true p m e
either_sign false p q m e = number_from_fits false q m e

number_of_fits : (s : List ℕ) (m : Num) → number_of s ≡ Some m → FitsNumber m
unfolding number_of
number_of_fits s m e = either_sign (slice_index s 0 == minus) (scan (drop 1 s)) (scan s) m e

-- ---- objects

HasKept-put : (k : List ℕ) (d : Data) (ms : Members) → IsUtf8 k → IsKept d → HasKept ms → HasKept (put k d ms)
HasKept-put = so_put IsKept HasKept tt (λ k d ms. (λ h. h, λ h. h))

-- ---- values of JSON

module _ {A B : Type 0} (P : A → Type 0) (Q : B → Type 0) (f : A → B) (kept : (x : A) → P x → Q (f x)) where
  mapped : (o : Option A) (y : B) → ((x : A) → o ≡ Some x → P x) → option_map f o ≡ Some y → Q y
  mapped None y h is = cc
  mapped (Some x) y h is = let same : f x ≡ y = cc in subst Q same (kept x (h x refl))

joined : (o : Option Data) (rest : Option Items) (ds : Items) → ((d : Data) → o ≡ Some d → IsKept d)
    → ((es : Items) → rest ≡ Some es → AreKept es)
    → option_and_then (λ d. option_map (item d) rest) o ≡ Some ds → AreKept ds
joined None rest ds h all is = cc
joined (Some d) rest ds h all is = mapped AreKept AreKept (item d) (λ es fit. (h d refl, fit)) rest ds all is

then_kept : (o : Option Data) (next : Data → Option Members) (ms : Members)
    → ((d : Data) → o ≡ Some d → IsKept d)
    → ((d : Data) → IsKept d → next d ≡ Some ms → HasKept ms)
    → option_and_then next o ≡ Some ms → HasKept ms
then_kept None next ms h later is = cc
then_kept (Some d) next ms h later is = later d (h d refl) is

mutual
  json_kept : (j : json.Json) (d : Data) → JsonText j → of_json j ≡ Some d → IsKept d
  json_kept json.null d text is = let same : null ≡ d = cc in subst IsKept same tt
  json_kept (json.boolean b) d text is = let same : boolean b ≡ d = cc in subst IsKept same tt
  json_kept (json.number s) d text is = mapped FitsNumber IsKept number (λ n h. h) (number_of s) d (number_of_fits s) is
  json_kept (json.string s) d text is = let same : string s ≡ d = cc in subst IsKept same text
  json_kept (json.array js) d text is = mapped AreKept IsKept array (λ ds h. h) (of_items js) d (λ ds. items_kept js ds text) is
  json_kept (json.object ms) d text is =
      mapped HasKept IsKept object (λ found h. h) (of_members ms no_members) d (λ found. members_kept ms no_members found text tt) is

  items_kept : (js : json.Items) (ds : Items) → ItemsText js → of_items js ≡ Some ds → AreKept ds
  items_kept json.no_items ds text is = let same : no_items ≡ ds = cc in subst AreKept same tt
  items_kept (json.item j js) ds text is = joined (of_json j) (of_items js) ds (λ d. json_kept j d text.0) (λ es. items_kept js es text.1) is

  members_kept : (ms : json.Members) (found all : Members) → MembersText ms → HasKept found → of_members ms found ≡ Some all → HasKept all
  members_kept json.no_members found all text h is = let same : found ≡ all = cc in subst HasKept same h
  members_kept (json.member k j ms) found all text h is =
      then_kept (of_json j) (λ d. of_members ms (put k d found)) all (λ d. json_kept j d text.1)
      (λ d kept. members_kept ms (put k d found) all text.2 (HasKept-put k d found text.0 kept h)) is

-- ---- no floats

whole_number : (n : Num) → FitsNumber n → has_float (number n) ≡ false → IsWhole n
whole_number (unsigned n) h e = h
whole_number (negative z) h e = h
whole_number (float x) h e = let no : true ≡ false = e in cc

mutual
  readable_value : (d : Data) → IsKept d → has_float d ≡ false → IsReadable d
  readable_value null h e = tt
  readable_value (boolean b) h e = tt
  readable_value (number n) h e = whole_number n h e
  readable_value (string s) h e = h
  readable_value (array ds) h e = readable_items ds h e
  readable_value (object ms) h e = readable_members ms h e

  readable_items : (ds : Items) → AreKept ds → items_have_float ds ≡ false → AreReadable ds
  readable_items no_items h e = tt
  readable_items (item d ds) h e =
      let parts = or_parts (has_float d) (items_have_float ds) e in
      (readable_value d h.0 parts.0, readable_items ds h.1 parts.1)

  readable_members : (ms : Members) → HasKept ms → members_have_float ms ≡ false → HasReadable ms
  readable_members no_members h e = tt
  readable_members (member k d ms) h e =
      let parts = or_parts (has_float d) (members_have_float ms) e in
      (h.0, readable_value d h.1 parts.0, h.2, readable_members ms h.3 parts.1)

-- ---- documents

no_error : (x : DocError) (d : Data) → Err x ≡ Ok d → ⊥
no_error x d e = cc

parsed_kept : (o : Option json.Json) (d : Data) → ((j : json.Json) → o ≡ Some j → JsonText j) → option_and_then of_json o ≡ Some d → IsKept d
parsed_kept None d text is = cc
parsed_kept (Some j) d text is = json_kept j d (text j refl) is

read_kept : (bytes : List ℕ) (d : Data) → IsUtf8 bytes → read bytes ≡ Some d → IsKept d
read_kept bytes d utf8 is =
    parsed_kept (option_and_then (λ p. json.if_last p.0 p.1) (json.value max_depth (tokens bytes))) d (λ j. JsonText-parsed bytes max_depth j utf8) is

-- readable, and nested to 127 levels
abbrev IsDocument : Data → Type 0
IsDocument d = IsReadable d × (depth d ≤ max_depth)

unless_float : (bytes : List ℕ) (x d : Data) (b : Bool) → has_float x ≡ b → read bytes ≡ Some x → IsUtf8 bytes → cond b (Err BadNumber) (Ok x) ≡ Ok d → IsDocument d
unless_float bytes x d true told is utf8 e = absurd (no_error BadNumber d e)
unless_float bytes x d false told is utf8 e =
    let same : x ≡ d = cc in
    subst IsDocument same (readable_value x (read_kept bytes x utf8 is) told, depth-read bytes x is)

value_document : (bytes : List ℕ) (d : Data) (o : Option Data) → read bytes ≡ o → IsUtf8 bytes → whole_value o ≡ Ok d → IsDocument d
value_document bytes d None is utf8 e = absurd (no_error NotJson d e)
value_document bytes d (Some x) is utf8 e = unless_float bytes x d (has_float x) refl is utf8 e

by_utf8 : (bytes : List ℕ) (d : Data) (b : Bool) → is_utf8 bytes ≡ b → cond b (whole_value (read bytes)) (Err NotJson) ≡ Ok d → IsDocument d
by_utf8 bytes d true is e = value_document bytes d (read bytes) refl (IsUtf8-from_is_utf8 bytes is) e
by_utf8 bytes d false is e = absurd (no_error NotJson d e)

-- what is read of any bytes
pub document-doc_of : (bytes : List ℕ) (d : Data) → doc_of bytes ≡ Ok d → IsReadable d × (depth d ≤ max_depth)
document-doc_of bytes d e = by_utf8 bytes d (is_utf8 bytes) refl e
