-- What is read of a value tells all of it: the value is the one that is written for what was read.
use Rattle.std.proofs.Common.{◌≡◌, ℕ, ◌+◌, ◌^◌, ◌<◌, ◌==◌, nat_lt, ltb-true, ℤ, pos, negsuc, Bool, true, false, cond, List, [], ◌∷◌, ◌++◌, map, length, get_or, codes, Option, None, Some, option_map, option_and_then, Result, Ok, Err, inl, inr, refl, sym, ap, subst, ◌∙◌, arith}
use Rattle.std.proofs.lemmas.Bool.{cases_lt, eqb-true}
use Rattle.std.proofs.lemmas.List.{drop_all}
use Rattle.std.proofs.lemmas.List.Sums.{AllPass-from_list_all, passes_at_first, split_at_first}
use Rattle.std.proofs.lemmas.Slice.Eq.{bytes_eq-Decides}
use Rattle.std.specs.List.{AllByRecursion, after_first, before_first, list_all, position_or_len}
use Rattle.std.specs.Result.{result_ok}
use Rattle.std.specs.Str.{bytes_eq}
use Rattle.hex.specs.Hex.{IsBytes, decode_of, encode_lower}
use Rattle.hex.proofs.HexLemmas.{decode_of-encode_lower, decode_of-ok, decode_of-same}
use Rattle.serde_json.specs.Data.{Data, null, boolean, number, string, array, object, unsigned, negative, float, Items, no_items, item, no_members, member}
use Rattle.serde_json.specs.Find.{as_bool, as_str, get, of_integer}
use Rattle.serde_json.specs.View.{items_of}
use Rattle.keep_names.specs.FileName.{kind_text, named}
use Rattle.keep_names.specs.Id.{IsDigest, is_lower_hex_digit}
use Rattle.keep_names.specs.declared.file_name.FileName.{FileName}
use Rattle.keep_names.specs.declared.file_name.Kind.{Kind}
use Rattle.keep_names.specs.declared.file_name.Kind.TheVariants.{Pack, Index, Snapshot}
use Rattle.keep_names.specs.declared.id.Id.{Id}
use Rattle.keep_names.proofs.HexText as hex_text
use Rattle.keep_names.proofs.IdText.{IsIdText-id_text}
use Rattle.keep_docs.specs.Fields.{as_id, as_list, as_whole, field, id_data, id_of_text, values_of}
use Rattle.keep_docs.specs.Lists.{each, list_data}
use Rattle.keep_docs.specs.Readable.{IsReadable}
use Rattle.keep_docs.proofs.IdTexts.{id_text-id_of_text}
use Rattle.keep_docs.proofs.Parts.{IsReadable-get, map_parts, readable-list, then_parts}
use Rattle.keep_change.specs.NamedBytes.{NamedBytes}
use Rattle.keep_change.specs.declared.change.PackMark.{PackMark}
use Rattle.keep_entries.specs.Entry.{FitsFile, FitsMark, FitsMoment, FitsName, mark_said}
use Rattle.keep_entries.specs.Shape.{as_bytes, as_moment, as_name, bytes_of_text, file_in, has_members, kind_named, list_of, mark_at, mark_in, moment_in, name_of_text, stored_in}
use Rattle.keep_entries.specs.Spelling.{file_data, mark_data, name_data, name_text}
use Rattle.keep_entries.specs.declared.form.Form.{Form}
use Rattle.keep_entries.specs.declared.form.Form.TheVariants.{Packs, Moments}
use Rattle.keep_entries.proofs.SameMembers.{same_object}
use Rattle.keep_entries.proofs.Written.{readable_file, readable_mark}

-- ---- values of one sort

pub string_is : (d : Data) (text : List ℕ) → as_str d ≡ Some text → d ≡ string text
string_is null text h = cc
string_is (boolean b) text h = cc
string_is (number n) text h = cc
string_is (string s) text h = let same : s ≡ text = cc in ap string same
string_is (array ds) text h = cc
string_is (object ms) text h = cc

pub whole_is : (d : Data) (n : ℕ) → as_whole d ≡ Some n → d ≡ number (unsigned n)
whole_is null n h = cc
whole_is (boolean b) n h = cc
whole_is (number (unsigned m)) n h = let same : m ≡ n = cc in ap (λ (k : ℕ). number (unsigned k)) same
whole_is (number (negative z)) n h = cc
whole_is (number (float x)) n h = cc
whole_is (string s) n h = cc
whole_is (array ds) n h = cc
whole_is (object ms) n h = cc

pub bool_is : (d : Data) (b : Bool) → as_bool d ≡ Some b → d ≡ boolean b
bool_is null b h = cc
bool_is (boolean c) b h = let same : c ≡ b = cc in ap boolean same
bool_is (number n) b h = cc
bool_is (string s) b h = cc
bool_is (array ds) b h = cc
bool_is (object ms) b h = cc

abbrev IsMoment : Data → ℤ → Type 0
IsMoment d z = (d ≡ number (of_integer z)) × FitsMoment z

small_moment : (b : Bool) (m : ℕ) (z : ℤ) → nat_lt m (2 ^ 63) ≡ b → cond b (Some (pos m)) None ≡ Some z → IsMoment (number (unsigned m)) z
small_moment true m z below h =
    let same : pos m ≡ z = cc in
    subst (λ (w : ℤ). IsMoment (number (unsigned m)) w) same (refl, ltb-true m (2 ^ 63) below)
small_moment false m z below h = cc

moment_is : (d : Data) (z : ℤ) → IsReadable d → as_moment d ≡ Some z → IsMoment d z
moment_is null z r h = cc
moment_is (boolean b) z r h = cc
moment_is (number (unsigned m)) z r h = small_moment (nat_lt m (2 ^ 63)) m z refl h
moment_is (number (negative (pos m))) z r h = absurd r
moment_is (number (negative (negsuc m))) z r h =
    let same : negsuc m ≡ z = cc in
    subst (λ (w : ℤ). IsMoment (number (negative (negsuc m))) w) same (refl, r)
moment_is (number (float x)) z r h = absurd r
moment_is (string s) z r h = cc
moment_is (array ds) z r h = cc
moment_is (object ms) z r h = cc

pub id_is : (d : Data) (id : Id) → as_id d ≡ Some id → (d ≡ id_data id) × IsDigest id
id_is d id h =
    let parts = then_parts (as_str d) id_of_text id h in
    let is = id_text-id_of_text parts.0 id parts.2 in
    (string_is d parts.0 parts.1 ∙ ap string (sym is.1), is.0)

-- ---- names

kind_by : (a b c : Bool) (word : List ℕ) (kind : Kind) → bytes_eq word (codes "pack") ≡ a → bytes_eq word (codes "index") ≡ b → bytes_eq word (codes "snapshot") ≡ c
    → cond a (Some Pack) (cond b (Some Index) (cond c (Some Snapshot) None)) ≡ Some kind → word ≡ kind_text kind
kind_by true b c word kind is_pack is_index is_snapshot h =
    let same : Pack ≡ kind = cc in
    subst (λ (k : Kind). word ≡ kind_text k) same ((bytes_eq-Decides word (codes "pack")).0 is_pack)
kind_by false true c word kind is_pack is_index is_snapshot h =
    let same : Index ≡ kind = cc in
    subst (λ (k : Kind). word ≡ kind_text k) same ((bytes_eq-Decides word (codes "index")).0 is_index)
kind_by false false true word kind is_pack is_index is_snapshot h =
    let same : Snapshot ≡ kind = cc in
    subst (λ (k : Kind). word ≡ kind_text k) same ((bytes_eq-Decides word (codes "snapshot")).0 is_snapshot)
kind_by false false false word kind is_pack is_index is_snapshot h = cc

kind_is : (word : List ℕ) (kind : Kind) → kind_named word ≡ Some kind → word ≡ kind_text kind
kind_is word kind h = kind_by (bytes_eq word (codes "pack")) (bytes_eq word (codes "index")) (bytes_eq word (codes "snapshot")) word kind refl refl refl h

abbrev is_slash : ℕ → Bool
is_slash = λ b. b == 47

-- a text is what stands before its first slash, the slash, and what stands behind it, if there is something
at_slash : (text : List ℕ) → 0 < length (after_first is_slash text) → text ≡ before_first is_slash text ++ 47 ∷ after_first is_slash text
at_slash text some =
    elim (cases_lt (position_or_len is_slash text) (length text)) [
      | inl there ↦
          let slash : get_or text (position_or_len is_slash text) 0 ≡ 47 = eqb-true (get_or text (position_or_len is_slash text) 0) 47 (passes_at_first is_slash text 0 there) in
          split_at_first is_slash text 0 there ∙ ap (λ (b : ℕ). before_first is_slash text ++ b ∷ after_first is_slash text) slash
      | inr not_there ↦
          let none = drop_all (position_or_len is_slash text + 1) text (omega (arith, not_there)) in
          absurd (omega (arith, some, ap length none))
    ]

abbrev IsName : List ℕ → FileName → Type 0
IsName text name = (text ≡ name_text name) × FitsName name

name_of_text_is : (text : List ℕ) (name : FileName) → name_of_text text ≡ Some name → IsName text name
name_of_text_is text name h =
    let back = after_first is_slash text in
    let kind = then_parts (kind_named (before_first is_slash text)) (λ k. option_and_then (λ i. Some (named k i)) (id_of_text back)) name h in
    let id = then_parts (id_of_text back) (λ i. Some (named kind.0 i)) name kind.2 in
    let same : named kind.0 id.0 ≡ name = cc in
    let digits = id_text-id_of_text back id.0 id.1 in
    let long : 0 < length back = omega (arith, ap length digits.1, (IsIdText-id_text id.0 digits.0).0) in
    let whole : text ≡ name_text (named kind.0 id.0) =
    at_slash text long
    ∙ ap (λ (front : List ℕ). front ++ 47 ∷ back) (kind_is (before_first is_slash text) kind.0 kind.1)
    ∙ ap (λ (rest : List ℕ). kind_text kind.0 ++ 47 ∷ rest) (sym digits.1)
    in
    subst (λ (n : FileName). IsName text n) same (whole, digits.0)

pub name_is : (d : Data) (name : FileName) → as_name d ≡ Some name → (d ≡ name_data name) × FitsName name
name_is d name h =
    let parts = then_parts (as_str d) name_of_text name h in
    let is = name_of_text_is parts.0 name parts.2 in
    (string_is d parts.0 parts.1 ∙ ap string is.0, is.1)

-- ---- bytes

pub ok_is : {A E : Type 0} (r : Result A E) (x : A) → result_ok r ≡ Some x → r ≡ Ok x
ok_is (Ok found) x h = let same : found ≡ x = cc in ap Ok same
ok_is (Err e) x h = cc

digits_are : (text bytes : List ℕ) (b : Bool) → list_all is_lower_hex_digit text ≡ b → cond b (result_ok (decode_of text)) None ≡ Some bytes
    → (text ≡ encode_lower bytes) × IsBytes bytes
digits_are text bytes true lower h =
    let decoded = ok_is (decode_of text) bytes h in
    let parts = decode_of-ok text bytes decoded in
    let found = hex_text.bytes_of_text text parts.0 (AllPass-from_list_all is_lower_hex_digit text lower) in
    let again : decode_of text ≡ Ok found.0 = ap decode_of (sym found.1) ∙ decode_of-encode_lower found.0 found.2 in
    (sym found.1 ∙ ap encode_lower (decode_of-same text found.0 bytes again decoded), parts.3)
digits_are text bytes false lower h = cc

bytes_are : (d : Data) (bytes : List ℕ) → as_bytes d ≡ Some bytes → (d ≡ string (encode_lower bytes)) × IsBytes bytes
bytes_are d bytes h =
    let parts = then_parts (as_str d) bytes_of_text bytes h in
    let is = digits_are parts.0 bytes (list_all is_lower_hex_digit parts.0) refl parts.2 in
    (string_is d parts.0 parts.1 ∙ ap string is.0, is.1)

-- ---- members

module _ {A : Type 0} where
  -- what is read of a member is its value
  pub at_key : (read : Data → Option A) (write : A → Data) (P : A → Type 0)
      → ((d : Data) (x : A) → IsReadable d → read d ≡ Some x → (d ≡ write x) × P x)
      → (key : List ℕ) (d : Data) (x : A) → IsReadable d → field key read d ≡ Some x → (get key d ≡ Some (write x)) × P x
  at_key read write P one key d x r h =
      let parts = then_parts (get key d) read x h in
      let is = one parts.0 x (IsReadable-get key d parts.0 r parts.1) parts.2 in
      (parts.1 ∙ ap Some is.0, is.1)

  -- both that it is so large, and what was read
  pub sized_parts : (b : Bool) (o : Option A) (x : A) → cond b o None ≡ Some x → (b ≡ true) × (o ≡ Some x)
  sized_parts true o x h = (refl, h)
  sized_parts false o x h = cc

-- ---- files and marks

abbrev IsFile : Data → NamedBytes → Type 0
IsFile d file = (d ≡ file_data file) × FitsFile file

pub file_is : (d : Data) (file : NamedBytes) → IsReadable d → file_in d ≡ Some file → IsFile d file
file_is d file r h =
    let size = sized_parts (has_members 2 d) (stored_in d) file h in
    let name = then_parts (field (codes "file") as_name d) (λ n. option_and_then (λ b. Some (record { name = n; bytes = b })) (field (codes "bytes") as_bytes d)) file size.1 in
    let bytes = then_parts (field (codes "bytes") as_bytes d) (λ b. Some (record { name = name.0; bytes = b })) file name.2 in
    let read : NamedBytes = record { name = name.0; bytes = bytes.0 } in
    let same : read ≡ file = cc in
    let is_name = at_key as_name name_data FitsName (λ x n _ e. name_is x n e) (codes "file") d name.0 r name.1 in
    let are_bytes = at_key as_bytes (λ b. string (encode_lower b)) IsBytes (λ x b _ e. bytes_are x b e) (codes "bytes") d bytes.0 r bytes.1 in
    let fits : FitsFile read = (is_name.1, are_bytes.1) in
    let want = member (codes "bytes") (string (encode_lower bytes.0)) (member (codes "file") (name_data name.0) no_members) in
    let whole : d ≡ file_data read = same_object d want r (readable_file read fits) size.0 (are_bytes.0, (is_name.0, tt)) in
    subst (λ (f : NamedBytes). IsFile d f) same (whole, fits)

-- the value is the mark's, which fits and of which the form tells all
abbrev pub IsMark : Form → Data → PackMark → Type 0
IsMark form d m = (d ≡ mark_data form m) × FitsMark m × (mark_said form m ≡ m)

mark_with_moment : (d : Data) (m : PackMark) → IsReadable d → mark_in Moments d ≡ Some m → IsMark Moments d m
mark_with_moment d m r h =
    let size = sized_parts (has_members 2 d) (moment_in d) m h in
    let pack = then_parts (field (codes "id") as_id d) (λ p. option_and_then (λ z. Some (mark_at p z)) (field (codes "moment") as_moment d)) m size.1 in
    let moment = then_parts (field (codes "moment") as_moment d) (λ z. Some (mark_at pack.0 z)) m pack.2 in
    let same : mark_at pack.0 moment.0 ≡ m = cc in
    let is_pack = at_key as_id id_data IsDigest (λ x p _ e. id_is x p e) (codes "id") d pack.0 r pack.1 in
    let is_moment = at_key as_moment (λ z. number (of_integer z)) FitsMoment moment_is (codes "moment") d moment.0 r moment.1 in
    let fits : FitsMark (mark_at pack.0 moment.0) = (is_pack.1, is_moment.1) in
    let want = member (codes "id") (id_data pack.0) (member (codes "moment") (number (of_integer moment.0)) no_members) in
    let whole : d ≡ mark_data Moments (mark_at pack.0 moment.0) = same_object d want r (readable_mark Moments (mark_at pack.0 moment.0) fits) size.0 (is_pack.0, (is_moment.0, tt)) in
    subst (λ (x : PackMark). IsMark Moments d x) same (whole, fits, refl)

pub mark_is : (form : Form) (d : Data) (m : PackMark) → IsReadable d → mark_in form d ≡ Some m → IsMark form d m
mark_is Packs d m r h =
    let pack = then_parts (as_id d) (λ p. Some (mark_at p (pos 0))) m h in
    let same : mark_at pack.0 (pos 0) ≡ m = cc in
    let is = id_is d pack.0 pack.1 in
    subst (λ (x : PackMark). IsMark Packs d x) same (is.0, (is.1, omega arith), refl)
mark_is Moments d m r h = mark_with_moment d m r h

-- ---- lists

items_of-values_of : (ds : Items) → items_of (values_of ds) ≡ ds
items_of-values_of no_items = refl
items_of-values_of (item d ds) = ap (item d) (items_of-values_of ds)

list_is : (d : Data) (values : List Data) → as_list d ≡ Some values → d ≡ list_data values
list_is null values h = cc
list_is (boolean b) values h = cc
list_is (number n) values h = cc
list_is (string s) values h = cc
list_is (array ds) values h = let same : values_of ds ≡ values = cc in ap array (sym (items_of-values_of ds)) ∙ ap list_data same
list_is (object ms) values h = cc

module _ {A : Type 0} (read : Data → Option A) (write : A → Data) (P : A → Type 0) (told : A → A)
    (one : (d : Data) (x : A) → IsReadable d → read d ≡ Some x → (d ≡ write x) × P x × (told x ≡ x)) where
  each_is : (ds : List Data) (xs : List A) → AllByRecursion IsReadable ds → each read ds ≡ Some xs
      → (ds ≡ map write xs) × AllByRecursion P xs × (map told xs ≡ xs)
  each_is [] xs r h =
      let none : [] ≡ xs = cc in
      subst (λ (ys : List A). ([] ≡ map write ys) × AllByRecursion P ys × (map told ys ≡ ys)) none (refl, tt, refl)
  each_is (d ∷ ds) xs r h =
      let first = then_parts (read d) (λ y. option_map (λ ys. y ∷ ys) (each read ds)) xs h in
      let rest = map_parts (each read ds) (λ ys. first.0 ∷ ys) xs first.2 in
      let is = one d first.0 r.0 first.1 in
      let are = each_is ds rest.0 r.1 rest.1 in
      subst (λ (ys : List A). (d ∷ ds ≡ map write ys) × AllByRecursion P ys × (map told ys ≡ ys)) rest.2
      (ap (λ (e : Data). e ∷ ds) is.0 ∙ ap (λ (es : List Data). write first.0 ∷ es) are.0, (is.1, are.1), ap (λ (y : A). y ∷ map told rest.0) is.2 ∙ ap (λ (ys : List A). first.0 ∷ ys) are.2)

  -- the list at a key is that of the values' texts
  pub list_at : (key : List ℕ) (d : Data) (xs : List A) → IsReadable d → list_of read key d ≡ Some xs
      → (get key d ≡ Some (list_data (map write xs))) × AllByRecursion P xs × (map told xs ≡ xs)
  list_at key d xs r h =
      let values = then_parts (field key as_list d) (each read) xs h in
      let found = then_parts (get key d) as_list values.0 values.1 in
      let readable = readable-list found.0 values.0 (IsReadable-get key d found.0 r found.1) found.2 in
      let are = each_is values.0 xs readable values.2 in
      (found.1 ∙ ap Some (list_is found.0 values.0 found.2 ∙ ap list_data are.0), are.1, are.2)
