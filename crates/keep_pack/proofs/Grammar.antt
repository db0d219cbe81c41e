-- A header is read exactly where the grammar of packs gives it.
use Rattle.std.proofs.Common.{◌≡◌, ℕ, ◌+◌, ◌-◌, ◌*◌, ◌/◌, ◌%◌, ◌≤◌, Bool, true, false, cond, eqb}
use Rattle.std.proofs.Common.{List, [], ◌∷◌, ◌++◌, length, take, drop, map, All, Result, Ok, Err}
use Rattle.std.proofs.Common.{refl, sym, ap, subst, ◌∙◌, append_assoc, arith}
use Rattle.std.specs.Global.{Vec}
use Rattle.std.specs.Prelude.{IfOk}
use Rattle.std.specs.Int.{w32, to_le_bytes, from_le_bytes}
use Rattle.std.specs.List.{AllByRecursion, concat, flat_map, list_any, sum_by}
use Rattle.std.specs.Simd.{first_chunks}
use Rattle.std.proofs.lemmas.Bool.{cond-false, cond-true, eq-eqb, eqb-true, le-ltb, not-false}
use Rattle.std.proofs.lemmas.Bool.{not_from_true, or_from}
use Rattle.std.proofs.lemmas.List.{take_at, drop_at, take_all, take-append-drop, nil_from_length}
use Rattle.std.proofs.lemmas.List.{length-append, length-drop, length-map, length-take-le}
use Rattle.std.proofs.lemmas.List.Elements.{All-from_recursion}
use Rattle.std.proofs.lemmas.List.Sums.{sum_by-cons}
use Rattle.std.proofs.lemmas.Nat.{le_bytes_4, from_le_bytes-to_le_bytes_4}
use Rattle.keep_names.specs.declared.blob.Blob.{Blob}
use Rattle.keep_pack.specs.declared.pack_error.PackError.{PackError}
use Rattle.keep_pack.specs.declared.pack_error.PackError.TheVariants.{ShortPack, BadHeaderLength, BadBlobType}
use Rattle.keep_pack.specs.declared.pack_error.PackError.TheVariants.{LengthsDontFit}
use Rattle.keep_pack.specs.Pack.{Entry, IsPackOf, IsPack, HasHeader, LiesIn}
use Rattle.keep_pack.specs.Pack.{bytes_at, entry_bytes, entries_from}
use Rattle.keep_pack.specs.Reading.{Gives, IsBytes, header_of, is_short, has_bad_header_length}
use Rattle.keep_pack.specs.Reading.{has_bad_blob_type}
use Rattle.keep_pack.specs.Reading.{lengths_dont_fit, header_length, before_length, blobs_in, header_in}
use Rattle.keep_pack.specs.Reading.{raw_entries, has_bad_type, length_in, listed_in}
use Rattle.keep_pack.proofs.Entries.{IsBytes-take, IsBytes-drop, below_2_32, length-entries}
use Rattle.keep_pack.proofs.Entries.{first_chunks-entries}
use Rattle.keep_pack.proofs.Entries.{map-listed_in, types_known, sum-entries, length-first_chunks, rewritten}
use Rattle.keep_pack.proofs.Frame.{framed, sound}

heads : (x y : ℕ) (xs ys : List ℕ) → x ∷ xs ≡ y ∷ ys → (x ≡ y) × (xs ≡ ys)
heads x y xs ys e = (cc, cc)

-- ---- a split pack is refused, or its entries are read

pub bad_type-refused : (pack : List ℕ) → is_short pack ≡ false → has_bad_header_length pack ≡ false
    → has_bad_blob_type pack ≡ true → header_of pack ≡ Err BadBlobType
unfolding header_of
bad_type-refused pack long fine bad =
    cond-false (is_short pack) _ _ long ∙ cond-false (has_bad_header_length pack) _ _ fine
    ∙ cond-true (has_bad_blob_type pack) _ _ bad

pub bad_lengths-refused : (pack : List ℕ) → is_short pack ≡ false → has_bad_header_length pack ≡ false
    → has_bad_blob_type pack ≡ false → lengths_dont_fit pack ≡ true → header_of pack ≡ Err LengthsDontFit
unfolding header_of
bad_lengths-refused pack long fine known bad =
    cond-false (is_short pack) _ _ long ∙ cond-false (has_bad_header_length pack) _ _ fine
    ∙ cond-false (has_bad_blob_type pack) _ _ known ∙ cond-true (lengths_dont_fit pack) _ _ bad

pub fit-read : (pack : List ℕ) → is_short pack ≡ false → has_bad_header_length pack ≡ false
    → has_bad_blob_type pack ≡ false → lengths_dont_fit pack ≡ false
    → header_of pack ≡ Ok (entries_from 0 (map listed_in (raw_entries pack)))
unfolding header_of
fit-read pack long fine known fit =
    cond-false (is_short pack) _ _ long ∙ cond-false (has_bad_header_length pack) _ _ fine
    ∙ cond-false (has_bad_blob_type pack) _ _ known ∙ cond-false (lengths_dont_fit pack) _ _ fit

-- ---- what the grammar gives is read

total_is : (ls : List Entry) (blobs : List (List ℕ)) → map (λ l. l.length) ls ≡ map length blobs
    → sum_by (λ (l : Entry). l.length) ls ≡ length (concat blobs)
total_is [] [] e = refl
total_is [] (b ∷ bs) e = absurd cc
total_is (l ∷ ls) [] e = absurd cc
total_is (l ∷ ls) (b ∷ bs) e =
    let same = heads l.length (length b) (map (λ l. l.length) ls) (map length bs) e in
    omega (
      arith,
      sum_by-cons (λ (l : Entry). l.length) l ls,
      length-append b (concat bs),
      total_is ls bs same.1,
    )

-- what is read of a pack: the entries as they stand are those that are listed
pub record IsRead (pack : List ℕ) (listed : List Entry) : Type 0 where
  pub listed_is : map listed_in (raw_entries pack) ≡ listed
  pub header_is : header_of pack ≡ Ok (entries_from 0 listed)

pub is_read : (pack : List ℕ) (listed : List Entry) → IsPack pack listed → IsRead pack listed
is_read pack listed is_pack =
    let blobs = is_pack.0 in
    let of_blobs = is_pack.1 in
    let header = flat_map entry_bytes listed in
    let tail = to_le_bytes w32 (37 * length listed) in
    let long : length header ≡ 37 * length listed = length-entries listed of_blobs.entries in
    let says : from_le_bytes w32 tail ≡ length header =
    from_le_bytes-to_le_bytes_4 (37 * length listed) of_blobs.header ∙ sym long in
    let frame = framed pack (concat blobs) header tail of_blobs.bytes refl says in
    let count : length header / 37 ≡ length listed = omega (arith, long) in
    let raws : raw_entries pack ≡ map entry_bytes listed =
    ap (λ (bytes : List ℕ). first_chunks 37 (length bytes / 37) bytes) frame.back
    ∙ ap (λ (k : ℕ). first_chunks 37 k header) count ∙ first_chunks-entries listed of_blobs.entries in
    let whole : header_length pack % 37 ≡ 0 = omega (arith, frame.said, long) in
    let room : header_length pack ≤ length (before_length pack) = omega (arith, frame.said, frame.room) in
    let fine : has_bad_header_length pack ≡ false =
    or_from _ _ (not_from_true _ (eq-eqb (header_length pack % 37) 0 whole))
    (le-ltb (length (before_length pack)) (header_length pack) room) in
    let known : has_bad_blob_type pack ≡ false = ap (list_any has_bad_type) raws ∙ types_known listed in
    let sum : sum_by length_in (raw_entries pack) ≡ length (blobs_in pack) =
    ap (sum_by length_in) raws ∙ sum-entries listed of_blobs.entries
    ∙ total_is listed blobs of_blobs.lengths ∙ sym (ap length frame.front) in
    let fit : lengths_dont_fit pack ≡ false =
    not_from_true _ (eq-eqb (sum_by length_in (raw_entries pack)) (length (blobs_in pack)) sum) in
    let same : map listed_in (raw_entries pack) ≡ listed =
    ap (map listed_in) raws ∙ map-listed_in listed of_blobs.entries in
    record {
      listed_is = same;
      header_is = fit-read pack frame.long fine known fit
          ∙ ap (λ (ls : List Entry). Ok (entries_from 0 ls)) same;
    }

pub one_list : (pack : List ℕ) (listed others : List Entry) → IsPack pack listed → IsPack pack others
    → listed ≡ others
one_list pack listed others p q = sym (is_read pack listed p).listed_is ∙ (is_read pack others q).listed_is

pub has_header-read : (pack : List ℕ) (entries : List Blob) → HasHeader pack entries
    → header_of pack ≡ Ok entries
has_header-read pack entries h =
    (is_read pack h.0 h.1).header_is ∙ ap (λ (es : List Blob). Ok es) (sym h.2)

-- ---- what is read is what the grammar gives

pub record Cut (raws : List (List ℕ)) (bytes : List ℕ) : Type 0 where
  pub blobs : List (List ℕ)
  pub lengths : map (λ l. l.length) (map listed_in raws) ≡ map length blobs
  pub whole : concat blobs ≡ bytes

-- bytes of just these lengths are cut into blobs of these lengths
cut : (raws : List (List ℕ)) (bytes : List ℕ) → sum_by length_in raws ≡ length bytes → Cut raws bytes
cut [] bytes e = record { blobs = []; lengths = refl; whole = sym (nil_from_length bytes (sym e)) }
cut (r ∷ rs) bytes e =
    let n = length_in r in
    let sum : n + sum_by length_in rs ≡ length bytes = sym (sum_by-cons length_in r rs) ∙ e in
    let le : n ≤ length bytes = omega (arith, sum) in
    let rest = cut rs (drop n bytes) (omega (arith, sum, length-drop n bytes)) in
    record {
      blobs = take n bytes ∷ rest.blobs;
      lengths = ap (λ (m : ℕ). m ∷ map (λ l. l.length) (map listed_in rs)) (sym (length-take-le n bytes le))
          ∙ ap (λ (ms : List ℕ). length (take n bytes) ∷ ms) rest.lengths;
      whole = ap (λ (bs : List ℕ). take n bytes ++ bs) rest.whole ∙ take-append-drop n bytes;
    }

pub record Accepts (a b c d : Bool) (read entries : List Blob) : Type 0 where
  pub long : a ≡ false
  pub fine : b ≡ false
  pub known : c ≡ false
  pub fit : d ≡ false
  pub same : read ≡ entries

accepts : (a b c d : Bool) (read entries : List Blob)
    → cond a (Err ShortPack)
    (cond b (Err BadHeaderLength) (cond c (Err BadBlobType) (cond d (Err LengthsDontFit) (Ok read))))
    ≡ Ok entries
    → Accepts a b c d read entries
accepts true b c d read entries e = absurd cc
accepts false true c d read entries e = absurd cc
accepts false false true d read entries e = absurd cc
accepts false false false true read entries e = absurd cc
accepts false false false false read entries e =
    record { long = refl; fine = refl; known = refl; fit = refl; same = cc }

pub read-has_header : (pack : List ℕ) (entries : List Blob) → IsBytes pack
    → header_of pack ≡ Ok entries → HasHeader pack entries
unfolding header_of
read-has_header pack entries fits e =
    let raws = raw_entries pack in
    let listed = map listed_in raws in
    let ok = accepts (is_short pack) (has_bad_header_length pack) (has_bad_blob_type pack)
    (lengths_dont_fit pack) (entries_from 0 listed) entries e in
    let parts = sound pack ok.long ok.fine in
    let before_fits = IsBytes-take (length pack - 4) pack fits in
    let header = header_in pack in
    let header_fits = IsBytes-drop (length (before_length pack) - header_length pack)
    (before_length pack) before_fits in
    let tail = drop (length pack - 4) pack in
    let tail_fits = IsBytes-drop (length pack - 4) pack fits in
    let k = length header / 37 in
    let le : 37 * k ≤ length header = omega (arith, parts.entries) in
    let again = rewritten k header header_fits le ok.known in
    let count : length listed ≡ k = length-map raws listed_in ∙ length-first_chunks 37 k header in
    let sum_in = sum_by length_in raws in
    let front_length = length (blobs_in pack) in
    let sum : sum_by length_in raws ≡ length (blobs_in pack) =
    eqb-true (sum_by length_in raws) (length (blobs_in pack)) (not-false (eqb sum_in front_length) ok.fit) in
    let made = cut raws (blobs_in pack) sum in
    let header_is : flat_map entry_bytes listed ≡ header =
    again.bytes ∙ take_all (37 * k) header (omega (arith, parts.entries)) in
    let said : 37 * length listed ≡ header_length pack = omega (arith, count, parts.said, parts.entries) in
    let tail_is : to_le_bytes w32 (37 * length listed) ≡ tail =
    ap (to_le_bytes w32) said ∙ le_bytes_4 tail (header_length pack) parts.tail tail_fits refl in
    let tail_text = to_le_bytes w32 (37 * length listed) in
    let bytes : pack ≡ concat made.blobs ++ (flat_map entry_bytes listed ++ tail_text) =
    parts.whole ∙ ap (λ (bs : List ℕ). bs ++ (header ++ tail)) (sym made.whole)
    ∙ ap (λ (hs : List ℕ). concat made.blobs ++ (hs ++ tail)) (sym header_is)
    ∙ ap (λ (ts : List ℕ). concat made.blobs ++ (flat_map entry_bytes listed ++ ts)) (sym tail_is) in
    let of_blobs : IsPackOf pack made.blobs listed = record {
      bytes = bytes;
      lengths = made.lengths;
      entries = again.entries;
      header = rw said (below_2_32 tail tail_fits);
    } in
    (listed, (made.blobs, of_blobs), sym ok.same)

-- ---- where blobs stand

placed : (front rest : List ℕ) (blobs : List (List ℕ)) (ls : List Entry)
    → map (λ l. l.length) ls ≡ map length blobs
    → map (bytes_at (front ++ (concat blobs ++ rest))) (entries_from (length front) ls) ≡ blobs
placed front rest [] [] e = refl
placed front rest [] (l ∷ ls) e = absurd cc
placed front rest (b ∷ bs) [] e = absurd cc
placed front rest (b ∷ bs) (l ∷ ls) e =
    let same = heads l.length (length b) (map (λ l. l.length) ls) (map length bs) e in
    let after = concat bs ++ rest in
    let pack = front ++ ((b ++ concat bs) ++ rest) in
    let regrouped : (b ++ concat bs) ++ rest ≡ b ++ after = append_assoc b (concat bs) rest in
    let moved : pack ≡ (front ++ b) ++ after =
    ap (λ (xs : List ℕ). front ++ xs) regrouped ∙ sym (append_assoc front b after) in
    let place : length (front ++ b) ≡ length front + l.length =
    omega (arith, length-append front b, same.0) in
    let here : take l.length (drop (length front) pack) ≡ b =
    ap (take l.length) (drop_at front ((b ++ concat bs) ++ rest) (length front) refl ∙ regrouped)
    ∙ take_at b after l.length (sym same.0) in
    let later : map (bytes_at pack) (entries_from (length front + l.length) ls) ≡ bs =
    ap (λ (xs : List ℕ). map (bytes_at xs) (entries_from (length front + l.length) ls)) moved
    ∙ ap (λ (n : ℕ). map (bytes_at ((front ++ b) ++ after)) (entries_from n ls)) (sym place)
    ∙ placed (front ++ b) rest bs ls same.1 in
    ap (λ (x : List ℕ). x ∷ map (bytes_at pack) (entries_from (length front + l.length) ls)) here
    ∙ ap (λ (xs : List (List ℕ)). b ∷ xs) later

pub bytes_at-entries : (pack : List ℕ) (blobs : List (List ℕ)) (listed : List Entry)
    → IsPackOf pack blobs listed
    → map (bytes_at pack) (entries_from 0 listed) ≡ blobs
bytes_at-entries pack blobs listed of_blobs =
    let rest = flat_map entry_bytes listed ++ to_le_bytes w32 (37 * length listed) in
    ap (λ (bytes : List ℕ). map (bytes_at bytes) (entries_from 0 listed)) of_blobs.bytes
    ∙ placed [] rest blobs listed of_blobs.lengths

lie : (pack : List ℕ) (offset : ℕ) (ls : List Entry)
    → offset + sum_by (λ (l : Entry). l.length) ls ≤ length pack
    → AllByRecursion (LiesIn pack) (entries_from offset ls)
lie pack offset [] le = tt
lie pack offset (l ∷ ls) le =
    let sum = sum_by-cons (λ (l : Entry). l.length) l ls in
    (omega (arith, sum, le), lie pack (offset + l.length) ls (omega (arith, sum, le)))

pub entries_lie : (pack : List ℕ) (entries : List Blob) → HasHeader pack entries
    → All (LiesIn pack) entries
entries_lie pack entries h =
    let blobs = h.1.0 in
    let of_blobs = h.1.1 in
    let rest = flat_map entry_bytes h.0 ++ to_le_bytes w32 (37 * length h.0) in
    let len : length pack ≡ length (concat blobs) + length rest =
    ap length of_blobs.bytes ∙ length-append (concat blobs) rest in
    let le : 0 + sum_by (λ (l : Entry). l.length) h.0 ≤ length pack =
    omega (arith, total_is h.0 blobs of_blobs.lengths, len) in
    rw h.2 (All-from_recursion (LiesIn pack) (entries_from 0 h.0) (lie pack 0 h.0 le))

-- ---- what the reader answers

pub is_found : (pack : List ℕ) (result : Result (Vec Blob) PackError) → IsBytes pack
    → Gives result (header_of pack)
    → IfOk result (λ entries. HasHeader pack entries.items)
is_found pack (Ok entries) fits given = read-has_header pack entries.items fits given
is_found pack (Err error) fits given = tt

pub is_only : (pack : List ℕ) (result : Result (Vec Blob) PackError) → Gives result (header_of pack)
    → (entries : List Blob) → HasHeader pack entries → Gives result (Ok entries)
is_only pack result given entries h =
    subst (λ (header : Result (List Blob) PackError). Gives result header)
    (has_header-read pack entries h) given

pub is_within : (pack : List ℕ) (result : Result (Vec Blob) PackError) → IsBytes pack
    → Gives result (header_of pack)
    → IfOk result (λ entries. All (LiesIn pack) entries.items)
is_within pack (Ok entries) fits given =
    entries_lie pack entries.items (read-has_header pack entries.items fits given)
is_within pack (Err error) fits given = tt
