-- What is carried reads back.
use Rattle.std.proofs.Common.{◌≡◌, ℕ, ◌<◌, ◌^◌, ◌==◌, Bool, true, false, cond, nat_lt, List, [], ◌∷◌, Option, None, Some, option_and_then, codes, pos, unsigned_abs, refl, ap, ◌∙◌, arith}
use Rattle.std.specs.Int.{int_div_euclid, int_rem_euclid}
use Rattle.std.specs.Option.{option_or}
use Rattle.std.specs.Result.{result_ok}
use Rattle.std.specs.Str.{bytes_eq}
use Rattle.std.proofs.lemmas.Bool.Decides.{nat_tests}
use Rattle.serde_json.specs.Data.{Data, Members, no_members}
use Rattle.serde_json.specs.Find.{as_str, get_member}
use Rattle.jiff_core.specs.Timestamp.{IsTimestampNanos}
use Rattle.jiff_core.specs.declared.timestamp.Timestamp.{Timestamp}
use Rattle.jiff_core.proofs.SignedLemmas.{signed_arith}
use Rattle.jiff_fmt.proofs.RoundTrip.{parse_timestamp-text}
use Rattle.jiff_fmt.specs.Temporal.{parse_timestamp}
use Rattle.keep_docs.specs.Fields.{as_whole}
use Rattle.keep_docs.proofs.Built.{get_member-put_at}
use Rattle.keep_snap.specs.Written.{put_if, text_data, with_fields}
use Rattle.keep_members.specs.Carried.{AreTimes, IsCarried, TimeTexts, counted_data, fields, whole_data}
use Rattle.keep_members.specs.Found.{as_short, as_stamp, counted, found_in, found_of}
use Rattle.keep_members.specs.Members.{IsSaid, MembersData}
use Rattle.keep_members.specs.Stamp.{IsInstant, IsStampText, StampData, nanos_of, stamp_at, stamp_in}

-- ---- the members of fields

cond_same : {A : Type 0} (b : Bool) (x : A) → x ≡ cond b x x
cond_same true x = refl
cond_same false x = refl

get-put_if : (q k : List ℕ) (o : Option Data) (ms : Members) → get_member q (put_if k o ms) ≡ cond (bytes_eq q k) (option_or o (get_member q ms)) (get_member q ms)
get-put_if q k None ms = cond_same (bytes_eq q k) (get_member q ms)
get-put_if q k (Some d) ms = get_member-put_at q k d ms

-- what the fields, one after the other, leave at a key
abbrev found_at : List ℕ → List (List ℕ × Option Data) → Option Data → Option Data
found_at q [] found = found
found_at q (f ∷ fs) found = found_at q fs (cond (bytes_eq q f.0) (option_or f.1 found) found)

get-with_fields : (q : List ℕ) (fs : List (List ℕ × Option Data)) (ms : Members) → get_member q (with_fields fs ms) ≡ found_at q fs (get_member q ms)
get-with_fields q [] ms = refl
get-with_fields q (f ∷ fs) ms = get-with_fields q fs (put_if f.0 f.1 ms) ∙ ap (found_at q fs) (get-put_if q f.0 f.1 ms)

or_none : {A : Type 0} (o : Option A) → option_or o None ≡ o
or_none None = refl
or_none (Some x) = refl

-- ---- instants

stamp_back : (s : StampData) → IsInstant s.seconds s.nanoseconds → stamp_at (nanos_of s) ≡ Some s
stamp_back s h =
    let seconds : int_div_euclid (nanos_of s) (pos 1_000_000_000) ≡ s.seconds = omega (arith, signed_arith, h.0.0, h.0.1, h.1) in
    let rest : unsigned_abs (int_rem_euclid (nanos_of s) (pos 1_000_000_000)) ≡ s.nanoseconds = omega (arith, signed_arith, h.0.0, h.0.1, h.1, seconds) in
    rw (seconds, rest) (grind (arith, signed_arith, h.0.0, h.0.1))

in_range : (s : StampData) → IsInstant s.seconds s.nanoseconds → IsTimestampNanos (nanos_of s)
in_range s h = (omega (arith, signed_arith, h.0.0, h.0.1, h.1), omega (arith, signed_arith, h.0.0, h.0.1, h.1))

text_read : (s : StampData) (text : List ℕ) → IsInstant s.seconds s.nanoseconds → IsStampText s text → stamp_in text ≡ Some s
text_read s text h (clock, now, is) =
    let instant : Timestamp = record { nanosecond = nanos_of s; in_range = in_range s h } in
    let parsed = parse_timestamp-text clock instant now in
    ap (λ (bytes : List ℕ). option_and_then stamp_at (result_ok (parse_timestamp bytes))) is
    ∙ ap (λ r. option_and_then stamp_at (result_ok r)) parsed
    ∙ stamp_back s h

-- ---- each field read back

short_at : (b : Bool) (n : ℕ) → n < 2 ^ 32 → option_and_then as_short (cond b None (Some (whole_data n))) ≡ cond b None (Some n)
short_at true n small = refl
short_at false n small = let below : nat_lt n (2 ^ 32) ≡ true = grind (arith, nat_tests) in rw below

short_back : (n : ℕ) → n < 2 ^ 32 → option_and_then as_short (counted_data n) ≡ counted n
short_back n small = short_at (n == 0) n small

whole_short : (n : ℕ) → n < 2 ^ 32 → option_and_then as_short (Some (whole_data n)) ≡ Some n
whole_short n small = let below : nat_lt n (2 ^ 32) ≡ true = grind (arith, nat_tests) in rw below

whole_at : (b : Bool) (n : ℕ) → option_and_then as_whole (cond b None (Some (whole_data n))) ≡ cond b None (Some n)
whole_at true n = refl
whole_at false n = refl

whole_back : (n : ℕ) → option_and_then as_whole (counted_data n) ≡ counted n
whole_back n = whole_at (n == 0) n

text_back : (text : Option (List ℕ)) → option_and_then as_str (text_data text) ≡ text
text_back None = refl
text_back (Some text) = refl

pub fields_back : (m : MembersData) (t : TimeTexts) → IsSaid m → AreTimes m t → found_in (with_fields (fields m t) no_members) ≡ found_of m
fields_back m t h times =
    let at = λ (q : List ℕ). get-with_fields q (fields m t) no_members in
    let mode = ap (option_and_then as_short) (at (codes "mode") ∙ or_none (counted_data m.mode)) ∙ short_back m.mode h.mode in
    let mtime = ap (option_and_then as_stamp) (at (codes "mtime")) ∙ text_read m.mtime t.modified h.mtime times.modified in
    let atime = ap (option_and_then as_stamp) (at (codes "atime")) ∙ text_read m.atime t.accessed h.atime times.accessed in
    let ctime = ap (option_and_then as_stamp) (at (codes "ctime")) ∙ text_read m.ctime t.changed h.ctime times.changed in
    let uid = ap (option_and_then as_short) (at (codes "uid")) ∙ whole_short m.uid h.uid in
    let gid = ap (option_and_then as_short) (at (codes "gid")) ∙ whole_short m.gid h.gid in
    let user = ap (option_and_then as_str) (at (codes "user") ∙ or_none (text_data m.user)) ∙ text_back m.user in
    let group = ap (option_and_then as_str) (at (codes "group") ∙ or_none (text_data m.group)) ∙ text_back m.group in
    let inode = ap (option_and_then as_whole) (at (codes "inode") ∙ or_none (counted_data m.inode)) ∙ whole_back m.inode in
    let device_id = ap (option_and_then as_whole) (at (codes "device_id") ∙ or_none (counted_data m.device_id)) ∙ whole_back m.device_id in
    let size = ap (option_and_then as_whole) (at (codes "size") ∙ or_none (counted_data m.size)) ∙ whole_back m.size in
    let links = ap (option_and_then as_whole) (at (codes "links") ∙ or_none (counted_data m.links)) ∙ whole_back m.links in
    let link_target = ap (option_and_then as_str) (at (codes "linktarget") ∙ or_none (text_data m.link_target)) ∙ text_back m.link_target in
    let device = ap (option_and_then as_whole) (at (codes "device") ∙ or_none (counted_data m.device)) ∙ whole_back m.device in
    λ i. record {
      mode = mode i;
      mtime = mtime i;
      atime = atime i;
      ctime = ctime i;
      uid = uid i;
      gid = gid i;
      user = user i;
      group = group i;
      inode = inode i;
      device_id = device_id i;
      size = size i;
      links = links i;
      link_target = link_target i;
      device = device i;
    }

pub carried_back : (m : MembersData) (carried : Members) → IsSaid m → IsCarried m carried → found_in carried ≡ found_of m
carried_back m carried h (t, times, is) = ap found_in is ∙ fields_back m t h times
