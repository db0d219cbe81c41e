-- What stands behind a line's first word is told by its text.
use Rattle.std.proofs.Common.{◌≡◌, ◌≢◌, ℕ, ◌<◌, ◌^◌, Bool, true, false, eqb, List, [], ◌∷◌, ◌++◌, codes, map, Option, Some, None, refl, sym, ap, ap₂, ◌∙◌, arith}
use Rattle.std.proofs.lemmas.Fmt.{decimal_injective}
use Rattle.std.proofs.lemmas.List.{append_cancel_left, append_cancel_right}
use Rattle.std.proofs.lemmas.List.Elements.{All-head}
use Rattle.std.specs.Fmt.{decimal}
use Rattle.std.specs.List.{AllByRecursion, join_with_byte}
use Rattle.std.specs.Prelude.{◌&&◌, if◌then◌else◌}
use Rattle.std.specs.Str.Iter.{LacksByte}
use Rattle.hex.specs.Hex.{IsBytes, decode_of, encode_lower}
use Rattle.hex.proofs.HexLemmas.{decode_of-encode_lower, decode_of-same}
use Rattle.keep_names.proofs.HexText.{AllPass-encode_lower}
use Rattle.keep_names.proofs.IdText.{id_text-exact}
use Rattle.keep_names.specs.FileName.{kind_text}
use Rattle.keep_names.specs.Id.{is_lower_hex_digit}
use Rattle.keep_names.specs.declared.file_name.Kind.{Kind}
use Rattle.keep_names.specs.declared.file_name.Kind.TheVariants.{Pack, Index, Snapshot}
use Rattle.keep_lines.proofs.BackupWords.{same_back, hex_lacks}
use Rattle.keep_lines.proofs.RuleWords.{cut_first, lacks_test}
use Rattle.keep_lines.proofs.WordLemmas.{id_text-at}
use Rattle.keep_lines.proofs.WordLists.{parts_of, split_joined}
use Rattle.keep_lines.specs.RewriteLine.{IsClear, flagged}
use Rattle.keep_lines.specs.Said.{Adds, Counts, Keeps, Removes, RuleData, Sets, TagData}
use Rattle.keep_lines.specs.Word.{IsTarget, hex_text, target_text}
use Rattle.keep_lines.specs.WordList.{AreSpaceless}
use Rattle.keep_lines.specs.declared.forget_line.Span.{Span}
use Rattle.keep_lines.specs.declared.forget_line.Span.TheVariants.{Last, Day, Week, Month, Year}
use Rattle.keep_lines.specs.declared.word.MeantFile.{MeantFile}
use Rattle.keep_lines.specs.declared.word.MeantFile.TheVariants.{Named, AddedBy}

-- whether a text begins with this one
abbrev pub begins : List ℕ → List ℕ → Bool
begins [] text = true
begins (x ∷ front) [] = false
begins (x ∷ front) (y ∷ text) = eqb x y && begins front text

-- ---- words that stand alone

pub target_told : (s t : MeantFile) → IsTarget s → IsTarget t → target_text s ≡ target_text t → s ≡ t
target_told (Named a) (Named b) h k e = ap Named (id_text-exact a b h k e)
target_told (Named a) (AddedBy n) h k e = absurd (id_text-at a (decimal n) h e)
target_told (AddedBy m) (Named b) h k e = absurd (id_text-at b (decimal m) k (sym e))
target_told (AddedBy m) (AddedBy n) h k e = ap AddedBy (decimal_injective m n h k (append_cancel_left (codes "@") (decimal m) (decimal n) e))

no_dash : (b : ℕ) (bs : List ℕ) → IsBytes (b ∷ bs) → codes "-" ≢ encode_lower (b ∷ bs)
no_dash b bs h e =
    let digits = rw (← e) at (AllPass-encode_lower (b ∷ bs) h) in
    let head : is_lower_hex_digit 45 ≡ true = All-head (λ c. is_lower_hex_digit c ≡ true) 45 [] digits in
    cc head

pub bytes_told : (xs ys : List ℕ) → IsBytes xs → IsBytes ys → hex_text xs ≡ hex_text ys → xs ≡ ys
bytes_told [] [] h k e = refl
bytes_told [] (y ∷ ys) h k e = absurd (no_dash y ys k e)
bytes_told (x ∷ xs) [] h k e = absurd (no_dash x xs h (sym e))
bytes_told (x ∷ xs) (y ∷ ys) h k e =
    decode_of-same (encode_lower (y ∷ ys)) (x ∷ xs) (y ∷ ys) (ap decode_of (sym e) ∙ decode_of-encode_lower (x ∷ xs) h) (decode_of-encode_lower (y ∷ ys) k)

-- ---- a kind and what follows it

kind_in : List ℕ → Kind
kind_in text = if begins (codes "pack") text then Pack else (if begins (codes "index") text then Index else Snapshot)

kind_read : (kind : Kind) (rest : List ℕ) → kind_in (kind_text kind ++ rest) ≡ kind
unfolding kind_in
kind_read Pack rest = refl
kind_read Index rest = refl
kind_read Snapshot rest = refl

pub kind_told : (k l : Kind) (r s : List ℕ) → kind_text k ++ (codes " " ++ r) ≡ kind_text l ++ (codes " " ++ s) → (k ≡ l) × (r ≡ s)
kind_told k l r s e =
    let same : k ≡ l = sym (kind_read k (codes " " ++ r)) ∙ ap kind_in e ∙ kind_read l (codes " " ++ s) in
    let onto : kind_text k ++ (codes " " ++ r) ≡ kind_text k ++ (codes " " ++ s) = e ∙ ap (λ (kind : Kind). kind_text kind ++ (codes " " ++ s)) (sym same) in
    (same, append_cancel_left (codes " ") r s (append_cancel_left (kind_text k) (codes " " ++ r) (codes " " ++ s) onto))

-- ---- words in a row

-- words without spaces are told by the line that they make
pub words_told : (x y : List ℕ) (xs ys : List (List ℕ)) → AreSpaceless (x ∷ xs) → AreSpaceless (y ∷ ys) → join_with_byte 32 (x ∷ xs) ≡ join_with_byte 32 (y ∷ ys) → (x ≡ y) × (xs ≡ ys)
words_told x y xs ys h k e =
    let same : x ∷ xs ≡ y ∷ ys = sym (split_joined 32 x xs h) ∙ ap parts_of e ∙ split_joined 32 y ys k in
    (cc, cc)

-- the word for a file
abbrev pub file_text : List ℕ × List ℕ → List ℕ
file_text file = file.0 ++ (codes "=" ++ hex_text file.1)

-- bytes stand behind the path
abbrev pub HasBytes : List ℕ × List ℕ → Type 0
HasBytes file = IsBytes file.1

file_told : (f g : List ℕ × List ℕ) → IsBytes f.1 → IsBytes g.1 → file_text f ≡ file_text g → f ≡ g
file_told f g h k e =
    let hex : hex_text f.1 ≡ hex_text g.1 = same_back 61 f.0 (hex_text f.1) g.0 (hex_text g.1) (hex_lacks 61 refl (λ e. omega arith) f.1 h) (hex_lacks 61 refl (λ e. omega arith) g.1 k) e in
    let onto : f.0 ++ (codes "=" ++ hex_text g.1) ≡ g.0 ++ (codes "=" ++ hex_text g.1) = ap (λ (l : List ℕ). f.0 ++ (codes "=" ++ l)) (sym hex) ∙ e in
    ap₂ (λ (a b : List ℕ). (a, b)) (append_cancel_right f.0 g.0 (codes "=" ++ hex_text g.1) onto) (bytes_told f.1 g.1 h k hex)

pub files_told : (fs gs : List (List ℕ × List ℕ)) → AllByRecursion HasBytes fs → AllByRecursion HasBytes gs → map file_text fs ≡ map file_text gs → fs ≡ gs
files_told [] [] h k e = refl
files_told [] (g ∷ gs) h k e = cc e
files_told (f ∷ fs) [] h k e = cc e
files_told (f ∷ fs) (g ∷ gs) h k e =
    let head : file_text f ≡ file_text g = cc in
    let tail : map file_text fs ≡ map file_text gs = cc in
    ap₂ (λ x xs. x ∷ xs) (file_told f g h.0 k.0 head) (files_told fs gs h.1 k.1 tail)

-- the word for what is done with a tag
abbrev pub tag_text : TagData → List ℕ
tag_text (Adds tag) = codes "+" ++ tag
tag_text (Removes tag) = codes "-" ++ tag
tag_text (Sets tag) = codes "=" ++ tag

tag_told : (s t : TagData) → tag_text s ≡ tag_text t → s ≡ t
tag_told (Adds a) (Adds b) e = ap Adds (append_cancel_left (codes "+") a b e)
tag_told (Adds a) (Removes b) e = let head : ◌≡◌ {A = ℕ} 43 45 = cc in absurd (omega (arith, head))
tag_told (Adds a) (Sets b) e = let head : ◌≡◌ {A = ℕ} 43 61 = cc in absurd (omega (arith, head))
tag_told (Removes a) (Adds b) e = let head : ◌≡◌ {A = ℕ} 45 43 = cc in absurd (omega (arith, head))
tag_told (Removes a) (Removes b) e = ap Removes (append_cancel_left (codes "-") a b e)
tag_told (Removes a) (Sets b) e = let head : ◌≡◌ {A = ℕ} 45 61 = cc in absurd (omega (arith, head))
tag_told (Sets a) (Adds b) e = let head : ◌≡◌ {A = ℕ} 61 43 = cc in absurd (omega (arith, head))
tag_told (Sets a) (Removes b) e = let head : ◌≡◌ {A = ℕ} 61 45 = cc in absurd (omega (arith, head))
tag_told (Sets a) (Sets b) e = ap Sets (append_cancel_left (codes "=") a b e)

pub tags_told : (ss ts : List TagData) → map tag_text ss ≡ map tag_text ts → ss ≡ ts
tags_told [] [] e = refl
tags_told [] (t ∷ ts) e = cc e
tags_told (s ∷ ss) [] e = cc e
tags_told (s ∷ ss) (t ∷ ts) e =
    let head : tag_text s ≡ tag_text t = cc in
    let tail : map tag_text ss ≡ map tag_text ts = cc in
    ap₂ (λ x xs. x ∷ xs) (tag_told s t head) (tags_told ss ts tail)

-- ---- rules

-- what a rule names before its `=`: what it counts, or a tag
abbrev pub front_text : Option Span → List ℕ
front_text None = codes "tag"
front_text (Some Last) = codes "last"
front_text (Some Day) = codes "daily"
front_text (Some Week) = codes "weekly"
front_text (Some Month) = codes "monthly"
front_text (Some Year) = codes "yearly"

abbrev pub front_of : RuleData → Option Span
front_of (Counts span n) = Some span
front_of (Keeps tag) = None

abbrev pub back_of : RuleData → List ℕ
back_of (Counts span n) = decimal n
back_of (Keeps tag) = tag

-- the word for a rule
abbrev pub rule_text : RuleData → List ℕ
rule_text r = front_text (front_of r) ++ (codes "=" ++ back_of r)

-- its number has 64 bits
abbrev pub IsSmall : RuleData → Type 0
IsSmall (Counts span n) = n < 2 ^ 64
IsSmall (Keeps tag) = Unit {0}

lacks_front : (front : Option Span) → LacksByte 61 (front_text front)
lacks_front None = lacks_test 61 (codes "tag") refl
lacks_front (Some Last) = lacks_test 61 (codes "last") refl
lacks_front (Some Day) = lacks_test 61 (codes "daily") refl
lacks_front (Some Week) = lacks_test 61 (codes "weekly") refl
lacks_front (Some Month) = lacks_test 61 (codes "monthly") refl
lacks_front (Some Year) = lacks_test 61 (codes "yearly") refl

front_in : List ℕ → Option Span
front_in text =
    if begins (codes "t") text then None
    else (if begins (codes "l") text then Some Last
    else (if begins (codes "d") text then Some Day
    else (if begins (codes "w") text then Some Week
    else (if begins (codes "m") text then Some Month else Some Year))))

front_read : (front : Option Span) → front_in (front_text front) ≡ front
unfolding front_in
front_read None = refl
front_read (Some Last) = refl
front_read (Some Day) = refl
front_read (Some Week) = refl
front_read (Some Month) = refl
front_read (Some Year) = refl

same_rule : (r s : RuleData) → IsSmall r → IsSmall s → front_of r ≡ front_of s → back_of r ≡ back_of s → r ≡ s
same_rule (Counts a m) (Counts b n) h k front back =
    let span : a ≡ b = cc in
    ap₂ Counts span (decimal_injective m n h k back)
same_rule (Counts a m) (Keeps t) h k front back = cc front
same_rule (Keeps t) (Counts b n) h k front back = cc front
same_rule (Keeps t) (Keeps u) h k front back = ap Keeps back

rule_told : (r s : RuleData) → IsSmall r → IsSmall s → rule_text r ≡ rule_text s → r ≡ s
rule_told r s h k e =
    let cut = cut_first 61 (front_text (front_of r)) (back_of r) (front_text (front_of s)) (back_of s) (lacks_front (front_of r)) (lacks_front (front_of s)) e in
    same_rule r s h k (sym (front_read (front_of r)) ∙ ap front_in cut.0 ∙ front_read (front_of s)) cut.1

pub rules_told : (rs ss : List RuleData) → AllByRecursion IsSmall rs → AllByRecursion IsSmall ss → map rule_text rs ≡ map rule_text ss → rs ≡ ss
rules_told [] [] h k e = refl
rules_told [] (s ∷ ss) h k e = cc e
rules_told (r ∷ rs) [] h k e = cc e
rules_told (r ∷ rs) (s ∷ ss) h k e =
    let head : rule_text r ≡ rule_text s = cc in
    let tail : map rule_text rs ≡ map rule_text ss = cc in
    ap₂ (λ x xs. x ∷ xs) (rule_told r s h.0 k.0 head) (rules_told rs ss h.1 k.1 tail)

-- ---- the flag of a rewrite

pub flag_told : (f g : Bool) (xs ys : List (List ℕ)) → flagged f xs ≡ flagged g ys → IsClear f xs → IsClear g ys → (f ≡ g) × (xs ≡ ys)
flag_told true true xs ys e h k = (refl, cc)
flag_told true false xs [] e h k = let wrong : ⊥ = cc e in absurd wrong
flag_told true false xs (y ∷ ys) e h k =
    let head : y ≡ codes "forget" = cc in
    absurd (k head)
flag_told false true [] ys e h k = let wrong : ⊥ = cc e in absurd wrong
flag_told false true (x ∷ xs) ys e h k =
    let head : x ≡ codes "forget" = cc in
    absurd (h head)
flag_told false false xs ys e h k = (refl, e)
