-- The words of a line that backs files up: each file's word, and the two words in front.
use Rattle.std.proofs.Common.{◌≡◌, ◌≢◌, ℕ, ◌+◌, ◌-◌, ◌<◌, ◌≤◌, List, [], ◌∷◌, ◌++◌, length, map, get_or, take, drop, Option, Some, None, MatchOption, Bor, string_bytes, refl, sym, ap, subst, ◌∙◌, take_all, take-append-drop, ap₂, lit<, arith, false, true}
use Rattle.std.proofs.lemmas.Str.Pattern.{NoCharPasses-char, drop_at_char}
use Rattle.std.specs.List.{AllByRecursion, join_with_byte}
use Rattle.std.proofs.lemmas.List.Splits.{join_with_byte-slice_split}
use Rattle.std.specs.Str.Iter.{LacksByte}
use Rattle.std.specs.Str.Pattern.{RFindsChar}
use Rattle.hex.specs.Hex.{IsBytes}
use Rattle.keep_names.proofs.HexText.{AllPass-encode_lower}
use Rattle.keep_names.specs.Id.{is_lower_hex_digit}
use Rattle.keep_lines.proofs.WordLists.{all_lack, lacks-cons, lacks-nil, lacks-not, parts_lack, parts_of, split_joined, texts}
use Rattle.keep_lines.specs.BackupLine.{IsBackup, IsFile, backup_text, backup_words, file_word}
use Rattle.keep_names.specs.Parses.{NonePrints}
use Rattle.keep_lines.specs.Word.{AreBytes, hex_text, hex_word}
use Rattle.keep_lines.specs.WordList.{AreAll, AreSpaceless, words_for}
use Rattle.keep_lines.specs.declared.backup_line.BackupLine.{BackupLine}

-- no file's word is this
abbrev pub IsNoFile : List ℕ → Type 0
IsNoFile = NonePrints IsFile file_word

-- no backup's words are these
abbrev pub NamesNoBackup : List ℕ → Type 0
NamesNoBackup = NonePrints IsBackup backup_text

-- the last place of a byte cuts a text in one way
pub same_back : (c : ℕ) (a b d e : List ℕ) → LacksByte c b → LacksByte c e → a ++ c ∷ b ≡ d ++ c ∷ e → b ≡ e
same_back c [] b [] e h k same = cc
same_back c [] b (x ∷ d) e h k same =
    let tail : b ≡ d ++ c ∷ e = cc in
    absurd (lacks-not c d e (subst (LacksByte c) tail h))
same_back c (x ∷ a) b [] e h k same =
    let tail : e ≡ a ++ c ∷ b = cc in
    absurd (lacks-not c a b (subst (LacksByte c) tail k))
same_back c (x ∷ a) b (y ∷ d) e h k same =
    let tail : a ++ c ∷ b ≡ d ++ c ∷ e = cc in
    same_back c a b d e h k tail

-- ---- the word of a file

-- a hex word lacks what is neither a digit nor a dash
pub hex_lacks : (c : ℕ) → is_lower_hex_digit c ≡ false → 45 ≢ c → (bytes : List ℕ) → IsBytes bytes → LacksByte c (hex_text bytes)
hex_lacks c other dash [] h = lacks-cons c 45 [] dash (lacks-nil c)
hex_lacks c other dash (b ∷ bs) h =
    λ k l e. let digit : is_lower_hex_digit (get_or (hex_text (b ∷ bs)) k 0) ≡ true = AllPass-encode_lower (b ∷ bs) h k 0 l in
    cc (sym digit ∙ ap is_lower_hex_digit e ∙ other)

-- a word that is cut at its last `=`, where it has one; takes the clause of `rsplit_once`
pub cut_last : (word : List ℕ) (r : Option (Bor (List ℕ) × Bor (List ℕ)))
    → MatchOption r (RFindsChar 61 word None) (λ x. (i : ℕ) × (j : ℕ) × RFindsChar 61 word (Some (i, j)) × (x.0.now ≡ take i word) × (x.1.now ≡ drop j word) × (i ≤ j) × (length x.0.now ≡ i) × (length x.1.now + j ≡ length word))
    → MatchOption r (LacksByte 61 word) (λ x. (word ≡ x.0.now ++ 61 ∷ x.1.now) × LacksByte 61 x.1.now)
cut_last word None h = λ k. NoCharPasses-char 61 word k h (lit< tt)
cut_last word (Some x) h = (
  sym (take-append-drop h.0 word) ∙ ap (λ l. take h.0 word ++ l) (drop_at_char 61 word h.0 h.1 h.2.1 (lit< tt)) ∙ ap₂ (λ a b. a ++ 61 ∷ b) (sym h.3) (sym h.4),
  subst (LacksByte 61) (sym h.4) (λ k. NoCharPasses-char 61 (drop h.1 word) k h.2.0 (lit< tt)),
)

-- a word without `=` is no file's
pub no_equals : (word : List ℕ) → LacksByte 61 word → IsNoFile word
no_equals word lacks file h e = lacks-not 61 (string_bytes file.0) (hex_text file.1.items) (subst (LacksByte 61) (sym e) lacks)

-- nor is one that has no hex after its last `=`
pub no_bytes : (word path hex : List ℕ) → word ≡ path ++ 61 ∷ hex → LacksByte 61 hex → NonePrints AreBytes hex_word hex → IsNoFile word
no_bytes word path hex cut lacks none file h e =
    none file.1 h.1
    (same_back 61 (string_bytes file.0) (hex_text file.1.items) path hex (hex_lacks 61 refl (λ e. omega arith) file.1.items h.1) lacks (e ∙ cut))

-- ---- the words of a backup

-- the words of a backup's text are its words
pub backup_split : (backup : BackupLine) (rest : List ℕ) → IsBackup backup → backup_text backup ≡ rest → parts_of rest ≡ backup_words backup
backup_split backup rest h e =
    ap parts_of (sym e)
    ∙ split_joined 32 (string_bytes backup.host) (string_bytes backup.time ∷ map file_word backup.files.items) (h.0.1, (h.1.1, all_lack IsFile file_word (λ file said. said.0) backup.files.items h.2))

-- the words behind the first two
abbrev pub behind_two : List (Bor (List ℕ)) → List (Bor (List ℕ))
behind_two words = take (length words - 2) (drop 2 words)

pub two_and_more : (words : List (Bor (List ℕ))) (d : Bor (List ℕ)) → 2 ≤ length words → texts words ≡ (get_or words 0 d).now ∷ (get_or words 1 d).now ∷ texts (behind_two words)
two_and_more [] d some = absurd (omega arith)
two_and_more (a ∷ []) d some = absurd (omega arith)
two_and_more (a ∷ b ∷ words) d some =
    let count : length (a ∷ b ∷ words) - 2 ≡ length words = omega arith in
    let all : take (length (a ∷ b ∷ words) - 2) words ≡ words = take_all (length (a ∷ b ∷ words) - 2) words (omega arith) in
    ap (λ l. a.now ∷ b.now ∷ texts l) (sym all)

-- fewer than two words are no backup's
pub too_few : (words : List (Bor (List ℕ))) (rest : List ℕ) → length words < 2 → texts words ≡ parts_of rest → NamesNoBackup rest
too_few [] rest few cut backup h e = cc (cut ∙ backup_split backup rest h e)
too_few (a ∷ []) rest few cut backup h e = cc (cut ∙ backup_split backup rest h e)
too_few (a ∷ b ∷ words) rest few cut backup h e = absurd (omega arith)

-- the words of a backup, one by one
same_words : (words : List (Bor (List ℕ))) (d : Bor (List ℕ)) (rest : List ℕ) → 2 ≤ length words → texts words ≡ parts_of rest → (backup : BackupLine) → IsBackup backup → backup_text backup ≡ rest
    → (string_bytes backup.host ≡ (get_or words 0 d).now) × (string_bytes backup.time ≡ (get_or words 1 d).now) × (map file_word backup.files.items ≡ texts (behind_two words))
same_words words d rest some cut backup h e =
    let same : backup_words backup ≡ (get_or words 0 d).now ∷ (get_or words 1 d).now ∷ texts (behind_two words) = sym (backup_split backup rest h e) ∙ sym cut ∙ two_and_more words d some in
    (cc, cc, cc)

-- nor are words of which the first is empty
pub no_host : (words : List (Bor (List ℕ))) (d : Bor (List ℕ)) (rest : List ℕ) → 2 ≤ length words → texts words ≡ parts_of rest → length (get_or words 0 d).now ≡ 0 → NamesNoBackup rest
no_host words d rest some cut none backup h e =
    let same = ap length (same_words words d rest some cut backup h e).0 in
    absurd (omega (arith, same, none, h.0.0))

-- or the second
pub no_time : (words : List (Bor (List ℕ))) (d : Bor (List ℕ)) (rest : List ℕ) → 2 ≤ length words → texts words ≡ parts_of rest → length (get_or words 1 d).now ≡ 0 → NamesNoBackup rest
no_time words d rest some cut none backup h e =
    let same = ap length (same_words words d rest some cut backup h e).1 in
    absurd (omega (arith, same, none, h.1.0))

-- or of which the others aren't files
pub no_files : (words : List (Bor (List ℕ))) (rest : List ℕ) → 2 ≤ length words → texts words ≡ parts_of rest → NonePrints (AreAll IsFile) (words_for file_word) (texts (behind_two words)) → NamesNoBackup rest
no_files [] rest some cut none backup h e = absurd (omega arith)
no_files (a ∷ words) rest some cut none backup h e = none backup.files h.2 (same_words (a ∷ words) a rest some cut backup h e).2

-- the words behind the first two have no spaces
pub spaceless_behind : (words : List (Bor (List ℕ))) (rest : List ℕ) → 2 ≤ length words → texts words ≡ parts_of rest → AreSpaceless (texts (behind_two words))
spaceless_behind [] rest some cut = absurd (omega arith)
spaceless_behind (a ∷ words) rest some cut = (subst AreSpaceless (sym cut ∙ two_and_more (a ∷ words) a some) (parts_lack 32 rest)).1.1

-- words of which the first two aren't empty and the others are files are a backup's
pub backup_of_words : (words : List (Bor (List ℕ))) (d : Bor (List ℕ)) (rest : List ℕ) (backup : BackupLine) → 2 ≤ length words → texts words ≡ parts_of rest
    → string_bytes backup.host ≡ (get_or words 0 d).now → string_bytes backup.time ≡ (get_or words 1 d).now → 0 < length (get_or words 0 d).now → 0 < length (get_or words 1 d).now
    → AllByRecursion IsFile backup.files.items → map file_word backup.files.items ≡ texts (behind_two words) → IsBackup backup × (backup_text backup ≡ rest)
backup_of_words words d rest backup some cut host time host_some time_some files same =
    let lack = subst AreSpaceless (sym cut ∙ two_and_more words d some) (parts_lack 32 rest) in
    let all : backup_words backup ≡ parts_of rest = rw (host, time, same) (sym (two_and_more words d some) ∙ cut) in (
      (
        (subst (λ l. 0 < length l) (sym host) host_some, subst (LacksByte 32) (sym host) lack.0),
        (subst (λ l. 0 < length l) (sym time) time_some, subst (LacksByte 32) (sym time) lack.1.0),
        files,
      ),
      ap (join_with_byte 32) all ∙ join_with_byte-slice_split 32 rest,
    )
