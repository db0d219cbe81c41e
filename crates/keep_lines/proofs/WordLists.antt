-- Words of one sort in a row: read one by one, cut and joined.
use Rattle.std.proofs.Common.{◌≡◌, ◌≢◌, ℕ, zero, suc, ◌+◌, ◌-◌, ◌<◌, ◌≤◌, inl, inr, false, eqb, List, [], ◌∷◌, ◌++◌, length, map, get_or, take, drop, Bor, String, string_bytes, refl, sym, ap, subst, ◌∙◌, append_assoc, append-nil, take_all, eq-eqb, ne_eqb, arith}
use Rattle.std.proofs.lemmas.Bool.{cases_Bool, eqb-false}
use Rattle.std.proofs.lemmas.List.{drop_all, drop_more, map-append}
use Rattle.std.proofs.lemmas.List.Elements.{All-from_get_or, All-weaker}
use Rattle.std.proofs.lemmas.List.Splits.{join_with_byte-slice_split, slice_split-cons_no, slice_split-cons_yes, slice_split_at, slice_split_none}
use Rattle.std.specs.Global.{Global, Vec}
use Rattle.std.specs.List.{All, AllByRecursion, join_with_byte, onto_first, slice_split}
use Rattle.std.specs.Str.Iter.{LacksByte}
use Rattle.keep_names.specs.Parses.{NonePrints}
use Rattle.keep_lines.specs.WordList.{AreSpaceless, IsForFilter, filter_text}

-- no values' words are these
abbrev pub NamesNone : {W : Type 0} → (W → Type 0) → (W → List ℕ) → List (List ℕ) → Type 0
NamesNone IsSaid text = NonePrints (AllByRecursion IsSaid) (map text)

-- texts behind references
abbrev pub texts : List (Bor (List ℕ)) → List (List ℕ)
texts words = map (λ word. word.now) words

-- the parts between spaces
abbrev pub parts_of : List ℕ → List (List ℕ)
parts_of text = slice_split (λ b. eqb b 32) text

-- ---- bytes that a text lacks

pub lacks-nil : (c : ℕ) → LacksByte c []
lacks-nil c k l = absurd (omega arith)

pub lacks-cons : (c b : ℕ) (bs : List ℕ) → b ≢ c → LacksByte c bs → LacksByte c (b ∷ bs)
lacks-cons c b bs other rest zero l e = other e
lacks-cons c b bs other rest (suc k) l e = rest k (omega arith) e

pub lacks-tail : (c b : ℕ) (bs : List ℕ) → LacksByte c (b ∷ bs) → LacksByte c bs
lacks-tail c b bs h k l e = h (suc k) (omega arith) e

-- a text has the byte that stands in it
pub lacks-not : (c : ℕ) (front back : List ℕ) → LacksByte c (front ++ c ∷ back) → ⊥
lacks-not c [] back h = h 0 (omega arith) refl
lacks-not c (b ∷ front) back h = lacks-not c front back (lacks-tail c b (front ++ c ∷ back) h)

-- ---- cut and joined

fails : (c : ℕ) (bs : List ℕ) → LacksByte c bs → All (λ b. eqb b c ≡ false) bs
fails c bs h = All-weaker (λ b. b ≢ c) (λ b. eqb b c ≡ false) (λ b other. ne_eqb b c other) bs (All-from_get_or (λ b. b ≢ c) bs 0 h)

-- texts that lack the byte are the parts of what they are joined to
pub split_joined : (c : ℕ) (x : List ℕ) (xs : List (List ℕ)) → AllByRecursion (LacksByte c) (x ∷ xs) → slice_split (λ b. eqb b c) (join_with_byte c (x ∷ xs)) ≡ x ∷ xs
split_joined c x [] h = slice_split_none (λ b. eqb b c) x (fails c x h.0)
split_joined c x (y ∷ xs) h =
    slice_split_at (λ b. eqb b c) x c (join_with_byte c (y ∷ xs)) (fails c x h.0) (eq-eqb c c refl)
    ∙ ap (λ parts. x ∷ parts) (split_joined c y xs h.1)

onto_lacks : (c b : ℕ) (parts : List (List ℕ)) → b ≢ c → AllByRecursion (LacksByte c) parts → AllByRecursion (LacksByte c) (onto_first b parts)
onto_lacks c b [] other h = (lacks-cons c b [] other (lacks-nil c), tt)
onto_lacks c b (part ∷ parts) other h = (lacks-cons c b part other h.0, h.1)

-- the parts lack the byte at which a text is cut
pub parts_lack : (c : ℕ) (bs : List ℕ) → AllByRecursion (LacksByte c) (slice_split (λ b. eqb b c) bs)
parts_lack c [] = (lacks-nil c, tt)
parts_lack c (b ∷ bs) = elim (cases_Bool (eqb b c)) [
  | inl end ↦ subst (AllByRecursion (LacksByte c)) (sym (slice_split-cons_yes (λ x. eqb x c) b bs end)) (lacks-nil c, parts_lack c bs)
  | inr other ↦ subst (AllByRecursion (LacksByte c)) (sym (slice_split-cons_no (λ x. eqb x c) b bs other)) (onto_lacks c b _ (eqb-false b c other) (parts_lack c bs))
]

-- ---- words read one by one

-- one of these words is no value's
pub names_none : {W : Type 0} (IsSaid : W → Type 0) (text : W → List ℕ) (done rest : List (List ℕ)) (word : List ℕ) → NonePrints IsSaid text word → NamesNone IsSaid text (done ++ word ∷ rest)
names_none IsSaid text [] rest word none [] h e = cc
names_none IsSaid text [] rest word none (value ∷ values) h e =
    let head : text value ≡ word = cc in
    none value h.0 head
names_none IsSaid text (d ∷ done) rest word none [] h e = cc
names_none IsSaid text (d ∷ done) rest word none (value ∷ values) h e =
    let tail : map text values ≡ done ++ word ∷ rest = cc in
    names_none IsSaid text done rest word none values h.1 tail

-- one of texts without spaces
pub spaceless_at : (words : List (Bor (List ℕ))) (i : ℕ) (d : Bor (List ℕ)) → i < length words → AreSpaceless (texts words) → LacksByte 32 (get_or words i d).now
spaceless_at [] i d within h = absurd (omega arith)
spaceless_at (word ∷ words) zero d within h = h.0
spaceless_at (word ∷ words) (suc i) d within h = spaceless_at words i d (omega arith) h.1

-- the words for values that count have no spaces, where one has none
pub all_lack : {W : Type 0} (IsSaid : W → Type 0) (text : W → List ℕ) → ((value : W) → IsSaid value → LacksByte 32 (text value)) → (values : List W) → AllByRecursion IsSaid values → AreSpaceless (map text values)
all_lack IsSaid text law [] h = tt
all_lack IsSaid text law (value ∷ values) h = (law value h.0, all_lack IsSaid text law values h.1)

-- these are the values of the words up to i
abbrev pub ReadUpTo : {W : Type 0} → (W → List ℕ) → List (Bor (List ℕ)) → ℕ → List W → Type 0
ReadUpTo text words i values = map text values ++ texts (drop i words) ≡ texts words

-- the next word stands behind theirs
pub next_word : {W : Type 0} (text : W → List ℕ) (words : List (Bor (List ℕ))) (i : ℕ) (d : Bor (List ℕ)) (values : List W) → i < length words → ReadUpTo text words i values
    → texts words ≡ map text values ++ (get_or words i d).now ∷ texts (drop (i + 1) words)
next_word text words i d values within so_far = sym so_far ∙ ap (λ l. map text values ++ texts l) (drop_more words i d within)

pub read_next : {W : Type 0} (text : W → List ℕ) (words : List (Bor (List ℕ))) (i : ℕ) (d : Bor (List ℕ)) (values : List W) (value : W) → i < length words → ReadUpTo text words i values
    → text value ≡ (get_or words i d).now → ReadUpTo text words (i + 1) (values ++ value ∷ [])
read_next text words i d values value within so_far same =
    ap (λ l. l ++ texts (drop (i + 1) words)) (map-append text values (value ∷ []))
    ∙ append_assoc (map text values) (text value ∷ []) (texts (drop (i + 1) words))
    ∙ ap (λ l. map text values ++ l ∷ texts (drop (i + 1) words)) same
    ∙ sym (next_word text words i d values within so_far)

pub read_all : {W : Type 0} (text : W → List ℕ) (words : List (Bor (List ℕ))) (i : ℕ) (values : List W) → length words ≤ i → ReadUpTo text words i values → map text values ≡ texts words
read_all text words i values past so_far =
    sym (append-nil (map text values)) ∙ ap (λ l. map text values ++ texts l) (sym (drop_all i words past)) ∙ so_far

pub all-push : {W : Type 0} (IsSaid : W → Type 0) (values : List W) (value : W) → AllByRecursion IsSaid values → IsSaid value → AllByRecursion IsSaid (values ++ value ∷ [])
all-push IsSaid [] value h k = (k, tt)
all-push IsSaid (x ∷ values) value h k = (h.0, all-push IsSaid values value h.1 k)

-- ---- the name of a filter, and words behind it

-- no name and values have this text
abbrev pub NamesNoFilter : {W : Type 0} → (W → Type 0) → (W → List ℕ) → List ℕ → Type 0
NamesNoFilter IsSaid text = NonePrints (IsForFilter IsSaid) (filter_text text)

-- the words behind the first
abbrev pub behind_one : List (Bor (List ℕ)) → List (Bor (List ℕ))
behind_one words = take (length words - 1) (drop 1 words)

pub one_and_more : (words : List (Bor (List ℕ))) (d : Bor (List ℕ)) → 1 ≤ length words → texts words ≡ (get_or words 0 d).now ∷ texts (behind_one words)
one_and_more [] d some = absurd (omega arith)
one_and_more (a ∷ words) d some =
    let all : take (length (a ∷ words) - 1) words ≡ words = take_all (length (a ∷ words) - 1) words (omega arith) in
    ap (λ l. a.now ∷ texts l) (sym all)

-- a text is cut into a name and the words for values in one way
pub parts_for_filter : {W : Type 0} (IsSaid : W → Type 0) (text : W → List ℕ) → ((value : W) → IsSaid value → LacksByte 32 (text value))
    → (asked : String Global × Vec W) (rest : List ℕ) → IsForFilter IsSaid asked → filter_text text asked ≡ rest → parts_of rest ≡ string_bytes asked.0 ∷ map text asked.1.items
parts_for_filter IsSaid text law asked rest h e =
    ap parts_of (sym e) ∙ split_joined 32 (string_bytes asked.0) (map text asked.1.items) (h.0.1, all_lack IsSaid text law asked.1.items h.1)

-- no words are none's
pub no_words : {W : Type 0} (IsSaid : W → Type 0) (text : W → List ℕ) → ((value : W) → IsSaid value → LacksByte 32 (text value))
    → (words : List (Bor (List ℕ))) (rest : List ℕ) → length words < 1 → texts words ≡ parts_of rest → NamesNoFilter IsSaid text rest
no_words IsSaid text law [] rest few cut asked h e = cc (cut ∙ parts_for_filter IsSaid text law asked rest h e)
no_words IsSaid text law (a ∷ words) rest few cut asked h e = absurd (omega arith)

-- the name and the values, one by one
same_parts : {W : Type 0} (IsSaid : W → Type 0) (text : W → List ℕ) → ((value : W) → IsSaid value → LacksByte 32 (text value))
    → (words : List (Bor (List ℕ))) (d : Bor (List ℕ)) (rest : List ℕ) → 1 ≤ length words → texts words ≡ parts_of rest → (asked : String Global × Vec W) → IsForFilter IsSaid asked → filter_text text asked ≡ rest
    → (string_bytes asked.0 ≡ (get_or words 0 d).now) × (map text asked.1.items ≡ texts (behind_one words))
same_parts IsSaid text law words d rest some cut asked h e =
    let same : string_bytes asked.0 ∷ map text asked.1.items ≡ (get_or words 0 d).now ∷ texts (behind_one words) = sym (parts_for_filter IsSaid text law asked rest h e) ∙ sym cut ∙ one_and_more words d some in
    (cc, cc)

-- nor are words of which the first is empty
pub no_name : {W : Type 0} (IsSaid : W → Type 0) (text : W → List ℕ) → ((value : W) → IsSaid value → LacksByte 32 (text value))
    → (words : List (Bor (List ℕ))) (d : Bor (List ℕ)) (rest : List ℕ) → 1 ≤ length words → texts words ≡ parts_of rest → length (get_or words 0 d).now ≡ 0 → NamesNoFilter IsSaid text rest
no_name IsSaid text law words d rest some cut none asked h e =
    let same = ap length (same_parts IsSaid text law words d rest some cut asked h e).0 in
    absurd (omega (arith, same, none, h.0.0))

-- or of which the others aren't values
pub no_values : {W : Type 0} (IsSaid : W → Type 0) (text : W → List ℕ) → ((value : W) → IsSaid value → LacksByte 32 (text value))
    → (words : List (Bor (List ℕ))) (rest : List ℕ) → 1 ≤ length words → texts words ≡ parts_of rest → NonePrints (λ (values : Vec W). AllByRecursion IsSaid values.items) (λ values. map text values.items) (texts (behind_one words)) → NamesNoFilter IsSaid text rest
no_values IsSaid text law [] rest some cut none asked h e = absurd (omega arith)
no_values IsSaid text law (a ∷ words) rest some cut none asked h e = none asked.1 h.1 (same_parts IsSaid text law (a ∷ words) a rest some cut asked h e).1

-- the words behind the first have no spaces
pub spaceless_behind_one : (words : List (Bor (List ℕ))) (rest : List ℕ) → 1 ≤ length words → texts words ≡ parts_of rest → AreSpaceless (texts (behind_one words))
spaceless_behind_one [] rest some cut = absurd (omega arith)
spaceless_behind_one (a ∷ words) rest some cut = (subst AreSpaceless (sym cut ∙ one_and_more (a ∷ words) a some) (parts_lack 32 rest)).1

-- words of which the first isn't empty and the others are values' are asked for
pub asked_of_words : {W : Type 0} (IsSaid : W → Type 0) (text : W → List ℕ) (words : List (Bor (List ℕ))) (d : Bor (List ℕ)) (rest : List ℕ) (asked : String Global × Vec W) → 1 ≤ length words → texts words ≡ parts_of rest
    → string_bytes asked.0 ≡ (get_or words 0 d).now → 0 < length (get_or words 0 d).now
    → AllByRecursion IsSaid asked.1.items → map text asked.1.items ≡ texts (behind_one words) → IsForFilter IsSaid asked × (filter_text text asked ≡ rest)
asked_of_words IsSaid text words d rest asked some cut name name_some values same =
    let lack = subst AreSpaceless (sym cut ∙ one_and_more words d some) (parts_lack 32 rest) in
    let all : string_bytes asked.0 ∷ map text asked.1.items ≡ parts_of rest = rw (name, same) (sym (one_and_more words d some) ∙ cut) in (
      ((subst (λ l. 0 < length l) (sym name) name_some, subst (LacksByte 32) (sym name) lack.0), values),
      ap (join_with_byte 32) all ∙ join_with_byte-slice_split 32 rest,
    )
