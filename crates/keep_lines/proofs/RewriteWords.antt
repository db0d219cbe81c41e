-- The words of a rewrite, with the flag and without it.
use Rattle.std.proofs.Common.{◌≡◌, ℕ, ◌<◌, ◌≤◌, Bool, true, false, List, [], ◌∷◌, codes, length, map, get_or, Bor, String, string_bytes, sym, ap, subst, ◌∙◌, arith}
use Rattle.std.proofs.lemmas.List.Splits.{join_with_byte-slice_split}
use Rattle.std.specs.Global.{Global, Vec}
use Rattle.std.specs.List.{AllByRecursion, join_with_byte}
use Rattle.std.specs.Str.Iter.{LacksByte}
use Rattle.keep_lines.specs.declared.rewrite_line.RewriteLine.{RewriteLine}
use Rattle.keep_lines.proofs.WordLists.{all_lack, behind_one, lacks-cons, lacks-nil, one_and_more, parts_lack, parts_of, split_joined, texts}
use Rattle.keep_names.specs.Parses.{NonePrints}
use Rattle.keep_lines.specs.RewriteLine.{CutsFlag, IsClear, IsRewrite, flagged, rewrite_text}
use Rattle.keep_lines.specs.WordList.{AreSpaceless, IsWord}

-- patterns' texts that are words
abbrev pub AreWords : List (String Global) → Type 0
AreWords = AllByRecursion (λ pattern. IsWord (string_bytes pattern))

-- the texts of patterns
abbrev pub pattern_texts : List (String Global) → List (List ℕ)
pattern_texts = map string_bytes

-- no rewrite has this text
abbrev pub IsNoRewrite : List ℕ → Type 0
IsNoRewrite = NonePrints IsRewrite rewrite_text

-- ---- the flag

flag_lacks : LacksByte 32 (codes "forget")
flag_lacks =
    lacks-cons 32 102 (codes "orget") (λ e. omega (arith, e))
    (lacks-cons 32 111 (codes "rget") (λ e. omega (arith, e))
    (lacks-cons 32 114 (codes "get") (λ e. omega (arith, e))
    (lacks-cons 32 103 (codes "et") (λ e. omega (arith, e))
    (lacks-cons 32 101 (codes "t") (λ e. omega (arith, e))
    (lacks-cons 32 116 [] (λ e. omega (arith, e)) (lacks-nil 32))))))

pub flagged_lack : (forget : Bool) (patterns : List (String Global)) → AreWords patterns → AreSpaceless (flagged forget (pattern_texts patterns))
flagged_lack true patterns h = (flag_lacks, all_lack (λ (p : String Global). IsWord (string_bytes p)) string_bytes (λ p said. said.1) patterns h)
flagged_lack false patterns h = all_lack (λ (p : String Global). IsWord (string_bytes p)) string_bytes (λ p said. said.1) patterns h

-- the flag is cut in one way
same_rest : (f g : Bool) (xs ys : List (List ℕ)) → flagged f xs ≡ flagged g ys → IsClear f xs → IsClear g ys → xs ≡ ys
same_rest true true xs ys e h k = cc
same_rest true false xs [] e h k = cc e
same_rest true false xs (y ∷ ys) e h k =
    let head : y ≡ codes "forget" = cc in
    absurd (k head)
same_rest false true [] ys e h k = cc e
same_rest false true (x ∷ xs) ys e h k =
    let head : x ≡ codes "forget" = cc in
    absurd (h head)
same_rest false false xs ys e h k = e

-- ---- cut and joined

parts_of_rewrite : (r : RewriteLine) (text : List ℕ) → IsRewrite r → rewrite_text r ≡ text
    → parts_of text ≡ string_bytes r.filter ∷ flagged r.forget (pattern_texts r.patterns.items)
parts_of_rewrite r text h e =
    ap parts_of (sym e)
    ∙ split_joined 32 (string_bytes r.filter) (flagged r.forget (pattern_texts r.patterns.items)) (h.0.1, flagged_lack r.forget r.patterns.items h.1)

pub no_words_rewrite : (words : List (Bor (List ℕ))) (text : List ℕ) → length words < 1 → texts words ≡ parts_of text → IsNoRewrite text
no_words_rewrite [] text few cut r h e = cc (cut ∙ parts_of_rewrite r text h e)
no_words_rewrite (a ∷ words) text few cut r h e = absurd (omega arith)

same_words : (words : List (Bor (List ℕ))) (d : Bor (List ℕ)) (text : List ℕ) → 1 ≤ length words → texts words ≡ parts_of text → (r : RewriteLine) → IsRewrite r → rewrite_text r ≡ text
    → (string_bytes r.filter ≡ (get_or words 0 d).now) × (flagged r.forget (pattern_texts r.patterns.items) ≡ texts (behind_one words))
same_words words d text some cut r h e =
    let same : string_bytes r.filter ∷ flagged r.forget (pattern_texts r.patterns.items) ≡ (get_or words 0 d).now ∷ texts (behind_one words) =
    sym (parts_of_rewrite r text h e) ∙ sym cut ∙ one_and_more words d some in
    (cc, cc)

pub no_name_rewrites : (words : List (Bor (List ℕ))) (d : Bor (List ℕ)) (text : List ℕ) → 1 ≤ length words → texts words ≡ parts_of text → length (get_or words 0 d).now ≡ 0 → IsNoRewrite text
no_name_rewrites words d text some cut none r h e =
    let same = ap length (same_words words d text some cut r h e).0 in
    absurd (omega (arith, same, none, h.0.0))

pub no_patterns_rewrite : (words : List (Bor (List ℕ))) (text : List ℕ) (forget : Bool) (rest : List (List ℕ)) → 1 ≤ length words → texts words ≡ parts_of text → CutsFlag (texts (behind_one words)) forget rest
    → NonePrints (λ (values : Vec (String Global)). AreWords values.items) (λ values. pattern_texts values.items) rest → IsNoRewrite text
no_patterns_rewrite [] text forget rest some cut flag none r h e = absurd (omega arith)
no_patterns_rewrite (a ∷ words) text forget rest some cut flag none r h e =
    none r.patterns h.1 (same_rest r.forget forget (pattern_texts r.patterns.items) rest ((same_words (a ∷ words) a text some cut r h e).1 ∙ flag.0) h.2 flag.1)

-- ---- what is asked of the words

-- the words behind the flag have no spaces
pub spaceless_rest : (words : List (List ℕ)) (forget : Bool) (rest : List (List ℕ)) → CutsFlag words forget rest → AreSpaceless words → AreSpaceless rest
spaceless_rest words true rest flag h = (subst AreSpaceless flag.0 h).1
spaceless_rest words false rest flag h = subst AreSpaceless flag.0 h

-- words of which the first isn't empty and the others are patterns, behind the flag where it is set
pub rewrite_of_words : (words : List (Bor (List ℕ))) (d : Bor (List ℕ)) (text : List ℕ) (r : RewriteLine) → 1 ≤ length words → texts words ≡ parts_of text
    → string_bytes r.filter ≡ (get_or words 0 d).now → 0 < length (get_or words 0 d).now
    → AreWords r.patterns.items → CutsFlag (texts (behind_one words)) r.forget (pattern_texts r.patterns.items) → IsRewrite r × (rewrite_text r ≡ text)
rewrite_of_words words d text r some cut name name_some patterns flag =
    let lack = subst AreSpaceless (sym cut ∙ one_and_more words d some) (parts_lack 32 text) in
    let all : string_bytes r.filter ∷ flagged r.forget (pattern_texts r.patterns.items) ≡ parts_of text = rw (name, ← flag.0) (sym (one_and_more words d some) ∙ cut) in (
      ((subst (λ l. 0 < length l) (sym name) name_some, subst (LacksByte 32) (sym name) lack.0), patterns, flag.1),
      ap (join_with_byte 32) all ∙ join_with_byte-slice_split 32 text,
    )
