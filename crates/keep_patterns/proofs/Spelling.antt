-- Parts of the spelling of a pattern.
use Rattle.std.proofs.Common.{◌≡◌, ◌≢◌, ℕ, Bool, true, false, cond, T, ◌&&◌, ◌||◌, ◌++◌, List, [], ◌∷◌, map, Ok, Err, None, Some, ok_or, Bor, refl, sym, ap, ap₂, subst, ◌∙◌, eqb→eq}
use Rattle.std.specs.List.{list_any}
use Rattle.keep_patterns.specs.Matching.{is_nil}
use Rattle.keep_patterns.specs.Parsing.{after_slash, before_slash, begins_with, component_of, is_bad, is_reserved, is_slash, parts_of, pattern_of}
use Rattle.keep_patterns.specs.declared.parsing.PatternError.TheVariants.{BadPattern}
use Rattle.keep_patterns.specs.declared.pattern.Component.{Component}

slash : (c : ℕ) → is_slash c ≡ true → c ≡ 47
slash c is = eqb→eq c 47 (subst T (sym is) tt)

-- ---- a `/` at the front

unopened_by : (b : Bool) (c : ℕ) (text : List ℕ) → is_slash c ≡ b → ((rest : List ℕ) → c ∷ text ≢ 47 ∷ rest) → c ∷ text ≡ cond b text (c ∷ text)
unopened_by true c text is h = absurd (h text (ap (λ x. x ∷ text) (slash c is)))
unopened_by false c text is h = refl

pub unopened : (text : List ℕ) → ((rest : List ℕ) → text ≢ 47 ∷ rest) → text ≡ after_slash text
unopened [] h = refl
unopened (c ∷ text) h = unopened_by (is_slash c) c text refl h

-- ---- a `/` at the end

pushed : (front : List ℕ) → is_nil (front ++ 47 ∷ []) ≡ false
pushed [] = refl
pushed (c ∷ front) = refl

closed_by : (front : List ℕ) → before_slash (front ++ 47 ∷ []) ≡ front
closed_by [] = refl
closed_by (c ∷ front) =
    ap (λ b. cond (b && is_slash c) [] (c ∷ before_slash (front ++ 47 ∷ []))) (pushed front)
    ∙ ap (λ t. c ∷ t) (closed_by front)

pub closed : (text front : List ℕ) → text ≡ front ++ 47 ∷ [] → front ≡ before_slash text
closed text front e = sym (ap before_slash e ∙ closed_by front)

unclosed_by : (b : Bool) (c : ℕ) → is_slash c ≡ b → ((front : List ℕ) → c ∷ [] ≢ front ++ 47 ∷ []) → c ∷ [] ≡ cond b [] (c ∷ [])
unclosed_by true c is h = absurd (h [] (ap (λ x. x ∷ []) (slash c is)))
unclosed_by false c is h = refl

pub unclosed : (text : List ℕ) → ((front : List ℕ) → text ≢ front ++ 47 ∷ []) → text ≡ before_slash text
unclosed [] h = refl
unclosed (c ∷ []) h = unclosed_by (is_slash c) c refl h
unclosed (c ∷ d ∷ text) h = ap (λ t. c ∷ t) (unclosed (d ∷ text) (λ front e. h (c ∷ front) (ap (λ t. c ∷ t) e)))

-- ---- parts behind references

abbrev pub texts : List (Bor (List ℕ)) → List (List ℕ)
texts parts = map (λ part. part.now) parts

any_text : (parts : List (Bor (List ℕ))) → list_any (λ part. is_nil part.now) parts ≡ list_any is_nil (texts parts)
any_text [] = refl
any_text (x ∷ parts) = ap (λ b. is_nil x.now || b) (any_text parts)

each_text : (parts : List (Bor (List ℕ))) → map (λ part. component_of part.now) parts ≡ map component_of (texts parts)
each_text [] = refl
each_text (x ∷ parts) = ap (λ cs. component_of x.now ∷ cs) (each_text parts)

-- ---- the whole

bad_by : (text : List ℕ) (parts shown : List (Bor (List ℕ))) (r : Bool) → shown ≡ parts → texts parts ≡ parts_of text → r ≡ (begins_with 33 text || list_any is_reserved text || list_any (λ part. is_nil part.now) shown) → r ≡ is_bad text
bad_by text parts shown r s m e =
    e
    ∙ ap (λ b. begins_with 33 text || list_any is_reserved text || b)
    (any_text shown ∙ ap (λ ps. list_any is_nil (texts ps)) s ∙ ap (list_any is_nil) m)

pub refused : (text : List ℕ) (parts shown : List (Bor (List ℕ))) (r : Bool) → shown ≡ parts → texts parts ≡ parts_of text → r ≡ (begins_with 33 text || list_any is_reserved text || list_any (λ part. is_nil part.now) shown) → r ≡ true → ok_or (pattern_of text) BadPattern ≡ Err BadPattern
refused text parts shown r s m e is =
    ap (λ b. ok_or (cond b None (Some (begins_with 47 text, map component_of (parts_of text)))) BadPattern) (sym (bad_by text parts shown r s m e) ∙ is)

pub taken : (text : List ℕ) (parts shown : List (Bor (List ℕ))) (made : List Component) (r anchored : Bool) → shown ≡ parts → texts parts ≡ parts_of text → r ≡ (begins_with 33 text || list_any is_reserved text || list_any (λ part. is_nil part.now) shown) → r ≡ false → made ≡ map (λ part. component_of part.now) shown → anchored ≡ begins_with 47 text → ok_or (pattern_of text) BadPattern ≡ Ok (anchored, made)
taken text parts shown made r anchored s m e is each at =
    let components : made ≡ map component_of (parts_of text) =
    each ∙ each_text shown ∙ ap (λ ps. map component_of (texts ps)) s ∙ ap (map component_of) m in
    let same : (begins_with 47 text, map component_of (parts_of text)) ≡ (anchored, made) =
    ap₂ (λ a cs. (a, cs)) (sym at) (sym components) in
    ap (λ b. ok_or (cond b None (Some (begins_with 47 text, map component_of (parts_of text)))) BadPattern) (sym (bad_by text parts shown r s m e) ∙ is)
    ∙ ap Ok same
