-- Which word is the bad one, as longer beginnings of the words are tried first.
use Rattle.std.proofs.Common.{◌≡◌, ◌∙◌, ◌⊎◌, inl, inr, ◌+◌, ◌<◌, ◌≤◌, ℕ, List, Bor, IsSome, Some, None, Option, [], ap, arith, map, refl, slice_get, sym, take}
use Rattle.std.proofs.lemmas.Bool.{cases_lt}
use Rattle.std.proofs.lemmas.List.{take-map}
use Rattle.std.proofs.lemmas.Option.{none-some, slice_get-map}
use Rattle.std.specs.Option.{option_map}
use Rattle.clap.specs.Faults.{defaults_fault, walk_fault}
use Rattle.keep_options.specs.Option.{IsBadWord, OptionsData, options_of}

-- no beginning of so many words or more is options
abbrev pub NoneFrom : List (List ℕ) → ℕ → Type 0
NoneFrom words count = (longer : ℕ) → count ≤ longer → options_of (take longer words) ≡ None

-- the texts of words
abbrev pub texts : List (Bor (List ℕ)) → List (List ℕ)
texts words = map (λ word. word.now) words

-- nor so many, or one fewer, where that many aren't
pub none-one-fewer : (words : List (Bor (List ℕ))) (count fewer : ℕ) → count ≤ fewer + 1 → options_of (texts (take fewer words)) ≡ None
    → NoneFrom (texts words) count → NoneFrom (texts words) fewer
none-one-fewer words count fewer next refused above longer low = go (cases_lt longer count)
  where
    go : (longer < count) ⊎ (count ≤ longer) → options_of (take longer (texts words)) ≡ None
    go (inl short) =
        let same : longer ≡ fewer = omega arith in
        ap (λ (n : ℕ). options_of (take n (texts words))) same ∙ ap options_of (take-map (λ (word : Bor (List ℕ)). word.now) fewer words) ∙ refused
    go (inr high) = above longer high

-- no words at all are options, by what is usual
no-words : IsSome (options_of [])
unfolding walk_fault defaults_fault
no-words = refl

none-is-some : (found : Option OptionsData) → found ≡ None → IsSome found → ⊥
none-is-some None e h = cc h
none-is-some (Some options) e h = none-some options (sym e)

-- so some beginning is options: the search for it can't go past the first word
pub some-beginning : (words : List (List ℕ)) (count : ℕ) → count ≤ 0 → NoneFrom words count → ⊥
some-beginning words count none above = none-is-some (options_of []) (above 0 none) no-words

some-is : (options : OptionsData) (found : Option OptionsData) → found ≡ Some options → IsSome found
some-is options found e = rw e refl

-- the word behind a beginning that is options, where no longer one is
pub bad-word : (words : List (Bor (List ℕ))) (count before : ℕ) (word : Bor (List ℕ)) (options : OptionsData) → slice_get words before ≡ Some word → count ≤ before + 1
    → options_of (texts (take before words)) ≡ Some options → NoneFrom (texts words) count → IsBadWord (texts words) word.now
bad-word words count before word options stands next taken above =
    let beginning = ap options_of (take-map (λ (word : Bor (List ℕ)). word.now) before words) ∙ taken in (
      before,
      slice_get-map (λ (word : Bor (List ℕ)). word.now) words before ∙ ap (option_map (λ (word : Bor (List ℕ)). word.now)) stands,
      some-is options (options_of (take before (texts words))) beginning,
      λ longer more. above longer (omega arith),
    )
