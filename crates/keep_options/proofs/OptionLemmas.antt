-- When words are options, by the kinds of clap's errors.
use Rattle.std.proofs.Common.{◌≡◌, ◌⊎◌, inl, inr, ℕ, Bool, true, false, List, [], ◌∷◌, length, Result, Ok, Err, Option, Some, None, sym, ap, subst, refl, arith, codes}
use Rattle.std.proofs.lemmas.Bool.{ne_eqb}
use Rattle.std.specs.Prelude.{ok_or, option_and_then}
use Rattle.std.specs.List.{list_any}
use Rattle.std.specs.Result.{IsErrAnd}
use Rattle.std.specs.Str.{bytes_eq}
use Rattle.clap.specs.Words.{IsAmong, Kinds, fault_of, is_simple, is_simple_and_free, matches_of}
use Rattle.clap.specs.Walk.{is_empty}
use Rattle.clap.specs.declared.error.kind.ErrorKind.{ErrorKind}
use Rattle.clap.specs.declared.error.kind.ErrorKind.TheVariants.{OutOfMemory}
use Rattle.keep_options.specs.Option.{OptionsData, command, options_in, options_of}
use Rattle.keep_options.specs.Reading.{Reads, Says, refusal_of}
use Rattle.keep_options.specs.declared.options.Options.{Options}
use Rattle.keep_options.specs.declared.options.BadOptions.{BadOptions}
use Rattle.keep_options.specs.declared.options.BadOptions.TheVariants.{Memory, Refused}

-- `--` is among the words
abbrev pub has_dashes : List (List ℕ) → Bool
has_dashes words = list_any (λ word. bytes_eq word (codes "--")) words

-- clap gives the command's matches, and tells when it gives none
pub command-simple : is_simple command ≡ true
command-simple = refl

pub command-free : is_simple_and_free command ≡ true
command-free = refl

-- words with `--` are no options
pub dashes-refused : (words : List (List ℕ)) → has_dashes words ≡ true → options_of words ≡ None
dashes-refused words e = rw e refl

-- words without it that clap takes give what the matches say
pub taken : (words : List (List ℕ)) → has_dashes words ≡ false → fault_of command words ≡ [] → options_of words ≡ options_in (matches_of command words)
taken words clean e = rw (clean, e) refl

nonempty : (k : ErrorKind) (ks : Kinds) → IsAmong k ks → is_empty ks ≡ false
nonempty k [] h = absurd h
nonempty k (x ∷ xs) h = ne_eqb (length (x ∷ xs)) 0 (λ e. absurd (omega (arith, e)))

-- and those that it refuses are none
pub refused : (words : List (List ℕ)) (k : ErrorKind) → has_dashes words ≡ false → IsAmong k (fault_of command words) → options_of words ≡ None
refused words k clean h = rw (clean, nonempty k (fault_of command words) h) refl

-- an error of clap is a refusal of the words, or want of memory
pub refused-reads : (words : List (List ℕ)) (k : ErrorKind) → has_dashes words ≡ false → (k ≡ OutOfMemory) ⊎ IsAmong k (fault_of command words)
    → Reads words (Err (refusal_of k))
refused-reads words k clean (inl e) = rw e tt
refused-reads words k clean (inr h) = go (refusal_of k)
  where
    go : (x : BadOptions) → Reads words (Err x)
    go Refused = refused words k clean h
    go Memory = tt

-- what the matches say is what is read of the words
pub taken-reads : (words : List (List ℕ)) (found : Option OptionsData) (r : Result Options BadOptions) → options_of words ≡ found → Says found r → Reads words r
taken-reads words found r e h = subst (λ f. Says f r) (sym e) h

-- the error that a `?` passes on says what clap's error comes to
pub refused-after : (words : List (List ℕ)) (k : ErrorKind) (r : Result Options BadOptions) → Reads words (Err (refusal_of k))
    → IsErrAnd r (λ x. x ≡ refusal_of k) → Reads words r
refused-after words k (Ok options) h e = absurd e
refused-after words k (Err x) h e = rw e h

-- a value that is read is the one that the rest goes on with
pub goes-on : {A B : Type 0} (o : Option A) (f : A → Option B) (v : A) → Ok v ≡ ok_or o Refused → option_and_then f o ≡ f v
goes-on None f v e = cc
goes-on (Some x) f v e =
    let same : v ≡ x = cc in
    ap f (sym same)

-- and one that isn't read ends it
pub ends-there : {A : Type 0} (o : Option A) (f : A → Option OptionsData) (x : BadOptions) (r : Result Options BadOptions) → Err x ≡ ok_or o Refused
    → IsErrAnd r (λ y. y ≡ x) → Says (option_and_then f o) r
ends-there None f x (Ok options) e h = absurd h
ends-there None f x (Err y) e h =
    let same : y ≡ Refused = cc in
    rw same refl
ends-there (Some v) f x r e h = cc
