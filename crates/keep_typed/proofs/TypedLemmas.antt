-- The command that clap found, and what comes of its words.
use Rattle.std.proofs.Common.{◌≡◌, ◌∙◌, inl, inr, Bor, List, [], Option, Some, None, true, Result, Ok, Err, ap₂, refl, subst}
use Rattle.std.specs.Option.{option_map}
use Rattle.clap.specs.Words.{HasKind, Row, Text, fault_of, is_simple, is_simple_and_free, kind_of, matches_of, subcommand_name_of, subcommand_of, subcommand_rows_of}
use Rattle.clap.specs.declared.error.Error.{Error}
use Rattle.clap.specs.declared.parser.matches.ArgMatches.{ArgMatches}
use Rattle.clap.specs.declared.parser.matches.ArgMatches.TheViews.{out-ArgMatches}
use Rattle.keep_forms.specs.Keep.{keep}
use Rattle.keep_words.specs.Read.{rows_in}
use Rattle.keep_words.specs.declared.words.Words.{Words}
use Rattle.keep_typed.specs.Typed.{IsFaultIn, IsWordsIn, ReadsMatches, ReadsWords}

-- clap gives the command's matches, and tells when it gives none
pub keep-simple : is_simple keep ≡ true
keep-simple = refl

pub keep-free : is_simple_and_free keep ≡ true
keep-free = refl

names-of : {X : Type 0} (f : X → Text) (g : X → List Row) (x : Option X) → option_map f x ≡ option_map (λ (p : Text × List Row). p.0) (option_map (λ b. (f b, g b)) x)
names-of f g None = refl
names-of f g (Some b) = refl

-- a command's name and rows
abbrev pub shown : Bor Text × Bor ArgMatches → Text × List Row
shown p = (p.0.now, rows_in p.1.now)

both-of : (s : Option (Text × List Row)) (r : Option (Bor Text × Bor ArgMatches)) → option_map (λ p. p.0.now) r ≡ option_map (λ p. p.0) s
    → option_map (λ p. rows_in p.1.now) r ≡ option_map (λ p. p.1) s → s ≡ option_map shown r
both-of None None n k = refl
both-of None (Some p) n k = cc
both-of (Some s) None n k = cc
both-of (Some s) (Some p) n k =
    let name : s.0 ≡ p.0.now = cc in
    let rows : s.1 ≡ rows_in p.1.now = cc in
    ap₂ (λ (a : Text) (b : List Row). Some (a, b)) name rows

pub found-shown : (m : ArgMatches) (r : Option (Bor Text × Bor ArgMatches)) → option_map (λ p. p.0.now) r ≡ subcommand_name_of m
    → option_map (λ p. rows_in p.1.now) r ≡ option_map (λ p. p.1) (subcommand_rows_of m) → subcommand_rows_of m ≡ option_map shown r
found-shown m r n k = both-of (subcommand_rows_of m) r (n ∙ names-of _ _ (out-ArgMatches m).subcommand) k

-- words that clap takes say what its matches say
pub taken : (words : List Text) (top : List Row) (found : Option (Text × List Row)) (r : Result Words Error) → fault_of keep words ≡ []
    → top ≡ matches_of keep words → found ≡ subcommand_of keep words → ReadsMatches top found r → ReadsWords words r
taken words top found (Ok value) none t f h = (none, subst (λ x. IsWordsIn (matches_of keep words) x value) f (subst (λ x. IsWordsIn x found value) t h))
taken words top found (Err error) none t f (inl memory) = inl memory
taken words top found (Err error) none t f (inr fault) = inr (inr (none, subst (λ x. IsFaultIn x (kind_of error)) f fault))

-- words that clap refuses
pub refused : (words : List Text) (error : Error) → HasKind (fault_of keep words) error → ReadsWords words (Err error)
refused words error (inl memory) = inl memory
refused words error (inr among) = inr (inl among)
