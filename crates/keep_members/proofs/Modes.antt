-- Modes go to Go's bits and back: each is what stands above its nine permissions, and those.
use Rattle.std.proofs.Common.{◌≡◌, ℕ, zero, suc, ◌+◌, ◌*◌, ◌/◌, ◌%◌, ◌^◌, ◌<◌, ◌==◌, Bool, true, false, cond, ◌&&◌, ◌||◌, not, sum_by, refl, sym, ap, ◌∙◌, subst, arith}
use Rattle.std.proofs.Math.Nat.{div-div-eq-div-mul}
use Rattle.std.proofs.lemmas.Bool.{and_parts}
use Rattle.std.proofs.lemmas.Bool.Decides.{nat_tests}
use Rattle.std.specs.List.{find, list_all, list_any}
use Rattle.keep_members.specs.Mode.{digit_of, go_kind, go_mode, is_unix_mode, kinds, marks, unix_mode}

-- ---- what stands above the permissions

-- it tells each higher bit
above : (high low w : ℕ) → low < 512 → (high * 512 + low) / (512 * w) ≡ (high * 512) / (512 * w)
above high low w small =
    let with : (high * 512 + low) / 512 ≡ high = omega arith in
    let without : (high * 512) / 512 ≡ high = omega arith in
    sym (div-div-eq-div-mul (high * 512 + low) 512 w) ∙ ap (λ n. n / w) (with ∙ sym without) ∙ div-div-eq-div-mul (high * 512) 512 w

low_of : (high low : ℕ) → low < 512 → (high * 512 + low) % 512 ≡ low
low_of high low small = omega arith

plus_none : (x high low : ℕ) → x + low ≡ x + (high * 512) % 512 + low
plus_none x high low = omega arith

-- Go's mode by the quotients of a mode
abbrev go_parts : ℕ → ℕ → ℕ → ℕ → ℕ
go_parts kind user group sticky =
    go_kind (kind % 16)
    + (0 + cond (user % 2 == 1) (2 ^ 23) 0 + cond (group % 2 == 1) (2 ^ 22) 0 + cond (sticky % 2 == 1) (2 ^ 20) 0)

go_above : (high low : ℕ) → low < 512 → go_mode (high * 512 + low) ≡ go_mode (high * 512) + low
go_above high low small =
    let kind = above high low 8 small in
    let user = above high low 4 small in
    let group = above high low 2 small in
    let sticky = above high low 1 small in
    let rest = low_of high low small in
    (λ i. go_parts (kind i) (user i) (group i) (sticky i) + rest i)
    ∙ plus_none (go_parts ((high * 512) / 4096) ((high * 512) / 2048) ((high * 512) / 1024) ((high * 512) / 512)) high low

-- the quotient at each place that tells something
abbrev at_places : ℕ → ℕ → ℕ → ℕ → ℕ → ℕ → ℕ → ℕ → ℕ → ℕ → ℕ
at_places dir link device pipe socket user group character sticky place =
    cond (place == 31) dir (cond (place == 27) link (cond (place == 26) device (cond (place == 25) pipe
    (cond (place == 24) socket (cond (place == 23) user (cond (place == 22) group
    (cond (place == 21) character sticky)))))))

-- an `st_mode` by the quotients of Go's mode
abbrev unix_parts : (ℕ → ℕ) → ℕ
unix_parts at =
    digit_of (find (λ kind. list_all (λ place. at place % 2 == 1) kind.1) kinds) * 4096
    + sum_by (λ mark. cond (at mark.1 % 2 == 1) (2 ^ mark.0) 0) marks

unix_above : (high low : ℕ) → low < 512 → unix_mode (high * 512 + low) ≡ unix_mode (high * 512) + low
unix_above high low small =
    let dir = above high low 4_194_304 small in
    let link = above high low 262_144 small in
    let device = above high low 131_072 small in
    let pipe = above high low 65_536 small in
    let socket = above high low 32_768 small in
    let user = above high low 16_384 small in
    let group = above high low 8_192 small in
    let character = above high low 4_096 small in
    let sticky = above high low 2_048 small in
    let rest = low_of high low small in
    (λ i. unix_parts (at_places (dir i) (link i) (device i) (pipe i) (socket i) (user i) (group i) (character i) (sticky i)) + rest i)
    ∙ plus_none (unix_parts (λ place. (high * 512) / 2 ^ place)) high low

-- ---- what stands above comes back, for each that there is

comes_back : ℕ → Bool
comes_back high =
    not (is_unix_mode (high * 512)) || ((unix_mode (go_mode (high * 512)) == high * 512) && (go_mode (high * 512) % 512 == 0))

all_below : (ℕ → Bool) → ℕ → Bool
all_below test zero = true
all_below test (suc n) = test n && all_below test n

by_case : (test : ℕ → Bool) (n i : ℕ) (b : Bool) → (i == n) ≡ b → test n ≡ true → i < suc n → (i < n → test i ≡ true) → test i ≡ true
by_case test n i true same last below rest = let is : i ≡ n = grind (arith, nat_tests) in subst (λ k. test k ≡ true) (sym is) last
by_case test n i false other last below rest = rest (grind (arith, nat_tests))

below_all : (test : ℕ → Bool) (n i : ℕ) → all_below test n ≡ true → i < n → test i ≡ true
unfolding all_below
below_all test zero i all below = absurd (omega arith)
below_all test (suc n) i all below =
    let parts = and_parts (test n) (all_below test n) all in
    by_case test n i (i == n) refl parts.0 below (below_all test n i parts.1)

all_come_back : all_below comes_back 128 ≡ true
unfolding all_below comes_back
all_come_back = refl

told : (a b c : Bool) → a ≡ true → (not a || (b && c)) ≡ true → (b ≡ true) × (c ≡ true)
told true b c is e = and_parts b c e
told false b c is e = cc

kind_of_high : (high : ℕ) → high < 128 → is_unix_mode (high * 512) ≡ true → (unix_mode (go_mode (high * 512)) ≡ high * 512) × (go_mode (high * 512) % 512 ≡ 0)
unfolding comes_back
kind_of_high high small is =
    let both = told (is_unix_mode (high * 512)) (unix_mode (go_mode (high * 512)) == high * 512) (go_mode (high * 512) % 512 == 0) is (below_all comes_back 128 high all_come_back small) in
    (equal _ _ both.0, equal _ _ both.1)
  where
    equal : (a b : ℕ) → (a == b) ≡ true → a ≡ b
    equal a b e = grind (arith, nat_tests)

abbrev is_kind : ℕ → Bool
is_kind digit = list_any (λ kind. kind.0 == digit) kinds

few_kinds : (digit : ℕ) → is_kind digit ≡ true → digit < 16
few_kinds digit e = grind (arith, nat_tests)

there_at : (n high low : ℕ) → low < 512 → n ≡ high * 512 + low → is_unix_mode n ≡ true → unix_mode (go_mode n) ≡ n
there_at n high low small split is =
    let digit : n / 4096 < 16 = few_kinds (n / 4096) is in
    let bound : high < 128 = omega arith in
    let same : n / 4096 ≡ (high * 512) / 4096 = ap (λ m. m / 4096) split ∙ above high low 8 small in
    let valid : is_unix_mode (high * 512) ≡ true = subst (λ d. is_kind d ≡ true) same is in
    let back = kind_of_high high bound valid in
    let go = go_mode (high * 512) in
    let whole : go ≡ go / 512 * 512 = omega (arith, back.1) in
    ap (λ m. unix_mode (go_mode m)) split
    ∙ ap unix_mode (go_above high low small ∙ ap (λ m. m + low) whole)
    ∙ unix_above (go / 512) low small
    ∙ ap (λ m. unix_mode m + low) (sym whole)
    ∙ ap (λ m. m + low) back.0
    ∙ sym split

pub there_and_back : (unix : ℕ) → is_unix_mode unix ≡ true → unix_mode (go_mode unix) ≡ unix
there_and_back unix = there_at unix (unix / 512) (unix % 512) (omega arith) (omega arith)
