-- What a run calls a file that is under way is such a name.
use Rattle.std.proofs.Common.{◌≡◌, ◌≢◌, ℕ, zero, suc, List, ◌∷◌, ◌++◌, codes, refl, sym, subst, arith}
use Rattle.std.specs.Fmt.{decimal}
use Rattle.std.specs.Str.Iter.{LacksByte}
use Rattle.keep_names.proofs.Numbers.{number_lacks}
use Rattle.keep_names.specs.Number.{IsNumber}
use Rattle.keep_keyed_folder.specs.Tmp.{IsTmp}

lacks_more : (b : ℕ) (bs : List ℕ) → b ≢ 47 → LacksByte 47 bs → LacksByte 47 (b ∷ bs)
lacks_more b bs other rest zero l e = other e
lacks_more b bs other rest (suc k) l e = rest k (omega arith) e

pub run_name : (name : List ℕ) (n : ℕ) → IsNumber n → name ≡ codes "tmp-" ++ decimal n → IsTmp name
run_name name n small is =
    let digits = decimal n in
    subst IsTmp (sym is) (
      lacks_more 116 (109 ∷ (112 ∷ (45 ∷ digits))) (λ e. omega arith)
          (lacks_more 109 (112 ∷ (45 ∷ digits)) (λ e. omega arith)
          (lacks_more 112 (45 ∷ digits) (λ e. omega arith) (lacks_more 45 digits (λ e. omega arith) (number_lacks n small)))),
      refl,
    )
