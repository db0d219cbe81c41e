-- Facts of orders and of what they answer.
use Rattle.std.proofs.Common.{◌≡◌, true, ◌⊎◌, inl, inr, Ordering, Less, Equal, Greater, is_eq, refl}
use Rattle.std.specs.Cmp.{IsTotalOrder}
use Rattle.std.specs.Ordering.{ordering_then}

-- not greater
abbrev pub UpTo : Ordering → Type 0
UpTo o = (o ≡ Less) ⊎ (o ≡ Equal)

pub is_eq_true : (o : Ordering) → is_eq o ≡ true → o ≡ Equal
is_eq_true Less h = cc
is_eq_true Equal h = refl
is_eq_true Greater h = cc

pub then_less : (o q : Ordering) → ordering_then o q ≡ Less → UpTo o
then_less Less q h = inl refl
then_less Equal q h = inr refl
then_less Greater q h = cc

module _ {X : Type 0} {R : X → X → Ordering} (order : IsTotalOrder R) where
  -- of three in a row the last two tie, if the outer two do
  pub between : (t l x : X) → UpTo (R t l) → UpTo (R l x) → R t x ≡ Equal → R l x ≡ Equal
  between t l x first second tied = by first second
    where
      by : UpTo (R t l) → UpTo (R l x) → R l x ≡ Equal
      by f (inr e) = e
      by (inl f) (inl s) = let far : R t x ≡ Less = order.trans t l x f s in cc
      by (inr f) (inl s) = let same : R t x ≡ R l x = order.congr t l x f in cc
