-- The derived orders are those that plain words say.
use Rattle.std.proofs.Common.{◌≡◌, ℕ, ◌<◌, List, [], ◌∷◌, ◌++◌, sym, ap, ◌∙◌, Ordering, Less, Equal}
use Rattle.std.specs.Cmp.{nat_cmp_is, nat_cmp_total, tied_itself}
use Rattle.std.specs.Cmp.Lexicographic.{slice_cmp}
use Rattle.std.specs.Ordering.{nat_cmp, ordering_then}
use Rattle.keep_names.proofs.Orders.{id_total, kind_total}
use Rattle.keep_names.specs.Laws.{BlobsAreOrdered, IdsAreOrdered, NamesAreOrdered}
use Rattle.keep_names.specs.Orders.{blob_type_cmp, id_cmp, kind_cmp}
use Rattle.keep_names.specs.declared.file_name.Kind.{Kind}
use Rattle.keep_names.specs.declared.id.Id.{Id}

-- the first numbers that differ decide
slice_cmp-first_apart : (same xs ys : List ℕ) (x y : ℕ) → x < y → slice_cmp nat_cmp (same ++ x ∷ xs) (same ++ y ∷ ys) ≡ Less
slice_cmp-first_apart [] xs ys x y below =
    ap (λ (r : Ordering). ordering_then r (slice_cmp nat_cmp xs ys)) (sym (nat_cmp_is x y Less below))
slice_cmp-first_apart (b ∷ same) xs ys x y below =
    ap (λ (r : Ordering). ordering_then r (slice_cmp nat_cmp (same ++ x ∷ xs) (same ++ y ∷ ys))) (tied_itself nat_cmp_total b)
    ∙ slice_cmp-first_apart same xs ys x y below

pub ids_are_ordered : IdsAreOrdered
ids_are_ordered = slice_cmp-first_apart

kind_tied : (a b : Kind) → a ≡ b → kind_cmp a b ≡ Equal
kind_tied a b same = ap (kind_cmp a) (sym same) ∙ tied_itself kind_total a

id_tied : (a b : Id) → a ≡ b → id_cmp a b ≡ Equal
id_tied a b same = ap (id_cmp a) (sym same) ∙ tied_itself id_total a

pub names_are_ordered_lem : NamesAreOrdered
names_are_ordered_lem a b = (
  λ below. ap (λ (r : Ordering). ordering_then r (id_cmp a.id b.id)) below,
  λ same. ap (λ (r : Ordering). ordering_then r (id_cmp a.id b.id)) (kind_tied a.kind b.kind same),
)

pub blobs_are_ordered : BlobsAreOrdered
blobs_are_ordered a b = (
  λ below. ap (λ (r : Ordering). ordering_then r (blob_type_cmp a.blob_type b.blob_type)) below,
  λ same. ap (λ (r : Ordering). ordering_then r (blob_type_cmp a.blob_type b.blob_type)) (id_tied a.id b.id same),
)
