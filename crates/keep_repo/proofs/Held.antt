-- What the facets of a repository hold: it says what the repository is, and a write changes it at one facet.
use Rattle.std.proofs.Common.{◌≡◌, ℕ, Bool, true, false, cond, List, refl, ap, ◌∙◌, Ordering}
use Rattle.std.specs.Prelude.{Option, Some, None}
use Rattle.std.specs.Cmp.{IsTotalOrder, eq_by_cmp_equiv}
use Rattle.std.specs.Ordering.{eq_by_cmp}
use Rattle.std.specs.Option.{option_map}
use Rattle.std.specs.FinMap as map
use Rattle.keep_names.proofs.Orders.{id_exact, id_total, name_exact, name_total}
use Rattle.keep_names.specs.declared.file_name.FileName.{FileName}
use Rattle.keep_names.specs.declared.id.Id.{Id}
use Rattle.keep_repo.specs.Facet.{Content, Marked, Stored, facet_eq}
use Rattle.keep_repo.specs.Repository.{Repository, held}
use Rattle.keep_repo.specs.declared.facet.Facet.{Facet}
use Rattle.keep_repo.specs.declared.facet.Facet.TheVariants.{File, Mark}
use Rattle.keep_repo.specs.declared.facet.Mark as the_mark

same_bytes : (a b : Option (List ℕ)) → option_map Stored a ≡ option_map Stored b → a ≡ b
same_bytes None None h = refl
same_bytes None (Some y) h = cc h
same_bytes (Some x) None h = cc h
same_bytes (Some x) (Some y) h = cc h

same_mark : (a b : Option the_mark.Mark) → option_map Marked a ≡ option_map Marked b → a ≡ b
same_mark None None h = refl
same_mark None (Some y) h = cc h
same_mark (Some x) None h = cc h
same_mark (Some x) (Some y) h = cc h

-- what every facet holds is the repository
pub same_repository : (r s : Repository) → ((f : Facet) → held r f ≡ held s f) → r ≡ s
same_repository r s h =
    let files = map.same_map name_total name_exact r.files s.files (λ name. same_bytes _ _ (h (File name))) in
    let marks = map.same_map id_total id_exact r.marks s.marks (λ pack. same_mark _ _ (h (Mark pack))) in
    λ i. record { files = files i; marks = marks i }

option_map-cond : {A B : Type 0} (f : A → B) (b : Bool) (x y : Option A) → option_map f (cond b x y) ≡ cond b (option_map f x) (option_map f y)
option_map-cond f true x y = refl
option_map-cond f false x y = refl

module _ {K X : Type 0} {R : K → K → Ordering} (total : IsTotalOrder R) (f : X → Content) (m : map.FinMap R X) (k q : K) where
  mapped-insert : (v : X) → option_map f (map.get (map.insert m k v) q) ≡ cond (eq_by_cmp R k q) (Some (f v)) (option_map f (map.get m q))
  mapped-insert v =
      ap (option_map f) (map.get-insert total m k v q ∙ ap (λ b. cond b (Some v) (map.get m q)) ((eq_by_cmp_equiv total).symm q k))
      ∙ option_map-cond f (eq_by_cmp R k q) (Some v) (map.get m q)

  mapped-remove : option_map f (map.get (map.remove m k) q) ≡ cond (eq_by_cmp R k q) None (option_map f (map.get m q))
  mapped-remove =
      ap (option_map f) (map.get-remove total m k q ∙ ap (λ b. cond b None (map.get m q)) ((eq_by_cmp_equiv total).symm q k))
      ∙ option_map-cond f (eq_by_cmp R k q) None (map.get m q)

pub held-insert_file : (r : Repository) (name : FileName) (bytes : List ℕ) (q : Facet) → held (record r { files = map.insert r.files name bytes }) q ≡ cond (facet_eq (File name) q) (Some (Stored bytes)) (held r q)
held-insert_file r name bytes (File other) = mapped-insert name_total Stored r.files name other bytes
held-insert_file r name bytes (Mark pack) = refl

pub held-remove_file : (r : Repository) (name : FileName) (q : Facet) → held (record r { files = map.remove r.files name }) q ≡ cond (facet_eq (File name) q) None (held r q)
held-remove_file r name (File other) = mapped-remove name_total Stored r.files name other
held-remove_file r name (Mark pack) = refl

pub held-insert_mark : (r : Repository) (pack : Id) (mark : the_mark.Mark) (q : Facet) → held (record r { marks = map.insert r.marks pack mark }) q ≡ cond (facet_eq (Mark pack) q) (Some (Marked mark)) (held r q)
held-insert_mark r pack mark (File name) = refl
held-insert_mark r pack mark (Mark other) = mapped-insert id_total Marked r.marks pack other mark

pub held-remove_mark : (r : Repository) (pack : Id) (q : Facet) → held (record r { marks = map.remove r.marks pack }) q ≡ cond (facet_eq (Mark pack) q) None (held r q)
held-remove_mark r pack (File name) = refl
held-remove_mark r pack (Mark other) = mapped-remove id_total Marked r.marks pack other
