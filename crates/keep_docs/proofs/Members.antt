-- Members of objects, one after the other.
use Rattle.std.proofs.Common.{◌≡◌, ℕ, Bool, true, false, cond, List, [], ◌∷◌, ◌++◌, map, Less, Greater, String, Global, string_bytes, string_cmp, refl, sym, ap, ◌∙◌}
use Rattle.std.proofs.lemmas.Cmp.{nat_list_cmp_total}
use Rattle.std.specs.Cmp.Lexicographic.{slice_cmp}
use Rattle.std.specs.List.{AllByRecursion, AllZip, list_any}
use Rattle.std.specs.List.Sorted.{IsStrictlySortedBy}
use Rattle.std.specs.Map.{keys_of}
use Rattle.std.specs.Ordering.{nat_cmp, ordering_reverse}
use Rattle.std.specs.Str.{bytes_eq}
use Rattle.serde_json.specs.Data.{Data, Members, no_members, member, put}
use Rattle.serde_json.specs.View.{view, members_view}
use Rattle.serde_json.proofs.Views.{Entry}
use Rattle.keep_docs.specs.Fields.{others}
use Rattle.keep_docs.specs.Readable.{StandsBefore}

-- members one after the other
abbrev pub join : Members → Members → Members
join no_members ms = ms
join (member k d more) ms = member k d (join more ms)

-- each key of the first stands before each of the second
abbrev pub Precede : Members → Members → Type 0
Precede no_members ms = Unit {0}
Precede (member k d more) ms = StandsBefore k ms × Precede more ms

-- a key that stands behind all others goes last
pub put_last : (done : Members) (k : List ℕ) (d : Data) (ms : Members) → Precede done (member k d ms) → put k d done ≡ join done (member k d no_members)
put_last no_members k d ms h = refl
put_last (member l e more) k d ms h =
    let behind : slice_cmp nat_cmp k l ≡ Greater = nat_list_cmp_total.antisymm k l ∙ ap ordering_reverse h.0.0 in
    rw behind (ap (member l e) (put_last more k d ms h.1))

pub precede_more : (done : Members) (k : List ℕ) (d : Data) (ms : Members) → Precede done (member k d ms) → StandsBefore k ms → Precede (join done (member k d no_members)) ms
precede_more no_members k d ms h before = (before, tt)
precede_more (member l e more) k d ms h before = (h.0.1, precede_more more k d ms h.1 before)

pub join_none : (done : Members) → join done no_members ≡ done
join_none no_members = refl
join_none (member l e more) = ap (member l e) (join_none more)

pub join_more : (done : Members) (k : List ℕ) (d : Data) (ms : Members) → join (join done (member k d no_members)) ms ≡ join done (member k d ms)
join_more no_members k d ms = refl
join_more (member l e more) k d ms = ap (member l e) (join_more more k d ms)

-- ---- the other members

pub list_any-map : {A B : Type 0} (p : B → Bool) (h : A → B) (xs : List A) → list_any p (map h xs) ≡ list_any (λ x. p (h x)) xs
list_any-map p h [] = refl
list_any-map p h (x ∷ xs) = rw (list_any-map p h xs)

module _ (named : List (List ℕ)) where
  others_of : (b : Bool) (k : List ℕ) (d : Data) (ms : Members) → list_any (λ name. bytes_eq name k) named ≡ b → others named (member k d ms) ≡ cond b (others named ms) (member k d (others named ms))
  others_of b k d ms e = rw e

  join_either : (b : Bool) (k : List ℕ) (d : Data) (rest more ms : Members) → rest ≡ join more ms → cond b rest (member k d rest) ≡ join (cond b more (member k d more)) ms
  join_either true k d rest more ms same = same
  join_either false k d rest more ms same = ap (member k d) same

  pub others-join : (done ms : Members) → others named (join done ms) ≡ join (others named done) (others named ms)
  others-join no_members ms = refl
  others-join (member k d more) ms = join_either (list_any (λ name. bytes_eq name k) named) k d (others named (join more ms)) (others named more) (others named ms) (others-join more ms)

  precede_either : (b : Bool) (k : List ℕ) (d : Data) (more ms : Members) → StandsBefore k ms → Precede more ms → Precede (cond b more (member k d more)) ms
  precede_either true k d more ms before rest = rest
  precede_either false k d more ms before rest = (before, rest)

  -- leaving members out leaves the order
  precede-others : (done ms : Members) → Precede done ms → Precede (others named done) ms
  precede-others no_members ms h = tt
  precede-others (member k d more) ms h = precede_either (list_any (λ name. bytes_eq name k) named) k d (others named more) ms h.0 (precede-others more ms h.1)

  -- a member that isn't named goes last
  pub one_more : (done : Members) (k : List ℕ) (d : Data) (ms : Members) → Precede done (member k d ms) → list_any (λ name. bytes_eq name k) named ≡ false
      → put k d (others named done) ≡ others named (join done (member k d no_members))
  one_more done k d ms h other =
      put_last (others named done) k d ms (precede-others done (member k d ms) h) ∙ ap (join (others named done)) (sym (others_of false k d no_members other))
      ∙ sym (others-join done (member k d no_members))

  -- one that is named is left out
  pub none_more : (done : Members) (k : List ℕ) (d : Data) → list_any (λ name. bytes_eq name k) named ≡ true → others named done ≡ others named (join done (member k d no_members))
  none_more done k d is = sym (others-join done (member k d no_members) ∙ ap (join (others named done)) (others_of true k d no_members is) ∙ join_none (others named done))

-- ---- the entries of a map

pub members_view-append : (es more : List Entry) → members_view (es ++ more) ≡ join (members_view es) (members_view more)
members_view-append [] more = refl
members_view-append (e ∷ es) more = ap (member (string_bytes e.0) (view e.1)) (members_view-append es more)

-- clones of a map's entries are the same members
pub members_view-clones : (es fs : List Entry) → AllZip (λ p q. (string_bytes q.0 ≡ string_bytes p.0) × (view q.1 ≡ view p.1)) es fs → members_view fs ≡ members_view es
members_view-clones [] [] h = refl
members_view-clones [] (f ∷ fs) h = absurd h
members_view-clones (e ∷ es) [] h = absurd h
members_view-clones (e ∷ es) (f ∷ fs) h = λ i. member (h.0.0 i) (h.0.1 i) (members_view-clones es fs h.1 i)

-- the keys of a map ascend
pub stands_before : (k : String Global) (es : List Entry) → AllByRecursion (λ l. string_cmp k l ≡ Less) (keys_of es) → StandsBefore (string_bytes k) (members_view es)
stands_before k [] h = tt
stands_before k (e ∷ es) h = (h.0, stands_before k es h.1)

before_middle : (k : String Global) (done es : List Entry) → AllByRecursion (λ l. string_cmp k l ≡ Less) (keys_of (done ++ es)) → AllByRecursion (λ l. string_cmp k l ≡ Less) (keys_of es)
before_middle k [] es h = h
before_middle k (e ∷ done) es h = before_middle k done es h.1

pub precede_rest : (done es : List Entry) → IsStrictlySortedBy string_cmp (keys_of (done ++ es)) → Precede (members_view done) (members_view es)
unfolding IsStrictlySortedBy
precede_rest [] es h = tt
precede_rest (e ∷ done) es h = (stands_before e.0 es (before_middle e.0 done es h.0), precede_rest done es h.1)
