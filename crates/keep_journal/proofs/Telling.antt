-- What the entries still tell where changes up to a number are final.
use Rattle.std.proofs.Common.{◌≡◌, ℕ, ◌+◌, ◌-◌, ◌<◌, ◌≤◌, ◌==◌, nat_lt, Bool, true, false, cond, inl, inr, List, [], ◌∷◌, ◌++◌, length, Option, Some, refl, ap, ◌∙◌, arith, append-nil}
use Rattle.std.specs.List.{cons_option, filter, filter_map, fold}
use Rattle.std.proofs.lemmas.Bool.{cases_lt, eqb-true, eqb-false, le-ltb, lt-ltb, ltb-false, ne_eqb}
use Rattle.std.proofs.lemmas.List.Elements.{filter-append}
use Rattle.keep_change.specs.Fold.{Numbered}
use Rattle.keep_change.specs.declared.change.PackMark.{PackMark}
use Rattle.keep_journal.specs.Event.{commit_by, commit_of}
use Rattle.keep_journal.specs.History.{final_after, final_by, in_force_after, in_force_by, marks_after, marks_by, AscendFrom, CountsFrom}
use Rattle.keep_journal.specs.declared.event.Entry.{Entry}
use Rattle.keep_journal.specs.declared.event.Event.{Event}
use Rattle.keep_journal.specs.declared.event.EventKind.{EventKind}
use Rattle.keep_journal.specs.declared.event.EventKind.TheVariants.{Commit, Undo, Redo, Empty}
use Rattle.keep_journal.specs.Lasting.{lasts, lasts_by, lasting_among}
use Rattle.keep_journal.proofs.Filters.{either, fold-filter}

-- the entry of an event of this kind, beside another one
abbrev of_kind : Entry → EventKind → Entry
of_kind e kind = record { at = e.at; event = record { number = e.event.number; kind = kind } }

-- an event that is told makes nothing else final
pub final_itself : (f : ℕ) (e : Event) → lasts f e ≡ true → final_after f e ≡ f
final_itself f e told = by e.number e.kind told
  where
    by : (n : ℕ) (kind : EventKind) → lasts_by f n kind ≡ true → final_by f n kind ≡ f
    by n (Commit c) t = refl
    by n Undo t = refl
    by n Redo t = refl
    by n (Empty marks) t = eqb-true n f t

module _ (f : ℕ) where
  -- one more entry
  pub told_more : (es : List Entry) (e : Entry) (b : Bool) → lasts f e.event ≡ b → lasting_among f (es ++ e ∷ []) ≡ lasting_among f es ++ cond b (e ∷ []) []
  told_more es e b is = filter-append (λ (x : Entry). lasts f x.event) es (e ∷ []) ∙ ap (λ t. lasting_among f es ++ cond t (e ∷ []) []) is

  pub told_with : (es : List Entry) (e : Entry) → lasts f e.event ≡ true → lasting_among f (es ++ e ∷ []) ≡ lasting_among f es ++ e ∷ []
  told_with es e told = told_more es e true told

  pub told_without : (es : List Entry) (e : Entry) → lasts f e.event ≡ false → lasting_among f (es ++ e ∷ []) ≡ lasting_among f es
  told_without es e silent = told_more es e false silent ∙ append-nil (lasting_among f es)

  -- what is told makes nothing else final
  pub final_told : (es : List Entry) → fold (λ before e. final_after before e.event) f (lasting_among f es) ≡ f
  final_told [] = refl
  final_told (e ∷ es) = by (lasts f e.event) refl (final_told es)
    where
      by : (b : Bool) → lasts f e.event ≡ b → fold (λ before x. final_after before x.event) f (lasting_among f es) ≡ f
          → fold (λ before x. final_after before x.event) f (cond b (e ∷ lasting_among f es) (lasting_among f es)) ≡ f
      by true told rest = ap (λ g. fold (λ before (x : Entry). final_after before x.event) g (lasting_among f es)) (final_itself f e.event told) ∙ rest
      by false silent rest = rest

  -- the later changes are in force as before
  pub force_told : (m : ℕ) → f < m → (es : List Entry) (b : Bool)
      → fold (λ before e. in_force_after m before e.event) b (lasting_among f es) ≡ fold (λ before e. in_force_after m before e.event) b es
  force_told m above es b =
      fold-filter (λ before (e : Entry). in_force_after m before e.event) (λ e. lasts f e.event) (λ before e silent. idle before e.event.number e.event.kind silent) es b
    where
      other : (n : ℕ) → nat_lt f n ≡ false → (n == m) ≡ false
      other n below = ne_eqb n m (λ same. omega (arith, ltb-false f n below))

      idle : (before : Bool) (n : ℕ) (kind : EventKind) → lasts_by f n kind ≡ false → in_force_by (n == m) before kind ≡ before
      idle before n (Commit c) silent = rw (other n silent) refl
      idle before n Undo silent = rw (other n silent) refl
      idle before n Redo silent = rw (other n silent) refl
      idle before n (Empty marks) silent = refl

  abbrev commits : List Entry → List Numbered
  commits xs = filter_map (λ x. commit_of x.event) xs

  abbrev later : List Numbered → List Numbered
  later cs = filter (λ c. nat_lt f c.number) cs

  -- the commits are those of the later changes
  pub committed_told : (es : List Entry) → filter_map (λ e. commit_of e.event) (lasting_among f es) ≡ filter (λ c. nat_lt f c.number) (filter_map (λ e. commit_of e.event) es)
  committed_told [] = refl
  committed_told (e ∷ es) = by e.event.kind (committed_told es)
    where
      by : (kind : EventKind) → commits (lasting_among f es) ≡ later (commits es)
          → commits (cond (lasts_by f e.event.number kind) (of_kind e kind ∷ lasting_among f es) (lasting_among f es))
          ≡ later (cons_option (commit_by e.event.number kind) (commits es))
      by (Commit c) rest = elim (nat_lt f e.event.number) as (λ b. commits (cond b (of_kind e (Commit c) ∷ lasting_among f es) (lasting_among f es)) ≡ cond b (record { number = e.event.number; change = c } ∷ later (commits es)) (later (commits es))) [
        | true ↦ ap (λ cs. record { number = e.event.number; change = c } ∷ cs) rest
        | false ↦ rest
      ]
      by Undo rest = either (λ xs. commits xs ≡ later (commits es)) (nat_lt f e.event.number) (of_kind e Undo ∷ lasting_among f es) (lasting_among f es) rest rest
      by Redo rest = either (λ xs. commits xs ≡ later (commits es)) (nat_lt f e.event.number) (of_kind e Redo ∷ lasting_among f es) (lasting_among f es) rest rest
      by (Empty marks) rest = either (λ xs. commits xs ≡ later (commits es)) (e.event.number == f) (of_kind e (Empty marks) ∷ lasting_among f es) (lasting_among f es) rest rest

  abbrev marked : Option (List PackMark) → List Entry → Option (List PackMark)
  marked x xs = fold (λ before y. marks_after before y.event) x xs

  abbrev Goes : List Entry → ℕ → Option (List PackMark) → Option (List PackMark) → Type 0
  Goes es m x y = fold (λ before z. final_after before z.event) m es ≡ f → (m ≡ f → x ≡ y) → marked x (lasting_among f es) ≡ marked y es

  -- the last emptying has the marks that it had
  pub marks_told : (es : List Entry) (top : ℕ) (a b : Option (List PackMark)) → fold (λ before e. final_after before e.event) top es ≡ f → (top ≡ f → a ≡ b)
      → fold (λ before e. marks_after before e.event) a (lasting_among f es) ≡ fold (λ before e. marks_after before e.event) b es
  marks_told [] top a b final same = same final
  marks_told (e ∷ es) top a b final same = by e.event.number e.event.kind final (λ m x y. marks_told es m x y)
    where
      by : (n : ℕ) (kind : EventKind) → fold (λ before z. final_after before z.event) (final_by top n kind) es ≡ f → ((m : ℕ) (x y : Option (List PackMark)) → Goes es m x y)
          → marked a (cond (lasts_by f n kind) (record { at = e.at; event = record { number = n; kind = kind } } ∷ lasting_among f es) (lasting_among f es)) ≡ marked (marks_by b kind) es
      by n (Commit c) is rest = either (λ xs. marked a xs ≡ marked b es) (nat_lt f n) _ (lasting_among f es) (rest top a b is same) (rest top a b is same)
      by n Undo is rest = either (λ xs. marked a xs ≡ marked b es) (nat_lt f n) _ (lasting_among f es) (rest top a b is same) (rest top a b is same)
      by n Redo is rest = either (λ xs. marked a xs ≡ marked b es) (nat_lt f n) _ (lasting_among f es) (rest top a b is same) (rest top a b is same)
      by n (Empty marks) is rest = at (n == f) refl
        where
          at : (t : Bool) → (n == f) ≡ t
              → marked a (cond t (record { at = e.at; event = record { number = n; kind = Empty marks } } ∷ lasting_among f es) (lasting_among f es)) ≡ marked (Some marks) es
          at true it = rest n (Some marks) (Some marks) is (λ m. refl)
          at false other = rest n a (Some marks) is (λ m. absurd (eqb-false n f other m))

  -- the last number isn't higher
  pub length_told : (m a : ℕ) (es : List Entry) → AscendFrom m es → a ≤ m → fold (λ before e. e.at) a (lasting_among f es) ≤ fold (λ before e. e.at) m es
  length_told m a [] h low = low
  length_told m a (e ∷ es) h low = by (lasts f e.event) (λ b c. length_told e.at b es h.1 c)
    where
      by : (b : Bool) → ((c : ℕ) → c ≤ e.at → fold (λ before x. x.at) c (lasting_among f es) ≤ fold (λ before x. x.at) e.at es)
          → fold (λ before x. x.at) a (cond b (e ∷ lasting_among f es) (lasting_among f es)) ≤ fold (λ before x. x.at) e.at es
      by true rest = rest e.at (omega arith)
      by false rest = rest a (omega (arith, h.0))

  -- of changes that are counted from above f on, all are later
  count_all : (k : ℕ) (ns : List Numbered) → CountsFrom k ns → f < k → length (filter (λ c. nat_lt f c.number) ns) ≡ length ns
  count_all k [] h above = refl
  count_all k (n ∷ ns) h above =
      let first : n.number ≡ k = h.0 in
      let rest = count_all (k + 1) ns h.1 (omega arith) in
      rw (lt-ltb f n.number (omega arith)) (omega (arith, rest))

  -- and of others those past f
  pub count_told : (k : ℕ) (ns : List Numbered) → CountsFrom k ns → k ≤ f + 1 → length (filter (λ c. nat_lt f c.number) ns) ≡ k + length ns - (f + 1)
  count_told k [] h below = omega arith
  count_told k (n ∷ ns) h below =
      let first : n.number ≡ k = h.0 in
      elim (cases_lt f k) [
        | inl above ↦
            let all = count_all k (n ∷ ns) h above in
            omega (arith, all)
        | inr upto ↦
            let rest = count_told (k + 1) ns h.1 (omega arith) in
            rw (le-ltb f n.number (omega arith)) (omega (arith, rest))
      ]
