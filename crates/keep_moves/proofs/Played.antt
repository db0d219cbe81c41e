-- Calls that follow one another, and moves that are made by them.
use Rattle.std.proofs.Common.{◌≡◌, ℕ, zero, suc, ◌+◌, ◌-◌, ◌<◌, ◌≤◌, true, cond, List, [], ◌∷◌, ◌++◌, drop, get_or, length, map, take, Option, Some, None, is_some, is_none, add-one, arith, refl, sym, ap, ◌∙◌, subst}
use Rattle.std.specs.FinMap as finite
use Rattle.std.specs.Option.{option_map_or}
use Rattle.std.proofs.Math.Seq.{drop-cons, drop-length, take-length}
use Rattle.std.proofs.lemmas.Grind.{fold-append}
use Rattle.std.proofs.lemmas.List.{get_or-drop, length-drop, map-append, take_more}
use Rattle.keep_change.proofs.Records.{and_first}
use Rattle.keep_shelf.specs.Shelved.{Content, Shelved, called}
use Rattle.keep_shelf.specs.declared.key.Key.{Key}
use Rattle.keep_shelf.proofs.Orders.{key_total}
use Rattle.keep_shelf.specs.declared.key.Key.TheVariants.{Entry}
use Rattle.keep_journal.specs.Journal.{posted}
use Rattle.keep_entries.specs.Spelling.{entry_text}
use Rattle.keep_moves.specs.Behind.{IsBehind}
use Rattle.keep_moves.specs.Calls.{Call, Make, left_by, looks, made_in, played}
use Rattle.keep_moves.specs.Course.{calls_of, entry_put, looks_of, with_entry}
use Rattle.keep_moves.specs.Laws.{EventsAreSettled, MovesAreMade, ReadsLeaveAll, StopsStayBehind}
use Rattle.keep_moves.specs.Lists.{moves_of}
use Rattle.keep_moves.specs.Move.{CanMake, Stand, key_eq, moved, remains}
use Rattle.keep_moves.specs.Standing.{HoldsFiles}
use Rattle.keep_moves.specs.declared.moves.Move.{Move}
use Rattle.keep_moves.specs.declared.moves.Move.TheVariants.{Put, Shift, Erase}
use Rattle.keep_moves.proofs.Apart.{first_remains, rest_can}

-- ---- calls

-- one more call
pub calls_more : (calls : List Call) (call : Call) (s : Shelved) → played (calls ++ call ∷ []) s ≡ called (played calls s) (left_by (played calls s).content call)
calls_more calls call s = fold-append (λ (s : Shelved) call. called s (left_by s.content call)) s calls (call ∷ [])

-- one more read
pub looks_more : (i : ℕ) (s : Shelved) → played (looks (i + 1)) s ≡ called (played (looks i) s) (played (looks i) s).content
looks_more zero s = refl
looks_more (suc i) s =
    let e : suc i + 1 ≡ suc (i + 1) = omega arith in
    ap (λ k. played (looks k) s) e ∙ looks_more i (called s s.content)

-- reads leave all as it was
pub reads_leave : ReadsLeaveAll
reads_leave zero s = refl
reads_leave (suc i) s = reads_leave i (called s s.content)

-- ---- moves on a shelf's content

shifted_as : (o : Option (List ℕ)) (content : Content) (from to q : Key) → finite.get content from ≡ o → is_some o ≡ true
    → finite.get (option_map_or (λ bytes. finite.remove (finite.insert content to bytes) from) o content) q
    ≡ cond (key_eq q from) None (cond (key_eq q to) (finite.get content from) (finite.get content q))
shifted_as None content from to q there filled = cc filled
shifted_as (Some bytes) content from to q there filled =
    finite.get-remove key_total (finite.insert content to bytes) from q
    ∙ ap (cond (key_eq q from) None) (finite.get-insert key_total content to bytes q ∙ ap (λ o. cond (key_eq q to) o (finite.get content q)) (sym there))

-- what is put stands there then
pub put_stands : (key : Key) (bytes : List ℕ) (content : Content) → finite.get (finite.insert content key bytes) ≡ moved (Put key bytes) (finite.get content)
put_stands key bytes content = λ i q. finite.get-insert key_total content key bytes q i

pub made_stands : MovesAreMade
made_stands (Put key bytes) content e = put_stands key bytes content
made_stands (Shift from to) content e =
    λ i q. shifted_as (finite.get content from) content from to q refl (and_first (is_some (finite.get content from)) (is_none (finite.get content to)) e) i
made_stands (Erase key) content e = λ i q. finite.get-remove key_total content key q i

-- ---- moves of a list that are made in turn

-- at each place the move there is the first of those that are left
at_place : (ms : List Move) (i : ℕ) (m : Move) → i < length ms → m ≡ get_or ms i m → drop i ms ≡ m ∷ drop (i + 1) ms
at_place ms i m within is = rw (drop-cons ms i m) (rw (← add-one i) (ap (λ n. n ∷ drop (i + 1) ms) (sym is)))

pub next_remains : (ms : List Move) (i : ℕ) (m : Move) (h : Stand) → i < length ms → m ≡ get_or ms i m → CanMake (drop i ms) h → remains h m ≡ true
next_remains ms i m h within is can = first_remains m (drop (i + 1) ms) h (subst (λ ns. CanMake ns h) (at_place ms i m within is) can)

pub next_can : (ms : List Move) (i : ℕ) (m : Move) (content : Content) → i < length ms → m ≡ get_or ms i m → CanMake (drop i ms) (finite.get content)
    → CanMake (drop (i + 1) ms) (finite.get (made_in m content))
next_can ms i m content within is can =
    subst (CanMake (drop (i + 1) ms)) (sym (made_stands m content (next_remains ms i m (finite.get content) within is can)))
    (rest_can m (drop (i + 1) ms) (finite.get content) (subst (λ ns. CanMake ns (finite.get content)) (at_place ms i m within is) can))

-- those from a on, one more of them
pub next_made : (ms : List Move) (a i : ℕ) (m : Move) → a ≤ i → i < length ms → m ≡ get_or ms i m
    → map Make (take (i + 1 - a) (drop a ms)) ≡ map Make (take (i - a) (drop a ms)) ++ Make m ∷ []
next_made ms a i m from within is =
    let e : i + 1 - a ≡ i - a + 1 = omega arith in
    let at : get_or (drop a ms) (i - a) m ≡ m = get_or-drop a ms (i - a) m ∙ ap (λ k. get_or ms k m) (omega arith) ∙ sym is in
    let more = take_more (drop a ms) (i - a) m (omega (arith, length-drop a ms)) in
    rw e (ap (map Make) (more ∙ ap (λ n. take (i - a) (drop a ms) ++ n ∷ []) at) ∙ map-append Make (take (i - a) (drop a ms)) (m ∷ []))

-- ---- one more of them is made

module _ (ms : List Move) (a i : ℕ) (m : Move) (before after : Shelved) (within : i < length ms) (is : m ≡ get_or ms i m) (made : after ≡ called before (made_in m before.content)) where
  pub still_can : CanMake (drop i ms) (finite.get before.content) → CanMake (drop (i + 1) ms) (finite.get after.content)
  still_can can =
      subst (λ s. CanMake (drop (i + 1) ms) (finite.get s.content)) (sym made) (next_can ms i m before.content within is can)

  pub one_more_call : (s : Shelved) → a ≤ i → before ≡ played (map Make (take (i - a) (drop a ms))) s → after ≡ played (map Make (take (i + 1 - a) (drop a ms))) s
  one_more_call s from so_far =
      made ∙ ap (λ b. called b (made_in m b.content)) so_far
      ∙ sym (ap (λ calls. played calls s) (next_made ms a i m from within is) ∙ calls_more (map Make (take (i - a) (drop a ms))) (Make m) s)

-- ---- where the making of moves stops

pub stops_behind : StopsStayBehind
stops_behind j live due zero s behind = behind
stops_behind j live [] (suc i) s behind = behind
stops_behind j live (m ∷ due) (suc i) s behind =
    let stands = made_stands m s.content (first_remains m due (finite.get s.content) behind.can) in
    stops_behind j live due i (called s (made_in m s.content))
    (subst (IsBehind j live due) (sym stands) (record { can = rest_can m due (finite.get s.content) behind.can; rest = behind.rest }))

-- ---- all calls of an event

pub events_settled : EventsAreSettled
events_settled j k e live s begun =
    let ms = moves_of j e in
    let front = played (looks (looks_of j e)) s in
    let entered = called front (made_in (entry_put k e) front.content) in
    let parts : played (calls_of j k e) s ≡ played (map Make ms) entered =
    fold-append (λ (t : Shelved) call. called t (left_by t.content call)) s (looks (looks_of j e)) (Make (entry_put k e) ∷ map Make ms) in
    let there : finite.get entered.content ≡ with_entry k e (finite.get s.content) =
    put_stands (Entry k) (entry_text e) front.content ∙ ap (λ c. with_entry k e (finite.get c)) (reads_leave (looks_of j e) s) in
    let behind = stops_behind (posted j k e) live ms (length ms) entered (subst (IsBehind (posted j k e) live ms) (sym there) begun) in
    let all : IsBehind (posted j k e) live [] (finite.get (played (map Make ms) entered).content) =
    subst (λ ps. IsBehind (posted j k e) live [] (finite.get (played (map Make ps) entered).content)) (take-length ms)
    (subst (λ ps. IsBehind (posted j k e) live ps (finite.get (played (map Make (take (length ms) ms)) entered).content)) (drop-length ms) behind) in
    subst (λ t. HoldsFiles (posted j k e) live (finite.get t.content)) (sym parts) all.rest
