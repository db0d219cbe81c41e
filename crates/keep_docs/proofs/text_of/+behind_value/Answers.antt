use Rattle.std.proofs.Common.{◌≡◌, ◌+◌, [], ◌∷◌, ◌++◌, None, Some, true, false, ℕ, List, drop, string_bytes, sym, ap, ◌∙◌, arith, rules}
use Rattle.serde_json.specs.Data.{Data, array, object}
use Rattle.serde_json.specs.View.{view, items_view, members_view}
use Rattle.serde_json.specs.Written.{comma_if, compact_text, items_text, members_text}
use Rattle.serde_json.specs.declared.value.Value.{Value, the_lemmas}
use Rattle.serde_json.proofs.Views.{Entry}
use Rattle.keep_docs.specs.Behind.{behind, key_text}
use Rattle.keep_docs.proofs.Behind.{behind_none, behind_one, behind_one_alone, behind_two, items_here, members_here, nothing_found}
use Rattle.keep_docs.proofs.text_of.+behind_value.Goals as goal

-- ---- lists

pub behind_items-returns-in_err-rest : goal.behind_items-returns-in_err-rest
behind_items-returns-in_err-rest t c =
    let l = c.loop-item in
    let xs = c.deref-item-items.result.now in
    let x = c.item-item.result in
    let left = items_text true (items_view (drop (l.item-index + 1) xs)) in
    nothing_found c.from_residual.result c.from_residual.ensures
    ∙ behind_none (comma_if l.later) (compact_text (view x) ++ left) l.rest.now c.in_err-rest.ensures
    ∙ ap (λ (text : List ℕ). behind text l.rest.now) (items_here l.later xs l.item-index x (omega arith) c.item-item.is)
    ∙ sym l.invariant
    ∙ ap (λ (vs : List Value). behind (items_text false (items_view vs)) c.args.bytes.now) c.deref-item-items.ensures.value

pub behind_items-returns-in_err-rest-2 : goal.behind_items-returns-in_err-rest-2
behind_items-returns-in_err-rest-2 t c =
    let l = c.loop-item in
    let xs = c.deref-item-items.result.now in
    let x = c.item-item.result in
    let left = items_text true (items_view (drop (l.item-index + 1) xs)) in
    nothing_found c.from_residual-in_err-rest-2.result c.from_residual-in_err-rest-2.ensures
    ∙ behind_one_alone (comma_if l.later) (compact_text (view x)) left l.rest.now c.in_ok-rest.rest.now c.in_ok-rest.ensures c.in_err-rest-2.ensures
    ∙ ap (λ (text : List ℕ). behind text l.rest.now) (items_here l.later xs l.item-index x (omega arith) c.item-item.is)
    ∙ sym l.invariant
    ∙ ap (λ (vs : List Value). behind (items_text false (items_view vs)) c.args.bytes.now) c.deref-item-items.ensures.value

pub behind_items-loop-item-preserved : goal.behind_items-loop-item-preserved
behind_items-loop-item-preserved t c =
    let l = c.loop-item in
    let xs = c.deref-item-items.result.now in
    let x = c.item-item.result in
    let left = items_text true (items_view (drop (l.item-index + 1) xs)) in
    l.invariant
    ∙ sym (ap (λ (text : List ℕ). behind text l.rest.now) (items_here l.later xs l.item-index x (omega arith) c.item-item.is))
    ∙ sym (behind_two (comma_if l.later) (compact_text (view x)) left l.rest.now c.in_ok-rest.rest.now c.in_ok-rest-2.rest.now c.in_ok-rest.ensures c.in_ok-rest-2.ensures)

-- ---- objects

pub behind_members-returns-in_err-rest : goal.behind_members-returns-in_err-rest
behind_members-returns-in_err-rest t c =
    let l = c.loop-key in
    let e : Entry = (c.in-Some.key.now, c.in-Some.member.now) in
    let left = members_text true (members_view c.next.new.self) in
    let none : None ≡ behind (key_text l.later (string_bytes e.0)) l.rest.now = c.in_err-rest.ensures ∙ ap (λ (k : List ℕ). behind (key_text l.later k) l.rest.now) c.deref.ensures in
    nothing_found c.from_residual.result c.from_residual.ensures
    ∙ behind_none (key_text l.later (string_bytes e.0)) (compact_text (view e.1) ++ left) l.rest.now none
    ∙ ap (λ (text : List ℕ). behind text l.rest.now) (members_here l.later l.key-iterator c.next.new.self e c.in-Some.ensures.steps)
    ∙ sym l.invariant

pub behind_members-returns-in_err-rest-2 : goal.behind_members-returns-in_err-rest-2
behind_members-returns-in_err-rest-2 t c =
    let l = c.loop-key in
    let e : Entry = (c.in-Some.key.now, c.in-Some.member.now) in
    let left = members_text true (members_view c.next.new.self) in
    let rest = c.in_ok-rest.rest.now in
    let key : Some rest ≡ behind (key_text l.later (string_bytes e.0)) l.rest.now = c.in_ok-rest.ensures ∙ ap (λ (k : List ℕ). behind (key_text l.later k) l.rest.now) c.deref.ensures in
    nothing_found c.from_residual-in_err-rest-2.result c.from_residual-in_err-rest-2.ensures
    ∙ behind_one_alone (key_text l.later (string_bytes e.0)) (compact_text (view e.1)) left l.rest.now rest key c.in_err-rest-2.ensures
    ∙ ap (λ (text : List ℕ). behind text l.rest.now) (members_here l.later l.key-iterator c.next.new.self e c.in-Some.ensures.steps)
    ∙ sym l.invariant

pub behind_members-loop-key-preserved : goal.behind_members-loop-key-preserved
behind_members-loop-key-preserved t c =
    let l = c.loop-key in
    let e : Entry = (c.in-Some.key.now, c.in-Some.member.now) in
    let left = members_text true (members_view c.next.new.self) in
    let rest = c.in_ok-rest.rest.now in
    let key : Some rest ≡ behind (key_text l.later (string_bytes e.0)) l.rest.now = c.in_ok-rest.ensures ∙ ap (λ (k : List ℕ). behind (key_text l.later k) l.rest.now) c.deref.ensures in
    l.invariant
    ∙ sym (ap (λ (text : List ℕ). behind text l.rest.now) (members_here l.later l.key-iterator c.next.new.self e c.in-Some.ensures.steps))
    ∙ sym (behind_two (key_text l.later (string_bytes e.0)) (compact_text (view e.1)) left l.rest.now rest c.in_ok-rest-2.rest.now key c.in_ok-rest-2.ensures)

-- ---- values

pub behind_value-returns-in_err-behind_piece-in-Array : goal.behind_value-returns-in_err-behind_piece-in-Array
behind_value-returns-in_err-behind_piece-in-Array t c =
    let items = items_view c.in-Array.items.items in
    let seen : view c.args.value.now ≡ array items = rw c.in-Array.is (search (rules, the_lemmas)) in
    nothing_found c.from_residual.result c.from_residual.ensures
    ∙ behind_none (91 ∷ []) (items_text false items) c.args.bytes.now c.in_err-behind_piece-in-Array.ensures
    ∙ ap (λ (d : Data). behind (compact_text d) c.args.bytes.now) (sym seen)

pub behind_value-returns-in_err-behind_piece-in-Object : goal.behind_value-returns-in_err-behind_piece-in-Object
behind_value-returns-in_err-behind_piece-in-Object t c =
    let members = members_view c.in-Object.members.entries in
    let seen : view c.args.value.now ≡ object members = rw c.in-Object.is (search (rules, the_lemmas)) in
    nothing_found c.from_residual-in_err-behind_piece-in-Object.result c.from_residual-in_err-behind_piece-in-Object.ensures
    ∙ behind_none (123 ∷ []) (members_text false members) c.args.bytes.now c.in_err-behind_piece-in-Object.ensures
    ∙ ap (λ (d : Data). behind (compact_text d) c.args.bytes.now) (sym seen)

pub behind_value-returns-in_ok-behind_piece-in-Array : goal.behind_value-returns-in_ok-behind_piece-in-Array
behind_value-returns-in_ok-behind_piece-in-Array t c =
    let items = items_view c.in-Array.items.items in
    let seen : view c.args.value.now ≡ array items = rw c.in-Array.is (search (rules, the_lemmas)) in
    c.behind_items.ensures
    ∙ behind_one (91 ∷ []) (items_text false items) c.args.bytes.now c.in_ok-behind_piece-in-Array.field-0.now c.in_ok-behind_piece-in-Array.ensures
    ∙ ap (λ (d : Data). behind (compact_text d) c.args.bytes.now) (sym seen)

pub behind_value-returns-in_ok-behind_piece-in-Object : goal.behind_value-returns-in_ok-behind_piece-in-Object
behind_value-returns-in_ok-behind_piece-in-Object t c =
    let members = members_view c.in-Object.members.entries in
    let seen : view c.args.value.now ≡ object members = rw c.in-Object.is (search (rules, the_lemmas)) in
    c.behind_members.ensures
    ∙ behind_one (123 ∷ []) (members_text false members) c.args.bytes.now c.in_ok-behind_piece-in-Object.field-0.now c.in_ok-behind_piece-in-Object.ensures
    ∙ ap (λ (d : Data). behind (compact_text d) c.args.bytes.now) (sym seen)
