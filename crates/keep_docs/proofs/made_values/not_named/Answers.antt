use Rattle.std.proofs.Common.{◌≡◌, ◌∷◌, [], ◌++◌, map, true, false, string_bytes, string_cmp, sym, ap, ap₂, ◌∙◌, subst, append_assoc}
use Rattle.std.specs.List.{list_any}
use Rattle.std.specs.List.Sorted.{IsStrictlySortedBy}
use Rattle.std.specs.Map.{keys_of}
use Rattle.std.specs.Str.{bytes_eq}
use Rattle.serde_json.specs.Data.{put}
use Rattle.serde_json.specs.View.{view, members_view}
use Rattle.serde_json.proofs.Views.{Entry, members_view-insert_entry}
use Rattle.keep_docs.specs.Fields.{others}
use Rattle.keep_docs.proofs.Members.{members_view-append, none_more, one_more, precede_rest}
use Rattle.keep_docs.proofs.made_values.not_named.Goals as goal

pub loop-key-preserved-then-is_named : goal.loop-key-preserved-then-is_named
loop-key-preserved-then-is_named c =
    let l = c.loop-key in
    let done = l.invariant.0 in
    let e : Entry = (c.in-Some.key.now, c.in-Some.member.now) in
    let left = c.next.new.self in
    let all : c.args.members.now.entries ≡ done ++ e ∷ left = l.invariant.1 ∙ ap (λ es. done ++ es) c.in-Some.ensures.steps in
    let named = map (λ name. name.now) c.args.named.now in
    let is : list_any (λ name. bytes_eq name (string_bytes e.0)) named ≡ true =
    ap (λ k. list_any (λ name. bytes_eq name k) named) (sym c.deref.ensures) ∙ sym c.is_named.ensures ∙ c.if-is_named.true in (
      done ++ e ∷ [],
      all ∙ sym (append_assoc done (e ∷ []) left),
      l.invariant.2 ∙ none_more named (members_view done) (string_bytes e.0) (view e.1) is ∙ ap (others named) (sym (members_view-append done (e ∷ []))),
    )

pub loop-key-preserved : goal.loop-key-preserved
loop-key-preserved c =
    let l = c.loop-key in
    let done = l.invariant.0 in
    let e : Entry = (c.in-Some.key.now, c.in-Some.member.now) in
    let left = c.next.new.self in
    let all : c.args.members.now.entries ≡ done ++ e ∷ left = l.invariant.1 ∙ ap (λ es. done ++ es) c.in-Some.ensures.steps in
    let named = map (λ name. name.now) c.args.named.now in
    let k = string_bytes e.0 in
    let other : list_any (λ name. bytes_eq name k) named ≡ false =
    ap (λ q. list_any (λ name. bytes_eq name q) named) (sym c.deref.ensures) ∙ sym c.is_named.ensures ∙ c.if-is_named.false in
    let order = precede_rest done (e ∷ left) (subst (λ es. IsStrictlySortedBy string_cmp (keys_of es)) all c.iter-key-items.ensures.ordered) in (
      done ++ e ∷ [],
      all ∙ sym (append_assoc done (e ∷ []) left),
      ap members_view c.in_ok-insert.ensures.entries
          ∙ members_view-insert_entry l.found.entries c.in_ok-name.name c.in_ok-clone.field-0
          ∙ ap₂ (λ q d. put q d (members_view l.found.entries)) c.in_ok-name.ensures.cases c.in_ok-clone.ensures.cases
          ∙ ap (put k (view e.1)) l.invariant.2
          ∙ one_more named (members_view done) k (view e.1) (members_view left) order other
          ∙ ap (others named) (sym (members_view-append done (e ∷ []))),
    )
