-- The list of the facet is written back without its last mention.
use Rattle.std.proofs.Common.{◌≡◌, ◌-◌, ◌∙◌, [], ◌∷◌, length, nat_eq, take, refl, sym, ap, rules, subst}
use Rattle.indexmap.specs.IndexMap.{get}
use Rattle.indexmap.specs.IndexSet.{contains}
use Rattle.keep_touch.specs.Followed.{list_of, without_last, AreFollowed}
use Rattle.keep_touch.specs.Mentions.{mentions}
use Rattle.keep_touch.proofs.Followed.{passed_taken}
use Rattle.keep_touch.proofs.Putting.{listed, same_key, take_none, take_one}
use Rattle.keep_touch.proofs.touch.Touch.forget_one.Goals as goal

pub returns-in-Some : goal.returns-in-Some
unfolding mentions
returns-in-Some c =
    let shorter : c.pop.new.self.items ≡ take (length c.in-Some.list.now.items - 1) c.in-Some.list.now.items = search rules in
    take_one (λ list. list.items) (λ q. get same_key c.args.self.now.lists q) (λ q. get same_key (c.get_mut.follows.lender c.pop.new.self) q)
    c.args.facet c.pop.new.self ((c.get_mut.follows.holds c.pop.new.self).3 (rw (sym c.in-Some.ensures.value) refl)).0
    (shorter ∙ ap (λ o. without_last 1 (listed (λ list. list.items) o)) c.in-Some.ensures.value)

pub returns-in_default : goal.returns-in_default
unfolding mentions
returns-in_default c q =
    ap (λ lists. listed (λ list. list.items) (get same_key lists q)) c.get_mut.follows.holds-at-none
    ∙ take_none (λ list. list.items) (λ f. get same_key c.args.self.now.lists f) c.args.facet (sym c.in_default.ensures.value) q

pub invariant_of-self : goal.invariant_of-self
invariant_of-self c =
    let shorter : c.pop.new.self.items ≡ take (length c.in-Some.list.now.items - 1) c.in-Some.list.now.items = search rules in
    record {
      complete = passed_taken (contains nat_eq c.args.self.now.followed) (list_of c.args.self.now.lists) (list_of (c.get_mut.follows.lender c.pop.new.self))
          (c.args.facet ∷ []) c.args.self.now.complete
          (take_one (λ list. list.items) (λ q. get same_key c.args.self.now.lists q) (λ q. get same_key (c.get_mut.follows.lender c.pop.new.self) q)
          c.args.facet c.pop.new.self ((c.get_mut.follows.holds c.pop.new.self).3 (rw (sym c.in-Some.ensures.value) refl)).0
          (shorter ∙ ap (λ o. without_last 1 (listed (λ list. list.items) o)) c.in-Some.ensures.value));
    }

pub invariant_of-self-in_default : goal.invariant_of-self-in_default
invariant_of-self-in_default c = record {
  complete = subst (λ lists. AreFollowed lists c.args.self.now.followed) (sym c.get_mut.follows.holds-at-none) c.args.self.now.complete;
}
