-- The list of the facet is written back with one mention more.
use Rattle.std.proofs.Common.{◌∙◌, ◌||◌, [], ◌∷◌, ◌++◌, nat_eq, refl, sym, ap, subst}
use Rattle.std.proofs.lemmas.Result.{on_err_weaker, on_ok_weaker}
use Rattle.indexmap.specs.IndexMap.{get}
use Rattle.indexmap.specs.IndexSet.{contains}
use Rattle.keep_touch.specs.Followed.{is_of_last, list_of, AreFollowed}
use Rattle.keep_touch.specs.Mentions.{mentions}
use Rattle.keep_touch.proofs.Followed.{passed_put, passed_same, settled}
use Rattle.keep_touch.proofs.Putting.{listed, same_key, put_one, put_same}
use Rattle.keep_touch.proofs.touch.Touch.note_one.Goals as goal

pub returns-in-Some-clause-ok : goal.returns-in-Some-clause-ok
unfolding mentions
returns-in-Some-clause-ok c = on_ok_weaker c.put_last.result
    (λ put. put_one (λ list. list.items) (λ q. get same_key c.args.self.now.lists q) (λ q. get same_key (c.get_mut.follows.lender c.put_last.new.list) q)
    c.args.facet c.put_last.new.list ((c.get_mut.follows.holds c.put_last.new.list).3 (rw (sym c.in-Some.ensures.value) refl)).0
    c.args.mention (put ∙ ap (λ o. listed (λ list. list.items) o ++ c.args.mention ∷ []) c.in-Some.ensures.value))
    c.put_last.ensures.put

pub returns-in-Some-clause-err : goal.returns-in-Some-clause-err
unfolding mentions
returns-in-Some-clause-err c = on_err_weaker c.put_last.result
    (λ same. put_same (λ list. list.items) (λ q. get same_key c.args.self.now.lists q) (λ q. get same_key (c.get_mut.follows.lender c.put_last.new.list) q)
    c.args.facet c.put_last.new.list ((c.get_mut.follows.holds c.put_last.new.list).3 (rw (sym c.in-Some.ensures.value) refl)).0
    (same ∙ ap (listed (λ list. list.items)) c.in-Some.ensures.value))
    c.put_last.ensures.same

pub returns-in-None-clause-err : goal.returns-in-None-clause-err
unfolding mentions
returns-in-None-clause-err c = on_err_weaker c.note_first.result
    (λ same q. same q ∙ ap (λ lists. list_of lists q) c.get_mut.follows.holds-at-none)
    c.note_first.ensures.err

pub invariant_of-self-in-None : goal.invariant_of-self-in-None
invariant_of-self-in-None c = record {
  complete = subst (λ lists. AreFollowed lists c.args.self.now.followed) (sym c.get_mut.follows.holds-at-none) c.args.self.now.complete;
}

pub invariant_of-self : goal.invariant_of-self
invariant_of-self c =
    let lists = list_of c.args.self.now.lists in
    let after = list_of (c.get_mut.follows.lender c.put_last.new.list) in
    let followed = contains nat_eq c.args.self.now.followed in
    let more = contains nat_eq c.put_last.new.followed in
    let written = ((c.get_mut.follows.holds c.put_last.new.list).3 (rw (sym c.in-Some.ensures.value) refl)).0 in
    record {
      complete = settled c.put_last.result c.put_last.ensures.put c.put_last.ensures.followed c.put_last.ensures.same
          (λ put with_last. passed_put followed more lists after c.args.self.now.complete c.args.facet c.args.mention
          (λ n. with_last n ∙ ap (λ o. is_of_last (listed (λ list. list.items) o) n || followed n) c.in-Some.ensures.value)
          (put_one (λ list. list.items) (λ q. get same_key c.args.self.now.lists q) (λ q. get same_key (c.get_mut.follows.lender c.put_last.new.list) q)
          c.args.facet c.put_last.new.list written c.args.mention
          (put ∙ ap (λ o. listed (λ list. list.items) o ++ c.args.mention ∷ []) c.in-Some.ensures.value)))
          (λ same. passed_same followed more lists after c.args.self.now.complete c.put_last.ensures.kept
          (put_same (λ list. list.items) (λ q. get same_key c.args.self.now.lists q) (λ q. get same_key (c.get_mut.follows.lender c.put_last.new.list) q)
          c.args.facet c.put_last.new.list written (same ∙ ap (listed (λ list. list.items)) c.in-Some.ensures.value)));
    }
