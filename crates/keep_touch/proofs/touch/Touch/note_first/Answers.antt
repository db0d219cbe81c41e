-- A facet that has no list gets one.
use Rattle.std.proofs.Common.{◌∙◌, ◌||◌, [], ◌∷◌, ◌++◌, nat_eq, sym, ap}
use Rattle.std.specs.Map.{lookup}
use Rattle.indexmap.specs.IndexMap.{get}
use Rattle.indexmap.specs.IndexSet.{contains}
use Rattle.keep_touch.specs.Followed.{is_of_last, list_of}
use Rattle.keep_touch.specs.Mentions.{mentions}
use Rattle.keep_touch.proofs.Followed.{passed_put, passed_same, settled}
use Rattle.keep_touch.proofs.Putting.{listed, same_key, put_one}
use Rattle.keep_touch.proofs.touch.Touch.note_first.Goals as goal

pub returns-clause-ok : goal.returns-clause-ok
unfolding mentions
returns-clause-ok c =
    put_one (λ list. list.items) (λ q. get same_key c.args.self.now.lists q) (λ q. get same_key c.insert.new.self q)
    c.args.facet c.push.new.self c.in_ok-insert.ensures.updates.0 c.args.mention
    (c.in_ok-push.ensures.items ∙ ap (λ ms. ms ++ c.args.mention ∷ []) (c.in_ok-list.ensures.items ∙ sym c.requires))

pub invariant_of-self : goal.invariant_of-self
unfolding mentions
invariant_of-self c =
    let followed = contains nat_eq c.args.self.now.followed in record {
      complete = settled c.insert.result c.insert.ensures.updates c.insert.ensures.entries c.insert.ensures.err
          (λ updates entries. passed_put followed followed (list_of c.args.self.now.lists) (list_of c.insert.new.self) c.args.self.now.complete c.args.facet c.args.mention
          (λ n. ap (λ ms. is_of_last ms n || followed n) (sym c.requires))
          (put_one (λ list. list.items) (λ q. get same_key c.args.self.now.lists q) (λ q. get same_key c.insert.new.self q)
          c.args.facet c.push.new.self updates.0 c.args.mention
          (c.in_ok-push.ensures.items ∙ ap (λ ms. ms ++ c.args.mention ∷ []) (c.in_ok-list.ensures.items ∙ sym c.requires))))
          (λ same. passed_same followed followed (list_of c.args.self.now.lists) (list_of c.insert.new.self) c.args.self.now.complete (λ n told. told)
          (λ q. ap (λ entries. listed (λ list. list.items) (lookup (same_key q) entries)) same));
    }
