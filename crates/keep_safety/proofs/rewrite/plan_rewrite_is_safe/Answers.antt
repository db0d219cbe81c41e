use Rattle.keep_safety.proofs.RewriteSafe.{rewrite_safe}
use Rattle.keep_safety.proofs.rewrite.plan_rewrite_is_safe.Goals as goal

pub returns : goal.returns
returns c = rewrite_safe (record {
  apart = c.orders_tell_apart.ensures.names;
  storing = c.what_is_stored_is_given.ensures;
  on_trees = record {
    least = c.the_chosen_place_is_least.ensures;
    kept = c.kept_trees_retree_themselves.ensures;
    built = c.built_trees_retree.ensures;
  };
  rewriting = c.rewriting_is_safe.ensures;
})
