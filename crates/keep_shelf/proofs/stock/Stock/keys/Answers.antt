use Rattle.std.proofs.Common.{◌≡◌, ◌++◌, map, Ok, rules, tests, ap, subst, ◌∙◌, IsPermutation}
use Rattle.std.proofs.lemmas.Iterator.{YieldsList-from_map}
use Rattle.std.proofs.lemmas.Iterator.Adapters.{items_from_extend}
use Rattle.std.proofs.lemmas.Iterator.Consumers.{YieldsList-at, YieldsList-from_rest}
use Rattle.std.specs.FinMap as finite
use Rattle.std.specs.Map.{keys_of}
use Rattle.std.specs.declared.alloc.AllocError.{AllocError}
use Rattle.keep_shelf.proofs.Stocked.{keys_stocked}
use Rattle.keep_shelf.specs.Shelved.{Content}
use Rattle.keep_shelf.specs.declared.key.Key.TheVariants.{Entry}
use Rattle.keep_shelf.proofs.stock.Stock.keys.Goals as goal

pub returns : goal.returns
returns c =
    let files = c.self.inside.files.entries in
    let entries = c.self.inside.entries.entries in
    let listed : c.in_ok-keys.keys.items ≡ keys_of files = search rules in
    let extended : c.extend.new.self.items ≡ c.sort_unstable.new.self.items ++ map Entry (keys_of entries) =
    (items_from_extend {E = AllocError} (Ok c.in_ok-extend.field-0) c.in_ok-extend.ensures.ran
    (YieldsList-from_map _ Entry (YieldsList-at c.map.ensures.source (YieldsList-from_rest (keys_of entries) c.keys-2.ensures.rest)) c.map.ensures.closure (λ x r q k. search (rules, tests)))).0 in
    extended
    ∙ keys_stocked files entries c.sort_unstable.new.self.items c.self.invariant c.keys.ensures.unique
    (subst (λ ks. IsPermutation ks c.sort_unstable.new.self.items) listed c.sort_unstable.ensures.permutation)
    c.sort_unstable.ensures.sorted c.keys-2.ensures.ordered
    ∙ ap (λ (content : Content). finite.keys content) c.self.view_is
