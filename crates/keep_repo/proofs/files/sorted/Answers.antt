use Rattle.std.proofs.Common.{◌≡◌, rules, subst, IsPermutation}
use Rattle.std.specs.Map.{keys_of}
use Rattle.keep_names.proofs.Orders.{id_exact, id_total}
use Rattle.keep_repo.proofs.ByName.{same_ids}
use Rattle.keep_repo.proofs.Hashed.{keys_sorted}
use Rattle.keep_repo.proofs.files.sorted.Goals as goal

pub returns : goal.returns
returns c =
    let entries = c.args.files.now.entries in
    let listed : c.in_ok-ids.ids.items ≡ keys_of entries = search rules in
    keys_sorted id_total same_ids id_exact entries c.sort_unstable.new.self.items c.keys.ensures.unique
    (subst (λ ids. IsPermutation ids c.sort_unstable.new.self.items) listed c.sort_unstable.ensures.permutation)
    c.sort_unstable.ensures.sorted
