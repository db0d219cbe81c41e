use Rattle.std.proofs.Common.{refl, ap}
use Rattle.std.specs.BTreeMap.{is_at}
use Rattle.std.specs.List.{list_any}
use Rattle.keep_names.specs.Orders.{blob_cmp}
use Rattle.keep_build.specs.Blobs.{new_of}
use Rattle.keep_build.proofs.Keeping.{none_kept}
use Rattle.keep_build.proofs.storing.Storing.new.Goals as goal

pub returns : goal.returns
unfolding new_of
returns c = record {
  catalog = refl;
  fits = refl;
  seen = λ q. ap (list_any (is_at (blob_cmp q))) c.new.ensures.empty;
  pieces = none_kept c.new-2.result.items c.new-2.ensures.items;
  trees = none_kept c.new-3.result.items c.new-3.ensures.items;
  reuses = c.new-4.ensures c.args.catalog;
}
