use Rattle.std.proofs.Common.{ℕ, Option, map, ap, ◌∙◌, ◌||◌, string_bytes}
use Rattle.std.specs.BTreeMap.{is_at}
use Rattle.std.specs.BTreeSet.{BTreeSet, contains}
use Rattle.std.specs.List.{list_any}
use Rattle.keep_names.specs.Orders.{id_cmp}
use Rattle.keep_snap.specs.Facts.{facts_view}
use Rattle.keep_labels.specs.Keeping.{by_tag, has_passing, policy_view}
use Rattle.keep_names.specs.declared.id.Id.{Id}
use Rattle.keep_labels.specs.declared.order.Counted.{Counted}
use Rattle.keep_labels.specs.declared.order.Counted.TheVariants.{Snapshots, Days, Weeks, Months, Years}
use Rattle.keep_labels.proofs.Counting.{passing_permuted}
use Rattle.keep_labels.proofs.Dropping.{all_dropped}
use Rattle.keep_labels.proofs.Numbered.{row_view}
use Rattle.keep_labels.proofs.policy.dropped.Goals as goal

pub returns : goal.returns
returns c =
    let all = map facts_view c.args.taken.now in
    let rows = map row_view c.in_ok-rows.rows.items.items in
    let passing = λ (counted : Counted) (most : Option ℕ) (known : BTreeSet Id) (name : Id).
    ap (λ b. contains id_cmp known name || b) (passing_permuted counted most all rows name c.in_ok-rows.ensures.same) in
    all_dropped (λ names. names.items) (policy_view c.args.policy.now) all
    (contains id_cmp c.new-kept.result) (contains id_cmp c.keep_counted.new.kept) (contains id_cmp c.keep_counted-2.new.kept)
    (contains id_cmp c.keep_counted-3.new.kept) (contains id_cmp c.keep_counted-4.new.kept) (contains id_cmp c.keep_counted-5.new.kept)
    (contains id_cmp c.keep_tagged.new.kept)
    (record {
      none = λ name. ap (list_any (is_at (id_cmp name))) c.new-kept.ensures.empty;
      by_last = λ name. c.in_ok-keep_counted.ensures name ∙ passing Snapshots (policy_view c.args.policy.now).last c.new-kept.result name;
      by_day = λ name. c.in_ok-keep_counted-2.ensures name ∙ passing Days (policy_view c.args.policy.now).daily c.keep_counted.new.kept name;
      by_week = λ name. c.in_ok-keep_counted-3.ensures name ∙ passing Weeks (policy_view c.args.policy.now).weekly c.keep_counted-2.new.kept name;
      by_month = λ name. c.in_ok-keep_counted-4.ensures name ∙ passing Months (policy_view c.args.policy.now).monthly c.keep_counted-3.new.kept name;
      by_year = λ name. c.in_ok-keep_counted-5.ensures name ∙ passing Years (policy_view c.args.policy.now).yearly c.keep_counted-4.new.kept name;
      by_tags = λ name. c.in_ok-keep_tagged.ensures name
          ∙ ap (λ tags. contains id_cmp c.keep_counted-5.new.kept name || has_passing (by_tag (map string_bytes tags)) all name) c.deref.ensures.value;
    })
    c.requires c.others.result c.others.ensures
