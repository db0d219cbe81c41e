use Rattle.std.proofs.Common.{[], ◌++◌, option_to_list, ◌≡◌, get_or, rules, IsPermutation, refl, ap, subst, ◌∙◌}
use Rattle.std.proofs.lemmas.List.{take_all}
use Rattle.std.specs.List.{filter_map}
use Rattle.std.specs.Map.{keys_of}
use Rattle.keep_catalog.specs.Files.{unread_at}
use Rattle.keep_catalog.proofs.Building.{no_name}
use Rattle.keep_catalog.proofs.Growing.{more_noted}
use Rattle.keep_catalog.proofs.UnreadKept.{all_sorted}
use Rattle.keep_catalog.proofs.tables.unread_files.Goals as goal

pub loop-name-preserved : goal.loop-name-preserved
loop-name-preserved c r kept =
    let names = c.deref-name-items.result.now in
    let i = c.loop-name.name-index in
    more_noted names i (get_or names i no_name) no_name c.loop-name-test.true refl (unread_at r) [] c.loop-name.files.items c.add_found.new.all.items (c.loop-name.invariant r kept)
    (c.in_ok-add_found.ensures ∙ ap (λ found. c.loop-name.files.items ++ option_to_list found) (c.unread_file.ensures r kept))

pub returns : goal.returns
returns c r kept =
    let es = c.args.unread.now.entries in
    let names = c.sort_unstable.new.self.items in
    let listed : c.in_ok-names.names.items ≡ keys_of es = search rules in
    c.loop-name.invariant r kept
    ∙ ap (filter_map (unread_at r)) (take_all c.loop-name.name-index c.deref-name-items.result.now (search rules) ∙ c.deref-name-items.ensures.value)
    ∙ all_sorted r es kept names c.keys.ensures.unique
    (subst (λ ks. IsPermutation ks names) listed c.sort_unstable.ensures.permutation)
    c.sort_unstable.ensures.sorted
