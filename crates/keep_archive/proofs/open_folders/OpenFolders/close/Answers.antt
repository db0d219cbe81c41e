use Rattle.std.proofs.Common.{◌∷◌, [], ◌++◌, map, Option, option_to_list, string_bytes, ap, ◌∙◌}
use Rattle.std.proofs.lemmas.List.{map-append}
use Rattle.keep_tree.specs.Tree.{KindData}
use Rattle.keep_archive.specs.Archive.{around_view, carried_view, folder_view}
use Rattle.keep_archive.specs.declared.open_folders.Around.{Around}
use Rattle.keep_archive.proofs.open_folders.OpenFolders.close.Goals as goal

pub returns : goal.returns
returns c =
    let left = c.pop.new.self.items in
    let last = c.in-Some.last in (
      map around_view left,
      around_view last,
      ap (map around_view) (c.pop.ensures.items ∙ ap (λ (o : Option Around). left ++ option_to_list o) c.in-Some.is) ∙ map-append around_view left (last ∷ []),
      ap (λ nodes. record { around = map around_view left; nodes = nodes })
          (c.in_ok-folder.ensures
          ∙ ap (λ node. folder_view last.folder ++ node ∷ [])
          (c.node_of-node.ensures.node
          ∙ ap (λ (kind : KindData). record { name = string_bytes last.name; kind = kind; others = carried_view c.args.others }) c.kind_of_folder.ensures.kind)),
    )
