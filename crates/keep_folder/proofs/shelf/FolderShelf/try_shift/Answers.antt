use Rattle.std.proofs.Common.{◌≡◌, ◌∙◌, sym, ap, subst}
use Rattle.std.specs.FinMap as map
use Rattle.keep_files.specs.Content.{HoldsFiles}
use Rattle.keep_keyed_folder.specs.Keyed.{stands_in}
use Rattle.keep_shelf.proofs.Shifting.{shifted-filled}
use Rattle.keep_shelf.specs.Shelved.{Content, shifted}
use Rattle.keep_shelf.specs.declared.key.Key.{Key}
use Rattle.keep_folder.proofs.shelf.FolderShelf.try_shift.Goals as goal

pub invariant_of-self-2 : goal.invariant_of-self-2
invariant_of-self-2 g c =
    let content = c.self.inside.content in
    let from = c.args.from in
    let to = c.args.to in
    let bytes = c.in-Some.bytes in
    let moved : c.erase.new.self ≡ shifted content from to =
    c.erase.ensures ∙ ap (λ (m : Content). map.remove m from) c.in_ok-write.ensures.ok
    ∙ shifted-filled content from to bytes (sym c.in-Some.is ∙ c.in_ok-bytes.ensures) in
    let stands = stands_in g.T.FileTree.seen c.shift.new.self in (
      c.shift.ensures.closed,
      λ told.
          let held : HoldsFiles stands (shifted content c.in_ok-source.source.key c.in_ok-target.target.key) =
          c.in_default-shift.ensures.content content (c.self.invariant.1 told) in
          let here = subst (λ (k : Key). HoldsFiles stands (shifted content k c.in_ok-target.target.key)) c.in_ok-source.ensures held in
          let there = subst (λ (k : Key). HoldsFiles stands (shifted content from k)) c.in_ok-target.ensures here in
          subst (HoldsFiles stands) (sym moved) there,
    )
