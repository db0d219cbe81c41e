use Rattle.std.proofs.Common.{◌≡◌, ◌∙◌, None, ap, not, sym}
use Rattle.std.specs.FinMap as map
use Rattle.keep_shelf.specs.Shelved.{Content, called}
use Rattle.keep_folder.proofs.Absent.{copied_none, none_taken}
use Rattle.keep_folder.specs.FolderShelfData.{FolderShelfData}
use Rattle.keep_folder.proofs.shelf.FolderShelf.try_erase.Goals as goal

pub returns-then-is_none-clause-ok : goal.returns-then-is_none-clause-ok
returns-then-is_none-clause-ok g c =
    let content = c.args.self.now.shelved.content in
    let key = c.args.key in
    let same : c.self.inside.content ≡ content = ap (λ (t : FolderShelfData). t.shelved.content) c.self.view_is in
    let none : map.get content key ≡ None =
    sym (ap (λ (m : Content). map.get m key) same) ∙ sym c.get.ensures
    ∙ copied_none c.get.result (c.is_none.ensures ∙ ap not c.if-is_none.true) in
    c.note.ensures.called ∙ ap (called c.args.self.now.shelved) (none_taken content key none)
