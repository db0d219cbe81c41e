use Rattle.std.proofs.Common.{◌≡◌, ◌∙◌, Some, None, ap, string_bytes, subst, sym}
use Rattle.keep_files.specs.Act.{Seen}
use Rattle.keep_files.specs.declared.node.Node.TheVariants.{Folder, File}
use Rattle.keep_keyed_folder.proofs.Way.{file_taken, folder_taken, none_there, then_ok}
use Rattle.keep_keyed_folder.specs.Walked.{IsOnTheWay, IsOpened, IsRead}
use Rattle.keep_keyed_folder.proofs.key_walk.read_path.Goals as goal

pub returns-in-Some-Folder-clause-way : goal.returns-in-Some-Folder-clause-way
returns-in-Some-Folder-clause-way g c =
    let seen = g.T.FileTree.seen in
    let stands = (seen c.args.tree.now).stands in
    let path = string_bytes c.args.path in
    let before = c.args.paths.now.items in
    let after = c.note_folder.new.paths.items in
    let there : stands path ≡ Some Folder = subst (λ p. stands p ≡ Some Folder) c.as_str.ensures.value (sym c.in_ok-read.ensures.found ∙ c.in-Some-Folder.is ∙ ap (λ n. Some n) c.in-Some-Folder.field-0-is) in
    then_ok _ (IsOnTheWay stands c.args.found.now after) c.note_folder.result
    (λ opened. folder_taken stands c.args.found.now before after c.args.path c.requires.closed there
    (subst (λ p. IsOpened stands p before after) c.as_str-in-Some-Folder.ensures.value (subst (λ (s : Seen). IsOpened s.stands c.as_str-in-Some-Folder.result.now before after) c.in_ok-read.ensures.ok opened)) c.requires.way)
    c.note_folder.ensures.opened

pub returns-in-Some-File-clause-way : goal.returns-in-Some-File-clause-way
returns-in-Some-File-clause-way g c =
    let seen = g.T.FileTree.seen in
    let stands = (seen c.args.tree.now).stands in
    let path = string_bytes c.args.path in
    let bytes = c.in-Some-File.bytes in
    let before = c.args.found.now in
    let after = c.note_file.new.found in
    let paths = c.args.paths.now.items in
    let there : stands path ≡ Some (File bytes) = subst (λ p. stands p ≡ Some (File bytes)) c.as_str.ensures.value (sym c.in_ok-read.ensures.found ∙ c.in-Some-File.is ∙ ap (λ n. Some n) c.in-Some-File.field-0-is) in
    then_ok _ (IsOnTheWay stands after paths) c.note_file.result
    (λ read. file_taken stands before after paths c.args.path bytes c.requires.closed there (subst (λ p. IsRead p bytes before after) c.as_str-in-Some-File.ensures.value read) c.requires.way)
    c.note_file.ensures

pub returns-clause-way : goal.returns-clause-way
returns-clause-way g c =
    let stands = (g.T.FileTree.seen c.args.tree.now).stands in
    let none : stands (string_bytes c.args.path) ≡ None = subst (λ p. stands p ≡ None) c.as_str.ensures.value (sym c.in_ok-read.ensures.found ∙ c.in-None.is) in
    none_there stands c.args.found.now c.args.paths.now.items c.args.path c.requires.closed none c.requires.way
