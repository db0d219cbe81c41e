use Rattle.keep_files.specs.Act.{Made, Wrote}
use Rattle.keep_memory_files.specs.Memory.{seen_in}
use Rattle.keep_host_cases.proofs.Closed.{closed_done}
use Rattle.keep_host_cases.proofs.trees.tree_case.add.Goals as goal

pub returns-in_ok-make_folder-in-Folder : goal.returns-in_ok-make_folder-in-Folder
returns-in_ok-make_folder-in-Folder c =
    closed_done (seen_in c.args.tree.now) (seen_in c.make_folder.new.self) (Made c.as_str.result.now)
    c.in_ok-make_folder-in-Folder.ensures.can c.in_ok-make_folder-in-Folder.ensures.ok c.requires

pub returns-in_ok-write_new-in-File : goal.returns-in_ok-write_new-in-File
returns-in_ok-write_new-in-File c =
    closed_done (seen_in c.args.tree.now) (seen_in c.write_new.new.self) (Wrote c.as_str-in-File.result.now c.in-File.bytes)
    c.in_ok-write_new-in-File.ensures.can c.in_ok-write_new-in-File.ensures.ok c.requires
