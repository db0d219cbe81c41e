use Rattle.keep_memory_files.proofs.Listing.{Finds, paths_of}
use Rattle.keep_memory_files.proofs.memory.MemoryTree.paths_in.Given as goal

-- of the paths so far those were found that the folder holds
abbrev pub invariant-loop-path : goal.invariant-loop-path
invariant-loop-path l = Finds l.found.items (paths_of l.yielded) l.folder
