use Rattle.std.proofs.Common.{◌≡◌, map, vec_len}
use Rattle.std.specs.FinMap as finite
use Rattle.std.specs.List.{filter_map}
use Rattle.keep_read.specs.Contents.{content_view}
use Rattle.keep_read.specs.Restored.{file_with}
use Rattle.keep_read.proofs.Files.{files_of, put_all}
use Rattle.keep_read.proofs.restored.restored_of.Given as goal

abbrev pub invariant-loop-path : goal.invariant-loop-path
invariant-loop-path l =
    put_all (filter_map file_with (map content_view l.contents.items)) (files_of l.files)
    ≡ finite.from_entries (filter_map file_with (map content_view l.initial.contents.items))

abbrev pub decreases-loop-path : goal.decreases-loop-path
decreases-loop-path l = vec_len l.contents
