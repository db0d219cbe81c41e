use Rattle.std.proofs.Common.{◌≡◌, ◌++◌, drop}
use Rattle.std.specs.List.{filter_map}
use Rattle.keep_names.specs.FileName.{named}
use Rattle.keep_plan.specs.FilesThere.{file_there}
use Rattle.keep_plan.proofs.files_there.put_files.Given as goal

abbrev pub invariant-loop-id : goal.invariant-loop-id
invariant-loop-id l =
    l.files.items ++ filter_map (λ id. file_there l.repo (named l.kind id)) (drop l.id-index l.ids)
    ≡ l.initial.files.items ++ filter_map (λ id. file_there l.repo (named l.kind id)) l.ids
