use Rattle.std.proofs.Common.{◌≡◌, Some, rules}
use Rattle.std.specs.HashMap.{get_by_text}
use Rattle.keep_sources.proofs.taken_files.unchanged.Goals as goal

pub returns-in-Some : goal.returns-in-Some
returns-in-Some c =
    let file = c.in-Some.known.now in
    let known : get_by_text c.args.job.now.known c.args.path.now ≡ Some file = search rules in
    let time : file.mtime ≡ c.args.sight.now.mtime = search rules in
    record { file = file; known = known; size = c.if-known-sight.true; time = time; blobs = c.as_slice.ensures.value }
