-- The facts of a snapshot.
use Rattle.std.proofs.Common.{◌≡◌, ℕ, List, [], Some, Ok, ok_or, unwrap_or}
use Rattle.keep_names.specs.declared.id.Id.{Id}
use Rattle.keep_docs.proofs.Answered.{found_from_ok}
use Rattle.keep_snap.specs.Facts.{facts_of}
use Rattle.keep_snap.specs.Snap.{SnapData}
use Rattle.keep_snap.specs.Time.{time_in}
use Rattle.keep_snap.specs.declared.snap.SnapError.TheVariants.{BadTime}
use Rattle.keep_snap.specs.declared.time.Time.{Time}

pub facts_told : (name : Id) (s : SnapData) (t : Time) (host user : List ℕ) (paths tags : List (List ℕ)) → ok_or (time_in s.time) BadTime ≡ Ok t
    → host ≡ unwrap_or s.hostname [] → user ≡ unwrap_or s.username [] → paths ≡ s.paths → tags ≡ s.tags
    → facts_of name s ≡ Ok (record {
      name = name;
      instant = t.instant;
      day = t.day;
      week = t.week;
      month = t.month;
      year = t.year;
      host = host;
      user = user;
      paths = paths;
      tags = tags;
      tree = s.tree;
    })
facts_told name s t host user paths tags timed is_host is_user is_paths is_tags =
    let found : time_in s.time ≡ Some t = found_from_ok (time_in s.time) BadTime t timed in
    rw (found, is_host, is_user, is_paths, is_tags)
