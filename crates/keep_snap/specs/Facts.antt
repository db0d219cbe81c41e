-- What filters ask of a snapshot.
use Rattle.std.specs.Prelude.{ℕ, List, [], map, Result, option_map, ok_or, unwrap_or, string_bytes, ℤ}
use Rattle.keep_names.specs.declared.id.Id.{Id}
use Rattle.keep_snap.specs.Snap.{SnapData}
use Rattle.keep_snap.specs.Time.{time_in}
use Rattle.keep_snap.specs.declared.fact.SnapFacts.{SnapFacts}
use Rattle.keep_snap.specs.declared.snap.SnapError.{SnapError}
use Rattle.keep_snap.specs.declared.snap.SnapError.TheVariants.{BadTime}
use Rattle.keep_snap.specs.declared.time.Month.{Month}
use Rattle.keep_snap.specs.declared.time.Time.{Time}

-- the facts of a snapshot: its name, its instant, the calendar's of its written date, and what it says
pub record FactsData : Type 0 where
  pub name : Id
  pub instant : ℤ
  pub day : ℤ
  pub week : ℤ
  pub month : Month
  pub year : ℤ
  pub host : List ℕ
  pub user : List ℕ
  pub paths : List (List ℕ)
  pub tags : List (List ℕ)
  pub tree : Id

-- what a `SnapFacts` says
abbrev pub facts_view : SnapFacts → FactsData
facts_view facts = record {
  name = facts.name;
  instant = facts.instant;
  day = facts.day;
  week = facts.week;
  month = facts.month;
  year = facts.year;
  host = string_bytes facts.host;
  user = string_bytes facts.user;
  paths = map string_bytes facts.paths.items;
  tags = map string_bytes facts.tags.items;
  tree = facts.tree;
}

-- the facts of a snapshot at a time; a missing host or user is the empty text
abbrev pub facts_at : Id → SnapData → Time → FactsData
facts_at name s time = record {
  name = name;
  instant = time.instant;
  day = time.day;
  week = time.week;
  month = time.month;
  year = time.year;
  host = unwrap_or s.hostname [];
  user = unwrap_or s.username [];
  paths = s.paths;
  tags = s.tags;
  tree = s.tree;
}

-- the facts of a snapshot, if its time is one
abbrev pub facts_of : Id → SnapData → Result FactsData SnapError
facts_of name s = ok_or (option_map (facts_at name s) (time_in s.time)) BadTime
