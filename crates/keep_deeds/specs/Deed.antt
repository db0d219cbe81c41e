-- What typed commands ask of the book.
use Rattle.std.specs.Prelude.{ℕ, ◌==◌, nat_lt, ◌||◌, Bool, true, false, List, [], ◌∷◌, map, Option, Some, None, option_map, Result, Ok, Err, if◌then◌else◌}
use Rattle.std.specs.Borrow.{Bor}
use Rattle.std.specs.Global.{Vec}
use Rattle.keep_acts.specs.Choosing.{ChoiceData, choice_view}
use Rattle.keep_acts.specs.Choosing as chosen
use Rattle.keep_acts.specs.declared.choice.Choice.{Choice}
use Rattle.keep_acts.specs.declared.choice.Choice.TheVariants.{All, Named}
use Rattle.keep_jobs.specs.Job as job
use Rattle.keep_jobs.specs.Job.{TaskData, task_view}
use Rattle.keep_journal.specs.declared.request.Request.{Request}
use Rattle.keep_journal.specs.declared.request.Request.TheVariants as request
use Rattle.keep_labels.specs.Edits.{EditData}
use Rattle.keep_labels.specs.Keeping.{PolicyData}
use Rattle.keep_names.specs.declared.id.Id.{Id}
use Rattle.keep_plan.specs.Needs.{NeedsData}
use Rattle.keep_words.specs.Read.{text_of}
use Rattle.keep_words.specs.declared.command.Chosen.{Chosen}
use Rattle.keep_words.specs.declared.command.Command as the_command
use Rattle.keep_words.specs.declared.command.Command.TheVariants as command
use Rattle.keep_words.specs.declared.command.Forget.{Forget}
use Rattle.keep_words.specs.declared.command.Keep.{Keep}
use Rattle.keep_words.specs.declared.command.Rewrite.{Rewrite}
use Rattle.keep_words.specs.declared.command.Tag.{Tag}
use Rattle.keep_deeds.specs.declared.deed.Deed as the_deed
use Rattle.keep_deeds.specs.declared.deed.Deed.TheVariants as deed
use Rattle.keep_deeds.specs.declared.deed.NoDeed.{NoDeed}
use Rattle.keep_deeds.specs.declared.deed.NoDeed.TheVariants.{Unnamed}

-- just this request; a change taken back with all that lean on it; a task for the snapshots that are chosen, planned
-- alone or done; the jobs that go by no words; and a prune
pub data DeedData : Type 0 where
  Ask : Request → DeedData
  Cascade : ℕ → DeedData
  Do : ChoiceData → TaskData → Bool → DeedData
  Repair : DeedData
  Mark : DeedData
  Sweep : ℕ → DeedData
  Prune : ℕ → DeedData

-- what a `Deed` says
abbrev pub deed_view : the_deed.Deed → DeedData
deed_view (deed.Ask asked) = Ask asked
deed_view (deed.Cascade number) = Cascade number
deed_view (deed.Do choice task is_dry) = Do (choice_view choice) (task_view task) is_dry
deed_view deed.Repair = Repair
deed_view deed.Mark = Mark
deed_view (deed.Sweep wait) = Sweep wait
deed_view (deed.Prune wait) = Prune wait

abbrev pub option_view : Option the_deed.Deed → Option DeedData
option_view made = option_map deed_view made

-- the texts of a list
abbrev pub texts_in : Vec (Bor (List ℕ)) → List (List ℕ)
texts_in list = map (λ text. text.now) list.items

-- a number that a count can have: 1 to 1,048,576
abbrev pub count_in : Option ℕ → Option ℕ
count_in None = None
count_in (Some n) = if (n == 0) || nat_lt 1048576 n then None else Some n

-- the policy of --keep-last and its like
abbrev pub policy_in : Keep → PolicyData
policy_in keep = record {
  last = count_in keep.last;
  daily = count_in keep.daily;
  weekly = count_in keep.weekly;
  monthly = count_in keep.monthly;
  yearly = count_in keep.yearly;
  tags = texts_in keep.tags;
}

-- the tags of --set, where there are some
abbrev pub set_in : List (List ℕ) → Option (List (List ℕ))
set_in [] = None
set_in (tag ∷ tags) = Some (tag ∷ tags)

-- the edit of --add, --remove and --set
abbrev pub edit_in : Tag → EditData
edit_in words = record {
  replace = set_in (texts_in words.set);
  add = texts_in words.add;
  remove = texts_in words.remove;
}

-- all that --host, --tag and --path give
abbrev pub needs_in : Chosen → NeedsData
needs_in words = record { host = text_of words.host; tag = text_of words.tag; path = text_of words.path }

-- forget: those that meet all that is given, but what the policy keeps
abbrev pub forgetting : Forget → DeedData
forgetting words = Do (chosen.Meeting (needs_in words.chosen)) (job.Forget (policy_in words.keep)) words.dry_run

-- the one snapshot that is named, where it is known which, or all
abbrev pub aim_in : Option Id → Option (Bor (List ℕ)) → Result Choice NoDeed
aim_in named None = Ok All
aim_in (Some name) (Some text) = Ok (Named name)
aim_in None (Some text) = Err Unnamed

-- the tagging of what is chosen
abbrev pub tagging_by : EditData → Result Choice NoDeed → Result DeedData NoDeed
tagging_by edit (Ok choice) = Ok (Do (choice_view choice) (job.Tag edit) false)
tagging_by edit (Err why) = Err why

-- tag: of the snapshot that is named, or of all
abbrev pub tagging : Option Id → Tag → Result DeedData NoDeed
tagging named words = tagging_by (edit_in words) (aim_in named words.snapshot)

-- rewrite: of all snapshots
abbrev pub rewriting : Rewrite → DeedData
rewriting words = Do chosen.All (job.Rewrite words.forget (texts_in words.exclude)) words.dry_run

-- undo: alone, or with all that lean on the change
abbrev pub undoing : ℕ → Bool → DeedData
undoing change true = Cascade change
undoing change false = Ask (request.Undo change)

abbrev pub some_of : Result DeedData NoDeed → Result (Option DeedData) NoDeed
some_of (Ok made) = Ok (Some made)
some_of (Err why) = Err why

-- what a command asks of the book, where the snapshot that it names is this one, if it changes something there
abbrev pub deed_in : Option Id → the_command.Command → Result (Option DeedData) NoDeed
deed_in named (command.Init folder) = Ok None
deed_in named (command.Backup words) = Ok None
deed_in named (command.Snapshots chosen latest) = Ok None
deed_in named (command.Ls snapshot path) = Ok None
deed_in named (command.Dump snapshot path) = Ok None
deed_in named (command.Diff old new) = Ok None
deed_in named (command.Find pattern) = Ok None
deed_in named (command.Restore words) = Ok None
deed_in named (command.Forget words) = Ok (Some (forgetting words))
deed_in named (command.Tag words) = some_of (tagging named words)
deed_in named (command.Rewrite words) = Ok (Some (rewriting words))
deed_in named (command.Check read_data) = Ok None
deed_in named command.Repair = Ok (Some Repair)
deed_in named command.Mark = Ok (Some Mark)
deed_in named (command.Sweep older_than) = Ok (Some (Sweep older_than))
deed_in named (command.Prune older_than) = Ok (Some (Prune older_than))
deed_in named (command.History last) = Ok None
deed_in named (command.Show change) = Ok None
deed_in named (command.Undo change with_all unasked) = Ok (Some (undoing change with_all))
deed_in named (command.Redo change) = Ok (Some (Ask (request.Redo change)))
deed_in named (command.Empty through unasked) = Ok (Some (Ask (request.Empty through)))
deed_in named (command.Script file) = Ok None
deed_in named (command.Graph change is_dot) = Ok None
deed_in named (command.Rescue folder target) = Ok None
