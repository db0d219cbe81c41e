-- What the words of each command say.
use Rattle.std.specs.Prelude.{◌≡◌, ◌||◌, ⊤, not, is_some, ℕ, Bool, false, List, Option, Some, None, codes, map, unwrap_or}
use Rattle.std.specs.Borrow.{Bor}
use Rattle.std.specs.Global.{Vec}
use Rattle.clap.specs.Walk.{is_empty}
use Rattle.clap.specs.Words.{Row, Text, first_of}
use Rattle.keep_words.specs.Read.{count_of, has_flag, number_of, place_of, text_of, texts_of}
use Rattle.keep_words.specs.Faults.{forget_fault, tag_fault, wait_in}
use Rattle.keep_words.specs.declared.command.Backup.{Backup}
use Rattle.keep_words.specs.declared.command.Chosen.{Chosen}
use Rattle.keep_words.specs.declared.command.Command.{Command}
use Rattle.keep_words.specs.declared.command.Command.TheVariants.{Init, Snapshots, Ls, Dump, Diff, Find, Check, Repair, Mark, Sweep, Prune, History, Show, Undo, Redo, Empty, Script, Graph, Rescue}
use Rattle.keep_words.specs.declared.command.Command.TheVariants as asked
use Rattle.keep_words.specs.declared.command.Forget.{Forget}
use Rattle.keep_words.specs.declared.command.Keep.{Keep}
use Rattle.keep_words.specs.declared.command.Restore.{Restore}
use Rattle.keep_words.specs.declared.command.Rewrite.{Rewrite}
use Rattle.keep_words.specs.declared.command.Tag.{Tag}

-- a list of texts
abbrev pub Texts : Type 0
Texts = Vec (Bor Text)

-- the list has these texts
abbrev pub Are : Texts → List Text → Type 0
Are list texts = map (λ text. text.now) list.items ≡ texts

-- backup PATH.. [--host H] [--time T] [--tag T].. [--exclude PATTERN].. [--dry-run]
pub record IsBackup (rows : List Row) (backup : Backup) : Type 0 where
  pub paths : Are backup.paths (texts_of (codes "PATH") rows)
  pub host : text_of backup.host ≡ first_of (codes "host") rows
  pub time : text_of backup.time ≡ first_of (codes "time") rows
  pub tags : Are backup.tags (texts_of (codes "tag") rows)
  pub exclude : Are backup.exclude (texts_of (codes "exclude") rows)
  pub dry_run : backup.dry_run ≡ has_flag (codes "dry-run") rows

-- [--host H] [--tag T] [--path P]
pub record IsChosen (rows : List Row) (chosen : Chosen) : Type 0 where
  pub host : text_of chosen.host ≡ first_of (codes "host") rows
  pub tag : text_of chosen.tag ≡ first_of (codes "tag") rows
  pub path : text_of chosen.path ≡ first_of (codes "path") rows

-- restore SNAP --target DIR [--include PATTERN]..
pub record IsRestore (rows : List Row) (restore : Restore) : Type 0 where
  pub snapshot : restore.snapshot.now ≡ place_of (codes "SNAP") rows
  pub target : restore.target.now ≡ place_of (codes "target") rows
  pub include : Are restore.include (texts_of (codes "include") rows)

-- --keep-last N --keep-daily N --keep-weekly N --keep-monthly N --keep-yearly N --keep-tag T..
pub record IsKeep (rows : List Row) (keep : Keep) : Type 0 where
  pub last : keep.last ≡ count_of (codes "keep-last") rows
  pub daily : keep.daily ≡ count_of (codes "keep-daily") rows
  pub weekly : keep.weekly ≡ count_of (codes "keep-weekly") rows
  pub monthly : keep.monthly ≡ count_of (codes "keep-monthly") rows
  pub yearly : keep.yearly ≡ count_of (codes "keep-yearly") rows
  pub tags : Are keep.tags (texts_of (codes "keep-tag") rows)

-- it keeps something
abbrev pub keeps_any : Keep → Bool
keeps_any keep =
    is_some keep.last || is_some keep.daily || is_some keep.weekly || is_some keep.monthly || is_some keep.yearly
    || not (is_empty keep.tags.items)

-- forget [--host H] [--tag T] [--path P] --keep-.. [--dry-run]
pub record IsForget (rows : List Row) (forget : Forget) : Type 0 where
  pub chosen : IsChosen rows forget.chosen
  pub keep : IsKeep rows forget.keep
  pub keeps_some : forget_fault rows ≡ None
  pub dry_run : forget.dry_run ≡ has_flag (codes "dry-run") rows

-- [SNAP] [--add T].. [--remove T].. [--set T]..
pub record AreTags (rows : List Row) (tag : Tag) : Type 0 where
  pub snapshot : text_of tag.snapshot ≡ first_of (codes "SNAP") rows
  pub add : Are tag.add (texts_of (codes "add") rows)
  pub remove : Are tag.remove (texts_of (codes "remove") rows)
  pub set : Are tag.set (texts_of (codes "set") rows)

-- tag SNAP or tag --all, with --set T.. or --add T.. and --remove T..
abbrev pub IsTag : List Row → Tag → Type 0
IsTag rows tag = AreTags rows tag × (tag_fault rows ≡ None)

-- rewrite --exclude PATTERN.. [--forget] [--dry-run]
pub record IsRewrite (rows : List Row) (rewrite : Rewrite) : Type 0 where
  pub exclude : Are rewrite.exclude (texts_of (codes "exclude") rows)
  pub forget : rewrite.forget ≡ has_flag (codes "forget") rows
  pub dry_run : rewrite.dry_run ≡ has_flag (codes "dry-run") rows

-- the number of a change, which has to be there
abbrev pub change_of : List Row → ℕ
change_of rows = unwrap_or (number_of (codes "N") rows) 0

-- the value is what the words give its command, field by field
abbrev pub IsSaid : List Row → Command → Type 0
IsSaid rows (Init folder) = folder.now ≡ place_of (codes "DIR") rows
IsSaid rows (asked.Backup backup) = IsBackup rows backup
IsSaid rows (Snapshots chosen latest) = IsChosen rows chosen × (latest ≡ count_of (codes "latest") rows)
IsSaid rows (Ls snapshot path) = (snapshot.now ≡ place_of (codes "SNAP") rows) × (text_of path ≡ first_of (codes "PATH") rows)
IsSaid rows (Dump snapshot path) = (snapshot.now ≡ place_of (codes "SNAP") rows) × (path.now ≡ place_of (codes "PATH") rows)
IsSaid rows (Diff old new) = (old.now ≡ place_of (codes "OLD") rows) × (new.now ≡ place_of (codes "NEW") rows)
IsSaid rows (Find pattern) = pattern.now ≡ place_of (codes "PATTERN") rows
IsSaid rows (asked.Restore restore) = IsRestore rows restore
IsSaid rows (asked.Forget forget) = IsForget rows forget
IsSaid rows (asked.Tag tag) = IsTag rows tag
IsSaid rows (asked.Rewrite rewrite) = IsRewrite rows rewrite
IsSaid rows (Check read_data) = read_data ≡ has_flag (codes "read-data") rows
IsSaid rows Repair = ⊤
IsSaid rows Mark = ⊤
IsSaid rows (Sweep older_than) = wait_in rows ≡ Some older_than
IsSaid rows (Prune older_than) = wait_in rows ≡ Some older_than
IsSaid rows (History last) = last ≡ count_of (codes "last") rows
IsSaid rows (Show change) = change ≡ change_of rows
IsSaid rows (Undo change with_all unasked) =
    (change ≡ change_of rows) × (with_all ≡ has_flag (codes "with-all") rows) × (unasked ≡ has_flag (codes "yes") rows)
IsSaid rows (Redo change) = change ≡ change_of rows
IsSaid rows (Empty through unasked) = (through ≡ change_of rows) × (unasked ≡ has_flag (codes "yes") rows)
IsSaid rows (Script file) = text_of file ≡ first_of (codes "FILE") rows
IsSaid rows (Graph change dot) = (change ≡ number_of (codes "N") rows) × (dot ≡ has_flag (codes "dot") rows)
IsSaid rows (Rescue folder target) = (folder.now ≡ place_of (codes "DIR") rows) × (target.now ≡ place_of (codes "target") rows)

-- the word that a command goes by
abbrev pub name_of : Command → Text
name_of (Init folder) = codes "init"
name_of (asked.Backup backup) = codes "backup"
name_of (Snapshots chosen latest) = codes "snapshots"
name_of (Ls snapshot path) = codes "ls"
name_of (Dump snapshot path) = codes "dump"
name_of (Diff old new) = codes "diff"
name_of (Find pattern) = codes "find"
name_of (asked.Restore restore) = codes "restore"
name_of (asked.Forget forget) = codes "forget"
name_of (asked.Tag tag) = codes "tag"
name_of (asked.Rewrite rewrite) = codes "rewrite"
name_of (Check read_data) = codes "check"
name_of Repair = codes "repair"
name_of Mark = codes "mark"
name_of (Sweep older_than) = codes "sweep"
name_of (Prune older_than) = codes "prune"
name_of (History last) = codes "history"
name_of (Show change) = codes "show"
name_of (Undo change with_all unasked) = codes "undo"
name_of (Redo change) = codes "redo"
name_of (Empty through unasked) = codes "empty"
name_of (Script file) = codes "script"
name_of (Graph change dot) = codes "graph"
name_of (Rescue folder target) = codes "rescue"

-- the command of one of these names is asked for so; or it is none of them
abbrev pub Asks : (Text → Bool) → Text → List Row → Option Command → Type 0
Asks is_among name rows (Some command) = (name ≡ name_of command) × IsSaid rows command
Asks is_among name rows None = is_among name ≡ false
