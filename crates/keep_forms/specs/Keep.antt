-- The command `keep`, as clap takes it from its words.
use Rattle.std.specs.Prelude.{List, [], ◌∷◌, ◌++◌, codes, false, true}
use Rattle.clap.specs.Simple.{new_shape}
use Rattle.clap.specs.Words.{App, Rule, Shape, Text}
use Rattle.keep_forms.specs.Form.{flag, index, lettered, name, names, needed, number, text, word, words}

-- [-r DIR] [--json] [--wait N], which stand before and behind each command
abbrev pub common : List Rule
common = lettered 114 (name (codes "repo")) ∷ flag (codes "json") ∷ number 0 4294967295 (codes "wait") ∷ []

-- a command and its arguments
abbrev pub command : Text → List Rule → Shape
command label rules = record (new_shape label) { rules = rules ++ common }

-- [--host HOST] [--tag TAG] [--path PATH]
abbrev pub chosen : List Rule
chosen = text (codes "host") ∷ name (codes "tag") ∷ name (codes "path") ∷ []

-- how many snapshots or events
abbrev pub counting : Text → Rule
counting = number 1 1048576

-- init DIR
abbrev pub init : Shape
init = command (codes "init") (needed (word (codes "DIR")) ∷ [])

-- backup PATH.. [--host HOST] [--time TIME] [--tag TAG].. [--exclude PATTERN].. [--dry-run]
abbrev pub backup : Shape
backup = command (codes "backup") (
    needed (words (codes "PATH")) ∷ name (codes "host") ∷ name (codes "time") ∷ names (codes "tag")
    ∷ names (codes "exclude") ∷ flag (codes "dry-run") ∷ [])

-- forget [--host HOST] [--tag TAG] [--path PATH] [--keep-last N] [--keep-daily N] [--keep-weekly N] [--keep-monthly N]
-- [--keep-yearly N] [--keep-tag TAG].. [--dry-run]
abbrev pub forget : Shape
forget = command (codes "forget") (chosen ++
    counting (codes "keep-last") ∷ counting (codes "keep-daily") ∷ counting (codes "keep-weekly") ∷ counting (codes "keep-monthly")
    ∷ counting (codes "keep-yearly") ∷ names (codes "keep-tag") ∷ flag (codes "dry-run") ∷ [])

-- tag [SNAP] [--all] [--add TAG].. [--remove TAG].. [--set TAG]..
abbrev pub tag : Shape
tag = command (codes "tag") (
    word (codes "SNAP") ∷ flag (codes "all") ∷ names (codes "add") ∷ names (codes "remove") ∷ names (codes "set") ∷ [])

-- rewrite --exclude PATTERN.. [--forget] [--dry-run]
abbrev pub rewrite : Shape
rewrite = command (codes "rewrite") (needed (names (codes "exclude")) ∷ flag (codes "forget") ∷ flag (codes "dry-run") ∷ [])

-- repair; mark
abbrev pub repair : Shape
repair = command (codes "repair") []

abbrev pub mark : Shape
mark = command (codes "mark") []

-- sweep [--older-than SPAN]; prune [--older-than SPAN]
abbrev pub sweep : Shape
sweep = command (codes "sweep") (name (codes "older-than") ∷ [])

abbrev pub prune : Shape
prune = command (codes "prune") (name (codes "older-than") ∷ [])

-- undo N [--with-all] [--yes]
abbrev pub undo : Shape
undo = command (codes "undo") (needed (index (codes "N")) ∷ flag (codes "with-all") ∷ flag (codes "yes") ∷ [])

-- redo N
abbrev pub redo : Shape
redo = command (codes "redo") (needed (index (codes "N")) ∷ [])

-- empty N [--yes]
abbrev pub empty : Shape
empty = command (codes "empty") (needed (index (codes "N")) ∷ flag (codes "yes") ∷ [])

-- script [FILE]
abbrev pub script : Shape
script = command (codes "script") (word (codes "FILE") ∷ [])

-- rescue DIR --target NEW
abbrev pub rescue : Shape
rescue = command (codes "rescue") (needed (word (codes "DIR")) ∷ needed (name (codes "target")) ∷ [])

-- snapshots [--host HOST] [--tag TAG] [--path PATH] [--latest N]
abbrev pub snapshots : Shape
snapshots = command (codes "snapshots") (chosen ++ counting (codes "latest") ∷ [])

-- ls SNAP [PATH]
abbrev pub ls : Shape
ls = command (codes "ls") (needed (word (codes "SNAP")) ∷ word (codes "PATH") ∷ [])

-- dump SNAP PATH
abbrev pub dump : Shape
dump = command (codes "dump") (needed (word (codes "SNAP")) ∷ needed (word (codes "PATH")) ∷ [])

-- diff OLD NEW
abbrev pub diff : Shape
diff = command (codes "diff") (needed (word (codes "OLD")) ∷ needed (word (codes "NEW")) ∷ [])

-- find PATTERN
abbrev pub find : Shape
find = command (codes "find") (needed (word (codes "PATTERN")) ∷ [])

-- restore SNAP --target DIR [--include PATTERN]..
abbrev pub restore : Shape
restore = command (codes "restore") (needed (word (codes "SNAP")) ∷ needed (name (codes "target")) ∷ names (codes "include") ∷ [])

-- check [--read-data]
abbrev pub check : Shape
check = command (codes "check") (flag (codes "read-data") ∷ [])

-- history [--last N]
abbrev pub history : Shape
history = command (codes "history") (counting (codes "last") ∷ [])

-- show N
abbrev pub show : Shape
show = command (codes "show") (needed (index (codes "N")) ∷ [])

-- graph [N] [--dot]
abbrev pub graph : Shape
graph = command (codes "graph") (index (codes "N") ∷ flag (codes "dot") ∷ [])

-- the commands that make or change something
abbrev pub changing : List Shape
changing =
    init ∷ backup ∷ forget ∷ tag ∷ rewrite ∷ repair ∷ mark ∷ sweep ∷ prune ∷ undo ∷ redo ∷ empty ∷ script
    ∷ rescue ∷ []

-- the commands that only read
abbrev pub reading : List Shape
reading = snapshots ∷ ls ∷ dump ∷ diff ∷ find ∷ restore ∷ check ∷ history ∷ show ∷ graph ∷ []

-- the command without arguments and without what may be named behind it, of which one has to be
abbrev pub bare : App
bare = record {
  top = record (new_shape (codes "keep")) { has_version = true; arg_required_else_help = true; subcommand_required = true };
  subs = [];
}

-- the whole command
abbrev pub keep : App
keep = record {
  top = record bare.top { rules = common; is_leaf = false };
  subs = changing ++ reading;
}
