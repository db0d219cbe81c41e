-- The options of the program, as clap takes them from the words behind the program's name.
use Rattle.std.specs.Prelude.{◌≡◌, ◌<◌, ℕ, ℤ, pos, Bool, true, not, ◌&&◌, IsSome, List, [], ◌∷◌, Option, Some, None, if◌then◌else◌, codes, slice_get, take, unwrap_or}
use Rattle.std.specs.List.{list_any}
use Rattle.std.specs.Str.{bytes_eq}
use Rattle.std.specs.Option.{option_map, option_map_or}
use Rattle.std.specs.Str.Parse.{digits_value, without_leading_plus}
use Rattle.clap.specs.ValueTests.{is_unsigned_in}
use Rattle.clap.specs.Words.{App, Row, Rule, fault_of, first_of, matches_of, new_app, new_rule, with_rule}
use Rattle.clap.specs.Simple.{on_top}
use Rattle.clap.specs.Walk.{is_empty}
use Rattle.keep_docs.specs.Fields.{◌>>=◌}
use Rattle.keep_snap.specs.Time.{moment_in}
use Rattle.keep_options.specs.declared.options.Options.{Options}

-- an option that takes one value: `--NAME VALUE` or `--NAME=VALUE`
abbrev pub option : List ℕ → Rule
option name = record (new_rule name) { long = Some name }

-- a command of which each word is one behind the program's name
abbrev pub program : App
program = on_top (λ top. record top { no_binary_name = true }) (new_app (codes "keepd"))

-- the program's command: its options
abbrev pub command : App
command =
    with_rule (with_rule (with_rule (with_rule (with_rule (with_rule (with_rule program (option (codes "cut"))) (option (codes "now")))
    (option (codes "host"))) (option (codes "tagged"))) (option (codes "drops"))) (option (codes "folder"))) (option (codes "crew"))

-- the number that a word writes, if it is one from `least` to `most`: decimal digits, a plus in front or not
abbrev pub number_in : ℕ → ℕ → List ℕ → Option ℕ
number_in least most word =
    if is_unsigned_in least most word then Some (digits_value 10 (without_leading_plus word)) else None

-- the number of an option, which is the usual one where the words don't give it
abbrev pub number_or : ℕ → ℕ → ℕ → Option (List ℕ) → Option ℕ
number_or least most usual word = option_map_or (number_in least most) word (Some usual)

-- the moment that an option writes, and 1970-01-01T00:00:00Z where the words don't give it
abbrev pub moment_or_first : Option (List ℕ) → Option ℤ
moment_or_first word = option_map_or moment_in word (Some (pos 0))

-- the folder that an option names, which has a name, and none where the words don't give it
abbrev pub folder_in : Option (List ℕ) → Option (Option (List ℕ))
folder_in None = Some None
folder_in (Some []) = None
folder_in (Some (byte ∷ bytes)) = Some (Some (byte ∷ bytes))

-- after how many bytes backups cut files, the moment for marks and sweeps and the text of it, the host of the filter
-- `host`, the tag of the filter `tagged`, how many snapshots the veto `few-drops` lets go, the folder whose files the
-- script is about, and how many operators back up a file each behind it
pub record OptionsData : Type 0 where
  pub cut : ℕ
  pub now : ℤ
  pub time : List ℕ
  pub host : List ℕ
  pub tagged : List ℕ
  pub drops : ℕ
  pub folder : Option (List ℕ)
  pub crew : ℕ

-- the options, without where their texts lie in memory
abbrev pub options_view : Options → OptionsData
options_view options = record {
  cut = options.cut;
  now = options.now;
  time = options.time.now;
  host = options.host.now;
  tagged = options.tagged.now;
  drops = options.drops;
  folder = option_map (λ folder. folder.now) options.folder;
  crew = options.crew;
}

-- what the command's matches say: each option's value, and its default where the words don't give it
abbrev pub options_in : List Row → Option OptionsData
options_in rows = do
  cut ← number_or 1 8388608 1048576 (first_of (codes "cut") rows)
  now ← moment_or_first (first_of (codes "now") rows)
  drops ← number_or 0 1048576 1 (first_of (codes "drops") rows)
  folder ← folder_in (first_of (codes "folder") rows)
  crew ← number_or 0 8 0 (first_of (codes "crew") rows)
  Some (record {
    cut = cut;
    now = now;
    time = unwrap_or (first_of (codes "now") rows) (codes "1970-01-01T00:00:00Z");
    host = unwrap_or (first_of (codes "host") rows) (codes "web");
    tagged = unwrap_or (first_of (codes "tagged") rows) (codes "keep");
    drops = drops;
    folder = folder;
    crew = crew;
  })

-- the words are options, and `--`, which clap takes where no word follows, isn't among them
abbrev pub are_options : List (List ℕ) → Bool
are_options words =
    not (list_any (λ word. bytes_eq word (codes "--")) words) && is_empty (fault_of command words)

-- the options that the words give, if they are options
abbrev pub options_of : List (List ℕ) → Option OptionsData
options_of words = if are_options words then options_in (matches_of command words) else None

-- the bad one of words that aren't options: it stands behind their longest beginning that is options
abbrev pub IsBadWord : List (List ℕ) → List ℕ → Type 0
IsBadWord words word =
    (count : ℕ) × (slice_get words count ≡ Some word) × IsSome (options_of (take count words))
    × ((longer : ℕ) → count < longer → options_of (take longer words) ≡ None)
