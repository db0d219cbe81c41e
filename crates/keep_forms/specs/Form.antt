-- What clap makes of an argument and of a command, as they are written here.
use Rattle.std.specs.Prelude.{◌≡◌, ◌++◌, false, true, ℕ, List, Some, map}
use Rattle.std.specs.List.{fold}
use Rattle.clap.specs.Lexer.{usize_max}
use Rattle.clap.specs.Simple.{new_shape}
use Rattle.clap.specs.Words.{App, Rule, Shape, Text, app_of, new_app, new_rule, with_rule, with_subcommand}
use Rattle.clap.specs.declared.builder.action.ArgAction.TheVariants.{Append, SetTrue}
use Rattle.clap.specs.declared.builder.command.Command.{Command as ClapCommand}
use Rattle.clap.specs.declared.builder.command.Command.TheViews.{out-Command as fields_of}
use Rattle.clap.specs.declared.builder.value_parser.ValueParser.TheVariants.{NonEmptyString, Unsigned}
use Rattle.keep_forms.specs.declared.form.Argument.{Argument}
use Rattle.keep_forms.specs.declared.form.Form.{Form}
use Rattle.keep_forms.specs.declared.form.Kind.{Kind}
use Rattle.keep_forms.specs.declared.form.Kind.TheVariants as written

-- `--NAME`
abbrev pub flag : Text → Rule
flag name = record (new_rule name) { long = Some name; action = Some SetTrue }

-- `--NAME TEXT`, of any text
abbrev pub text : Text → Rule
text name = record (new_rule name) { long = Some name; value_names = 1 }

-- `--NAME TEXT`, of a text that isn't empty
abbrev pub name : Text → Rule
name label = record (text label) { parser = Some NonEmptyString }

-- `--NAME TEXT`, of a text that isn't empty, several times for several
abbrev pub names : Text → Rule
names label = record (name label) { action = Some Append }

-- `--NAME NUMBER`, from the least to the most
abbrev pub number : ℕ → ℕ → Text → Rule
number least most label = record (text label) { parser = Some (Unsigned least most) }

-- a word that may stand at its place
abbrev pub word : Text → Rule
word label = record (new_rule label) { parser = Some NonEmptyString }

-- all words from a place on
abbrev pub words : Text → Rule
words label = record (word label) {
  action = Some Append;
  range = Some (record { start_inclusive = 1; end_inclusive = usize_max });
}

-- a number of 64 bits that may stand at its place
abbrev pub index : Text → Rule
index label = record (new_rule label) { parser = Some (Unsigned 0 18446744073709551615) }

-- the argument has to be there
abbrev pub needed : Rule → Rule
needed rule = record rule { required = true }

-- and may be written with this letter
abbrev pub lettered : ℕ → Rule → Rule
lettered letter rule = record rule { short = Some letter }

-- an argument of this kind
abbrev pub rule_by : Text → Kind → Rule
rule_by label written.Flag = flag label
rule_by label (written.Text value) = text label
rule_by label (written.Name value) = name label
rule_by label (written.NeededName value) = needed (name label)
rule_by label (written.Lettered letter value) = lettered letter (name label)
rule_by label (written.Names value) = names label
rule_by label (written.NeededNames value) = needed (names label)
rule_by label (written.Number least most) = number least most label
rule_by label written.Word = needed (word label)
rule_by label written.WordOrNone = word label
rule_by label written.Words = needed (words label)
rule_by label written.Index = needed (index label)
rule_by label written.IndexOrNone = index label

abbrev pub rule_in : Argument → Rule
rule_in argument = rule_by argument.name.now argument.kind

-- a command with one more argument, or with several
abbrev pub with_argument : App → Argument → App
with_argument app argument = with_rule app (rule_in argument)

abbrev pub with_arguments : App → List Argument → App
with_arguments app arguments = fold with_argument app arguments

-- a command as it is written, with what is common
abbrev pub form_app : List Argument → Form → App
form_app common form = with_arguments (with_arguments (new_app form.name.now) form.arguments.now) common

abbrev pub with_form : List Argument → App → Form → App
with_form common app form = with_subcommand app (form_app common form).top

abbrev pub with_forms : List Argument → App → List Form → App
with_forms common app forms = fold (with_form common) app forms

-- what clap makes of a command as it is written, where these arguments are common
abbrev pub shape_by : List Rule → Form → Shape
shape_by common form = record (new_shape form.name.now) { rules = map rule_in form.arguments.now ++ common }

-- the new command is made so of the old one
abbrev pub Becomes : App → ClapCommand → ClapCommand → Type 0
Becomes app old new = (app_of new ≡ app) × ((fields_of new).has_globals ≡ (fields_of old).has_globals)

abbrev pub AddsArguments : List Argument → ClapCommand → ClapCommand → Type 0
AddsArguments arguments old new = Becomes (with_arguments (app_of old) arguments) old new

abbrev pub AddsForms : List Argument → List Form → ClapCommand → ClapCommand → Type 0
AddsForms common forms old new = Becomes (with_forms common (app_of old) forms) old new

-- the command is made so, and has no global argument
abbrev pub IsMade : App → ClapCommand → Type 0
IsMade app command = (app_of command ≡ app) × ((fields_of command).has_globals ≡ false)
