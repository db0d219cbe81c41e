-- What an event shows of a change, without its bytes.
use Rattle.std.specs.Prelude.{ℕ, []}
use Rattle.keep_change.specs.Lists.{file_names, marked_packs}
use Rattle.keep_change.specs.declared.change.Change.{Change}
use Rattle.keep_change.specs.declared.outline.Outline.{Outline}
use Rattle.keep_change.specs.declared.outline.What.{What}
use Rattle.keep_change.specs.declared.outline.What.TheVariants.{Empty}

-- the kind, the number, the names of the files and the packs of the marks that the change writes
abbrev pub outline_of : What → ℕ → Change → Outline
outline_of what number c = record {
  what = what;
  number = number;
  adds = file_names c.adds;
  drops = file_names c.drops;
  sets = marked_packs c.sets;
  clears = marked_packs c.clears;
}

-- an emptying up to this number shows no names
abbrev pub empty_outline : ℕ → Outline
empty_outline number = record {
  what = Empty;
  number = number;
  adds = [];
  drops = [];
  sets = [];
  clears = [];
}
