-- What is said of a snapshot that isn't shown, and what to do then.
use Rattle.std.specs.Prelude.{ℕ, List, ◌++◌, codes}
use Rattle.keep_names.specs.Id.{id_text}
use Rattle.keep_named.specs.declared.named_error.NamedError.{NamedError}
use Rattle.keep_named.specs.declared.named_error.NamedError.TheVariants.{NoneLatest, NoneAdded, SeveralAdded, NoneBegins, SeveralBegin, Memory}
use Rattle.keep_read.specs.Refusals.{restore_text}
use Rattle.keep_looks.specs.declared.unlisted.Unlisted.{Unlisted}

-- which snapshot can't be listed, why, and behind a colon what to do
abbrev pub unlisted_text : Unlisted → List ℕ
unlisted_text unlisted =
    codes "snapshot " ++ (id_text unlisted.snapshot ++ (codes " can't be listed, " ++ (restore_text unlisted.why
    ++ codes ": keep check lists what is wrong")))

-- why the text names no snapshot, and behind a colon what to do
abbrev pub named_text : List ℕ → NamedError → List ℕ
named_text text NoneLatest = codes "there is no snapshot that can be read: keep backup makes one"
named_text text NoneAdded = text ++ codes " names no snapshot, since no such change added one: keep history lists the changes"
named_text text SeveralAdded = text ++ codes " names several snapshots: name one by its id, which keep snapshots lists"
named_text text NoneBegins = codes "no snapshot's id begins with " ++ (text ++ codes ": keep snapshots lists them")
named_text text SeveralBegin = codes "the ids of several snapshots begin with " ++ (text ++ codes ": give more of the digits")
named_text text Memory = codes "no memory: run it with more"
