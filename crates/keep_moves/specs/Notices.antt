-- What a notice says of the event that it tells: words of this crate's private functions.
use Rattle.std.specs.Prelude.{ℕ, ◌==◌, nat_lt, Bool, ◌&&◌, not, List, filter, map}
use Rattle.keep_change.specs.declared.outline.What.{What}
use Rattle.keep_change.specs.declared.outline.What.TheVariants.{Empty}
use Rattle.keep_journal.specs.declared.event.Notice.{Notice}
use Rattle.keep_shelf.specs.declared.key.Key.{Key}
use Rattle.keep_shelf.specs.declared.key.Key.TheVariants.{Entry}

-- whether an event that did this to change n still tells something, where changes up to f are final
abbrev pub kind_lasts : ℕ → ℕ → What → Bool
kind_lasts f n Empty = n == f
kind_lasts f n _ = nat_lt f n

abbrev pub notice_lasts : ℕ → Notice → Bool
notice_lasts f notice = kind_lasts f notice.change notice.what

-- the keys of the entries that tell something where changes up to f are final, and nothing where those up to n are
abbrev pub silenced_keys : ℕ → ℕ → List Notice → List Key
silenced_keys f n notices = map (λ notice. Entry notice.at) (filter (λ notice. notice_lasts f notice && not (notice_lasts n notice)) notices)
