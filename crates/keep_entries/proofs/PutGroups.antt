-- The members of a commit, put group by group.
use Rattle.std.specs.Prelude.{ℕ, codes}
use Rattle.serde_json.specs.Data.{Members, boolean, number, string, unsigned, put}
use Rattle.keep_docs.specs.Lists.{ids_data}
use Rattle.keep_change.specs.declared.change.Change.{Change}
use Rattle.keep_entries.specs.Spelling.{files_data, form_number, marks_data, names_data}
use Rattle.keep_entries.specs.declared.form.Form.{Form}

-- with the four lists of files
abbrev pub with_files : Change → Members → Members
with_files c ms =
    put (codes "absent") (names_data c.absent)
    (put (codes "present") (names_data c.present)
    (put (codes "drops") (files_data c.drops)
    (put (codes "adds") (files_data c.adds) ms)))

-- with the four lists of marks
abbrev pub with_marks : Form → Change → Members → Members
with_marks form c ms =
    put (codes "unmarked") (ids_data c.unmarked)
    (put (codes "marked") (ids_data c.marked)
    (put (codes "clears") (marks_data form c.clears)
    (put (codes "sets") (marks_data form c.sets) ms)))

-- with what isn't listed
abbrev pub with_head : Form → ℕ → Change → Members → Members
with_head form n c ms =
    put (codes "strict") (boolean c.strict)
    (put (codes "number") (number (unsigned n))
    (put (codes "form") (number (unsigned (form_number form)))
    (put (codes "event") (string (codes "commit")) ms)))
