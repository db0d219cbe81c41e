-- The members of a commit before others, group by group, in the order in which they are written, and the text of what
-- a list holds.
use Rattle.std.specs.Prelude.{ℕ, List, codes, false}
use Rattle.serde_json.specs.Data.{Data, Members, boolean, member, number, string, unsigned}
use Rattle.serde_json.specs.View.{items_of}
use Rattle.serde_json.specs.Written.{items_text}
use Rattle.keep_docs.specs.Lists.{ids_data}
use Rattle.keep_change.specs.declared.change.Change.{Change}
use Rattle.keep_entries.specs.Spelling.{files_data, form_number, marks_data, names_data}
use Rattle.keep_entries.specs.declared.form.Form.{Form}

-- what a list holds, with its closing bracket
abbrev pub list_text : List Data → List ℕ
list_text ds = items_text false (items_of ds)

-- those from `absent` to `drops`
abbrev pub first_members : Form → Change → Members → Members
first_members form c ms =
    member (codes "absent") (names_data c.absent)
    (member (codes "adds") (files_data c.adds)
    (member (codes "clears") (marks_data form c.clears)
    (member (codes "drops") (files_data c.drops) ms)))

-- those from `event` to `number`
abbrev pub middle_members : Form → ℕ → Change → Members → Members
middle_members form n c ms =
    member (codes "event") (string (codes "commit"))
    (member (codes "form") (number (unsigned (form_number form)))
    (member (codes "marked") (ids_data c.marked)
    (member (codes "number") (number (unsigned n)) ms)))

-- those from `present` to `unmarked`
abbrev pub last_members : Form → Change → Members → Members
last_members form c ms =
    member (codes "present") (names_data c.present)
    (member (codes "sets") (marks_data form c.sets)
    (member (codes "strict") (boolean c.strict)
    (member (codes "unmarked") (ids_data c.unmarked) ms)))
