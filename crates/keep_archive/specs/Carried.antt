-- What a node can say beside its name and what it is.
use Rattle.std.specs.Prelude.{ℕ, List, IsTrue, IsUtf8}
use Rattle.serde_json.specs.Data.{Members}
use Rattle.keep_tree.specs.Names.{is_name}
use Rattle.keep_tree.specs.Shape.{IsKind, IsNode}
use Rattle.keep_tree.specs.Tree.{KindData}

-- a node of any name and kind can carry these members
abbrev pub CanBeCarried : Members → Type 0
CanBeCarried others =
    (name : List ℕ) (kind : KindData) → IsTrue (is_name name) → IsUtf8 name → IsKind kind
    → IsNode (record { name = name; kind = kind; others = others })
