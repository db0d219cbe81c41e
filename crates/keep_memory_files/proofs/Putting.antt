-- What is put at a path and taken away there, in a tree in memory.
use Rattle.std.proofs.Common.{◌≡◌, ◌∙◌, ℕ, Bool, true, false, cond, List, [], ◌∷◌, length, Option, Some, None, IsTrue, is_some, refl, ap, arith}
use Rattle.std.specs.Prelude.{◌==◌}
use Rattle.std.proofs.lemmas.Bool.Decides.{nat_tests}
use Rattle.std.proofs.lemmas.Map.Text.{btree_map_updates_text}
use Rattle.std.proofs.lemmas.Slice.Eq.{bytes_eq-Decides}
use Rattle.std.specs.BTreeMap as tree
use Rattle.std.specs.BTreeMap.{BTreeMap}
use Rattle.std.specs.Cmp.Lexicographic.{slice_cmp}
use Rattle.std.specs.Ordering.{nat_cmp}
use Rattle.std.specs.Str.{bytes_eq}
use Rattle.std.specs.String.{string_cmp, string_bytes}
use Rattle.std.specs.declared.alloc.Global.{Global}
use Rattle.std.specs.declared.string.String.{String}
use Rattle.keep_files.proofs.Kept.{put_at-here}
use Rattle.keep_files.specs.Act.{Seen}
use Rattle.keep_files.specs.Stands.{Stands, is_folder, put_at}
use Rattle.keep_files.specs.declared.node.Node.{Node}
use Rattle.keep_files.specs.declared.node.Node.TheVariants.{Folder, File}
use Rattle.keep_memory_files.specs.Memory.{changed, standing}

-- functions that are one at each path are one
same_stands : (a b : Stands) → ((path : List ℕ) → a path ≡ b path) → a ≡ b
same_stands a b same = λ k path. same path k

-- one key of the map was put or taken away
pub put_one : (before after : BTreeMap (String Global) Node) (path : List ℕ) (node : Option Node)
    → tree.UpdatesBy string_cmp (λ k. slice_cmp nat_cmp path (string_bytes k)) before after node → standing after ≡ put_at (standing before) path node
put_one before after path node updates =
    same_stands (standing after) (put_at (standing before) path node) (btree_map_updates_text path before after node updates)

again : (b : Bool) (path q : List ℕ) (stands : Stands) (put : Option Node) → (b ≡ true → path ≡ q) → cond b (stands path) (cond b put (stands q)) ≡ stands q
again true path q stands put same = ap stands (same refl)
again false path q stands put same = refl

-- what stood at a path stands there again
pub put_again : (stands : Stands) (path : List ℕ) (node : Option Node) → put_at (put_at stands path node) path (stands path) ≡ stands
put_again stands path node = same_stands (put_at (put_at stands path node) path (stands path)) stands (λ q.
    again (bytes_eq path q) path q stands node (bytes_eq-Decides path q).0)

-- what was put at a path is taken back
pub taken_back : (old between after : Seen) (path : List ℕ) (node was : Option Node) → between ≡ changed old (put_at old.stands path node)
    → after ≡ changed between (put_at between.stands path was) → was ≡ old.stands path → after ≡ old
taken_back old between after path node was put taken stood =
    taken
    ∙ ap (λ (s : Seen). changed s (put_at s.stands path was)) put
    ∙ ap (λ (o : Option Node). changed old (put_at (put_at old.stands path node) path o)) stood
    ∙ ap (changed old) (put_again old.stands path node)

-- what was put at a path stands there
pub put_stands : (old between : Seen) (path : List ℕ) (node : Node) → between ≡ changed old (put_at old.stands path (Some node)) → IsTrue (is_some (between.stands path))
put_stands old between path node put =
    ap (λ (s : Seen). is_some (s.stands path)) put ∙ ap is_some (put_at-here old.stands path (Some node))

-- a node that is a folder
pub folder_there : (node : Option Node) → is_folder node ≡ true → node ≡ Some Folder
folder_there (Some Folder) is = refl
folder_there (Some (File bytes)) is = cc is
folder_there None is = cc is

-- what holds no byte is the root's path
pub no_bytes : (path : List ℕ) → (length path == 0) ≡ true → path ≡ []
no_bytes [] is = refl
no_bytes (b ∷ bs) is = absurd (grind (arith, nat_tests))

-- nothing stands where none is found
pub none_there : (node : Option Node) → is_some node ≡ false → None ≡ node
none_there None not = refl
none_there (Some _) not = cc not
