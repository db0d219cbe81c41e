-- What stands in a tree lies in folders, whatever was done.
use Rattle.std.proofs.Common.{◌≡◌, ◌∙◌, Result, Ok, Err, OnOk, OnErr, ap, sym, subst}
use Rattle.keep_files.proofs.Kept.{acts_keep_folders}
use Rattle.keep_files.specs.Act.{Act, CanDo, Seen, done}
use Rattle.keep_files.specs.Stands.{IsClosed}
use Rattle.keep_files.specs.declared.tree_error.TreeError.{TreeError}
use Rattle.keep_memory_files.specs.Failing.{inner_of, outside}
use Rattle.keep_memory_files.specs.Memory.{seen_in}
use Rattle.keep_memory_files.specs.declared.failing.FailingTree.{FailingTree}
use Rattle.keep_memory_files.specs.declared.memory.MemoryTree.{MemoryTree}

-- an act that is done
pub closed_done : (a b : Seen) (act : Act) → CanDo a.stands act → b ≡ done a act → IsClosed a.stands → IsClosed b.stands
closed_done a b act can is closed = subst (λ (s : Seen). IsClosed s.stands) (sym is) (acts_keep_folders a.stands act can closed)

-- a walk, whatever it answers
pub closed_read : {X : Type 0} (a b : Seen) (r : Result X TreeError) → OnOk r (b ≡ a) → OnErr r (b.stands ≡ a.stands) → IsClosed a.stands → IsClosed b.stands
closed_read a b (Ok found) same err closed = subst (λ (s : Seen). IsClosed s.stands) (sym same) closed
closed_read a b (Err e) same err closed = subst IsClosed (sym err) closed

-- a tree that was read, behind one that fails
pub stands_kept : (t0 t1 : MemoryTree) (over new : FailingTree MemoryTree) (seen : Seen) → seen_in t1 ≡ seen_in t0 → inner_of over ≡ t1 → new ≡ over → seen ≡ outside seen_in new → seen.stands ≡ (seen_in t0).stands
stands_kept t0 t1 over new seen a b c d =
    ap (λ (s : Seen). s.stands) d ∙ ap (λ (t : FailingTree MemoryTree). (seen_in (inner_of t)).stands) c
    ∙ ap (λ (m : MemoryTree). (seen_in m).stands) b ∙ ap (λ (s : Seen). s.stands) a
