use Rattle.std.proofs.Common.{rules, ◌≡◌, ◌∙◌, ◌∷◌, [], ◌++◌, List, map, sym, subst, string_bytes}
use Rattle.std.proofs.lemmas.Map.Iter.{iter_end}
use Rattle.std.specs.BTreeMap.Range.{entries_between}
use Rattle.std.specs.Map.{keys_of}
use Rattle.std.specs.Map.Iter.{deref_pair}
use Rattle.std.specs.String.{string_cmp}
use Rattle.std.specs.declared.alloc.Global.{Global}
use Rattle.std.specs.declared.string.String.{String}
use Rattle.keep_files.specs.Path.{IsHeldIn}
use Rattle.keep_files.specs.declared.node.Node.{Node}
use Rattle.keep_memory_files.proofs.Listing.{Finds, all_found, one_passed, one_taken, paths_of, paths_of-push}
use Rattle.keep_memory_files.proofs.memory.MemoryTree.paths_in.Goals as goal

pub loop-path-preserved-in_ok-push : goal.loop-path-preserved-in_ok-push
loop-path-preserved-in_ok-push c =
    let text = c.in-Some.path in
    let folder = c.args.folder.now in
    let before = c.loop-path.yielded in
    let held : IsHeldIn (string_bytes text.now) folder = subst (λ p. IsHeldIn p folder) c.as_str.ensures.value (c.is_held_in.ensures.0 c.if-is_held_in.true) in
    let copied : string_bytes c.in_ok-clone.field-0 ≡ string_bytes text.now = c.in_ok-clone.ensures.cases in
    let found = one_taken c.loop-path.found.items (paths_of before) folder c.in_ok-clone.field-0 text.now c.loop-path.invariant copied held in
    let wider = subst (λ (texts : List (String Global)). Finds (c.loop-path.found.items ++ c.in_ok-clone.field-0 ∷ []) texts folder) (sym {A = List (String Global)} (paths_of-push before (text, c.in-Some.field-0-1))) found in
    subst (λ (texts : List (String Global)). Finds texts (paths_of (before ++ (text, c.in-Some.field-0-1) ∷ [])) folder) (sym {A = List (String Global)} c.in_ok-push.ensures.items) wider

pub loop-path-preserved : goal.loop-path-preserved
loop-path-preserved c =
    let text = c.in-Some.path in
    let folder = c.args.folder.now in
    let before = c.loop-path.yielded in
    let found = one_passed c.loop-path.found.items (paths_of before) folder text.now c.loop-path.invariant
    (λ h. cc (sym (c.is_held_in.ensures.1 (subst (λ p. IsHeldIn p folder) (sym c.as_str.ensures.value) h)) ∙ c.if-is_held_in.false)) in
    subst (λ (texts : List (String Global)). Finds c.loop-path.found.items texts folder) (sym {A = List (String Global)} (paths_of-push before (text, c.in-Some.field-0-1))) found

pub returns : goal.returns
returns c =
    let nodes = c.args.self.now.nodes in
    let bounds = c.in_ok-bounds.bounds in
    let between = entries_between string_cmp bounds.0 bounds.1 nodes.entries in
    let gives : c.range-path-items.result ≡ between = c.range-path-items.ensures.between tt in
    let whole : map deref_pair c.loop-path.yielded ≡ between = search (rules, iter_end) in
    all_found nodes c.loop-path.found.items c.args.folder.now bounds.0 bounds.1 c.in_ok-bounds.ensures
    (subst (λ (es : List (String Global × Node)). Finds c.loop-path.found.items (keys_of es) c.args.folder.now) whole c.loop-path.invariant)
