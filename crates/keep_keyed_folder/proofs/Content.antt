-- What lies under keys after an act.
use Rattle.std.proofs.Common.{◌⊎◌, ◌≡◌, ◌≢◌, ℕ, true, false, cond, IsTrue, inl, inr, List, Option, Some, None, Result, Ok, Err, refl, sym, ap, ◌∙◌, subst}
use Rattle.std.proofs.lemmas.Bool.{cases_Bool, false≢true}
use Rattle.std.specs.FinMap as map
use Rattle.std.specs.FinMap.{get-insert, get-remove}
use Rattle.std.specs.Ordering.{eq_by_cmp}
use Rattle.keep_names.proofs.TellsApart.{apart_from}
use Rattle.keep_paths.proofs.Apart.{key_path-exact}
use Rattle.keep_paths.specs.KeyPath.{IsKey, key_path}
use Rattle.keep_shelf.proofs.Orders.{key_exact, key_total}
use Rattle.keep_shelf.specs.Key.{key_cmp}
use Rattle.keep_shelf.specs.Shelved.{Content, shifted}
use Rattle.keep_shelf.specs.declared.key.Key.{Key}
use Rattle.keep_files.proofs.Kept.{put_at-here, put_at-other}
use Rattle.keep_files.specs.Content.{HoldsFiles, file_in}
use Rattle.keep_files.specs.Stands.{Stands, is_file}
use Rattle.keep_files.specs.declared.tree_error.TreeError.{TreeError}
use Rattle.keep_files.specs.declared.tree_error.TreeError.TheVariants.{Broken, Unknown}
use Rattle.keep_files.specs.declared.node.Node.{Node}
use Rattle.keep_files.specs.declared.node.Node.TheVariants.{Folder, File}
use Rattle.keep_files.specs.Act.{Seen}
use Rattle.keep_keyed_folder.proofs.Course.{InPut, InRemoval, InShift}
use Rattle.keep_keyed_folder.proofs.Stopping.{keeps_weaker}
use Rattle.keep_keyed_folder.specs.Stops.{Keeps}
use Rattle.keep_keyed_folder.proofs.Apart.{not_tmp}
use Rattle.keep_keyed_folder.specs.Left.{EndsAs, IsLeft, IsPut, IsSameOrMade, IsShifted, IsTaken, IsWidened}
use Rattle.keep_keyed_folder.specs.Tmp.{IsTmp}

-- a folder that was made holds no bytes
same_file : (a b : Stands) (path q : List ℕ) → IsSameOrMade a b path q → file_in (b q) ≡ file_in (a q)
same_file a b path q (inl same) = ap file_in same
same_file a b path q (inr made) = ap file_in made.2 ∙ sym (ap file_in made.1)

pub held_left : (a b : Stands) (path tmp : List ℕ) (content : Content) → IsTmp tmp → IsLeft a b path tmp → HoldsFiles a content → HoldsFiles b content
held_left a b path tmp content tmp_is left held key is = held key is ∙ sym (same_file a b path (key_path key) (left (key_path key) (not_tmp key tmp tmp_is)))

pub held_widened : (a b : Stands) (path : List ℕ) (content : Content) → IsWidened a b path → HoldsFiles a content → HoldsFiles b content
held_widened a b path content widened held key is = held key is ∙ sym (same_file a b path (key_path key) (widened (key_path key)))

-- keys that aren't one have paths that aren't
other_path : (key other : Key) → IsKey key → IsKey other → eq_by_cmp key_cmp other key ≡ false → key_path other ≢ key_path key
other_path key other is other_is differs e = false≢true (sym differs ∙ (apart_from key_total key_exact other key).1 (key_path-exact other key other_is is e))

one_key : (key other : Key) → eq_by_cmp key_cmp other key ≡ true → other ≡ key
one_key key other same = (apart_from key_total key_exact other key).0 same

pub held_put : (a b : Stands) (key : Key) (bytes tmp : List ℕ) (content : Content) → IsTmp tmp → IsKey key → IsPut a b (key_path key) bytes tmp → HoldsFiles a content → HoldsFiles b (map.insert content key bytes)
held_put a b key bytes tmp content tmp_is key_is put held q is = get-insert key_total content key bytes q ∙ elim (cases_Bool (eq_by_cmp key_cmp q key)) [
  | inl same ↦ ap (λ t. cond t (Some bytes) (map.get content q)) same ∙ sym (ap (λ k. file_in (b (key_path k))) (one_key key q same) ∙ ap file_in put.file)
  | inr other ↦
      ap (λ t. cond t (Some bytes) (map.get content q)) other
      ∙ held q is
      ∙ sym (same_file a b (key_path key) (key_path q) (put.others (key_path q) (other_path key q key_is is other) (not_tmp q tmp tmp_is)))
]

pub held_taken : (a b : Stands) (key : Key) (content : Content) → IsKey key → IsTaken a b (key_path key) → HoldsFiles a content → HoldsFiles b (map.remove content key)
held_taken a b key content key_is taken held q is = get-remove key_total content key q ∙ elim (cases_Bool (eq_by_cmp key_cmp q key)) [
  | inl same ↦
      ap (λ t. cond t None (map.get content q)) same
      ∙ sym (ap (λ k. file_in (b (key_path k))) (one_key key q same) ∙ ap (λ (s : Stands). file_in (s (key_path key))) taken ∙ ap file_in (put_at-here a (key_path key) None))
  | inr other ↦
      let apart : key_path key ≢ key_path q = λ e. other_path key q key_is is other (sym e) in
      ap (λ t. cond t None (map.get content q)) other
      ∙ held q is
      ∙ sym (ap (λ (s : Stands). file_in (s (key_path q))) taken ∙ ap file_in (put_at-other a (key_path key) None (key_path q) apart))
]

has_bytes : (node : Option Node) → IsTrue (is_file node) → (bytes : List ℕ) × (file_in node ≡ Some bytes)
has_bytes None h = absurd (false≢true h)
has_bytes (Some Folder) h = absurd (false≢true h)
has_bytes (Some (File bytes)) h = (bytes, refl)

-- the file of one key lies under the other
at_shifted : (a b : Stands) (from to : Key) (content : Content) (bytes : List ℕ) → IsKey from → IsKey to → from ≢ to → file_in (a (key_path from)) ≡ Some bytes
    → IsShifted a b (key_path from) (key_path to) → HoldsFiles a content → HoldsFiles b (map.remove (map.insert content to bytes) from)
at_shifted a b from to content bytes from_is to_is apart there shift held q is = get-remove key_total (map.insert content to bytes) from q ∙ elim (cases_Bool (eq_by_cmp key_cmp q from)) [
  | inl same ↦
      ap (λ t. cond t None (map.get (map.insert content to bytes) q)) same
      ∙ sym (ap (λ k. file_in (b (key_path k))) (one_key from q same) ∙ ap file_in shift.gone)
  | inr not_from ↦
      ap (λ t. cond t None (map.get (map.insert content to bytes) q)) not_from
      ∙ get-insert key_total content to bytes q
      ∙ elim (cases_Bool (eq_by_cmp key_cmp q to)) [
        | inl same ↦
            ap (λ t. cond t (Some bytes) (map.get content q)) same
            ∙ sym (ap (λ k. file_in (b (key_path k))) (one_key to q same) ∙ ap file_in shift.file ∙ there)
        | inr not_to ↦
            ap (λ t. cond t (Some bytes) (map.get content q)) not_to
            ∙ held q is
            ∙ sym (same_file a b (key_path to) (key_path q) (shift.others (key_path q) (other_path from q from_is is not_from) (other_path to q to_is is not_to)))
      ]
]

pub held_shifted : (a b : Stands) (from to : Key) (content : Content) → IsKey from → IsKey to → from ≢ to → IsTrue (is_file (a (key_path from)))
    → IsShifted a b (key_path from) (key_path to) → HoldsFiles a content → HoldsFiles b (shifted content from to)
held_shifted a b from to content from_is to_is apart file shift held =
    let there = has_bytes (a (key_path from)) file in
    let under : map.get content from ≡ Some there.0 = held from from_is ∙ there.1 in
    rw under (at_shifted a b from to content there.0 from_is to_is apart there.1 shift held)

-- what follows from how an act ended
pub ends_held : {A : Type 0} (result : Result A TreeError) (Done Undone HeldDone HeldUndone : Type 0) → (Done → HeldDone) → (Undone → HeldUndone) → EndsAs result Done Undone → EndsAs result HeldDone HeldUndone
ends_held {A} (Ok x) Done Undone HeldDone HeldUndone done undone h = done h
ends_held {A} (Err Broken) Done Undone HeldDone HeldUndone done undone h = undone h
ends_held {A} (Err Unknown) Done Undone HeldDone HeldUndone done undone (inl h) = inl (undone h)
ends_held {A} (Err Unknown) Done Undone HeldDone HeldUndone done undone (inr h) = inr (done h)

-- ---- for the calls by key

ended : {A : Type 0} (r s : Result A TreeError) (b d : Stands) (done undone : Content) → s ≡ r → d ≡ b → EndsAs r (HoldsFiles b done) (HoldsFiles b undone) → EndsAs s (HoldsFiles d done) (HoldsFiles d undone)
ended {A} r s b d done undone answer same ends =
    subst (λ x. EndsAs x (HoldsFiles d done) (HoldsFiles d undone)) (sym answer) (subst (λ e. EndsAs r (HoldsFiles e done) (HoldsFiles e undone)) (sym same) ends)

pub put_content : {A : Type 0} (r s : Result A TreeError) (a b d : Stands) (key : Key) (path bytes tmp name : List ℕ) (content : Content) → s ≡ r → d ≡ b → path ≡ key_path key → tmp ≡ name → IsTmp name → IsKey key
    → EndsAs r (IsPut a b path bytes tmp) (IsLeft a b path tmp) → HoldsFiles a content → EndsAs s (HoldsFiles d (map.insert content key bytes)) (HoldsFiles d content)
put_content {A} r s a b d key path bytes tmp name content answer same leads called tmp_is key_is ends held =
    let at_name = subst (λ t. EndsAs r (IsPut a b path bytes t) (IsLeft a b path t)) called ends in
    let at_key = subst (λ p. EndsAs r (IsPut a b p bytes name) (IsLeft a b p name)) leads at_name in
    ended r s b d (map.insert content key bytes) content answer same
    (ends_held r (IsPut a b (key_path key) bytes name) (IsLeft a b (key_path key) name) (HoldsFiles b (map.insert content key bytes)) (HoldsFiles b content)
    (λ put. held_put a b key bytes name content tmp_is key_is put held)
    (λ left. held_left a b (key_path key) name content tmp_is left held) at_key)

pub taken_content : {A : Type 0} (r s : Result A TreeError) (a b d : Stands) (key : Key) (path : List ℕ) (content : Content) → s ≡ r → d ≡ b → path ≡ key_path key → IsKey key
    → EndsAs r (IsTaken a b path) (b ≡ a) → HoldsFiles a content → EndsAs s (HoldsFiles d (map.remove content key)) (HoldsFiles d content)
taken_content {A} r s a b d key path content answer same leads key_is ends held =
    let at_key = subst (λ p. EndsAs r (IsTaken a b p) (b ≡ a)) leads ends in
    ended r s b d (map.remove content key) content answer same
    (ends_held r (IsTaken a b (key_path key)) (b ≡ a) (HoldsFiles b (map.remove content key)) (HoldsFiles b content)
    (λ taken. held_taken a b key content key_is taken held)
    (λ still. subst (λ e. HoldsFiles e content) (sym still) held) at_key)

pub shifted_content : {A : Type 0} (r s : Result A TreeError) (a b d : Stands) (from to : Key) (source target : List ℕ) (content : Content) → s ≡ r → d ≡ b → source ≡ key_path from → target ≡ key_path to
    → IsKey from → IsKey to → from ≢ to → IsTrue (is_file (a (key_path from)))
    → EndsAs r (IsShifted a b source target) (IsWidened a b target) → HoldsFiles a content → EndsAs s (HoldsFiles d (shifted content from to)) (HoldsFiles d content)
shifted_content {A} r s a b d from to source target content answer same leads_from leads_to from_is to_is apart file ends held =
    let at_from = subst (λ p. EndsAs r (IsShifted a b p target) (IsWidened a b target)) leads_from ends in
    let at_both = subst (λ p. EndsAs r (IsShifted a b (key_path from) p) (IsWidened a b p)) leads_to at_from in
    ended r s b d (shifted content from to) content answer same
    (ends_held r (IsShifted a b (key_path from) (key_path to)) (IsWidened a b (key_path to)) (HoldsFiles b (shifted content from to)) (HoldsFiles b content)
    (λ shift. held_shifted a b from to content from_is to_is apart file shift held)
    (λ widened. held_widened a b (key_path to) content widened held) at_both)

-- ---- wherever the program stops

put_held : (before now : Stands) (key : Key) (bytes tmp : List ℕ) (content : Content) → IsTmp tmp → IsKey key → HoldsFiles before content → InPut before (key_path key) bytes tmp now
    → HoldsFiles now content ⊎ HoldsFiles now (map.insert content key bytes)
put_held before now key bytes tmp content tmp_is key_is held (inl left) = inl (held_left before now (key_path key) tmp content tmp_is left held)
put_held before now key bytes tmp content tmp_is key_is held (inr put) = inr (held_put before now key bytes tmp content tmp_is key_is put held)

pub put_stops : (a b d : Seen) (key : Key) (path bytes tmp name : List ℕ) (content : Content) → d ≡ b → path ≡ key_path key → tmp ≡ name → IsTmp name → IsKey key
    → Keeps (InPut a.stands path bytes tmp) a b → HoldsFiles a.stands content → Keeps (λ now. HoldsFiles now content ⊎ HoldsFiles now (map.insert content key bytes)) a d
put_stops a b d key path bytes tmp name content same leads called tmp_is key_is keeps held =
    let at_name = subst (λ t. Keeps (InPut a.stands path bytes t) a b) called keeps in
    let at_key = subst (λ p. Keeps (InPut a.stands p bytes name) a b) leads at_name in
    subst (λ (s : Seen). Keeps (λ now. HoldsFiles now content ⊎ HoldsFiles now (map.insert content key bytes)) a s) (sym same)
    (keeps_weaker (InPut a.stands (key_path key) bytes name) (λ now. HoldsFiles now content ⊎ HoldsFiles now (map.insert content key bytes)) a b (λ now. put_held a.stands now key bytes name content tmp_is key_is held) at_key)

taken_held : (before now : Stands) (key : Key) (content : Content) → IsKey key → HoldsFiles before content → InRemoval before (key_path key) now → HoldsFiles now content ⊎ HoldsFiles now (map.remove content key)
taken_held before now key content key_is held (inl still) = inl (subst (λ e. HoldsFiles e content) (sym still) held)
taken_held before now key content key_is held (inr taken) = inr (held_taken before now key content key_is taken held)

pub taken_stops : (a b d : Seen) (key : Key) (path : List ℕ) (content : Content) → d ≡ b → path ≡ key_path key → IsKey key
    → Keeps (InRemoval a.stands path) a b → HoldsFiles a.stands content → Keeps (λ now. HoldsFiles now content ⊎ HoldsFiles now (map.remove content key)) a d
taken_stops a b d key path content same leads key_is keeps held =
    let at_key = subst (λ p. Keeps (InRemoval a.stands p) a b) leads keeps in
    subst (λ (s : Seen). Keeps (λ now. HoldsFiles now content ⊎ HoldsFiles now (map.remove content key)) a s) (sym same)
    (keeps_weaker (InRemoval a.stands (key_path key)) (λ now. HoldsFiles now content ⊎ HoldsFiles now (map.remove content key)) a b (λ now. taken_held a.stands now key content key_is held) at_key)

shifted_held : (before now : Stands) (from to : Key) (content : Content) → IsKey from → IsKey to → from ≢ to → IsTrue (is_file (before (key_path from))) → HoldsFiles before content
    → InShift before (key_path from) (key_path to) now → HoldsFiles now content ⊎ HoldsFiles now (shifted content from to)
shifted_held before now from to content from_is to_is apart file held (inl widened) = inl (held_widened before now (key_path to) content widened held)
shifted_held before now from to content from_is to_is apart file held (inr shift) = inr (held_shifted before now from to content from_is to_is apart file shift held)

pub shifted_stops : (a b d : Seen) (from to : Key) (source target : List ℕ) (content : Content) → d ≡ b → source ≡ key_path from → target ≡ key_path to → IsKey from → IsKey to → from ≢ to → IsTrue (is_file (a.stands (key_path from)))
    → Keeps (InShift a.stands source target) a b → HoldsFiles a.stands content → Keeps (λ now. HoldsFiles now content ⊎ HoldsFiles now (shifted content from to)) a d
shifted_stops a b d from to source target content same leads_from leads_to from_is to_is apart file keeps held =
    let at_from = subst (λ p. Keeps (InShift a.stands p target) a b) leads_from keeps in
    let at_both = subst (λ p. Keeps (InShift a.stands (key_path from) p) a b) leads_to at_from in
    subst (λ (s : Seen). Keeps (λ now. HoldsFiles now content ⊎ HoldsFiles now (shifted content from to)) a s) (sym same)
    (keeps_weaker (InShift a.stands (key_path from) (key_path to)) (λ now. HoldsFiles now content ⊎ HoldsFiles now (shifted content from to)) a b
    (λ now. shifted_held a.stands now from to content from_is to_is apart file held) at_both)
