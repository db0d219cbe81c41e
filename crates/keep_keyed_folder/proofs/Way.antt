-- The walk goes on.
use Rattle.std.proofs.Common.{◌≡◌, ℕ, ◌⊎◌, true, false, cond, inl, inr, IsTrue, List, [], ◌∷◌, ◌++◌, Option, Some, None, Result, Ok, Err, is_some, length, string_bytes, refl, sym, ap, ◌∙◌, subst, arith}
use Rattle.std.proofs.lemmas.Bool.{cases_Bool, false≢true}
use Rattle.std.specs.FinMap as map
use Rattle.std.specs.FinMap.{get-empty, get-insert}
use Rattle.std.specs.Ordering.{eq_by_cmp}
use Rattle.std.specs.Result.{OnErr, OnOk}
use Rattle.std.specs.declared.string.String.{String}
use Rattle.keep_names.proofs.TellsApart.{apart_from}
use Rattle.keep_paths.proofs.Apart.{key_path-exact}
use Rattle.keep_paths.specs.Folder.{HoldsKeys}
use Rattle.keep_paths.specs.KeyPath.{IsKey, key_path}
use Rattle.keep_shelf.proofs.Orders.{key_exact, key_total}
use Rattle.keep_shelf.specs.Key.{key_cmp}
use Rattle.keep_shelf.specs.Shelved.{Content}
use Rattle.keep_shelf.specs.declared.key.Key.{Key}
use Rattle.keep_files.specs.Content.{HoldsFiles, file_in}
use Rattle.keep_files.specs.Stands.{IsClosed, Stands, is_file, is_folder}
use Rattle.keep_files.specs.declared.node.Node.{Node}
use Rattle.keep_files.specs.declared.node.Node.TheVariants.{Folder, File}
use Rattle.keep_keyed_folder.proofs.Awaited.{awaited_last, awaited_left, awaited_right, inner_awaited, place_above, root_awaited}
use Rattle.keep_keyed_folder.specs.Walked.{AreIn, IsKeyPath, IsNoted, IsOnTheWay, IsOpened, IsOrderly, IsPlace, IsRead, Leads}

-- what follows from an answer that is no error
pub then_ok : {A E : Type 0} (P Q : Type 0) (r : Result A E) → (P → Q) → OnOk r P → OnOk r Q
then_ok {A} {E} P Q (Ok x) follows h = follows h
then_ok {A} {E} P Q (Err e) follows h = tt

pub of_err : {A E : Type 0} (P : Type 0) (r : Result A E) → P → OnErr r P
of_err {A} {E} P (Ok x) h = tt
of_err {A} {E} P (Err e) h = h

-- a list of nothing
pub none_left : {A : Type 0} (l : List A) → length l ≡ 0 → l ≡ []
none_left {A} [] h = refl
none_left {A} (x ∷ l) h = absurd (omega arith)

-- at the beginning what lies at the root is awaited
pub begun : {A : Type 0} (stands : Stands) (paths : List (String A)) → IsClosed stands → AreIn stands [] paths → IsOnTheWay stands map.empty paths
begun {A} stands paths closed are = record {
  sound = λ key bytes is e. absurd (cc (sym (get-empty key_cmp key) ∙ e));
  complete = λ path place is. inr (root_awaited stands path paths closed are is);
}

-- where a path leads to from one that isn't a folder
only_itself : (stands : Stands) (path end : List ℕ) → IsClosed stands → is_folder (stands path) ≡ false → IsTrue (is_some (stands end)) → Leads path end → path ≡ end
only_itself stands path end closed never is (inl same) = same
only_itself stands path end closed never is (inr lies) = absurd (false≢true (sym never ∙ ap is_folder (closed end is path lies)))

-- nothing stands there
pub none_there : {A : Type 0} (stands : Stands) (content : Content) (paths : List (String A)) (path : String A) → IsClosed stands → stands (string_bytes path) ≡ None
    → IsOnTheWay stands content (paths ++ path ∷ []) → IsOnTheWay stands content paths
none_there {A} stands content paths path closed none way = record {
  sound = way.sound;
  complete = λ end place is. elim (way.complete end place is) [
    | inl noted ↦ inl noted
    | inr awaited ↦ elim (awaited_last paths path end awaited) [
      | inl still ↦ inr still
      | inr leads ↦
          let same = only_itself stands (string_bytes path) end closed (ap is_folder none) is leads in
          absurd (false≢true (sym (ap is_some (sym (ap stands same) ∙ none)) ∙ is))
    ]
  ];
}

-- the folder is no place
not_there : (path end : List ℕ) → (IsPlace path → ⊥) → IsPlace end → Leads path end → ⊥
not_there path end never place (inl same) = never (subst IsPlace (sym same) place)
not_there path end never place (inr lies) = never (inr (place_above end path place lies))

pub passed : {A : Type 0} (stands : Stands) (content : Content) (paths : List (String A)) (path : String A) → (IsPlace (string_bytes path) → ⊥)
    → IsOnTheWay stands content (paths ++ path ∷ []) → IsOnTheWay stands content paths
passed {A} stands content paths path never way = record {
  sound = way.sound;
  complete = λ end place is. elim (way.complete end place is) [
    | inl noted ↦ inl noted
    | inr awaited ↦ elim (awaited_last paths path end awaited) [
      | inl still ↦ inr still
      | inr leads ↦ absurd (not_there (string_bytes path) end never place leads)
    ]
  ];
}

-- a folder of keys' files is as it has to be
noted_folder : (stands : Stands) (content : Content) (path : List ℕ) → (IsKeyPath path → ⊥) → stands path ≡ Some Folder → IsNoted stands content path
noted_folder stands content path never is = record {
  file = λ key. absurd (never key);
  folder = λ holds. ap is_file is;
  bytes = λ key key_is same. absurd (never (key, key_is, same));
}

pub opened : {A : Type 0} (stands : Stands) (content : Content) (paths inner : List (String A)) (path : String A) → IsClosed stands → stands (string_bytes path) ≡ Some Folder
    → (IsKeyPath (string_bytes path) → ⊥) → AreIn stands (string_bytes path) inner → IsOnTheWay stands content (paths ++ path ∷ []) → IsOnTheWay stands content (paths ++ inner)
opened {A} stands content paths inner path closed folder never are way = record {
  sound = way.sound;
  complete = λ end place is. elim (way.complete end place is) [
    | inl noted ↦ inl noted
    | inr awaited ↦ elim (awaited_last paths path end awaited) [
      | inl still ↦ inr (awaited_left paths inner end still)
      | inr leads ↦ elim leads [
        | inl same ↦ inl (subst (IsNoted stands content) same (noted_folder stands content (string_bytes path) never folder))
        | inr lies ↦ inr (awaited_right paths inner end (inner_awaited stands (string_bytes path) end inner closed are is lies))
      ]
    ]
  ];
}

pub folder_taken : {A : Type 0} (stands : Stands) (content : Content) (paths after : List (String A)) (path : String A) → IsClosed stands → stands (string_bytes path) ≡ Some Folder
    → IsOpened stands (string_bytes path) paths after → IsOnTheWay stands content (paths ++ path ∷ []) → IsOnTheWay stands content after
folder_taken {A} stands content paths after path closed folder (inl h) way = subst (IsOnTheWay stands content) (sym h.1.2) (opened stands content paths h.1.0 path closed folder h.0 h.1.1 way)
folder_taken {A} stands content paths after path closed folder (inr h) way = subst (IsOnTheWay stands content) (sym h.1) (passed stands content paths path h.0 way)

-- ---- a key's file

at_key : (content : Content) (key : Key) (bytes : List ℕ) (q : Key) (held : Option (List ℕ)) → (q ≡ key → held ≡ Some bytes) → (map.get content q ≡ held) ⊎ (q ≡ key) → map.get (map.insert content key bytes) q ≡ held
at_key content key bytes q held here h = get-insert key_total content key bytes q ∙ elim (cases_Bool (eq_by_cmp key_cmp q key)) [
  | inl same ↦ ap (λ t. cond t (Some bytes) (map.get content q)) same ∙ sym (here ((apart_from key_total key_exact q key).0 same))
  | inr other ↦ ap (λ t. cond t (Some bytes) (map.get content q)) other ∙ elim h [
    | inl was ↦ was
    | inr same ↦ absurd (false≢true (sym other ∙ (apart_from key_total key_exact q key).1 same))
  ]
]

one_key : (q key : Key) → eq_by_cmp key_cmp q key ≡ true → q ≡ key
one_key q key same = (apart_from key_total key_exact q key).0 same

still_noted : (stands : Stands) (content : Content) (key : Key) (bytes : List ℕ) (end : List ℕ) → ((q : Key) → q ≡ key → file_in (stands (key_path q)) ≡ Some bytes)
    → IsNoted stands content end → IsNoted stands (map.insert content key bytes) end
still_noted stands content key bytes end under noted = record {
  file = noted.file;
  folder = noted.folder;
  bytes = λ q q_is same. at_key content key bytes q (file_in (stands end)) (λ e. ap (λ p. file_in (stands p)) (sym same) ∙ under q e) (inl (noted.bytes q q_is same));
}

just_noted : (stands : Stands) (content : Content) (key : Key) (bytes : List ℕ) (path : List ℕ) → stands path ≡ Some (File bytes) → (HoldsKeys path → ⊥) → IsKey key → key_path key ≡ path
    → IsNoted stands (map.insert content key bytes) path
just_noted stands content key bytes path file never key_is leads_there = record {
  file = λ _. ap is_folder file;
  folder = λ holds. absurd (never holds);
  bytes = λ q q_is same. at_key content key bytes q (file_in (stands path)) (λ _. ap file_in file) (inr (key_path-exact q key q_is key_is (same ∙ sym leads_there)));
}

pub read_in : {A : Type 0} (stands : Stands) (content : Content) (paths : List (String A)) (path : String A) (key : Key) (bytes : List ℕ) → IsClosed stands → stands (string_bytes path) ≡ Some (File bytes)
    → (HoldsKeys (string_bytes path) → ⊥) → IsKey key → key_path key ≡ string_bytes path
    → IsOnTheWay stands content (paths ++ path ∷ []) → IsOnTheWay stands (map.insert content key bytes) paths
read_in {A} stands content paths path key bytes closed file never key_is leads_there way =
    let under : (q : Key) → q ≡ key → file_in (stands (key_path q)) ≡ Some bytes = λ q same. ap (λ k. file_in (stands (key_path k))) same ∙ ap (λ p. file_in (stands p)) leads_there ∙ ap file_in file in
    record {
      sound = λ q held q_is e. elim (cases_Bool (eq_by_cmp key_cmp q key)) [
        | inl same ↦ under q (one_key q key same) ∙ sym (ap (λ t. cond t (Some bytes) (map.get content q)) same) ∙ sym (get-insert key_total content key bytes q) ∙ e
        | inr other ↦ way.sound q held q_is (sym (ap (λ t. cond t (Some bytes) (map.get content q)) other) ∙ sym (get-insert key_total content key bytes q) ∙ e)
      ];
      complete = λ end place is. elim (way.complete end place is) [
        | inl noted ↦ inl (still_noted stands content key bytes end under noted)
        | inr awaited ↦ elim (awaited_last paths path end awaited) [
          | inl still ↦ inr still
          | inr leads ↦ inl (subst (IsNoted stands (map.insert content key bytes)) (only_itself stands (string_bytes path) end closed (ap is_folder file) is leads)
              (just_noted stands content key bytes (string_bytes path) file never key_is leads_there))
        ]
      ];
    }

pub file_taken : {A : Type 0} (stands : Stands) (before after : Content) (paths : List (String A)) (path : String A) (bytes : List ℕ) → IsClosed stands → stands (string_bytes path) ≡ Some (File bytes)
    → IsRead (string_bytes path) bytes before after → IsOnTheWay stands before (paths ++ path ∷ []) → IsOnTheWay stands after paths
file_taken {A} stands before after paths path bytes closed file (inl h) way = subst (λ content. IsOnTheWay stands content paths) (sym h.1.3) (read_in stands before paths path h.1.0 bytes closed file h.0 h.1.1 h.1.2 way)
file_taken {A} stands before after paths path bytes closed file (inr h) way = subst (λ content. IsOnTheWay stands content paths) (sym h.1) (passed stands before paths path h.0 way)

-- ---- the end

orderly_file : (stands : Stands) (content : Content) (path : List ℕ) (node : Option Node) → stands path ≡ node → IsKeyPath path → (IsTrue (is_some (stands path)) → IsNoted stands content path) → is_folder (stands path) ≡ false
orderly_file stands content path None e key noted = ap is_folder e
orderly_file stands content path (Some node) e key noted = (noted (ap is_some e)).file key

orderly_folder : (stands : Stands) (content : Content) (path : List ℕ) (node : Option Node) → stands path ≡ node → HoldsKeys path → (IsTrue (is_some (stands path)) → IsNoted stands content path) → is_file (stands path) ≡ false
orderly_folder stands content path None e holds noted = ap is_file e
orderly_folder stands content path (Some node) e holds noted = (noted (ap is_some e)).folder holds

noted_at_end : {A : Type 0} (stands : Stands) (content : Content) (path : List ℕ) → IsOnTheWay {A = A} stands content [] → IsPlace path → IsTrue (is_some (stands path)) → IsNoted stands content path
noted_at_end {A} stands content path way place is = elim (way.complete path place is) [
  | inl noted ↦ noted
  | inr awaited ↦ absurd awaited
]

pub orderly : {A : Type 0} (stands : Stands) (content : Content) → IsOnTheWay {A = A} stands content [] → IsOrderly stands
orderly {A} stands content way = record {
  file = λ path key. orderly_file stands content path (stands path) refl key (noted_at_end stands content path way (inl key));
  folder = λ path holds. orderly_folder stands content path (stands path) refl holds (noted_at_end stands content path way (inr holds));
}

-- nothing is under a key whose file isn't there
nothing_under : {A : Type 0} (stands : Stands) (content : Content) (key : Key) (held : Option (List ℕ)) → IsOnTheWay {A = A} stands content [] → IsKey key → stands (key_path key) ≡ None → map.get content key ≡ held → held ≡ None
nothing_under {A} stands content key None way key_is none e = refl
nothing_under {A} stands content key (Some bytes) way key_is none e = absurd (cc (sym (ap file_in none) ∙ way.sound key bytes key_is e))

held_at : {A : Type 0} (stands : Stands) (content : Content) (key : Key) (node : Option Node) → IsOnTheWay {A = A} stands content [] → IsKey key → stands (key_path key) ≡ node → map.get content key ≡ file_in (stands (key_path key))
held_at {A} stands content key None way key_is e = nothing_under stands content key (map.get content key) way key_is e refl ∙ sym (ap file_in e)
held_at {A} stands content key (Some node) way key_is e = (noted_at_end stands content (key_path key) way (inl (key, key_is, refl)) (ap is_some e)).bytes key key_is refl

pub ended : {A : Type 0} (stands : Stands) (content : Content) → IsOnTheWay {A = A} stands content [] → HoldsFiles stands content
ended {A} stands content way key key_is = held_at stands content key (stands (key_path key)) way key_is refl
