-- Each folder on the way to a key is one in which keys may lie.
use Rattle.std.proofs.Common.{◌≡◌, ◌≢◌, ℕ, zero, suc, true, false, eqb, inl, inr, List, [], ◌∷◌, ◌++◌, codes, length, take, slice_index, Option, Some, None, is_some, refl, replicate, sym, ap, ◌∙◌, subst, append_assoc, arith}
use Rattle.std.proofs.lemmas.Bool.{cases_Bool, eqb-false}
use Rattle.std.proofs.lemmas.List.{append_cancel_left, length-append, length-replicate, length-take-le, take-append-le, take_all}
use Rattle.std.proofs.lemmas.List.Elements.{All-append, All-replicate, All-take}
use Rattle.std.specs.Fmt.{decimal}
use Rattle.std.specs.List.{list_any}
use Rattle.std.specs.Str.Iter.{LacksByte}
use Rattle.keep_names.proofs.IdText.{IsIdText-id_text, id_of_text}
use Rattle.keep_names.specs.FileName.{kind_text, path_with}
use Rattle.keep_names.specs.Id.{IsDigest, id_text, is_lower_hex_digit}
use Rattle.keep_names.specs.declared.file_name.FileName.{FileName}
use Rattle.keep_names.specs.declared.file_name.Kind.{Kind}
use Rattle.keep_names.specs.declared.file_name.Kind.TheVariants.{Pack, Index, Snapshot}
use Rattle.keep_names.specs.declared.id.Id.{Id}
use Rattle.keep_shelf.specs.declared.key.Key.{Key}
use Rattle.keep_shelf.specs.declared.key.Key.TheVariants.{Live, Trash, Entry}
use Rattle.keep_paths.proofs.Cutting.{lacks-tail, one_cut}
use Rattle.keep_paths.proofs.Digits.{digits_lack, front_lacks}
use Rattle.keep_names.proofs.Numbers.{number_lacks}
use Rattle.keep_paths.specs.Folder.{HoldsKeys, HoldsTrash, IsPackFolder, IsTopFolder, LiesIn}
use Rattle.keep_names.specs.Number.{IsNumber}
use Rattle.keep_paths.specs.KeyPath.{IsInTrash, IsKey, key_path, name_path, trash_path}
use Rattle.keep_names.specs.Parses.{Parses}

-- ---- texts without a slash

lacks_cons : (c b : ℕ) (bs : List ℕ) → b ≢ c → LacksByte c bs → LacksByte c (b ∷ bs)
lacks_cons c b bs other rest zero l e = other e
lacks_cons c b bs other rest (suc k) l e = rest k (omega arith) e

-- a text lacks a byte, where no byte of it is that one
lacks_test : (c : ℕ) (bs : List ℕ) → list_any (λ b. eqb b c) bs ≡ false → LacksByte c bs
lacks_test c [] e = λ k l. absurd (omega arith)
lacks_test c (b ∷ bs) e = elim (cases_Bool (eqb b c)) [
  | inl same ↦ absurd (cc (rw same at e))
  | inr other ↦ lacks_cons c b bs (eqb-false b c other) (lacks_test c bs (rw other at e))
]

-- a text has the byte that stands in it
lacks-not : (c : ℕ) (front back : List ℕ) → LacksByte c (front ++ c ∷ back) → ⊥
lacks-not c [] back h = h 0 (omega arith) refl
lacks-not c (b ∷ front) back h = lacks-not c front back (lacks-tail c b (front ++ c ∷ back) h)

-- where a text has one slash, it's cut there
only_cut : (x y b rest : List ℕ) → LacksByte 47 x → LacksByte 47 y → x ++ 47 ∷ y ≡ b ++ 47 ∷ rest → b ≡ x
only_cut [] y [] rest h k same = refl
only_cut [] y (z ∷ b) rest h k same =
    let tail : y ≡ b ++ 47 ∷ rest = cc in
    absurd (lacks-not 47 b rest (subst (LacksByte 47) tail k))
only_cut (z ∷ x) y [] rest h k same =
    let head : z ≡ 47 = cc in
    absurd (h 0 (omega arith) head)
only_cut (z ∷ x) y (w ∷ b) rest h k same =
    let head : w ≡ z = cc in
    let tail : x ++ 47 ∷ y ≡ b ++ 47 ∷ rest = cc in
    rw (head, only_cut x y b rest (lacks-tail 47 z x h) k tail) refl

-- ---- the top folders

live_top : (kind : Kind) (id : Id) → (top : List ℕ) × (tail : List ℕ) × IsTopFolder top × LacksByte 47 top × (path_with kind (id_text id) ≡ top ++ 47 ∷ tail)
live_top Pack id = (codes "data", take 2 (id_text id) ++ 47 ∷ id_text id, inl refl, lacks_test 47 (codes "data") refl, refl)
live_top Index id = (codes "index", id_text id, inr (inl refl), lacks_test 47 (codes "index") refl, refl)
live_top Snapshot id = (codes "snapshots", id_text id, inr (inr (inl refl)), lacks_test 47 (codes "snapshots") refl, refl)

-- a key lies in a top folder
top_of : (key : Key) → IsKey key → (top : List ℕ) × (tail : List ℕ) × IsTopFolder top × LacksByte 47 top × (key_path key ≡ top ++ 47 ∷ tail)
top_of (Live name) h = live_top name.kind name.id
top_of (Trash n name) h = (codes "trash", trash_path (n, name), inr (inr (inr (inl refl))), lacks_test 47 (codes "trash") refl, refl)
top_of (Entry n) h = (codes "journal", decimal n, inr (inr (inr (inr refl))), lacks_test 47 (codes "journal") refl, refl)

pub in_top : (key : Key) (folder : List ℕ) → IsKey key → LacksByte 47 folder → LiesIn (key_path key) folder → IsTopFolder folder
in_top key folder h lacks lies =
    let top = top_of key h in
    let same = (one_cut 47 top.0 top.1 folder lies.0 top.3 lacks (sym top.4 ∙ lies.1)).0 in
    subst IsTopFolder same top.2

-- ---- folders of packs

-- the first letter of a path
abbrev letter : List ℕ → ℕ
letter path = slice_index path 0

is_pack_folder : (id : Id) → IsDigest id → IsPackFolder (take 2 (id_text id))
is_pack_folder id whole =
    let digits = IsIdText-id_text id whole in
    let long : length (id_text id) ≡ 64 = digits.0 in
    (length-take-le 2 (id_text id) (omega (arith, long)), All-take (λ c. is_lower_hex_digit c ≡ true) 2 (id_text id) digits.1)

live_folder : (kind : Kind) (id : Id) (name : List ℕ) → IsDigest id → LiesIn (path_with kind (id_text id)) (codes "data/" ++ name) → IsPackFolder name
live_folder Pack id name whole lies =
    let below = append_cancel_left (codes "data/") (take 2 (id_text id) ++ 47 ∷ id_text id) (name ++ (codes "/" ++ lies.0)) lies.1 in
    subst IsPackFolder (sym (only_cut (take 2 (id_text id)) (id_text id) name lies.0 (front_lacks id whole) (digits_lack id whole) below)) (is_pack_folder id whole)
live_folder Index id name whole lies = let first : 105 ≡ 100 = ap letter lies.1 in absurd (omega (arith, first))
live_folder Snapshot id name whole lies = let first : 115 ≡ 100 = ap letter lies.1 in absurd (omega (arith, first))

pub pack_folder : (key : Key) (name : List ℕ) → IsKey key → LiesIn (key_path key) (codes "data/" ++ name) → IsPackFolder name
pack_folder (Live file) name h lies = live_folder file.kind file.id name h lies
pack_folder (Trash n file) name h lies = let first : 116 ≡ 100 = ap letter lies.1 in absurd (omega (arith, first))
pack_folder (Entry n) name h lies = let first : 106 ≡ 100 = ap letter lies.1 in absurd (omega (arith, first))

-- ---- folders of the trash

live_no_trash : {P : Type 0} (kind : Kind) (id : Id) (path : List ℕ) → LiesIn (path_with kind (id_text id)) (codes "trash/" ++ path) → P
live_no_trash {P} Pack id path lies = let first : 100 ≡ 116 = ap letter lies.1 in absurd (omega (arith, first))
live_no_trash {P} Index id path lies = let first : 105 ≡ 116 = ap letter lies.1 in absurd (omega (arith, first))
live_no_trash {P} Snapshot id path lies = let first : 115 ≡ 116 = ap letter lies.1 in absurd (omega (arith, first))

kind_lacks : (kind : Kind) → LacksByte 47 (kind_text kind)
kind_lacks Pack = lacks_test 47 (codes "pack") refl
kind_lacks Index = lacks_test 47 (codes "index") refl
kind_lacks Snapshot = lacks_test 47 (codes "snapshot") refl

pub trash_folder : (key : Key) (path : List ℕ) → IsKey key → LiesIn (key_path key) (codes "trash/" ++ path) → (n : ℕ) × (name : FileName) × IsInTrash (n, name) × LiesIn (trash_path (n, name)) path
trash_folder (Live file) path h lies = live_no_trash file.kind file.id path lies
trash_folder (Trash n name) path h lies = (n, name, h, (lies.0, append_cancel_left (codes "trash/") (trash_path (n, name)) (path ++ (codes "/" ++ lies.0)) lies.1))
trash_folder (Entry n) path h lies = let first : 106 ≡ 116 = ap letter lies.1 in absurd (omega (arith, first))

-- a change's folder
pub change_folder : (n : ℕ) (name : FileName) (path : List ℕ) → IsInTrash (n, name) → LacksByte 47 path → LiesIn (trash_path (n, name)) path → decimal n ≡ path
change_folder n name path h lacks lies = (one_cut 47 (decimal n) (name_path name) path lies.0 (number_lacks n h.0) lacks lies.1).0

-- a kind's folder in it
pub kind_folder : (n : ℕ) (name : FileName) (number word : List ℕ) → IsInTrash (n, name) → LacksByte 47 number → LiesIn (trash_path (n, name)) (number ++ 47 ∷ word) → (decimal n ≡ number) × (kind_text name.kind ≡ word)
kind_folder n name number word h lacks lies =
    let whole = lies.1 ∙ append_assoc number (47 ∷ word) (47 ∷ lies.0) in
    let cut = one_cut 47 (decimal n) (name_path name) number (word ++ 47 ∷ lies.0) (number_lacks n h.0) lacks whole in
    (cut.0, sym (only_cut (kind_text name.kind) (id_text name.id) word lies.0 (kind_lacks name.kind) (digits_lack name.id h.1) cut.1))

-- ---- no other folders

-- a file that lies in a top folder itself has no slash in its name
bare_name : (top name first tail rest : List ℕ) → LacksByte 47 top → LacksByte 47 name → LacksByte 47 first → top ++ 47 ∷ name ≡ first ++ 47 ∷ (tail ++ 47 ∷ rest) → ⊥
bare_name top name first tail rest h k lacks e =
    let cut = one_cut 47 top name first (tail ++ 47 ∷ rest) h lacks e in
    lacks-not 47 tail rest (subst (LacksByte 47) cut.1 k)

live_bare : (kind : Kind) (id : Id) (first tail rest : List ℕ) → IsDigest id → LacksByte 47 first → first ≢ codes "data" → path_with kind (id_text id) ≡ first ++ 47 ∷ (tail ++ 47 ∷ rest) → ⊥
live_bare Pack id first tail rest whole lacks packs e =
    packs (sym (one_cut 47 (codes "data") (take 2 (id_text id) ++ 47 ∷ id_text id) first (tail ++ 47 ∷ rest) (lacks_test 47 (codes "data") refl) lacks e).0)
live_bare Index id first tail rest whole lacks packs e = bare_name (codes "index") (id_text id) first tail rest (lacks_test 47 (codes "index") refl) (digits_lack id whole) lacks e
live_bare Snapshot id first tail rest whole lacks packs e =
    bare_name (codes "snapshots") (id_text id) first tail rest (lacks_test 47 (codes "snapshots") refl) (digits_lack id whole) lacks e

bare : (key : Key) (first tail rest : List ℕ) → IsKey key → LacksByte 47 first → first ≢ codes "data" → first ≢ codes "trash" → key_path key ≡ first ++ 47 ∷ (tail ++ 47 ∷ rest) → ⊥
bare (Live name) first tail rest h lacks packs trash e = live_bare name.kind name.id first tail rest h lacks packs e
bare (Trash n name) first tail rest h lacks packs trash e =
    trash (sym (one_cut 47 (codes "trash") (trash_path (n, name)) first (tail ++ 47 ∷ rest) (lacks_test 47 (codes "trash") refl) lacks e).0)
bare (Entry n) first tail rest h lacks packs trash e = bare_name (codes "journal") (decimal n) first tail rest (lacks_test 47 (codes "journal") refl) (number_lacks n h) lacks e

pub no_other : (key : Key) (first tail : List ℕ) → IsKey key → LacksByte 47 first → first ≢ codes "data" → first ≢ codes "trash" → LiesIn (key_path key) (first ++ 47 ∷ tail) → ⊥
no_other key first tail h lacks packs trash lies = bare key first tail lies.0 h lacks packs trash (lies.1 ∙ append_assoc first (47 ∷ tail) (47 ∷ lies.0))

-- what has a text is read as something
pub parsed : {A : Type 0} (Counts : A → Type 0) (print : A → List ℕ) (text : List ℕ) (found : Option A) (value : A) → Parses Counts print text found → Counts value → print value ≡ text → is_some found ≡ true
parsed Counts print text (Some other) value h counts e = refl
parsed Counts print text None value h counts e = absurd (h value counts e)

-- and what is read as something has its text
pub found : {A : Type 0} (Counts : A → Type 0) (print : A → List ℕ) (text : List ℕ) (r : Option A) → Parses Counts print text r → is_some r ≡ true → (value : A) × Counts value × (print value ≡ text)
found Counts print text (Some value) h e = (value, h.0, h.1)
found Counts print text None h e = cc e

-- ---- each of them has keys

-- an id that begins with these digits
id_from : (front : List ℕ) → IsPackFolder front → (id : Id) × IsDigest id × (take 2 (id_text id) ≡ front)
id_from front h =
    let IsLower : ℕ → Type 0 = λ c. is_lower_hex_digit c ≡ true in
    let zeros : List ℕ = replicate 62 48 in
    let two : length front ≡ 2 = h.0 in
    let long : length (front ++ zeros) ≡ 64 = omega (arith, length-append front zeros, length-replicate {A = ℕ} 62 48, two) in
    let id = id_of_text (front ++ zeros) (long, All-append IsLower front zeros h.1 (All-replicate IsLower 62 48 refl)) in
    (id.0, id.1, ap (take 2) id.2 ∙ take-append-le 2 front zeros (omega (arith, two)) ∙ take_all 2 front (omega (arith, two)))

-- an id
some_id : (id : Id) × IsDigest id
some_id = let id = id_from (codes "00") (refl, All-replicate (λ c. is_lower_hex_digit c ≡ true) 2 48 refl) in (id.0, id.1)

pub top_holds : (name : List ℕ) → IsTopFolder name → HoldsKeys name
top_holds name (inl e) =
    let id = some_id in
    (Live (record { kind = Pack; id = id.0 }), id.1, (take 2 (id_text id.0) ++ 47 ∷ id_text id.0, ap (λ top. top ++ 47 ∷ (take 2 (id_text id.0) ++ 47 ∷ id_text id.0)) (sym e)))
top_holds name (inr (inl e)) = let id = some_id in (Live (record { kind = Index; id = id.0 }), id.1, (id_text id.0, ap (λ top. top ++ 47 ∷ id_text id.0) (sym e)))
top_holds name (inr (inr (inl e))) = let id = some_id in (Live (record { kind = Snapshot; id = id.0 }), id.1, (id_text id.0, ap (λ top. top ++ 47 ∷ id_text id.0) (sym e)))
top_holds name (inr (inr (inr (inl e)))) =
    let id = some_id in
    let file : FileName = record { kind = Pack; id = id.0 } in
    (Trash 0 file, (omega arith, id.1), (trash_path (0, file), ap (λ top. top ++ 47 ∷ trash_path (0, file)) (sym e)))
top_holds name (inr (inr (inr (inr e)))) = (Entry 0, omega arith, (decimal 0, ap (λ top. top ++ 47 ∷ decimal 0) (sym e)))

pub packs_hold : (name : List ℕ) → IsPackFolder name → HoldsKeys (codes "data/" ++ name)
packs_hold name h =
    let id = id_from name h in
    (Live (record { kind = Pack; id = id.0 }), id.1, (id_text id.0, ap (λ folder. codes "data/" ++ (folder ++ 47 ∷ id_text id.0)) id.2))

pub trash_holds : (path : List ℕ) → HoldsTrash path → HoldsKeys (codes "trash/" ++ path)
trash_holds path h = (Trash h.0.0 h.0.1, h.1, (h.2.0, ap (λ rest. codes "trash/" ++ rest) h.2.1))

pub change_holds : (path : List ℕ) (n : ℕ) → IsNumber n → decimal n ≡ path → HoldsTrash path
change_holds path n small e =
    let id = some_id in
    let file : FileName = record { kind = Pack; id = id.0 } in
    ((n, file), (small, id.1), (name_path file, ap (λ folder. folder ++ 47 ∷ name_path file) e))

pub kind_holds : (path number word : List ℕ) (n : ℕ) (kind : Kind) → path ≡ number ++ 47 ∷ word → IsNumber n → decimal n ≡ number → kind_text kind ≡ word → HoldsTrash path
kind_holds path number word n kind split small digits text =
    let id = some_id in
    let file : FileName = record { kind = kind; id = id.0 } in
    let front : decimal n ++ (codes "/" ++ (kind_text kind ++ (codes "/" ++ id_text id.0))) ≡ number ++ 47 ∷ (word ++ 47 ∷ id_text id.0) = rw (digits, text) refl in
    ((n, file), (small, id.1), (id_text id.0, front ∙ sym (append_assoc number (47 ∷ word) (47 ∷ id_text id.0)) ∙ ap (λ folder. folder ++ 47 ∷ id_text id.0) (sym split)))
