-- Two keys never have one path.
use Rattle.std.proofs.Common.{◌≡◌, ◌≢◌, ℕ, List, ◌∷◌, ◌++◌, codes, take, slice_index, refl, sym, ap, ◌∙◌, ap₂, arith}
use Rattle.std.proofs.lemmas.Fmt.{decimal_injective}
use Rattle.std.proofs.lemmas.List.{append_cancel_left}
use Rattle.std.specs.Fmt.{decimal}
use Rattle.keep_names.proofs.IdText.{id_text-exact}
use Rattle.keep_names.specs.FileName.{path_with}
use Rattle.keep_names.specs.Id.{IsDigest, id_text}
use Rattle.keep_names.specs.declared.file_name.FileName.{FileName}
use Rattle.keep_names.specs.declared.file_name.Kind.{Kind}
use Rattle.keep_names.specs.declared.file_name.Kind.TheVariants.{Pack, Index, Snapshot}
use Rattle.keep_names.specs.declared.id.Id.{Id}
use Rattle.keep_shelf.specs.declared.key.Key.{Key}
use Rattle.keep_shelf.specs.declared.key.Key.TheVariants.{Live, Trash, Entry}
use Rattle.keep_paths.proofs.Cutting.{one_cut}
use Rattle.keep_paths.proofs.Digits.{front_lacks}
use Rattle.keep_names.proofs.Numbers.{number_lacks}
use Rattle.keep_paths.specs.KeyPath.{IsInTrash, IsKey, IsName, key_path, name_path, trash_path}
use Rattle.keep_names.specs.Parses.{NonePrints}

-- the first letter of a path
abbrev letter : List ℕ → ℕ
letter path = slice_index path 0

-- two names of one kind and one text are one
one_name : (a b : FileName) → IsName a → IsName b → (a.kind ≡ b.kind) × (id_text a.id ≡ id_text b.id) → a ≡ b
one_name a b ha hb same =
    ap₂ (λ (kind : Kind) (id : Id). record { kind = kind; id = id }) same.0 (id_text-exact a.id b.id ha hb same.1)

-- ---- live files

pack_digits : (a b : Id) → IsDigest a → IsDigest b → path_with Pack (id_text a) ≡ path_with Pack (id_text b) → id_text a ≡ id_text b
pack_digits a b ha hb e =
    let below = append_cancel_left (codes "data/") (take 2 (id_text a) ++ 47 ∷ id_text a) (take 2 (id_text b) ++ 47 ∷ id_text b) e in
    (one_cut 47 (take 2 (id_text a)) (id_text a) (take 2 (id_text b)) (id_text b) (front_lacks a ha) (front_lacks b hb) below).1

live_parts : (k l : Kind) (a b : Id) → IsDigest a → IsDigest b → path_with k (id_text a) ≡ path_with l (id_text b) → (k ≡ l) × (id_text a ≡ id_text b)
live_parts Pack Pack a b ha hb e = (refl, pack_digits a b ha hb e)
live_parts Index Index a b ha hb e = (refl, append_cancel_left (codes "index/") (id_text a) (id_text b) e)
live_parts Snapshot Snapshot a b ha hb e = (refl, append_cancel_left (codes "snapshots/") (id_text a) (id_text b) e)
live_parts Pack Index a b ha hb e = let first : 100 ≡ 105 = ap letter e in absurd (omega (arith, first))
live_parts Pack Snapshot a b ha hb e = let first : 100 ≡ 115 = ap letter e in absurd (omega (arith, first))
live_parts Index Pack a b ha hb e = let first : 105 ≡ 100 = ap letter e in absurd (omega (arith, first))
live_parts Index Snapshot a b ha hb e = let first : 105 ≡ 115 = ap letter e in absurd (omega (arith, first))
live_parts Snapshot Pack a b ha hb e = let first : 115 ≡ 100 = ap letter e in absurd (omega (arith, first))
live_parts Snapshot Index a b ha hb e = let first : 115 ≡ 105 = ap letter e in absurd (omega (arith, first))

-- ---- the trash

name_parts : (k l : Kind) (a b : Id) → name_path (record { kind = k; id = a }) ≡ name_path (record { kind = l; id = b }) → (k ≡ l) × (id_text a ≡ id_text b)
name_parts Pack Pack a b e = (refl, append_cancel_left (codes "pack/") (id_text a) (id_text b) e)
name_parts Index Index a b e = (refl, append_cancel_left (codes "index/") (id_text a) (id_text b) e)
name_parts Snapshot Snapshot a b e = (refl, append_cancel_left (codes "snapshot/") (id_text a) (id_text b) e)
name_parts Pack Index a b e = let first : 112 ≡ 105 = ap letter e in absurd (omega (arith, first))
name_parts Pack Snapshot a b e = let first : 112 ≡ 115 = ap letter e in absurd (omega (arith, first))
name_parts Index Pack a b e = let first : 105 ≡ 112 = ap letter e in absurd (omega (arith, first))
name_parts Index Snapshot a b e = let first : 105 ≡ 115 = ap letter e in absurd (omega (arith, first))
name_parts Snapshot Pack a b e = let first : 115 ≡ 112 = ap letter e in absurd (omega (arith, first))
name_parts Snapshot Index a b e = let first : 115 ≡ 105 = ap letter e in absurd (omega (arith, first))

trash_parts : (m n : ℕ) (a b : FileName) → IsKey (Trash m a) → IsKey (Trash n b) → key_path (Trash m a) ≡ key_path (Trash n b) → (m ≡ n) × (a ≡ b)
trash_parts m n a b ha hb e =
    let below = append_cancel_left (codes "trash/") (trash_path (m, a)) (trash_path (n, b)) e in
    let parts = one_cut 47 (decimal m) (name_path a) (decimal n) (name_path b) (number_lacks m ha.0) (number_lacks n hb.0) below in
    (decimal_injective m n ha.0 hb.0 parts.0, one_name a b ha.1 hb.1 (name_parts a.kind b.kind a.id b.id parts.1))

-- ---- keys

live_trash : (k : Kind) (a : Id) (rest : List ℕ) → path_with k (id_text a) ≢ codes "trash/" ++ rest
live_trash Pack a rest e = let first : 100 ≡ 116 = ap letter e in omega (arith, first)
live_trash Index a rest e = let first : 105 ≡ 116 = ap letter e in omega (arith, first)
live_trash Snapshot a rest e = let first : 115 ≡ 116 = ap letter e in omega (arith, first)

live_entry : (k : Kind) (a : Id) (rest : List ℕ) → path_with k (id_text a) ≢ codes "journal/" ++ rest
live_entry Pack a rest e = let first : 100 ≡ 106 = ap letter e in omega (arith, first)
live_entry Index a rest e = let first : 105 ≡ 106 = ap letter e in omega (arith, first)
live_entry Snapshot a rest e = let first : 115 ≡ 106 = ap letter e in omega (arith, first)

entry_trash : (k : ℕ) (rest : List ℕ) → key_path (Entry k) ≢ codes "trash/" ++ rest
entry_trash k rest e = let first : 106 ≡ 116 = ap letter e in omega (arith, first)

-- what isn't the path of a file in the trash is no key's path there
pub no_trash : (path rest : List ℕ) → path ≡ codes "trash/" ++ rest → NonePrints IsInTrash trash_path rest → NonePrints IsKey key_path path
no_trash path rest split none (Live a) h e = live_trash a.kind a.id rest (e ∙ split)
no_trash path rest split none (Trash n a) h e = none (n, a) h (append_cancel_left (codes "trash/") (trash_path (n, a)) rest (e ∙ split))
no_trash path rest split none (Entry k) h e = entry_trash k rest (e ∙ split)

pub key_path-exact : (a b : Key) → IsKey a → IsKey b → key_path a ≡ key_path b → a ≡ b
key_path-exact (Live a) (Live b) ha hb e = ap Live (one_name a b ha hb (live_parts a.kind b.kind a.id b.id ha hb e))
key_path-exact (Live a) (Trash n b) ha hb e = absurd (live_trash a.kind a.id (trash_path (n, b)) e)
key_path-exact (Live a) (Entry n) ha hb e = absurd (live_entry a.kind a.id (decimal n) e)
key_path-exact (Trash m a) (Live b) ha hb e = absurd (live_trash b.kind b.id (trash_path (m, a)) (sym e))
key_path-exact (Trash m a) (Trash n b) ha hb e = let parts = trash_parts m n a b ha hb e in ap₂ Trash parts.0 parts.1
key_path-exact (Trash m a) (Entry n) ha hb e = absurd (entry_trash n (trash_path (m, a)) (sym e))
key_path-exact (Entry m) (Live b) ha hb e = absurd (live_entry b.kind b.id (decimal m) (sym e))
key_path-exact (Entry m) (Trash n b) ha hb e = absurd (entry_trash m (trash_path (n, b)) e)
key_path-exact (Entry m) (Entry n) ha hb e = ap Entry (decimal_injective m n ha hb (append_cancel_left (codes "journal/") (decimal m) (decimal n) e))
