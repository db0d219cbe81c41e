-- The order of keys, also in plain words, and their code: what a finite map with such keys is made of.
use Rattle.std.specs.Prelude.{◌≡◌, ℕ, ◌<◌, ◌⊎◌, refl}
use Rattle.std.proofs.Common.{inl, inr}
use Rattle.std.specs.Coded.{Coded, code_by, coded_ℕ, coded×, coded⊎}
use Rattle.std.specs.declared.cmp.Ordering.{Ordering}
use Rattle.std.specs.declared.cmp.Ordering.TheVariants.{Less}
use Rattle.keep_names.specs.Orders.{coded_name, name_cmp}
use Rattle.keep_names.specs.declared.file_name.FileName.{FileName}
use Rattle.keep_shelf.specs.declared.key.Key.{Key}
use Rattle.keep_shelf.specs.declared.key.Key.TheVariants.{Live, Trash, Entry}
use Rattle.keep_shelf.specs.contracts.key.KeyOrd.TheImpl as the_key_order

-- live files, then the trash, then entries
abbrev pub key_cmp : Key → Key → Ordering
key_cmp = (the_key_order.ghosts).cmp

-- the order of keys in plain words
pub record KeysAreOrdered : Type 0 where
  pub live_before_trash : (live name : FileName) (n : ℕ) → key_cmp (Live live) (Trash n name) ≡ Less
  pub live_before_entries : (live : FileName) (k : ℕ) → key_cmp (Live live) (Entry k) ≡ Less
  pub trash_before_entries : (n k : ℕ) (name : FileName) → key_cmp (Trash n name) (Entry k) ≡ Less
  pub live_by_name : (a b : FileName) → key_cmp (Live a) (Live b) ≡ name_cmp a b
  pub trash_by_number : (m n : ℕ) (a b : FileName) → m < n → key_cmp (Trash m a) (Trash n b) ≡ Less
  pub trash_by_name : (n : ℕ) (a b : FileName) → key_cmp (Trash n a) (Trash n b) ≡ name_cmp a b
  pub entries_by_number : (j k : ℕ) → j < k → key_cmp (Entry j) (Entry k) ≡ Less

-- a key is a name, a number and a name, or a number
abbrev pub key_parts : Key → FileName ⊎ ((ℕ × FileName) ⊎ ℕ)
key_parts (Live name) = inl name
key_parts (Trash n name) = inr (inl (n, name))
key_parts (Entry k) = inr (inr k)

-- the key of these parts
abbrev pub key_of : FileName ⊎ ((ℕ × FileName) ⊎ ℕ) → Key
key_of (inl name) = Live name
key_of (inr (inl p)) = Trash p.0 p.1
key_of (inr (inr k)) = Entry k

pub key_of-key_parts : (key : Key) → key_of (key_parts key) ≡ key
key_of-key_parts (Live name) = refl
key_of-key_parts (Trash n name) = refl
key_of-key_parts (Entry k) = refl

abbrev pub coded_key : Coded Key
coded_key =
    code_by (FileName ⊎ ((ℕ × FileName) ⊎ ℕ)) (coded⊎ coded_name (coded⊎ (coded× coded_ℕ coded_name) coded_ℕ))
    key_parts key_of key_of-key_parts
