-- The file that is under way is no key's.
use Rattle.std.proofs.Common.{◌≡◌, ◌≢◌, ℕ, false, List, refl, sym, ap, ◌∙◌}
use Rattle.std.proofs.lemmas.Bool.{false≢true}
use Rattle.keep_paths.specs.KeyPath.{key_path}
use Rattle.keep_shelf.specs.declared.key.Key.{Key}
use Rattle.keep_shelf.specs.declared.key.Key.TheVariants.{Live, Trash, Entry}
use Rattle.keep_names.specs.FileName.{path_with}
use Rattle.keep_names.specs.Id.{id_text}
use Rattle.keep_names.specs.declared.file_name.Kind.{Kind}
use Rattle.keep_names.specs.declared.file_name.Kind.TheVariants.{Pack, Index, Snapshot}
use Rattle.keep_names.specs.declared.id.Id.{Id}
use Rattle.keep_keyed_folder.specs.Tmp.{IsTmp, is_tmp_name}

live_name : (kind : Kind) (id : Id) → is_tmp_name (path_with kind (id_text id)) ≡ false
live_name Pack id = refl
live_name Index id = refl
live_name Snapshot id = refl

-- no key's path begins so
key_name : (key : Key) → is_tmp_name (key_path key) ≡ false
key_name (Live name) = live_name name.kind name.id
key_name (Trash n name) = refl
key_name (Entry n) = refl

pub not_tmp : (key : Key) (tmp : List ℕ) → IsTmp tmp → key_path key ≢ tmp
not_tmp key tmp tmp_is e = false≢true (sym (key_name key) ∙ ap is_tmp_name e ∙ tmp_is.1)
