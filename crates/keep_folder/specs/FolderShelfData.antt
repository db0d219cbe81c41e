-- A shelf in a folder as a value.
use Rattle.std.specs.Prelude.{Bool, refl}
use Rattle.std.specs.Coded.{Coded, code_by, coded_bool, coded×}
use Rattle.keep_shelf.specs.Shelved.{Shelved, coded_shelved}

pub record FolderShelfData : Type 0 where
  -- the shelf
  pub shelved : Shelved
  -- whether it is known of each call whether it was done
  pub is_sure : Bool

abbrev pub coded_folder_shelf : Coded FolderShelfData
coded_folder_shelf = code_by (Shelved × Bool) (coded× coded_shelved coded_bool) (λ t. (t.shelved, t.is_sure)) (λ p. record { shelved = p.0; is_sure = p.1 }) (λ _. refl)
