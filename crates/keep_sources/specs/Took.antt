-- That what was met is what the source told, and what is given and named is just that.
use Rattle.std.specs.Prelude.{◌≡◌, ℕ, ◌+◌, ◌-◌, ◌≤◌, ◌⊎◌, Bool, true, false, Option, List, [], ◌∷◌, ◌++◌, map, length, string_bytes, MatchOption}
use Rattle.keep_names.specs.declared.id.Id.{Id}
use Rattle.keep_sources.specs.Given.{Given, GivesAll, Wrote}
use Rattle.keep_sources.specs.Job.{IsUnchanged, is_asked}
use Rattle.keep_sources.specs.Limits.{most_levels, read_limit}
use Rattle.keep_sources.specs.Met.{Leaf, Excluded, Missed, Other, Same, Whole, Broken, Met, End, Then, Inside, below, given_of, given_of_leaf, names_of, skips_of, skips_of_leaf, total, unsaid}
use Rattle.keep_sources.specs.Told.{Told}
use Rattle.keep_sources.specs.declared.scope.Scope.{Scope}
use Rattle.keep_sources.specs.declared.stat.StatKind.{StatKind}
use Rattle.keep_sources.specs.declared.stat.StatKind.TheVariants.{File, Folder}
use Rattle.keep_sources.specs.declared.stat.Stat.{Stat}
use Rattle.keep_sources.specs.declared.skipped.Skipped.{Skipped}
use Rattle.keep_sources.specs.declared.skipped.Why.{Why}
use Rattle.keep_sources.specs.declared.skipped.Why.TheVariants.{TooDeep}
use Rattle.keep_sources.specs.declared.source.FolderListing.{FolderListing}

-- the names of a listing
abbrev pub listed_names : FolderListing → List (List ℕ)
listed_names listing = map string_bytes listing.names.items

-- what is named of a path, as a value
abbrev pub skip_view : Skipped → List ℕ × Why
skip_view skipped = (string_bytes skipped.path, skipped.why)

-- whether something is neither a file nor a folder
abbrev pub is_other : StatKind → Bool
is_other File = false
is_other Folder = false
is_other _ = true

-- the pieces of the file of this path were read one behind another, from this offset on
abbrev pub AreRead : Told → List ℕ → ℕ → List (List ℕ) → Type 0
AreRead told path offset [] = Unit {0}
AreRead told path offset (piece ∷ pieces) = told.read path offset piece × AreRead told path (offset + length piece) pieces

-- the file ends behind so many bytes, or they are more by far than were seen
abbrev pub IsReadOut : Told → List ℕ → ℕ → ℕ → Type 0
IsReadOut told path seen size = told.read path size [] ⊎ (read_limit seen ≤ size)

-- the path was seen, and it is a file that no earlier backup has so
pub record IsNewFile (told : Told) (job : Scope) (path : List ℕ) (sight : Stat) : Type 0 where
  pub seen : told.saw path sight
  pub file : sight.kind ≡ File
  pub new : (content : List Id) → IsUnchanged job path sight content → ⊥

-- a path was told so: it wasn't asked for where it is excluded, and what became of it has a cause
abbrev pub IsLeaf : Told → Scope → ℕ → List ℕ → Leaf → Type 0
IsLeaf told job levels path Excluded = is_asked job path ≡ false
IsLeaf told job levels path (Missed why) =
    (is_asked job path ≡ true)
    × (told.lost path why ⊎ ((why ≡ TooDeep) × (levels ≡ 0) × ((sight : Stat) × told.saw path sight × (sight.kind ≡ Folder))))
IsLeaf told job levels path (Other sight) =
    (is_asked job path ≡ true) × told.saw path sight × (is_other sight.kind ≡ true)
IsLeaf told job levels path (Same sight content) =
    (is_asked job path ≡ true) × told.saw path sight × (sight.kind ≡ File) × IsUnchanged job path sight content
IsLeaf told job levels path (Whole sight pieces) =
    (is_asked job path ≡ true) × IsNewFile told job path sight × AreRead told path 0 pieces
    × IsReadOut told path sight.size (total pieces)
IsLeaf told job levels path (Broken sight pieces why) =
    (is_asked job path ≡ true) × IsNewFile told job path sight × AreRead told path 0 pieces × told.lost path why

-- a folder was seen and listed, and has these names and so many more that can't be said
pub record IsFolder (told : Told) (job : Scope) (levels : ℕ) (path : List ℕ) (sight : Stat) (names : List (List ℕ)) (count : ℕ) : Type 0 where
  pub asked : is_asked job path ≡ true
  pub seen : told.saw path sight
  pub folder : sight.kind ≡ Folder
  pub reached : 1 ≤ levels
  pub listing : FolderListing
  pub listed : told.listed path listing
  pub sayable : listed_names listing ≡ names
  pub unsayable : listing.unsayable ≡ count

-- all that was met in the folder was told so, with so many levels of folders below it
abbrev pub IsMet : Told → Scope → ℕ → List ℕ → Met → Type 0
IsMet told job levels folder End = Unit {0}
IsMet told job levels folder (Then name leaf rest) = IsLeaf told job levels (below folder name) leaf × IsMet told job levels folder rest
IsMet told job levels folder (Inside name sight unsayable inside rest) =
    IsFolder told job levels (below folder name) sight (names_of inside) unsayable
    × IsMet told job (levels - 1) (below folder name) inside × IsMet told job levels folder rest

-- these names of a folder were taken: something was met of each, and that alone is given and named behind what was so before
pub record Took {X : Type 0} (told : Told) (gives : X → Given → X → Type 0) (job : Scope) (levels : ℕ) (folder : List ℕ) (names : List (List ℕ)) (given given_now : X)
    (skips skips_now : List Skipped) : Type 0 where
  pub met : Met
  pub is : IsMet told job levels folder met
  pub all : names_of met ≡ names
  pub gave : GivesAll gives given (given_of met) given_now
  pub named : map skip_view skips_now ≡ map skip_view skips ++ skips_of folder met

-- one of these became of a name, told so, and that alone is given and named
pub record TookLeaf {X : Type 0} (told : Told) (gives : X → Given → X → Type 0) (job : Scope) (levels : ℕ) (path name : List ℕ) (given given_now : X)
    (skips skips_now : List Skipped) : Type 0 where
  pub leaf : Leaf
  pub is : IsLeaf told job levels path leaf
  pub gave : GivesAll gives given (given_of_leaf name leaf) given_now
  pub named : map skip_view skips_now ≡ map skip_view skips ++ skips_of_leaf path leaf

-- the names of a listing were taken, and those that can't be said are named
pub record TookListed {X : Type 0} (told : Told) (gives : X → Given → X → Type 0) (job : Scope) (levels : ℕ) (folder : List ℕ) (listing : FolderListing) (given given_now : X)
    (skips skips_now : List Skipped) : Type 0 where
  pub met : Met
  pub is : IsMet told job levels folder met
  pub all : names_of met ≡ listed_names listing
  pub gave : GivesAll gives given (given_of met) given_now
  pub named : map skip_view skips_now ≡ map skip_view skips ++ (unsaid folder listing.unsayable ++ skips_of folder met)

-- all below the root was taken, or the root can't be listed and is named
abbrev pub TookAll : {X : Type 0} → Told → (X → Given → X → Type 0) → Scope → X → X → List Skipped → List Skipped → Type 0
TookAll told gives job given given_now skips skips_now =
    ((listing : FolderListing) × told.listed [] listing × TookListed told gives job most_levels [] listing given given_now skips skips_now)
    ⊎ ((why : Why) × told.lost [] why × (given_now ≡ given) × (map skip_view skips_now ≡ map skip_view skips ++ ([], why) ∷ []))

-- pieces of a file were read and given, up to its end or to a failure
pub record CopiedFile {X : Type 0} (told : Told) (gives : X → Given → X → Type 0) (path : List ℕ) (seen : ℕ) (given given_now : X) (size : ℕ) (failure : Option Why) : Type 0 where
  pub pieces : List (List ℕ)
  pub gave : GivesAll gives given (map Wrote pieces) given_now
  pub read : AreRead told path 0 pieces
  pub bytes : size ≡ total pieces
  pub ended : MatchOption failure (IsReadOut told path seen size) (λ why. told.lost path why)
