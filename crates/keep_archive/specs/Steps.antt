-- What each call makes of an archive, and when it is refused.
use Rattle.std.specs.Prelude.{◌≡◌, ◌≢◌, ◌<◌, ℕ, Bool, nat_le, List, [], ◌∷◌, ◌++◌, length, map, Option, None, Some, Result, Ok, Err, codes, if◌then◌else◌}
use Rattle.std.specs.List.{AllByRecursion, flat_map, list_any}
use Rattle.std.specs.Option.{option_or}
use Rattle.std.specs.Str.{bytes_eq}
use Rattle.serde_json.specs.Data.{Members}
use Rattle.keep_names.specs.BlobId.{piece_of}
use Rattle.keep_names.specs.declared.blob.BlobType.TheVariants.{Content}
use Rattle.keep_names.specs.declared.id.Id.{Id}
use Rattle.keep_tree.specs.Names.{is_name}
use Rattle.keep_tree.specs.Tree.{NodeData, dir, file, other, names_of}
use Rattle.keep_plan.specs.declared.plan_error.PlanError.{PlanError}
use Rattle.keep_plan.specs.declared.plan_error.PlanError.TheVariants.{BadPath, Full, Memory, SamePathTwice, TooDeep}
use Rattle.keep_build.specs.Blobs.{BlobData, blob_id_of, id_of, is_full, tree_blob}
use Rattle.keep_archive.specs.Archive.{ArchiveData, AroundData, BegunData, BlobsData, PlaceData}

-- ---- what a call leaves

-- Where a call is to be refused so, or else makes this of an archive: the archive is as it was after a refusal, and
-- shut where memory ran out. A shut one answers that alone.
abbrev pub Leaves : {T : Type 0} → (ArchiveData → Option PlanError) → (ArchiveData → ArchiveData → Type 0)
    → Option ArchiveData → Option ArchiveData → Result T PlanError → Type 0
Leaves refusal Makes None new (Ok done) = ⊥
Leaves refusal Makes None new (Err error) = (error ≡ Memory) × (new ≡ None)
Leaves refusal Makes (Some old) new (Ok done) =
    (refusal old ≡ None) × (made : ArchiveData) × (new ≡ Some made) × Makes old made
Leaves refusal Makes (Some old) new (Err error) =
    (error ≢ Memory → (refusal old ≡ Some error) × (new ≡ Some old)) × (error ≡ Memory → new ≡ None)

-- nothing refuses the call
abbrev pub never : ArchiveData → Option PlanError
never a = None

-- ---- nodes

-- whether a folder of these nodes has the name
abbrev pub has_name : List NodeData → List ℕ → Bool
has_name nodes name = list_any (bytes_eq name) (names_of nodes)

-- why no node of this name can stand beside these: it is none, or one of them has it
abbrev pub name_refusal : List ℕ → List NodeData → Option PlanError
name_refusal name nodes =
    if is_name name then (if has_name nodes name then Some SamePathTwice else None) else Some BadPath

abbrev pub node_refusal : List ℕ → ArchiveData → Option PlanError
node_refusal name a = name_refusal name a.place.nodes

-- one more node of the folder that is open
abbrev pub with_node : NodeData → PlaceData → PlaceData
with_node node place = record { around = place.around; nodes = place.nodes ++ node ∷ [] }

-- ---- folders

-- as many folders can stand around one: trees stand in one another to 256 levels
abbrev pub most_around : ℕ
most_around = 255

abbrev pub deep_refusal : PlaceData → Option PlanError
deep_refusal place = if nat_le most_around (length place.around) then Some TooDeep else None

abbrev pub open_refusal : List ℕ → ArchiveData → Option PlanError
open_refusal name a = option_or (node_refusal name a) (deep_refusal a.place)

-- an empty folder of the name is open in the one that was
abbrev pub opened : List ℕ → PlaceData → PlaceData
opened name place =
    record { around = place.around ++ record { name = name; nodes = place.nodes } ∷ []; nodes = [] }

abbrev pub Opens : List ℕ → ArchiveData → ArchiveData → Type 0
Opens name old made = made ≡ record { place = opened name old.place; begun = old.begun; blobs = old.blobs }

-- one more blob that waits to be stored
abbrev pub holding : List BlobData → BlobsData → BlobsData
holding more blobs = record { named = blobs.named; held = blobs.held ++ more }

-- only the root is open
abbrev pub root_refusal : PlaceData → Option PlanError
root_refusal place = if nat_le (length place.around) 0 then Some BadPath else None

-- the tree of the innermost folder is too long
abbrev pub full_refusal : PlaceData → Option PlanError
full_refusal place = if is_full (tree_blob place.nodes) then Some Full else None

abbrev pub close_refusal : ArchiveData → Option PlanError
close_refusal a = option_or (root_refusal a.place) (full_refusal a.place)

-- the innermost folder is a node of the one around it, its tree's id is the node's, and the tree is held
pub record Closes (others : Members) (old made : ArchiveData) : Type 0 where
  pub outer : List AroundData
  pub around : AroundData
  pub inside : old.place.around ≡ outer ++ around ∷ []
  pub place : made.place ≡ record {
    around = outer;
    nodes = around.nodes ++ record {
      name = around.name;
      kind = dir (id_of (tree_blob old.place.nodes));
      others = others;
    } ∷ [];
  }
  pub begun : made.begun ≡ old.begun
  pub blobs : made.blobs ≡ holding (tree_blob old.place.nodes ∷ []) old.blobs

-- ---- files

-- a piece of a file
abbrev pub piece : List ℕ → BlobData
piece bytes = (Content, bytes)

-- the bytes are cut into pieces of this length, and a rest that is shorter
pub record IsCut (cut : ℕ) (bytes : List ℕ) (pieces : List (List ℕ)) (rest : List ℕ) : Type 0 where
  pub whole : bytes ≡ flat_map (λ (p : List ℕ). p) pieces ++ rest
  pub each : AllByRecursion (λ (p : List ℕ). length p ≡ cut) pieces
  pub short : length rest < cut

-- More bytes of the file that is being read: it and they are cut, the pieces are held, and the rest waits for more.
pub record Writes (bytes : List ℕ) (old made : BegunData) (before after : BlobsData) : Type 0 where
  pub pieces : List (List ℕ)
  pub cut_so : IsCut old.cut (old.rest ++ bytes) pieces made.rest
  pub cut : made.cut ≡ old.cut
  pub content : made.content ≡ old.content ++ map id_of (map piece pieces)
  pub holds : after ≡ holding (map piece pieces) before

abbrev pub WritesFile : List ℕ → ArchiveData → ArchiveData → Type 0
WritesFile bytes old made = (made.place ≡ old.place) × Writes bytes old.begun made.begun old.blobs made.blobs

-- the last piece of a file: what is left behind the others, if there is something
abbrev pub last_of : List ℕ → List (List ℕ)
last_of [] = []
last_of (byte ∷ bytes) = (byte ∷ bytes) ∷ []

-- no file is being read
abbrev pub ended : BegunData → BegunData
ended begun = record { cut = begun.cut; content = []; rest = [] }

-- the pieces of the file that was read
abbrev pub content_of : BegunData → List Id
content_of begun = begun.content ++ map id_of (map piece (last_of begun.rest))

-- the file that was read is a node of the folder that is open, and its last piece is held
abbrev pub with_file : List ℕ → Members → ArchiveData → ArchiveData
with_file name others old = record {
  place = with_node (record { name = name; kind = file (content_of old.begun); others = others }) old.place;
  begun = ended old.begun;
  blobs = holding (map piece (last_of old.begun.rest)) old.blobs;
}

abbrev pub EndsFile : List ℕ → Members → ArchiveData → ArchiveData → Type 0
EndsFile name others old made = made ≡ with_file name others old

-- what was read is of no file
abbrev pub DropsFile : ArchiveData → ArchiveData → Type 0
DropsFile old made = made ≡ record { place = old.place; begun = ended old.begun; blobs = old.blobs }

-- more blobs that have to have a place
abbrev pub naming : List Id → BlobsData → BlobsData
naming content blobs = record { named = blobs.named ++ map piece_of content; held = blobs.held }

-- a file that isn't read is a node of the folder that is open, and its pieces have to have places
abbrev pub SamesFile : List ℕ → List Id → Members → ArchiveData → ArchiveData → Type 0
SamesFile name content others old made = made ≡ record {
  place = with_node (record { name = name; kind = file content; others = others }) old.place;
  begun = old.begun;
  blobs = naming content old.blobs;
}

-- ---- other nodes

-- a type that a node can have that is neither a folder nor a file
abbrev pub type_refusal : List ℕ → Option PlanError
type_refusal type_name =
    if bytes_eq type_name (codes "dir") then Some BadPath
    else (if bytes_eq type_name (codes "file") then Some BadPath else None)

abbrev pub other_refusal : List ℕ → List ℕ → ArchiveData → Option PlanError
other_refusal name type_name a = option_or (node_refusal name a) (type_refusal type_name)

abbrev pub AddsOther : List ℕ → List ℕ → Members → ArchiveData → ArchiveData → Type 0
AddsOther name type_name others old made = made ≡ record {
  place = with_node (record { name = name; kind = other type_name; others = others }) old.place;
  begun = old.begun;
  blobs = old.blobs;
}

-- ---- blobs that are stored

-- what was held is stored: its blobs have to have places from now on
abbrev pub LetsGo : ArchiveData → ArchiveData → Type 0
LetsGo old made = made ≡ record {
  place = old.place;
  begun = old.begun;
  blobs = record { named = old.blobs.named ++ map blob_id_of old.blobs.held; held = [] };
}
