-- A folder that is given node by node.
use Rattle.std.proofs.Common.{◌≡◌, ◌<◌, ◌≤◌, ℕ, ◌+◌, min, Bool, true, false, ◌||◌, cond, List, [], ◌∷◌, ◌++◌, length, map, Option, None, Some, Ok, refl, sym, ap, subst, ◌∙◌, append_assoc, append-nil, arith}
use Rattle.std.proofs.lemmas.List.{length-append, map-append}
use Rattle.std.specs.List.{AllByRecursion, list_any}
use Rattle.serde_json.specs.Data.{no_members}
use Rattle.keep_names.specs.declared.id.Id.{Id}
use Rattle.keep_repo.specs.Repository.{Repository}
use Rattle.keep_tree.specs.Tree.{NodeData, dir, file}
use Rattle.keep_plan.specs.Refusal.{unless, unread_first}
use Rattle.keep_plan.specs.declared.plan_error.PlanError.{PlanError}
use Rattle.keep_plan.specs.declared.plan_error.PlanError.TheVariants.{Full, TooDeep}
use Rattle.keep_plan.specs.declared.stored.Stored.{Stored}
use Rattle.keep_build.proofs.Answering.{none_named}
use Rattle.keep_backup.proofs.Offering.{full_last}
use Rattle.keep_backup.proofs.Pieces.{no_pieces, piece_more}
use Rattle.keep_backup.proofs.Planning.{untagged}
use Rattle.keep_backup.specs.Backup.{FactsData, backup_change, backup_of, bad_time, planned, stored_files_of}
use Rattle.keep_backup.specs.Backup.{planned_of as backup_planned_of}
use Rattle.keep_build.specs.Blobs.{BlobData, id_of, is_full, tree_blob}
use Rattle.keep_backup.specs.Folders.{Folder, file_node, folder_node, no_nodes, root_folder}
use Rattle.keep_backup.specs.Paths.{FileData, files_in_order, is_too_deep, path_of}
use Rattle.keep_build.specs.Stored.{stored_of}
use Rattle.keep_backup.specs.Walk.{blobs_below, blobs_of, nodes_of, pieces_of, root_tree, walk_refusal}
use Rattle.keep_archive.specs.Archive.{ArchiveData, BegunData, PlaceData}
use Rattle.keep_archive.specs.Plans.{last_change, last_stored, planned_of}
use Rattle.keep_archive.specs.Steps.{Closes, EndsFile, Opens, Writes, WritesFile, content_of, ended, holding, last_of, piece}
use Rattle.keep_archive.specs.Walked.{Gives, nothing}
use Rattle.keep_archive.proofs.Cuts.{joined}

-- ---- the pieces of a file

short_min : (n k : ℕ) → n < k → n ≡ min k n
short_min n k lt = omega arith

whole_min : (n k : ℕ) → k ≤ n → k ≡ min k n
whole_min n k le = omega arith

last_pieces : (cut : ℕ) (rest : List ℕ) → 0 < cut → length rest < cut → pieces_of cut rest ≡ map piece (last_of rest)
last_pieces cut [] pos short = no_pieces cut [] refl
last_pieces cut (x ∷ xs) pos short =
    piece_more cut (x ∷ xs) (x ∷ xs) [] pos (sym (append-nil (x ∷ xs))) (short_min (length (x ∷ xs)) cut short) (omega arith)
    ∙ ap (λ (bs : List BlobData). piece (x ∷ xs) ∷ bs) (no_pieces cut [] refl)

pub cut_pieces : (cut : ℕ) (bytes : List ℕ) (ps : List (List ℕ)) (rest : List ℕ) → 0 < cut → bytes ≡ joined ps ++ rest → AllByRecursion (λ (p : List ℕ). length p ≡ cut) ps
    → length rest < cut → pieces_of cut bytes ≡ map piece ps ++ map piece (last_of rest)
cut_pieces cut bytes [] rest pos is each short = ap (pieces_of cut) is ∙ last_pieces cut rest pos short
cut_pieces cut bytes (p ∷ ps) rest pos is each short =
    let parts : bytes ≡ p ++ (joined ps ++ rest) = is ∙ append_assoc p (joined ps) rest in
    let count : length bytes ≡ length p + length (joined ps ++ rest) = ap length parts ∙ length-append p (joined ps ++ rest) in
    let long : cut ≤ length bytes = omega (arith, count, each.0) in
    piece_more cut bytes p (joined ps ++ rest) pos parts (each.0 ∙ whole_min (length bytes) cut long) (omega (arith, long, pos))
    ∙ ap (λ (bs : List BlobData). piece p ∷ bs) (cut_pieces cut (joined ps ++ rest) ps rest pos refl each.1 short)

-- ---- what is given

-- the archive has these nodes and blobs more
abbrev more_of : ArchiveData → List NodeData → List BlobData → ArchiveData
more_of a nodes blobs = record {
  place = record { around = a.place.around; nodes = a.place.nodes ++ nodes };
  begun = a.begun;
  blobs = holding blobs a.blobs;
}

-- no file is begun
abbrev IsIdle : ℕ → ArchiveData → Type 0
IsIdle cut a = a.begun ≡ record { cut = cut; content = []; rest = [] }

none_more : (a : ArchiveData) → a ≡ more_of a [] []
none_more a = (λ i. record {
  place = record { around = a.place.around; nodes = (sym (append-nil a.place.nodes)) i };
  begun = a.begun;
  blobs = record { named = a.blobs.named; held = (sym (append-nil a.blobs.held)) i };
})

more_more : (a : ArchiveData) (ns ms : List NodeData) (bs cs : List BlobData) → more_of (more_of a ns bs) ms cs ≡ more_of a (ns ++ ms) (bs ++ cs)
more_more a ns ms bs cs = (λ i. record {
  place = record { around = a.place.around; nodes = (append_assoc a.place.nodes ns ms) i };
  begun = a.begun;
  blobs = record { named = a.blobs.named; held = (append_assoc a.blobs.held bs cs) i };
})

module _ (cut : ℕ) (pos : 0 < cut) where
  -- one file
  abbrev node_of_file : List ℕ → List ℕ → NodeData
  node_of_file name bytes = record { name = name; kind = file (map id_of (pieces_of cut bytes)); others = no_members }

  file_given : (name bytes : List ℕ) (a read done : ArchiveData) → IsIdle cut a → WritesFile bytes a read → EndsFile name no_members read done
      → done ≡ more_of a (node_of_file name bytes ∷ []) (pieces_of cut bytes)
  file_given name bytes a read done idle writes ends = ends ∙ (λ i. record {
    place = record {
      around = (ap (λ (p : PlaceData). p.around) writes.0) i;
      nodes = (ap (λ (p : PlaceData). p.nodes) writes.0) i ++ record { name = name; kind = file (content_is i); others = no_members } ∷ [];
    };
    begun = (begun_is) i;
    blobs = (blobs_is) i;
  }) where
    w : Writes bytes a.begun read.begun a.blobs read.blobs
    w = writes.1

    cut_is : a.begun.cut ≡ cut
    cut_is = ap (λ (b : BegunData). b.cut) idle

    whole_so : bytes ≡ joined w.pieces ++ read.begun.rest
    whole_so = ap (λ (b : BegunData). b.rest ++ bytes) (sym idle) ∙ w.cut_so.whole

    pieces_are : pieces_of cut bytes ≡ map piece w.pieces ++ map piece (last_of read.begun.rest)
    pieces_are = cut_pieces cut bytes w.pieces read.begun.rest pos whole_so
        (subst (λ (n : ℕ). AllByRecursion (λ (p : List ℕ). length p ≡ n) w.pieces) cut_is w.cut_so.each)
        (subst (λ (n : ℕ). length read.begun.rest < n) cut_is w.cut_so.short)

    content_is : content_of read.begun ≡ map id_of (pieces_of cut bytes)
    content_is =
        ap (λ (ids : List Id). ids ++ map id_of (map piece (last_of read.begun.rest)))
        (w.content ∙ ap (λ (b : BegunData). b.content ++ map id_of (map piece w.pieces)) idle)
        ∙ sym (map-append id_of (map piece w.pieces) (map piece (last_of read.begun.rest)))
        ∙ ap (map id_of) (sym pieces_are)

    begun_is : ended read.begun ≡ a.begun
    begun_is = ap (λ (n : ℕ). record { cut = n; content = []; rest = [] }) (w.cut ∙ cut_is) ∙ sym idle

    blobs_is : holding (map piece (last_of read.begun.rest)) read.blobs ≡ holding (pieces_of cut bytes) a.blobs
    blobs_is =
        ap (holding (map piece (last_of read.begun.rest))) w.holds
        ∙ ap (λ held. record { named = a.blobs.named; held = held })
        (append_assoc a.blobs.held (map piece w.pieces) (map piece (last_of read.begun.rest))
        ∙ ap (λ held. a.blobs.held ++ held) (sym pieces_are))

  -- one folder
  abbrev node_of_folder : List ℕ → Folder → NodeData
  node_of_folder name inner = record { name = name; kind = dir (id_of (tree_blob (nodes_of cut inner))); others = no_members }

  -- the last of two lists that are one
  last_one : {X : Type 0} (xs ys : List X) (x y : X) → xs ++ x ∷ [] ≡ ys ++ y ∷ [] → (xs ≡ ys) × (x ≡ y)
  last_one [] [] x y e = (refl, cc e)
  last_one [] (z ∷ []) x y e = cc e
  last_one [] (z ∷ w ∷ ys) x y e = cc e
  last_one (z ∷ []) [] x y e = cc e
  last_one (z ∷ w ∷ xs) [] x y e = cc e
  last_one (u ∷ xs) (v ∷ ys) x y e =
      let head : u ≡ v = cc e in
      let tail : xs ++ x ∷ [] ≡ ys ++ y ∷ [] = cc e in
      let later = last_one xs ys x y tail in
      ((λ i. head i ∷ later.0 i), later.1)

  folder_given : (name : List ℕ) (inner : Folder) (a entered full done : ArchiveData) → Opens name a entered
      → full ≡ more_of entered (nodes_of cut inner) (blobs_below cut inner) → Closes no_members full done
      → done ≡ more_of a (node_of_folder name inner ∷ []) (blobs_below cut inner ++ tree_blob (nodes_of cut inner) ∷ [])
  folder_given name inner a entered full done opens filled closes =
      (λ i. record { place = place_is i; begun = begun_is i; blobs = blobs_is i }) where
        here : full ≡ more_of (record { place = record { around = a.place.around ++ record { name = name; nodes = a.place.nodes } ∷ []; nodes = [] }; begun = a.begun; blobs = a.blobs }) (nodes_of cut inner) (blobs_below cut inner)
        here = filled ∙ ap (λ (x : ArchiveData). more_of x (nodes_of cut inner) (blobs_below cut inner)) opens

        nodes_are : full.place.nodes ≡ nodes_of cut inner
        nodes_are = ap (λ (x : ArchiveData). x.place.nodes) here

        lasts : (closes.outer ≡ a.place.around) × (closes.around ≡ record { name = name; nodes = a.place.nodes })
        lasts = last_one closes.outer a.place.around closes.around (record { name = name; nodes = a.place.nodes })
            (sym closes.inside ∙ ap (λ (x : ArchiveData). x.place.around) here)

        place_is : done.place ≡ record { around = a.place.around; nodes = a.place.nodes ++ node_of_folder name inner ∷ [] }
        place_is = closes.place ∙ (λ i. record {
          around = lasts.0 i;
          nodes = (lasts.1 i).nodes ++ record { name = (lasts.1 i).name; kind = dir (id_of (tree_blob (nodes_are i))); others = no_members } ∷ [];
        })

        begun_is : done.begun ≡ a.begun
        begun_is = closes.begun ∙ ap (λ (x : ArchiveData). x.begun) here

        blobs_is : done.blobs ≡ holding (blobs_below cut inner ++ tree_blob (nodes_of cut inner) ∷ []) a.blobs
        blobs_is =
            closes.blobs ∙ (λ i. holding (tree_blob (nodes_are i) ∷ []) ((ap (λ (x : ArchiveData). x.blobs) here) i))
            ∙ ap (λ held. record { named = a.blobs.named; held = held }) (append_assoc a.blobs.held (blobs_below cut inner) (tree_blob (nodes_of cut inner) ∷ []))

  pub all_given : (folder : Folder) (a made : ArchiveData) → IsIdle cut a → Gives folder a made → made ≡ more_of a (nodes_of cut folder) (blobs_below cut folder)
  all_given no_nodes a made idle gives = gives ∙ none_more a
  all_given (file_node name bytes more) a made idle (read, done, writes, ends, later) =
      let one = file_given name bytes a read done idle writes ends in
      let still : IsIdle cut done = ap (λ (x : ArchiveData). x.begun) one ∙ idle in
      all_given more done made still later
      ∙ ap (λ (x : ArchiveData). more_of x (nodes_of cut more) (blobs_below cut more)) one
      ∙ more_more a (node_of_file name bytes ∷ []) (nodes_of cut more) (pieces_of cut bytes) (blobs_below cut more)
  all_given (folder_node name inner more) a made idle (entered, full, done, opens, inside, closes, later) =
      let begun : IsIdle cut entered = ap (λ (x : ArchiveData). x.begun) opens ∙ idle in
      let one = folder_given name inner a entered full done opens (all_given inner entered full begun inside) closes in
      let still : IsIdle cut done = ap (λ (x : ArchiveData). x.begun) one ∙ idle in
      all_given more done made still later
      ∙ ap (λ (x : ArchiveData). more_of x (nodes_of cut more) (blobs_below cut more)) one
      ∙ more_more a (node_of_folder name inner ∷ []) (nodes_of cut more) (blobs_below cut inner ++ tree_blob (nodes_of cut inner) ∷ []) (blobs_below cut more)

  pub folder_held : (folder : Folder) (made : ArchiveData) → Gives folder (nothing cut) made → made ≡ record {
    place = record { around = []; nodes = nodes_of cut folder };
    begun = record { cut = cut; content = []; rest = [] };
    blobs = record { named = []; held = blobs_below cut folder };
  }
  folder_held folder made gives = all_given folder (nothing cut) made refl gives

-- ---- what is planned

abbrev root_of : ℕ → Folder → Id
root_of cut folder = id_of (root_tree cut folder)

-- no blob of the walk is too long, and so neither is the root's tree
none_full : (deep full : Bool) → cond deep (Some TooDeep) (cond full (Some Full) None) ≡ None → full ≡ false
none_full true full is = cc is
none_full false true is = cc is
none_full false false is = refl

short_tree : (bs : List BlobData) (tree : BlobData) (b : Bool) → is_full tree ≡ b → list_any is_full (bs ++ tree ∷ []) ≡ false → b ≡ false
short_tree bs tree false is none = refl
short_tree bs tree true is none =
    let full : list_any is_full (bs ++ tree ∷ []) ≡ true = full_last bs (tree ∷ []) (ap (λ (x : Bool). x || false) is) in
    let never : true ≡ false = sym full ∙ none in
    cc never

module _ (r : Repository) (facts : FactsData) (cut : ℕ) (files : List FileData) (fits : walk_refusal cut files ≡ None) where
  abbrev folder : Folder
  folder = root_folder files

  tree_short : is_full (root_tree cut folder) ≡ false
  tree_short = short_tree (blobs_below cut folder) (root_tree cut folder) (is_full (root_tree cut folder)) refl
      (none_full (list_any is_too_deep (map path_of files)) (list_any is_full (blobs_of cut folder)) fits)

  abbrev given_so : ArchiveData
  given_so = record {
    place = record { around = []; nodes = nodes_of cut folder };
    begun = record { cut = cut; content = []; rest = [] };
    blobs = record { named = []; held = blobs_below cut folder };
  }

  stored_last : last_stored r given_so ≡ unless (unread_first r) (Ok (root_of cut folder, stored_of r (blobs_of cut folder)))
  stored_last =
      (λ i. unless (unread_first r) (unless (cond (tree_short i) (Some Full) None)
      (Ok (root_of cut folder, none_named r (blobs_of cut folder) i))))

  stored_first : stored_files_of r cut files ≡ unless (unread_first r) (Ok (root_of cut folder, stored_of r (blobs_of cut folder)))
  unfolding stored_files_of
  stored_first = (λ i. unless (unread_first r) (unless (fits i) (Ok (root_of cut folder, stored_of r (blobs_of cut folder)))))

  both_planned : (why : Option PlanError) (stored : Stored)
      → planned_of r facts [] (unless why (Ok (root_of cut folder, stored))) ≡ backup_planned_of r facts (unless why (Ok (root_of cut folder, stored)))
  both_planned (Some error) stored = refl
  both_planned None stored = ap (planned r stored) (untagged facts (root_of cut folder))

  pub planned_alike : (given : List (List ℕ × List ℕ)) → files_in_order given ≡ Ok files → last_change r facts [] given_so ≡ backup_change r facts cut given
  unfolding backup_change
  planned_alike given is =
      ap (λ made. unless (bad_time facts) (planned_of r facts [] made)) stored_last
      ∙ ap (λ made. unless (bad_time facts) made) (both_planned (unread_first r) (stored_of r (blobs_of cut folder)))
      ∙ ap (λ made. unless (bad_time facts) (backup_planned_of r facts made)) (sym stored_first)
      ∙ ap (backup_of r facts cut) (sym is)

pub archives_alike : (r : Repository) (facts : FactsData) (cut : ℕ) (given : List (List ℕ × List ℕ)) (files : List FileData) (made : ArchiveData) → 0 < cut
    → files_in_order given ≡ Ok files → walk_refusal cut files ≡ None → Gives (root_folder files) (nothing cut) made → last_change r facts [] made ≡ backup_change r facts cut given
archives_alike r facts cut given files made pos is fits gives =
    ap (last_change r facts []) (folder_held cut pos (root_folder files) made gives)
    ∙ planned_alike r facts cut files fits given is
