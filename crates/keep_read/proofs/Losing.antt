-- An audit of a sound repository finds no lost blob.
use Rattle.std.proofs.Common.{List, [], ◌∷◌, ◌++◌, map}
use Rattle.std.specs.List.{All, AllByRecursion}
use Rattle.std.proofs.lemmas.List.Elements.{All-from_recursion, recursion_from_All}
use Rattle.keep_names.specs.declared.blob.BlobId.{BlobId}
use Rattle.keep_names.specs.declared.id.Id.{Id}
use Rattle.keep_repo.specs.Repository.{Repository}
use Rattle.keep_catalog.specs.Files.{unread_in}
use Rattle.keep_reach.specs.Snapshots.{broken_in}
use Rattle.keep_reach.specs.Sound.{IsOfTree, IsSound}
use Rattle.keep_catalog.specs.Wrong.{wrong_blobs_in}
use Rattle.keep_catalog.specs.declared.reach_error.ReachError.{ReachError}
use Rattle.keep_read.specs.Findings.{findings_in, misnamed_in}
use Rattle.keep_read.specs.Losses.{LosesNoBlob, SoundLosesNoBlob}
use Rattle.keep_read.specs.declared.finding.Finding.{Finding}
use Rattle.keep_read.specs.declared.finding.Finding.TheVariants.{Broken, Unreadable, WrongBlob, WrongName}

each_mapped : {X : Type 0} (f : X → Finding) → ((x : X) → LosesNoBlob (f x)) → (xs : List X) → AllByRecursion LosesNoBlob (map f xs)
each_mapped f loses [] = tt
each_mapped f loses (x ∷ xs) = (loses x, each_mapped f loses xs)

each_broken : (broken : List (Id × ReachError)) → AllByRecursion (λ b. IsOfTree b.1) broken → AllByRecursion LosesNoBlob (map (λ b. Broken b.0 b.1) broken)
each_broken [] of_trees = tt
each_broken (b ∷ bs) of_trees = (of_trees.0, each_broken bs of_trees.1)

and_then : (xs ys : List Finding) → AllByRecursion LosesNoBlob xs → AllByRecursion LosesNoBlob ys → AllByRecursion LosesNoBlob (xs ++ ys)
and_then [] ys _ later = later
and_then (x ∷ xs) ys first later = (first.0, and_then xs ys first.1 later)

pub sound_loses_no_blob : ((r : Repository) → IsSound r → All (λ b. IsOfTree b.1) (broken_in r)) → SoundLosesNoBlob
sound_loses_no_blob by_trees r sound =
    let names = map WrongName (misnamed_in r) in
    let files = map Unreadable (unread_in r) in
    let blobs = map (λ (w : Id × BlobId). WrongBlob w.0 w.1) (wrong_blobs_in r) in
    let broken = map (λ (b : Id × ReachError). Broken b.0 b.1) (broken_in r) in
    let first = and_then names files (each_mapped WrongName (λ _. tt) (misnamed_in r)) (each_mapped Unreadable (λ _. tt) (unread_in r)) in
    let later = and_then (names ++ files) blobs first (each_mapped (λ (w : Id × BlobId). WrongBlob w.0 w.1) (λ _. tt) (wrong_blobs_in r)) in
    let last = each_broken (broken_in r) (recursion_from_All (λ b. IsOfTree b.1) (broken_in r) (by_trees r sound)) in
    All-from_recursion LosesNoBlob (findings_in r) (and_then (names ++ files ++ blobs) broken later last)
