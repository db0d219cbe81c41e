-- What a stop of the program leaves in a tree.
use Rattle.std.specs.Prelude.{◌≡◌, ℕ, Some, List, [], ◌∷◌, ◌++◌}
use Rattle.keep_files.specs.Act.{Act, Made, Removed, Renamed, Seen, Synced, Wrote, after}
use Rattle.keep_files.specs.Stands.{Stands, put_at}
use Rattle.keep_files.specs.declared.node.Node.TheVariants.{File}

-- what stands after these acts
abbrev pub after_all : Stands → List Act → Stands
after_all stands [] = stands
after_all stands (act ∷ acts) = after_all (after stands act) acts

-- P holds of what a stop in the middle of the act leaves: of a file that is being written, any part
abbrev pub HoldsWithin : (Stands → Type 0) → Stands → Act → Type 0
HoldsWithin P stands (Wrote path bytes) = (part : List ℕ) → P (put_at stands path (Some (File part)))
HoldsWithin P stands (Renamed from to) = P stands
HoldsWithin P stands (Removed path) = P stands
HoldsWithin P stands (Made path) = P stands
HoldsWithin P stands (Synced path) = P stands

-- P holds of what is left wherever the program stops before these acts, in the middle of one, or after them
abbrev pub HoldsAtStops : (Stands → Type 0) → Stands → List Act → Type 0
HoldsAtStops P stands [] = P stands
HoldsAtStops P stands (act ∷ acts) = P stands × HoldsWithin P stands act × HoldsAtStops P (after stands act) acts

-- some acts were done, and P holds of what is left wherever the program stops in their course
pub record Keeps (P : Stands → Type 0) (old new : Seen) : Type 0 where
  pub added : List Act
  pub acts : new.acts ≡ old.acts ++ added
  pub stands : new.stands ≡ after_all old.stands added
  pub stops : HoldsAtStops P old.stands added
