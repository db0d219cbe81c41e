-- What a restore may ask of its target: all that it makes lies in folders that it made itself, under names that files can
-- have, and it writes to nothing and sets nothing that it didn't make itself.
use Rattle.std.specs.Prelude.{◌≡◌, ℕ, ◌⊎◌, IsTrue, List, [], ◌∷◌, ◌++◌, codes, map, Contains}
use Rattle.keep_tree.specs.Names.{is_name}
use Rattle.keep_targets.specs.Call.{Act, Append, Call, Cut, Did, MakeFile, MakeFolder, MakeLink, Refused, SetLinkOwner, SetMode, SetOwner, SetTimes}

-- the root, or a folder that was made
abbrev pub IsOwnFolder : List Call → List ℕ → Type 0
IsOwnFolder calls place = (place ≡ []) ⊎ Contains calls (Did (MakeFolder place))

-- a name that a file can have (POSIX, "Filename") leads there from the root or from a folder that was made
pub record IsOwnPlace (calls : List Call) (place : List ℕ) : Type 0 where
  pub folder : List ℕ
  pub name : List ℕ
  pub own : IsOwnFolder calls folder
  pub named : IsTrue (is_name name)
  pub leads : place ≡ folder ++ (codes "/" ++ name)

-- nothing was done since the file there was made, but that bytes were written to it
pub record IsBeingWritten (calls : List Call) (place : List ℕ) : Type 0 where
  pub front : List Call
  pub parts : List (List ℕ)
  pub written : calls ≡ front ++ (Did (MakeFile place) ∷ map (λ part. Did (Append place part)) parts)

-- a file or folder there was made, or it is the root
abbrev pub IsOwn : List Call → List ℕ → Type 0
IsOwn calls place = Contains calls (Did (MakeFile place)) ⊎ IsOwnFolder calls place

-- a link there was made
abbrev pub IsOwnLink : List Call → List ℕ → Type 0
IsOwnLink calls place = (to : List ℕ) × Contains calls (Did (MakeLink place to))

-- what may be asked next
abbrev pub IsAllowed : List Call → Act → Type 0
IsAllowed calls (MakeFolder place) = IsOwnPlace calls place
IsAllowed calls (MakeFile place) = IsOwnPlace calls place
IsAllowed calls (Append place bytes) = IsBeingWritten calls place
IsAllowed calls (MakeLink place to) = IsOwnPlace calls place
IsAllowed calls (SetOwner place owner) = IsOwn calls place
IsAllowed calls (SetLinkOwner place owner) = IsOwnLink calls place
IsAllowed calls (SetMode place mode) = IsOwn calls place
IsAllowed calls (SetTimes place times) = IsOwn calls place

-- each of the calls to come is allowed after those before it; what was refused did nothing
abbrev pub AreAllowed : List Call → List Call → Type 0
AreAllowed calls [] = Unit {0}
AreAllowed calls (Did act ∷ more) = IsAllowed calls act × AreAllowed (calls ++ Did act ∷ []) more
AreAllowed calls (Refused refusal ∷ more) = AreAllowed (calls ++ Refused refusal ∷ []) more
AreAllowed calls (Cut place bytes short ∷ more) = IsBeingWritten calls place × AreAllowed (calls ++ Cut place bytes short ∷ []) more

-- some calls came, each of them allowed
pub record IsCarefulFrom (before after : List Call) : Type 0 where
  pub more : List Call
  pub calls : after ≡ before ++ more
  pub allowed : AreAllowed before more
