-- A file is its pieces, one after another (restic's design document, "Trees and Data").
use Rattle.std.specs.Prelude.{◌≡◌, ℕ, ◌<◌, ◌+◌, ◌-◌, ◌^◌, min, is_some, Option, None, Some, Err, List, [], ◌∷◌, ◌++◌, map, length, sum_by, take, slice_index_or}
use Rattle.std.specs.List.{AllPass, HoldsAt}
use Rattle.keep_names.specs.declared.id.Id.{Id}
use Rattle.keep_targets.specs.Call.{Append, Call, Did, MakeFile, Refused, appended}
use Rattle.keep_targets.specs.declared.target_error.TargetError.{TargetError}
use Rattle.keep_targets.specs.declared.target_error.Short.{Short}
use Rattle.keep_putting.specs.declared.hurt.Hurt.{Hurt}
use Rattle.keep_putting.specs.declared.hurt.Hurt.TheVariants as hurt

-- the bytes under each id that has any
abbrev pub Source : Type 0
Source = Id → Option (List ℕ)

-- the bytes of a piece that can be had
abbrev pub bytes_in : Option (List ℕ) → List ℕ
bytes_in (Some bytes) = bytes
bytes_in None = []

-- each piece can be had
abbrev pub AreHad : Source → List Id → Type 0
AreHad pieces ids = AllPass (λ id. is_some (pieces id)) ids

-- the pieces are written, one after another
abbrev pub writing : Source → List ℕ → List Id → List Call
writing pieces place ids = map (λ id. Did (Append place (bytes_in (pieces id)))) ids

-- the file is made, and its pieces are written
abbrev pub filling : Source → List ℕ → List Id → List Call
filling pieces place ids = Did (MakeFile place) ∷ writing pieces place ids

-- how many bytes they have, up to the last number of 64 bits
abbrev pub pieces_size : Source → List Id → ℕ
pieces_size pieces ids = min (sum_by (λ id. length (bytes_in (pieces id))) ids) (2 ^ 64 - 1)

-- a piece couldn't be written whole
pub record IsCut (pieces : Source) (place : List ℕ) (ids : List Id) (before after : List Call) (written : ℕ) (refusal : TargetError) : Type 0 where
  -- so many were
  pub done : ℕ
  pub below : done < length ids
  pub short : Short
  pub calls : (id : Id) → after ≡ before ++ (writing pieces place (take done ids)
      ++ appended (Err short) place (bytes_in (pieces (slice_index_or ids done id))) ∷ [])
  pub size : written ≡ min (pieces_size pieces (take done ids) + short.written) (2 ^ 64 - 1)
  pub cause : refusal ≡ short.refusal

-- a piece can't be had
pub record IsLost (pieces : Source) (place : List ℕ) (ids : List Id) (before after : List Call) (written : ℕ) : Type 0 where
  -- so many were written
  pub done : ℕ
  pub below : done < length ids
  pub lost : HoldsAt (λ id. pieces id ≡ None) ids done
  pub calls : after ≡ before ++ writing pieces place (take done ids)
  pub size : written ≡ pieces_size pieces (take done ids)

-- why pieces weren't all written, and what was
abbrev pub IsStopped : Source → List ℕ → List Id → List Call → List Call → Hurt → Type 0
IsStopped pieces place ids before after (hurt.NotMade refusal) = ⊥
IsStopped pieces place ids before after (hurt.Cut written refusal) = IsCut pieces place ids before after written refusal
IsStopped pieces place ids before after (hurt.Lost written) = IsLost pieces place ids before after written

-- why a file isn't whole, and what there is of it
abbrev pub IsHurt : Source → List ℕ → List Id → List Call → List Call → Hurt → Type 0
IsHurt pieces place ids before after (hurt.NotMade refusal) = after ≡ before ++ Refused refusal ∷ []
IsHurt pieces place ids before after (hurt.Cut written refusal) =
    IsCut pieces place ids (before ++ Did (MakeFile place) ∷ []) after written refusal
IsHurt pieces place ids before after (hurt.Lost written) =
    IsLost pieces place ids (before ++ Did (MakeFile place) ∷ []) after written
