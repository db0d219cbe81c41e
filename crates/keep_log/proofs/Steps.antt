-- What the walks share: a log as a struct of one field that takes no bytes. Assumes `Logic`.
use Rattle.std.proofs.Common.{List, [], ◌∷◌, refl}
use seplogic.Ra.Ura.{Ura}
use mir.Val.{Val, vstruct, vcons, vnil}
use types.Logic.{Logic}
use types.Kit.{Goal, Step, step, Item, ‵, ◌$◌, move, fjoin, fpack, feq_i}
use denote.RattleType.{RattleType, Valss}
use denote.Laws.{Is}
use denote.Param.{param}
use denote.Steps.{nothing, owned}
use denote.Struct.Laws.{makes}
use denote.Struct.Struct.{within}
use Rattle.std.specs.contracts.marker.PhantomData as marker
use Rattle.keep_log.specs.contracts.log.Log as log

-- the marker, and a log, as the machine has them
abbrev pub marked : Val
marked = vstruct vnil

abbrev pub logged : Val
logged = vstruct (vcons marked vnil)

-- how the logic sees the marker
abbrev pub mark : RattleType → RattleType
mark E = marker.the_row (param 0 E)

module _ {M : Type 1} {𝓤 : Ura M} {𝓛 : Logic 𝓤} {K : Type 0} {Γ : List (Item 𝓤)} {G : Goal 𝓤 𝓛.H} where
  -- a log is made of nothing, with any items
  pub log_made : K → (E : RattleType) (items : List E.Denot)
      → Step K 𝓛 (‵ ((log.the_row (param 0 E)).own_val (record { of = record {}; items = items }) (logged ∷ [])) ∷ Γ) G Γ G
  log_made t E items = step (λ s.
      nothing t $ owned t (mark E) (Is (mark E)) (makes (marker.the_type (param 0 E)) tt 𝓛) (record {}) (marked ∷ []) (tt, (refl, tt)) $
      nothing t $ move t (1 ∷ 0 ∷ []) $ fjoin t $ feq_i t (List Val) (logged ∷ []) (logged ∷ []) refl $ fjoin t $
      fpack t (Valss (mark E ∷ [])) (within (record { name = []; args = []; types = []; fields = mark E ∷ [] }) (record {}, tt) (logged ∷ [])) (marked ∷ [], tt) $ fjoin t $ s)
