-- Careful calls, put together.
use Rattle.std.proofs.Common.{if◌then◌else◌, ◌≡◌, ◌==◌, ℕ, Bool, true, false, Err, inl, inr, List, [], ◌∷◌, ◌++◌, map, refl, sym, ap, ◌∙◌, subst, append_assoc, append-nil}
use Rattle.std.proofs.lemmas.List.{map-append}
use Rattle.std.specs.List.{Contains}
use Rattle.std.proofs.lemmas.List.Elements.{Contains-append_left}
use Rattle.keep_targets.specs.Call.{Act, Append, Call, Cut, Did, MakeFile, MakeFolder, Refused, appended}
use Rattle.keep_names.specs.declared.id.Id.{Id}
use Rattle.keep_targets.specs.declared.target_error.TargetError.{TargetError}
use Rattle.keep_targets.specs.declared.target_error.Short.{Short}
use Rattle.keep_putting.specs.Filling.{Source, bytes_in, writing}
use Rattle.keep_putting.specs.Careful.{AreAllowed, IsAllowed, IsBeingWritten, IsCarefulFrom, IsOwn, IsOwnFolder, IsOwnPlace}

-- nothing was asked
pub nothing : (calls : List Call) → IsCarefulFrom calls calls
nothing calls = record { more = []; calls = sym (append-nil calls); allowed = tt }

-- what is allowed, and then what is allowed after it
pub allowed_then : (before more after : List Call) → AreAllowed before more → AreAllowed (before ++ more) after → AreAllowed before (more ++ after)
allowed_then before [] after first next = subst (λ c. AreAllowed c after) (append-nil before) next
allowed_then before (Did act ∷ more) after first next =
    (first.0, allowed_then (before ++ Did act ∷ []) more after first.1 (subst (λ c. AreAllowed c after) (sym (append_assoc before (Did act ∷ []) more)) next))
allowed_then before (Refused refusal ∷ more) after first next =
    allowed_then (before ++ Refused refusal ∷ []) more after first (subst (λ c. AreAllowed c after) (sym (append_assoc before (Refused refusal ∷ []) more)) next)
allowed_then before (Cut place bytes short ∷ more) after first next =
    (first.0, allowed_then (before ++ Cut place bytes short ∷ []) more after first.1 (subst (λ c. AreAllowed c after) (sym (append_assoc before (Cut place bytes short ∷ []) more)) next))

-- one careful course after another
pub both : (before between after : List Call) → IsCarefulFrom before between → IsCarefulFrom between after → IsCarefulFrom before after
both before between after first next = record {
  more = first.more ++ next.more;
  calls = next.calls ∙ ap (λ c. c ++ next.more) first.calls ∙ append_assoc before first.more next.more;
  allowed = allowed_then before first.more next.more first.allowed (subst (λ c. AreAllowed c next.more) first.calls next.allowed);
}

-- one act
pub did : (before after : List Call) (act : Act) → after ≡ before ++ Did act ∷ [] → IsAllowed before act → IsCarefulFrom before after
did before after act same allowed = record { more = Did act ∷ []; calls = same; allowed = (allowed, tt) }

-- one that was refused
pub refused : (before after : List Call) (refusal : TargetError) → after ≡ before ++ Refused refusal ∷ [] → IsCarefulFrom before after
refused before after refusal same = record { more = Refused refusal ∷ []; calls = same; allowed = tt }

-- what was done before stays done
pub still : (before after : List Call) (call : Call) → IsCarefulFrom before after → Contains before call → Contains after call
still before after call course h = subst (λ c. Contains c call) (sym course.calls) (Contains-append_left before course.more call h)

pub still_folder : (before after : List Call) (place : List ℕ) → IsCarefulFrom before after → IsOwnFolder before place → IsOwnFolder after place
still_folder before after place course (inl h) = inl h
still_folder before after place course (inr h) = inr (still before after (Did (MakeFolder place)) course h)

pub still_own : (before after : List Call) (place : List ℕ) → IsCarefulFrom before after → IsOwn before place → IsOwn after place
still_own before after place course (inl h) = inl (still before after (Did (MakeFile place)) course h)
still_own before after place course (inr h) = inr (still_folder before after place course h)

pub still_place : (before after : List Call) (place : List ℕ) → IsCarefulFrom before after → IsOwnPlace before place → IsOwnPlace after place
still_place before after place course h = record {
  folder = h.folder;
  name = h.name;
  own = still_folder before after h.folder course h.own;
  named = h.named;
  leads = h.leads;
}

-- ---- a file that is being written

-- right behind its making
pub just_made : (before : List Call) (place : List ℕ) → IsBeingWritten (before ++ Did (MakeFile place) ∷ []) place
just_made before place = record { front = before; parts = []; written = refl }

-- and behind more bytes
pub more_written : (before : List Call) (place part : List ℕ) → IsBeingWritten before place → IsBeingWritten (before ++ Did (Append place part) ∷ []) place
more_written before place part h =
    let shape : List (List ℕ) → List Call = λ parts. map (λ bytes. Did (Append place bytes)) parts in
    record {
      front = h.front;
      parts = h.parts ++ part ∷ [];
      written = ap (λ c. c ++ Did (Append place part) ∷ []) h.written
          ∙ append_assoc h.front (Did (MakeFile place) ∷ shape h.parts) (Did (Append place part) ∷ [])
          ∙ ap (λ c. h.front ++ (Did (MakeFile place) ∷ c)) (sym (map-append (λ bytes. Did (Append place bytes)) h.parts (part ∷ [])));
    }

pub allowed_writing : (pieces : Source) (place : List ℕ) (ids : List Id) (before : List Call) → IsBeingWritten before place
    → AreAllowed before (writing pieces place ids)
allowed_writing pieces place [] before h = tt
allowed_writing pieces place (id ∷ ids) before h =
    (h, allowed_writing pieces place ids (before ++ Did (Append place (bytes_in (pieces id))) ∷ []) (more_written before place (bytes_in (pieces id)) h))

pub still_written : (pieces : Source) (place : List ℕ) (ids : List Id) (before : List Call) → IsBeingWritten before place
    → IsBeingWritten (before ++ writing pieces place ids) place
still_written pieces place [] before h = subst (λ c. IsBeingWritten c place) (sym (append-nil before)) h
still_written pieces place (id ∷ ids) before h =
    let one = Did (Append place (bytes_in (pieces id))) in
    subst (λ c. IsBeingWritten c place) (append_assoc before (one ∷ []) (writing pieces place ids))
    (still_written pieces place ids (before ++ one ∷ []) (more_written before place (bytes_in (pieces id)) h))

-- all pieces were written
pub wrote : (pieces : Source) (place : List ℕ) (ids : List Id) (before after : List Call) → IsBeingWritten before place
    → after ≡ before ++ writing pieces place ids → IsCarefulFrom before after
wrote pieces place ids before after h same =
    record { more = writing pieces place ids; calls = same; allowed = allowed_writing pieces place ids before h }

-- and then a call that was to write more was refused, or wrote a part
allowed_end : (b : Bool) (between : List Call) (place bytes : List ℕ) (short : Short) → IsBeingWritten between place
    → AreAllowed between ((if b then Refused short.refusal else Cut place bytes short) ∷ [])
allowed_end true between place bytes short h = tt
allowed_end false between place bytes short h = (h, tt)

pub stopped : (between after : List Call) (place bytes : List ℕ) (short : Short) → IsBeingWritten between place
    → after ≡ between ++ appended (Err short) place bytes ∷ [] → IsCarefulFrom between after
stopped between after place bytes short h same = record {
  more = appended (Err short) place bytes ∷ [];
  calls = same;
  allowed = allowed_end (short.written == 0) between place bytes short h;
}

pub written_so : (pieces : Source) (place : List ℕ) (ids : List Id) (before after : List Call) → IsBeingWritten before place
    → after ≡ before ++ writing pieces place ids → IsBeingWritten after place
written_so pieces place ids before after h same = subst (λ c. IsBeingWritten c place) (sym same) (still_written pieces place ids before h)
