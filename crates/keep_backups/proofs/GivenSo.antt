-- What a call gives an archive.
use Rattle.std.proofs.Common.{◌≡◌, Option, None, Some, Result, Ok, OnOk, refl, sym, ap, subst}
use Rattle.std.proofs.lemmas.Result.{on_ok_weaker}
use Rattle.keep_archive.specs.Archive.{ArchiveData, archive_view}
use Rattle.keep_archive.specs.Steps.{Leaves}
use Rattle.keep_archive.specs.declared.archive.Archive.{Archive}
use Rattle.keep_plan.specs.declared.plan_error.PlanError.{PlanError}
use Rattle.keep_sources.specs.Given.{Given}
use Rattle.keep_sources.specs.declared.receives.Stop.{Stop}
use Rattle.keep_backups.specs.Taken.{Does, Gives, taken_of}

given_open : (given : Given) (refusal : ArchiveData → Option PlanError) (Makes : ArchiveData → ArchiveData → Type 0) (old new : Option ArchiveData)
    → ((a b : ArchiveData) → Makes a b → Does given a b) → Leaves refusal Makes old new (Ok (tt {0})) → Gives (taken_of old) given (taken_of new)
given_open given refusal Makes None new does leaves = absurd leaves
given_open given refusal Makes (Some a) new does (free, made, is, makes) =
    record { old = a; made = made; was = refl; is = ap taken_of is; does = does a made makes }

-- where the archive did what it is given
pub given_so : (given : Given) (refusal : ArchiveData → Option PlanError) (Makes : ArchiveData → ArchiveData → Type 0) (old new now : Archive)
    (done : Result (Unit {0}) PlanError) (told : Result (Unit {0}) Stop)
    → ((a b : ArchiveData) → Makes a b → Does given a b) → Leaves refusal Makes (archive_view old) (archive_view new) done
    → OnOk told (done ≡ Ok (tt {0})) → now ≡ new → OnOk told (Gives (taken_of (archive_view old)) given (taken_of (archive_view now)))
given_so given refusal Makes old new now done told does leaves ok same =
    on_ok_weaker told
    (λ (is : done ≡ Ok (tt {0})).
    let made : Gives (taken_of (archive_view old)) given (taken_of (archive_view new)) =
    given_open given refusal Makes (archive_view old) (archive_view new) does (subst (Leaves refusal Makes (archive_view old) (archive_view new)) is leaves) in
    subst (λ (x : Archive). Gives (taken_of (archive_view old)) given (taken_of (archive_view x))) (sym same) made)
    ok
