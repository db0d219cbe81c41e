-- What a refusal of the book says, and what to do then.
use Rattle.std.specs.Prelude.{ℕ, ◌==◌, List, ◌++◌, codes, if◌then◌else◌}
use Rattle.std.specs.Fmt.{decimal}
use Rattle.keep_repo.specs.Facet.{facet_text}
use Rattle.keep_ledger.specs.declared.reply.Refusal.{Refusal}
use Rattle.keep_ledger.specs.declared.reply.Refusal.TheVariants.{Malformed, Unknown, Final, NotInForce, InForce, Full, Stale, Vetoed, Unmet, LeanedOn, Blocked, Memory, Fault, Unsettled}

-- where a change of this number can't be made again: its own conditions aren't met, or another change stands in its way
abbrev pub blocked_advice : (about number : ℕ) → List ℕ
blocked_advice about number =
    if number == about
    then codes "what change " ++ (decimal about ++ (codes " asks for isn't there now: keep show " ++ (decimal about ++ codes " tells what that is")))
    else codes "change " ++ (decimal number ++ (codes " stands in the way of " ++ (decimal about ++ (codes ": undo " ++ (decimal number ++ codes " first")))))

-- the refusal of a request about the change of this number: what keeps it from being done, and behind a colon what to do
abbrev pub advice_text : ℕ → Refusal → List ℕ
advice_text about Malformed = codes "the planned change isn't well formed: this is an error of keep"
advice_text about Unknown = codes "there is no change " ++ (decimal about ++ codes ": keep history lists them")
advice_text about Final = codes "change " ++ (decimal about ++ codes " is final: keep history tells which ones aren't")
advice_text about NotInForce =
    codes "change " ++ (decimal about ++ (codes " is undone: keep redo " ++ (decimal about ++ codes " makes it again")))
advice_text about InForce =
    codes "change " ++ (decimal about ++ (codes " is in force: keep undo " ++ (decimal about ++ codes " takes it back")))
advice_text about Full =
    codes "a limit is passed, of events, of changes or of files in one change: do less at once, or go on in a new repository"
advice_text about (Stale length) = codes "event " ++ (decimal length ++ codes " came meanwhile: run the command again")
advice_text about (Vetoed name) = codes "the veto " ++ (name ++ codes " refuses it: run it without that veto")
advice_text about (Unmet facet) = facet_text facet ++ codes " isn't as the change asks: keep check lists what is wrong"
advice_text about (LeanedOn number) =
    codes "change " ++ (decimal number ++ (codes " leans on " ++ (decimal about ++ (codes ": undo " ++ (decimal number
    ++ (codes " first, or keep undo " ++ (decimal about ++ codes " --with-all")))))))
advice_text about (Blocked number) = blocked_advice about number
advice_text about Memory = codes "no memory: run it with more"
advice_text about Fault =
    codes "the repository's folder failed, and nothing was changed: make room, and see that all in it can be written"
advice_text about (Unsettled number) =
    codes "change " ++ (decimal number ++ codes " is done, and then the repository's folder failed: make room, and the next command goes on from there")
