use Rattle.std.proofs.Common.{◌≡◌, ◌∙◌, [], ap, map}
use Rattle.std.specs.FinMap as finite
use Rattle.keep_opening.proofs.Glued.{tells_formed}
use Rattle.keep_damage.specs.Compared.{noted}
use Rattle.keep_damage.specs.Damage.{IsDamage, IsLeft}
use Rattle.keep_damage.specs.Entries.{entry_finding, sign_of}
use Rattle.keep_damage.proofs.Damages.{damage_of_entries, damage_of_rest, if_ok}
use Rattle.keep_damage.proofs.damage.findings.Goals as goal

pub damage_of_files-requires : goal.damage_of_files-requires
damage_of_files-requires c = record {
  formed = tells_formed (finite.get c.args.stock.now) c.in_ok-leaves.leaves.items c.in_ok-leaves.ensures c.in-Ok.ensures.right c.in-Ok.history.journal c.in-Ok.ensures.told;
}

pub returns-in-Ok : goal.returns-in-Ok
returns-in-Ok c =
    if_ok c.damage_of_files.result (λ found. IsLeft (finite.get c.args.stock.now) c.in-Ok.history.journal found.items) (λ found. IsDamage (finite.get c.args.stock.now) found.items)
    c.damage_of_files.ensures (λ found left.
    damage_of_rest (finite.get c.args.stock.now) c.in_ok-leaves.leaves.items c.in-Ok.history.journal found.items c.in_ok-leaves.ensures c.in-Ok.ensures.right c.in-Ok.ensures.told left)

pub returns-in-Err-BadEntry : goal.returns-in-Err-BadEntry
returns-in-Err-BadEntry c =
    let first = c.in-Err-BadEntry.first in
    let leaves = c.in_ok-leaves.leaves.items in
    let signs : c.as_slice-in-Err-BadEntry.result.now ≡ map sign_of leaves =
    c.as_slice-in-Err-BadEntry.ensures.value ∙ c.in_ok-signs.ensures ∙ ap (map sign_of) c.as_slice.ensures.value in
    if_ok c.bad_entries.result (λ found. found.items ≡ noted (entry_finding first) c.as_slice-in-Err-BadEntry.result.now []) (λ found. IsDamage (finite.get c.args.stock.now) found.items)
    c.bad_entries.ensures (λ found is.
    damage_of_entries (finite.get c.args.stock.now) leaves first found.items c.in_ok-leaves.ensures (c.in-Err-BadEntry.ensures.bad first c.in-Err-BadEntry.field-0-is)
    (is ∙ ap (λ ss. noted (entry_finding first) ss []) signs))
