use Rattle.std.proofs.Common.{◌≡◌, ◌∙◌, ◌==◌, length, sym, ap, subst, inl, inr}
use Rattle.std.proofs.lemmas.Slice.Eq.{bytes_eq-Decides}
use Rattle.std.specs.Str.Iter.{LacksByte}
use Rattle.keep_files.proofs.Cut.{has_it}
use Rattle.keep_files.specs.Path.{LiesRightIn}
use Rattle.keep_memory_files.proofs.Putting.{no_bytes}
use Rattle.keep_memory_files.proofs.path_bounds.is_held_in.Goals as goal

pub returns-in-Some : goal.returns-in-Some
returns-in-Some c =
    let path = c.args.path.now in
    let folder = c.args.folder.now in
    let home = c.in-Some.home.now in
    let right : LiesRightIn path home = c.in-Some.ensures.home in (
      λ told. inr (subst (LiesRightIn path) ((bytes_eq-Decides home folder).0 (sym c.eq.ensures ∙ told)) right),
      λ h. elim h [
        | inl root ↦ absurd (has_it home right.0 (subst (LacksByte 47) right.2 root.1))
        | inr lies ↦ (let same : home ≡ folder = cc (c.in-Some.ensures.only folder lies) in c.eq.ensures ∙ (bytes_eq-Decides home folder).1 same)
      ],
    )

pub returns-in-None : goal.returns-in-None
returns-in-None c =
    let path = c.args.path.now in
    let folder = c.args.folder.now in (
      λ told. inl (no_bytes folder (sym c.is_empty.ensures ∙ told), c.in-None.ensures.home),
      λ h. elim h [
        | inl root ↦ c.is_empty.ensures ∙ ap (λ p. length p == 0) root.0
        | inr lies ↦ cc (c.in-None.ensures.only folder lies)
      ],
    )
