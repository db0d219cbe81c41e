use Rattle.std.proofs.Common.{◌≡◌, ◌++◌, map, ap, ◌∙◌}
use Rattle.keep_catalog.specs.Files.{unread_in}
use Rattle.keep_reach.specs.Snapshots.{broken_in}
use Rattle.keep_catalog.specs.Wrong.{wrong_blobs_in}
use Rattle.keep_read.specs.Findings.{misnamed_in}
use Rattle.keep_read.specs.declared.finding.Finding.TheVariants.{Broken, Unreadable, WrongBlob, WrongName}
use Rattle.keep_read.proofs.findings.audit_with.Goals as goal

pub returns : goal.returns
returns g c =
    let r = c.args.view.now.repo in
    let unread : c.add_unread.new.findings.items ≡ map WrongName (misnamed_in r) ++ map Unreadable (unread_in r) =
    c.in_ok-add_unread.ensures
    ∙ ap (λ found. found ++ map Unreadable c.deref.result.now) (c.in_ok-findings.ensures ∙ ap (λ it. map WrongName (misnamed_in it)) c.repo.ensures)
    ∙ ap (λ files. map WrongName (misnamed_in r) ++ map Unreadable files) (c.deref.ensures.value ∙ c.in_ok-unread.ensures ∙ ap unread_in c.in_ok-catalog.ensures) in
    let wrong : c.add_wrong.new.findings.items ≡ (map WrongName (misnamed_in r) ++ map Unreadable (unread_in r)) ++ map (λ w. WrongBlob w.0 w.1) (wrong_blobs_in r) =
    c.in_ok-add_wrong.ensures
    ∙ ap (λ found. found ++ map (λ w. WrongBlob w.0 w.1) c.deref-2.result.now) unread
    ∙ ap (λ blobs. (map WrongName (misnamed_in r) ++ map Unreadable (unread_in r)) ++ map (λ w. WrongBlob w.0 w.1) blobs) (c.deref-2.ensures.value ∙ c.in_ok-wrong.ensures ∙ ap wrong_blobs_in c.in_ok-catalog.ensures) in
    c.in_ok-add_broken.ensures
    ∙ ap (λ found. found ++ map (λ b. Broken b.0 b.1) c.deref-3.result.now) wrong
    ∙ ap (λ snapshots. ((map WrongName (misnamed_in r) ++ map Unreadable (unread_in r)) ++ map (λ w. WrongBlob w.0 w.1) (wrong_blobs_in r)) ++ map (λ b. Broken b.0 b.1) snapshots) (c.deref-3.ensures.value ∙ c.in_ok-broken.ensures ∙ ap broken_in c.in_ok-catalog.ensures)
