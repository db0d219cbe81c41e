use Rattle.std.proofs.Common.{Some, map, sym, ap, ◌∙◌}
use Rattle.std.proofs.lemmas.Result.{IfOk-weaker}
use Rattle.std.specs.List.{filter_map}
use Rattle.keep_pack.specs.Reading.{header_of}
use Rattle.keep_catalog.specs.Files.{what_is_read}
use Rattle.keep_catalog.specs.Places.{packed_of}
use Rattle.keep_catalog.specs.Wrong.{wrong_at}
use Rattle.std.specs.FinMap as finite
use Rattle.keep_catalog.proofs.Replaced.{stored_by}
use Rattle.keep_catalog.proofs.wrong.hash_pack.Goals as goal

pub returns-in_default : goal.returns-in_default
returns-in_default c =
    c.new.ensures.items
    ∙ sym (ap (filter_map (wrong_at c.args.repo.now)) (stored_by c.args.repo.now c.args.pack _
    (sym (c.in_default.ensures ∙ ap (finite.get c.args.repo.now.files) c.pack.ensures))))

pub returns : goal.returns
returns c =
    let r = c.args.repo.now in
    IfOk-weaker c.hash_entries.result _ _ (λ blobs is.
    is
    ∙ ap (λ es. filter_map (wrong_at r) (map (packed_of c.args.pack) es)) (c.deref.ensures.value ∙ c.in_ok-entries.ensures.entries ∙ ap (λ bytes. what_is_read (Some (header_of bytes))) c.as_slice.ensures)
    ∙ sym (ap (filter_map (wrong_at r)) (stored_by r c.args.pack _ (sym (c.in-Some.ensures ∙ ap (finite.get r.files) c.pack.ensures))))) c.hash_entries.ensures
