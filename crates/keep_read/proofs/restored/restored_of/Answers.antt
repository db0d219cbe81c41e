use Rattle.std.proofs.Common.{◌≡◌, [], sym, ap, ◌∙◌, map, arith, count_by, is_none}
use Rattle.std.proofs.lemmas.List.{nil_from_length}
use Rattle.std.specs.FinMap as finite
use Rattle.std.specs.List.{filter_map}
use Rattle.keep_read.specs.Contents.{content_view}
use Rattle.keep_read.specs.Restored.{file_with, restored_of}
use Rattle.keep_read.proofs.Files.{entry_view, files_of, kept_file, kept_none, count-views, put_all, put_all-empty}
use Rattle.keep_read.proofs.restored.restored_of.Goals as goal

pub loop-path-init : goal.loop-path-init
loop-path-init c =
    ap (λ es. put_all (filter_map file_with (map content_view c.args.contents.items)) (finite.from_entries (map entry_view es))) c.new-files.ensures.empty
    ∙ put_all-empty _

pub loop-path-preserved-in_ok-insert : goal.loop-path-preserved-in_ok-insert
loop-path-preserved-in_ok-insert c =
    kept_file _ c.pop.new.self.items c.in-Some.field-0 c.loop-path.files _ c.in-Some.ensures.items c.loop-path.invariant c.insert.new.self c.in-Some-bytes.bytes (cc) c.in_ok-insert.ensures.updates

pub loop-path-preserved-in_ok-insert-2 : goal.loop-path-preserved-in_ok-insert-2
loop-path-preserved-in_ok-insert-2 c =
    kept_file _ c.pop.new.self.items c.in-Some.field-0 c.loop-path.files _ c.in-Some.ensures.items c.loop-path.invariant c.insert.new.self c.in-Some-bytes.bytes (cc) c.in_ok-insert.ensures.updates

pub loop-path-preserved : goal.loop-path-preserved
loop-path-preserved c =
    kept_none _ c.pop.new.self.items c.in-Some.field-0 c.loop-path.files _ c.in-Some.ensures.items c.loop-path.invariant (cc)

pub returns : goal.returns
unfolding restored_of
returns c =
    let none : c.loop-path.contents.items ≡ [] = nil_from_length _ (omega (arith, c.in_default.ensures.cases, c.loop-path.contents.ok.0)) in
    ap (λ m. record { files = m; skipped = c.skipped_among-skipped.result }) (sym (ap (λ cs. put_all (filter_map file_with (map content_view cs)) (files_of c.loop-path.files)) none) ∙ c.loop-path.invariant)
    ∙ ap (λ n. record { files = finite.from_entries (filter_map file_with (map content_view c.args.contents.items)); skipped = n })
    (c.skipped_among-skipped.ensures ∙ ap (count_by (λ content. is_none content.bytes)) c.deref.ensures.value ∙ sym (count-views c.args.contents.items))
