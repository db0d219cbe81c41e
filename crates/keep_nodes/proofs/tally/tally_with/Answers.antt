use Rattle.std.proofs.Common.{map, sym, ◌∙◌}
use Rattle.keep_nodes.specs.Entries.{EntryData, entry_view}
use Rattle.keep_nodes.specs.Tallies.{is_file, is_folder, is_other}
use Rattle.keep_nodes.proofs.Sums.{count-view, tally_made}
use Rattle.keep_nodes.proofs.tally.tally_with.Goals as goal

pub returns-clause-tally : goal.returns-clause-tally
returns-clause-tally c =
    let entries = c.args.entries.now in
    tally_made c.args.catalog.now (map entry_view entries) c.files_among.result c.folders_among.result c.others_among.result c.in_ok-bytes.bytes
    (c.files_among.ensures ∙ sym (count-view entry_view (λ (e : EntryData). is_file e.node.kind) entries))
    (c.folders_among.ensures ∙ sym (count-view entry_view (λ (e : EntryData). is_folder e.node.kind) entries))
    (c.others_among.ensures ∙ sym (count-view entry_view (λ (e : EntryData). is_other e.node.kind) entries))
    c.in_ok-bytes.ensures.bytes
