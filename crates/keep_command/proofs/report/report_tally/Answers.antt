use Rattle.keep_command.proofs.ReportLemmas.{lines-flushed, reports-flushed}
use Rattle.keep_command.specs.Following.{report_text}
use Rattle.keep_command.proofs.report.report_tally.Goals as goal

pub returns-in-Ok-clause-reports : goal.returns-in-Ok-clause-reports
returns-in-Ok-clause-reports g c =
    reports-flushed (g.W.Write.contents c.args.writer.now) (g.W.Write.contents c.put_line.new.writer) (g.W.Write.contents c.flush.new.self)
    (report_text c.args.report.size c.args.report.tally.accepted c.args.report.tally.length) c.flush.result c.end_flushed.result
    c.in-Ok.ensures.puts c.flush.ensures.bytes c.end_flushed.ensures

pub returns-in-Ok-clause-whole : goal.returns-in-Ok-clause-whole
returns-in-Ok-clause-whole g c = λ other.
    lines-flushed (g.W.Write.contents c.args.writer.now) (g.W.Write.contents c.put_line.new.writer) (g.W.Write.contents c.flush.new.self)
    (report_text c.args.report.size c.args.report.tally.accepted c.args.report.tally.length) c.in-Ok.ensures.puts c.flush.ensures.bytes
