use Rattle.std.proofs.lemmas.Result.{IfOk-weaker}
use Rattle.serde_json.specs.View.{view}
use Rattle.keep_snap.specs.Snap.{snap_view}
use Rattle.keep_snap.proofs.RoundTrip.{written_back, written_text}
use Rattle.keep_snap.proofs.snap_writing.write_snap.Goals as goal

pub returns-clause-text : goal.returns-clause-text
returns-clause-text c =
    IfOk-weaker c.write_doc.result _ _
    (λ bytes text. written_text bytes.items (view c.in_ok-value.value) (snap_view c.args.snap.now) c.in_ok-value.ensures text)
    c.write_doc.ensures.text

pub returns-clause-reads_back : goal.returns-clause-reads_back
returns-clause-reads_back c =
    IfOk-weaker c.write_doc.result _ _
    (λ bytes back. written_back bytes.items (view c.in_ok-value.value) (snap_view c.args.snap.now) c.in_ok-value.ensures back)
    c.write_doc.ensures.reads_back
