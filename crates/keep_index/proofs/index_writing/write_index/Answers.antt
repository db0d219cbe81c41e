use Rattle.serde_json.specs.View.{view}
use Rattle.keep_index.specs.Index.{index_view}
use Rattle.keep_index.proofs.RoundTrip.{reads_back, text_is}
use Rattle.keep_index.proofs.index_writing.write_index.Goals as goal

pub returns-clause-text : goal.returns-clause-text
returns-clause-text c =
    let made = c.in_ok-value in
    text_is c.write_doc.result (view made.value) (index_view c.args.index.now) made.ensures.value
    made.ensures.fits c.write_doc.ensures.text

pub returns-clause-reads_back : goal.returns-clause-reads_back
returns-clause-reads_back c =
    let made = c.in_ok-value in
    reads_back c.write_doc.result (index_view c.args.index.now) made.ensures.fits (returns-clause-text c)
