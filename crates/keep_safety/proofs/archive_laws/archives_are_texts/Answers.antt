use Rattle.keep_safety.proofs.Said.{archives_short, tags_texts}
use Rattle.keep_safety.proofs.archive_laws.archives_are_texts.Goals as goal

pub returns : goal.returns
returns c = record { short = archives_short; tags = tags_texts }
