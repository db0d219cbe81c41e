use Rattle.keep_files.proofs.Kept.{acts_keep_folders}
use Rattle.keep_files.proofs.folder_law.acts_keep_folders.Goals as goal

pub returns : goal.returns
returns c = acts_keep_folders
