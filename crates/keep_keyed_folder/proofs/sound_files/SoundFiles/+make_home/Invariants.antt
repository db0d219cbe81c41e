use Rattle.std.proofs.Common.{length}
use Rattle.keep_keyed_folder.proofs.sound_files.SoundFiles.+make_home.Given as goal

abbrev pub decreases-make_home : goal.decreases-make_home
decreases-make_home g l = length l.path.now
