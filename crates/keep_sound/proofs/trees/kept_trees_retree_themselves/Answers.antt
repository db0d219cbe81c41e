use Rattle.keep_sound.proofs.Retreed as lemmas
use Rattle.keep_sound.proofs.trees.kept_trees_retree_themselves.Goals as goal

pub returns : goal.returns
returns c = lemmas.kept_retrees
