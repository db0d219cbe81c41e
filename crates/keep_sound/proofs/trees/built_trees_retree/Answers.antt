use Rattle.keep_sound.proofs.Retreed as lemmas
use Rattle.keep_sound.proofs.trees.built_trees_retree.Goals as goal

pub returns : goal.returns
returns c = lemmas.built_retrees
