use Rattle.keep_paths.proofs.Apart.{key_path-exact}
use Rattle.keep_paths.proofs.path_laws.path_names_key.Goals as goal

pub returns : goal.returns
returns c = key_path-exact c.args.first c.args.second c.key_is_sized.ensures c.key_is_sized-2.ensures
