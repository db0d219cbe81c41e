use Rattle.std.proofs.Common.{[], codes, refl}
use Rattle.keep_quoted.proofs.Apart.{name_apart}
use Rattle.keep_quoted.proofs.ReadBack.{quoted_of_itself}
use Rattle.keep_quoted.proofs.quoting_laws.quoted_names_are_names.Goals as goal

pub returns-clause-bytes : goal.returns-clause-bytes
returns-clause-bytes c = name_apart

pub returns-clause-empty : goal.returns-clause-empty
returns-clause-empty c = λ name ok is. quoted_of_itself name [] ok refl is

pub returns-clause-one_dot : goal.returns-clause-one_dot
returns-clause-one_dot c = λ name ok is. quoted_of_itself name (codes ".") ok refl is

pub returns-clause-two_dots : goal.returns-clause-two_dots
returns-clause-two_dots c = λ name ok is. quoted_of_itself name (codes "..") ok refl is
