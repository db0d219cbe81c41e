use Rattle.std.proofs.Common.{Ok, Some, lit<, sym, ◌∙◌, rules}
use Rattle.std.proofs.lemmas.Iterator.{YieldsList-from_slice}
use Rattle.std.proofs.lemmas.Iterator.Consumers.{map_from_collect}
use Rattle.std.proofs.lemmas.Iterator.Search.{all_from_yields_List}
use Rattle.std.proofs.lemmas.Iterator.Splits.{YieldsList-from_str_split}
use Rattle.std.proofs.lemmas.Str.Pattern.{strip_prefix_char}
use Rattle.std.specs.declared.alloc.AllocError.{AllocError}
use Rattle.keep_tree.specs.Names.{is_name}
use Rattle.keep_backup.proofs.Components.{all_names, no_names, no_path}
use Rattle.keep_backup.proofs.paths.names_in_path.Goals as goal

pub returns-in_default : goal.returns-in_default
returns-in_default c =
    no_path c.strip_prefix.result c.args.path.now (strip_prefix_char 47 c.args.path.now c.strip_prefix.result c.strip_prefix.ensures.cases (lit< tt)) c.in_default.not-Some

pub returns-then-not-all : goal.returns-then-not-all
returns-then-not-all c =
    no_names c.args.path.now c.in-Some.text.now c.in_ok-names.names.items
    (strip_prefix_char 47 c.args.path.now (Some c.in-Some.text) c.in-Some.ensures.cases (lit< tt))
    (map_from_collect {E = AllocError} (Ok c.in_ok-names.names) c.in_ok-names.ensures.ran (YieldsList-from_str_split 47 c.in-Some.text.now (lit< tt) c.split.ensures.text c.split.ensures.has_more c.split.ensures.pattern))
    (sym c.if-not-all.true ∙ all_from_yields_List (λ name. is_name name.now) _ _ _ c.all.ensures.ran (YieldsList-from_slice c.in_ok-names.names.items (c.iter.ensures.rest ∙ c.deref.ensures.value)) (λ x b q k. search rules))

pub returns : goal.returns
returns c =
    all_names c.args.path.now c.in-Some.text.now c.in_ok-names.names.items
    (strip_prefix_char 47 c.args.path.now (Some c.in-Some.text) c.in-Some.ensures.cases (lit< tt))
    (map_from_collect {E = AllocError} (Ok c.in_ok-names.names) c.in_ok-names.ensures.ran (YieldsList-from_str_split 47 c.in-Some.text.now (lit< tt) c.split.ensures.text c.split.ensures.has_more c.split.ensures.pattern))
    (sym c.if-not-all.false ∙ all_from_yields_List (λ name. is_name name.now) _ _ _ c.all.ensures.ran (YieldsList-from_slice c.in_ok-names.names.items (c.iter.ensures.rest ∙ c.deref.ensures.value)) (λ x b q k. search rules))
