use Rattle.std.proofs.Common.{◌∙◌, rules, ap, map}
use Rattle.std.proofs.lemmas.Result.{IfOk-weaker}
use Rattle.clap.specs.Words.{found_of}
use Rattle.keep_words.proofs.ValueLemmas.{texts-none, texts-some}
use Rattle.keep_words.proofs.word_values.texts.Goals as goal

pub returns-in-Some : goal.returns-in-Some
returns-in-Some c =
    let given = texts-some (found_of c.args.matches.now) c.args.name.now c.get_strs.result c.in-Some.texts c.get_strs.ensures c.in-Some.is in
    IfOk-weaker c.to_vec.result _ _ (λ v h. ap (map (λ t. t.now)) (h (λ x y k. search rules)) ∙ given) c.to_vec.ensures.items_if_clones_equal

pub returns-in-None : goal.returns-in-None
returns-in-None c =
    ap (map (λ t. t.now)) c.new.ensures.items ∙ texts-none (found_of c.args.matches.now) c.args.name.now c.get_strs.result c.get_strs.ensures c.in-None.is
