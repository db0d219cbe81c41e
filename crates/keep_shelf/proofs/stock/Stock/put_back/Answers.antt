use Rattle.std.proofs.Common.{◌∙◌}
use Rattle.keep_shelf.proofs.TakenBack.{back_none, back_written}
use Rattle.keep_shelf.proofs.stock.Stock.put_back.Goals as goal

pub returns-in-None : goal.returns-in-None
returns-in-None c = λ before put h put_is. back_none before c.args.self.now c.erase.new.self c.args.key put (h ∙ c.in-None.is) put_is c.erase.ensures

pub returns-in-Some : goal.returns-in-Some
returns-in-Some c = λ before put h put_is.
    back_written before c.args.self.now c.write.new.self c.args.key put c.in-Some.bytes c.write.result (h ∙ c.in-Some.is) put_is c.write.ensures.ok c.write.ensures.absent
