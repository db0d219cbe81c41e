use Rattle.keep_pages.proofs.Following.{open_at}
use Rattle.keep_pages.proofs.Histories.{legal-push, length_at-all}
use Rattle.keep_pages.proofs.page_laws.histories_grow.Goals as goal

pub returns : goal.returns
returns c = record {
  grows = legal-push;
  stays = λ rules b es is. open_at rules b es is.begins is.legal;
  counted = length_at-all;
}
