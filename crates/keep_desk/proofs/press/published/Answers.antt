use Rattle.std.proofs.Common.{◌≡◌, Result, Ok, Err, MatchResult, sym, subst}
use Rattle.keep_register.specs.Pages.{IsPage, PageState}
use Rattle.keep_desk.proofs.press.published.Goals as goal

told : {E : Type 0} (P Q : Type 0) (Is : PageState → Type 0) (x new old : PageState) (r : Result (Unit {0}) E)
    → MatchResult r (λ _. (x ≡ new) × P) (λ _. (x ≡ old) × Q) → Is new → Is old → Is x
told P Q Is x new old (Ok u) h at_new at_old = subst Is (sym h.0) at_new
told P Q Is x new old (Err e) h at_new at_old = subst Is (sym h.0) at_old

pub returns-clause-shows : goal.returns-clause-shows
returns-clause-shows g c =
    told _ _ (IsPage g.B.Chronicled.book g.B.Naming.hooks.vetoes g.B.Naming.opening) _ _ _ c.publish_as.result.1 c.publish_as.ensures.values
    c.requires.next c.requires.shown
