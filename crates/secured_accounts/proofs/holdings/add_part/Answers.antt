use Rattle.std.proofs.Common.{All, sym, subst}
use Rattle.std.proofs.lemmas.List.Elements.{All-push}
use Rattle.account_need.specs.Given.{IsMarket}
use Rattle.secured_accounts.proofs.holdings.add_part.Goals as goal

pub returns-in_ok-push-clause-within : goal.returns-in_ok-push-clause-within
returns-in_ok-push-clause-within c = λ all one. subst (All IsMarket) (sym c.in_ok-push.ensures.items) (All-push IsMarket c.args.markets.now.items c.args.market all one)
