use Rattle.std.proofs.Common.{sym, subst, ◌∙◌}
use Rattle.lists.specs.Refusals.{TellsFirst}
use Rattle.exchange_core.specs.Failures.{unless_memory}
use Rattle.exchange_core.specs.Step.{Does}
use Rattle.exchange_core.proofs.Keeping.{places_of}
use Rattle.exchange_core.proofs.exchange.Exchange.order.Goals as goal

pub place-requires : goal.place-requires
place-requires c =
    (places_of c.args.self.now c.args.command.now c.unwrap-order.result c.requires.within (sym c.order_of.ensures ∙ c.unwrap-order.ensures)).within

pub returns-clause-refused : goal.returns-clause-refused
returns-clause-refused c =
    let is = places_of c.args.self.now c.args.command.now c.unwrap-order.result c.requires.within (sym c.order_of.ensures ∙ c.unwrap-order.ensures) in
    subst (λ refusals. TellsFirst unless_memory c.place.result refusals) is.refused c.place.ensures.refused

pub returns-clause-ok : goal.returns-clause-ok
returns-clause-ok c =
    let is = places_of c.args.self.now c.args.command.now c.unwrap-order.result c.requires.within (sym c.order_of.ensures ∙ c.unwrap-order.ensures) in
    subst (λ done. Does c.place.result c.place.new.self done) is.done c.place.ensures.ok
