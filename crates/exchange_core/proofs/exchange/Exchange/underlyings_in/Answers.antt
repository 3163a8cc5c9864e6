use Rattle.std.proofs.Common.{ap, Option}
use Rattle.std.specs.Option.{option_map_or}
use Rattle.order_book.specs.declared.market.MarketInfo.{MarketInfo}
use Rattle.exchange_core.proofs.exchange.Exchange.underlyings_in.Goals as goal

pub returns-in-Some-clause-value : goal.returns-in-Some-clause-value
returns-in-Some-clause-value c = ap (λ (o : Option MarketInfo). option_map_or (λ (info : MarketInfo). info.underlyings) o 1) c.in-Some.ensures.info

pub returns-in-None-clause-value : goal.returns-in-None-clause-value
returns-in-None-clause-value c = ap (λ (o : Option MarketInfo). option_map_or (λ (info : MarketInfo). info.underlyings) o 1) c.in-None.ensures.info
