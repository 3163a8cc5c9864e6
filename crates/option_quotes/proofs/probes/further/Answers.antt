use Rattle.std.proofs.Common.{ap}
use Rattle.form.specs.declared.bundles.Bundle.{Bundle}
use Rattle.form.specs.declared.orders.Order.{Order}
use Rattle.form.proofs.MadeBundles.{bundle_is_one}
use Rattle.option_quotes.proofs.probes.further.Goals as goal

pub returns : goal.returns
returns c =
    let of_bundle : Bundle → Order = λ bundle. record {
      id = 1000001;
      account = 999999999;
      side = c.args.side;
      bundle = bundle;
      price = 0;
      quantity = 1;
    } in
    ap of_bundle (bundle_is_one c.one.result c.args.form.now c.one.ensures)
