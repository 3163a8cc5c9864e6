use Rattle.std.proofs.Common.{◌≡◌, ◌≤◌, length, None, sym, ap, ◌∙◌, arith}
use Rattle.std.specs.Prelude.{slice_get, unwrap_or}
use Rattle.std.proofs.lemmas.Bool.Decides.{nat_tests}
use Rattle.std.proofs.lemmas.Option.{slice_get_past}
use Rattle.frac.specs.Value.{same_value}
use Rattle.frac.specs.ValueOf.{zero_128}
use Rattle.option_quotes.proofs.trying.fill_behind.Goals as goal

pub returns-in-None : goal.returns-in-None
returns-in-None c =
    let fills = c.args.outcome.now.fills in
    let few = c.in-None.ensures.lookup.0 in
    let short : length c.as_slice.result.now ≤ length c.as_slice-2.result.now = grind (arith, nat_tests, few) in
    let past : slice_get fills (length c.args.batch.now.orders) ≡ None =
    slice_get_past fills (length c.args.batch.now.orders) (rw (c.as_slice.ensures, c.as_slice-2.ensures) at short) in
    same_value c.whole.result zero_128 c.whole.ensures ∙ sym (ap (λ fill. unwrap_or fill zero_128) past)
