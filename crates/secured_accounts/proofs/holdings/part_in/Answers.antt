use Rattle.secured_accounts.proofs.holdings.part_in.Goals as goal

pub returns-clause-part : goal.returns-clause-part
returns-clause-part c = λ i. (
  c.args.number,
  record {
    underlyings = c.underlyings_in.ensures.value i;
    positions = c.in_ok-positions.ensures.positions i;
    live = c.in_ok-live.ensures.orders i;
  },
)
