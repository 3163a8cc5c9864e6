use Rattle.proposal_text.proofs.margins.add_margin.Goals as goal

pub returns-in-Least : goal.returns-in-Least
returns-in-Least c = rw (c.in-Least.is) (rw (c.in-Least.is) at c.add_with_state.ensures)

pub returns-in-Unbounded : goal.returns-in-Unbounded
returns-in-Unbounded c = rw (c.in-Unbounded.is) (rw (c.in-Unbounded.is) at c.add_with_state-in-Unbounded.ensures)

pub returns-in-Wide : goal.returns-in-Wide
returns-in-Wide c = rw (c.in-Wide.is) (rw (c.in-Wide.is) at c.add_without_state.ensures)

pub returns-in-Budget : goal.returns-in-Budget
returns-in-Budget c = rw (c.in-Budget.is) (rw (c.in-Budget.is) at c.add_without_state-in-Budget.ensures)
