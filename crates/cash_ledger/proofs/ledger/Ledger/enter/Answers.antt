use Rattle.std.proofs.Common.{rules, ◌<◌, ◌^◌, length, sym, ap, ◌∙◌}
use Rattle.cash_ledger.specs.Ledger.{LedgerState, reserved_of}
use Rattle.cash_ledger.proofs.KeptTotals.{sum_fits, AreKept-enter}
use Rattle.cash_ledger.proofs.Reserves.{reserved_by-same, reserved_by-there}
use Rattle.cash_ledger.proofs.ledger.Ledger.enter.Goals as goal

pub after-requires : goal.after-requires
after-requires c =
    let there = sym c.holding.ensures.value ∙ c.unwrap-holding.ensures in
    let few : length c.self.inside.entries.items < 2 ^ 64 = search rules in
    sum_fits _ _ c.self.invariant c.args.entry _ c.requires.bounded there few

pub invariant_of-self : goal.invariant_of-self
invariant_of-self c =
    let there = sym c.holding.ensures.value ∙ c.unwrap-holding.ensures in
    rw c.push_reserved.ensures.items (AreKept-enter _ _ c.self.invariant c.args.entry c.unwrap-holding.result c.after.result _ c.requires.bounded there c.set.ensures.each
    (ap (λ h. h.total) c.after.ensures) (ap (λ h. h.reserved) c.after.ensures))

pub returns-clause-reserves : goal.returns-clause-reserves
returns-clause-reserves c q =
    let there = sym c.holding.ensures.value ∙ c.unwrap-holding.ensures in
    reserved_by-same c.self.inside.accounts c.set.new.self c.args.entry.account c.after.result c.set.ensures.each
    (reserved_by-there c.self.inside.accounts _ _ there ∙ sym (ap (λ h. h.reserved) c.after.ensures)) q
    ∙ ap (λ (s : LedgerState). reserved_of s q) c.self.view_is
