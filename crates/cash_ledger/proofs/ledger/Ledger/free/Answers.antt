use Rattle.std.proofs.Common.{rules, ◌≡◌, ◌<◌, ◌^◌, length, pos, ◌-ℤ◌, to_z, of_z, FitsSigned, Some, sym, ap, ap₂, ◌∙◌, subst}
use Rattle.std.proofs.lemmas.Int.{to_z-of_z}
use mir.Syntax.{w128}
use Rattle.cash_ledger.specs.Ledger.{LedgerState, if_open, free_of}
use Rattle.cash_ledger.proofs.KeptTotals.{rest_fits, reserve_small, total-balance}
use Rattle.cash_ledger.proofs.Reserves.{reserved_by-there, if_open-there}
use Rattle.cash_ledger.proofs.ledger.Ledger.free.Goals as goal

pub free-requires-clause-fits : goal.free-requires-clause-fits
free-requires-clause-fits c =
    let few : length c.self.inside.entries.items < 2 ^ 64 = search rules in
    rest_fits _ _ c.self.invariant c.args.account _ (sym c.holding.ensures.value ∙ c.in_ok-holding.was) few

pub free-requires-clause-small : goal.free-requires-clause-small
free-requires-clause-small c =
    reserve_small _ _ c.self.invariant c.args.account _ (sym c.holding.ensures.value ∙ c.in_ok-holding.was)

pub returns : goal.returns
returns c =
    let there = sym c.holding.ensures.value ∙ c.in_ok-holding.was in
    let fits : FitsSigned w128 c.free.result = search rules in
    let is = to_z-of_z w128 c.free.result fits ∙ c.free.ensures ∙ ap₂ (λ a b. a -ℤ pos b) (total-balance _ _ c.self.invariant c.args.account _ there) (sym (reserved_by-there c.self.inside.accounts _ _ there)) in
    subst (λ (s : LedgerState). Some (to_z w128 (of_z w128 c.free.result)) ≡ if_open s.accounts c.args.account (free_of s c.args.account)) c.self.view_is
    (ap Some is ∙ if_open-there c.self.inside.accounts _ _ _ there)
