use Rattle.std.proofs.Common.{◌≡◌, pos, to_z, Some, sym, ap, ◌∙◌, subst, arith}
use Rattle.std.proofs.lemmas.Int.{to_z_pos}
use mir.Syntax.{w128}
use Rattle.cash_ledger.specs.Ledger.{LedgerState, if_open, reserved_of}
use Rattle.cash_ledger.proofs.KeptTotals.{reserve_small}
use Rattle.cash_ledger.proofs.Reserves.{reserved_by-there, if_open-there}
use Rattle.cash_ledger.proofs.ledger.Ledger.reserved.Goals as goal

pub returns : goal.returns
returns c =
    let there = sym c.holding.ensures.value ∙ c.in_ok-holding.was in
    let small = reserve_small _ _ c.self.invariant c.args.account _ there in
    let is = to_z_pos w128 c.in_ok-holding.field-0.reserved (omega (arith, small)) ∙ ap pos (sym (reserved_by-there c.self.inside.accounts _ _ there)) in
    subst (λ (s : LedgerState). Some (to_z w128 c.in_ok-holding.field-0.reserved) ≡ if_open s.accounts c.args.account (pos (reserved_of s c.args.account))) c.self.view_is
    (ap Some is ∙ if_open-there c.self.inside.accounts _ _ _ there)
