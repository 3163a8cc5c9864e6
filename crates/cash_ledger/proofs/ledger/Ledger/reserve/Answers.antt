use Rattle.std.proofs.Common.{◌≡◌, ◌+◌, ◌≤◌, ℕ, if◌then◌else◌, nat_eq, sym, ap, ap₂, ◌∙◌, subst, arith}
use Rattle.cash_ledger.specs.Ledger.{LedgerState, reserved_of}
use Rattle.limits.specs.declared.TheConstants.{MAX_RESERVE, MAX_RESERVED}
use Rattle.cash_ledger.proofs.KeptTotals.{AreKept-reserve}
use Rattle.cash_ledger.proofs.Reserves.{reserved_by, reserved_by-set, reserved_by-there}
use Rattle.cash_ledger.proofs.ledger.Ledger.reserve.Goals as goal

pub invariant_of-self : goal.invariant_of-self
invariant_of-self c =
    let there = sym c.holding.ensures.value ∙ c.unwrap-holding.ensures in
    let held = reserved_by-there c.self.inside.accounts c.args.account _ there in
    let small : c.reserving.result.reserved ≤ MAX_RESERVED + MAX_RESERVE = omega (arith, held, ap (λ (s : LedgerState). reserved_of s c.args.account) c.self.view_is, c.requires.reserved, c.requires.within, c.from.ensures, ap (λ h. h.reserved) c.reserving.ensures) in
    AreKept-reserve _ _ c.self.invariant c.args.account c.unwrap-holding.result c.reserving.result _ there c.set.ensures.each (ap (λ h. h.total) c.reserving.ensures) small

pub returns-clause-reserves : goal.returns-clause-reserves
returns-clause-reserves c =
    let held = reserved_by-there c.self.inside.accounts c.args.account _ (sym c.holding.ensures.value ∙ c.unwrap-holding.ensures) in
    subst (λ (s : LedgerState). (q : ℕ) → reserved_by c.set.new.self q ≡ (if nat_eq c.args.account q then reserved_of s c.args.account + c.args.amount else reserved_of s q)) c.self.view_is
    (reserved_by-set c.self.inside.accounts c.set.new.self c.args.account c.reserving.result c.set.ensures.each _
    (ap (λ h. h.reserved) c.reserving.ensures ∙ ap₂ (λ a b. a + b) (sym held) c.from.ensures))
