use Rattle.std.proofs.Common.{◌≡◌, ◌-◌, ℕ, if◌then◌else◌, nat_eq, sym, ap, ap₂, ◌∙◌, subst, arith}
use Rattle.cash_ledger.specs.Ledger.{LedgerState, reserved_of}
use Rattle.cash_ledger.proofs.Reserves.{reserved_by, reserved_by-set, reserved_by-there}
use Rattle.cash_ledger.proofs.ledger.Ledger.release.Goals as goal

pub overflow_sub-less : goal.overflow_sub-less
overflow_sub-less c =
    let held = reserved_by-there c.self.inside.accounts c.args.account _ (sym c.holding.ensures.value ∙ c.unwrap-holding.ensures) in
    omega (arith, held, ap (λ (s : LedgerState). reserved_of s c.args.account) c.self.view_is, c.requires.reserved, c.from.ensures)

pub returns-clause-reserves : goal.returns-clause-reserves
returns-clause-reserves c =
    let held = reserved_by-there c.self.inside.accounts c.args.account _ (sym c.holding.ensures.value ∙ c.unwrap-holding.ensures) in
    subst (λ (s : LedgerState). (q : ℕ) → reserved_by c.set.new.self q ≡ (if nat_eq c.args.account q then reserved_of s c.args.account - c.args.amount else reserved_of s q)) c.self.view_is
    (reserved_by-set c.self.inside.accounts c.set.new.self c.args.account c.reserving.result c.set.ensures.each _
    (ap (λ h. h.reserved) c.reserving.ensures ∙ ap₂ (λ a b. a - b) (sym held) c.from.ensures))
