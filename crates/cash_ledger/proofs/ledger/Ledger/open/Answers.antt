use Rattle.std.proofs.Common.{◌≡◌, None, nat_eq, sym, ap, ◌∙◌}
use Rattle.std.specs.Map.{lookup}
use Rattle.cash_ledger.specs.Kept.{no_holding}
use Rattle.cash_ledger.specs.Ledger.{LedgerState, reserved_of}
use Rattle.cash_ledger.proofs.Reserves.{reserved_by-same, reserved_by-none, none_from_is_some}
use Rattle.cash_ledger.proofs.ledger.Ledger.open.Goals as goal

pub returns-clause-reserved : goal.returns-clause-reserved
returns-clause-reserved c =
    let none : lookup (nat_eq c.args.account) c.self.inside.accounts ≡ None = sym c.holding.ensures.value ∙ none_from_is_some _ (sym c.is_some.ensures ∙ c.if-is_some.false) in
    let unreserved = reserved_by-none c.self.inside.accounts _ none in
    reserved_by-same c.self.inside.accounts c.add.new.self c.args.account no_holding c.in_ok-add.ensures.each unreserved c.args.account ∙ unreserved

pub returns-clause-reserves : goal.returns-clause-reserves
returns-clause-reserves c q =
    let none : lookup (nat_eq c.args.account) c.self.inside.accounts ≡ None = sym c.holding.ensures.value ∙ none_from_is_some _ (sym c.is_some.ensures ∙ c.if-is_some.false) in
    reserved_by-same c.self.inside.accounts c.add.new.self c.args.account no_holding c.in_ok-add.ensures.each (reserved_by-none c.self.inside.accounts _ none) q
    ∙ ap (λ (s : LedgerState). reserved_of s q) c.self.view_is
