use Rattle.std.proofs.Common.{ℕ, nat_eq, is_some, sym, ap, ◌∙◌}
use Rattle.std.proofs.lemmas.Map.Made.{is_some-lookup}
use Rattle.std.specs.Map.{keys_of}
use Rattle.std.specs.List.{list_any}
use Rattle.cash_ledger.specs.declared.holding.Holding.{Holding}
use Rattle.cash_ledger.proofs.BehindHouse.{any_behind}
use Rattle.cash_ledger.proofs.accounts.Accounts.holding.Goals as goal

pub returns-else-account-eq0-clause-there : goal.returns-else-account-eq0-clause-there
returns-else-account-eq0-clause-there c =
    ap is_some (c.copied.ensures ∙ c.get.ensures.value) ∙ is_some-lookup {K = ℕ} {X = Holding} (nat_eq c.args.account) c.self.inside.others.entries
    ∙ sym (any_behind c.args.account (keys_of c.self.inside.others.entries) c.if-account-eq0.false) ∙ ap (λ es. list_any (nat_eq c.args.account) (keys_of es)) c.self.view_is
