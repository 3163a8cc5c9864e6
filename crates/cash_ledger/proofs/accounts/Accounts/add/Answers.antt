use Rattle.std.proofs.Common.{ℕ, List, [], ◌∷◌, ◌++◌, nat_eq, ap, ◌∙◌}
use Rattle.std.specs.Map.{keys_of, lookup}
use Rattle.indexmap.proofs.CallerLemmas.{insert_entry-new}
use Rattle.cash_ledger.proofs.BehindHouse.{none_behind, keys_push}
use Rattle.cash_ledger.proofs.accounts.Accounts.add.Goals as goal

pub returns-clause-ok : goal.returns-clause-ok
returns-clause-ok c =
    let holding = c.new.result in
    let none = none_behind c.args.account c.self.inside.house c.self.inside.others.entries (ap (lookup (nat_eq c.args.account)) c.self.view_is ∙ c.requires) in
    ap (λ (ks : List ℕ). 0 ∷ ks) (ap keys_of (c.in_ok-insert.ensures.entries ∙ insert_entry-new nat_eq c.self.inside.others c.args.account holding none) ∙ keys_push c.self.inside.others.entries (c.args.account, holding))
    ∙ ap (λ es. keys_of es ++ c.args.account ∷ []) c.self.view_is
