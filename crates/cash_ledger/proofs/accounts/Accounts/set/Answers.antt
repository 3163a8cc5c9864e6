use Rattle.std.proofs.Common.{ℕ, List, ◌∷◌, nat_eq, sym, ap, ◌∙◌, IsSome, subst}
use Rattle.std.specs.Map.{keys_of, lookup}
use Rattle.indexmap.proofs.CallerLemmas.{keys-insert_entry-present}
use Rattle.cash_ledger.proofs.BehindHouse.{lookup_behind}
use Rattle.cash_ledger.proofs.accounts.Accounts.set.Goals as goal

pub returns-else-account-eq0-clause-keys : goal.returns-else-account-eq0-clause-keys
returns-else-account-eq0-clause-keys c =
    let found = subst (λ es. IsSome (lookup (nat_eq c.args.account) es)) (sym c.self.view_is) c.requires in
    let there = subst IsSome (lookup_behind c.args.account c.self.inside.house c.self.inside.others.entries c.if-account-eq0.false) found in
    let entries = rw c.unwrap.ensures at c.insert.ensures.entries in
    ap (λ (ks : List ℕ). 0 ∷ ks) (ap keys_of entries ∙ keys-insert_entry-present nat_eq c.self.inside.others c.args.account _ there) ∙ ap keys_of c.self.view_is
