use Rattle.std.proofs.Common.{[], ◌∷◌, ◌++◌, nat_eq, ap, ◌∙◌}
use Rattle.std.specs.Map.{lookup}
use Rattle.indexmap.proofs.CallerLemmas.{insert_entry-new}
use Rattle.members.proofs.owners.Owners.insert.Goals as goal

pub returns : goal.returns
returns c =
    let none = ap (lookup (nat_eq c.args.account)) c.self.view_is ∙ c.requires in
    c.in_ok-insert.ensures.entries ∙ insert_entry-new nat_eq c.self.inside.by_account c.args.account c.args.session none
    ∙ ap (λ es. es ++ (c.args.account, c.args.session) ∷ []) c.self.view_is
