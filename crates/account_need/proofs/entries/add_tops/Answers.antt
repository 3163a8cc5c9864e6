use Rattle.std.proofs.Common.{◌+◌, ◌-◌, ◌++◌, List, [], ◌∷◌, append_assoc, rules, ap, sym, ◌∙◌}
use Rattle.settlement.specs.declared.position.Position.{Position}
use Rattle.account_need.specs.Several.{tops_from}
use Rattle.account_need.proofs.Bounded.{tops_step}
use Rattle.account_need.proofs.entries.add_tops.Goals as goal

pub loop-before-preserved : goal.loop-before-preserved
loop-before-preserved c =
    let n = c.args.underlyings in
    let b = c.loop-before.before in
    let owed = c.loop-before.owed.items in
    let left = tops_from (b + 1) (n - (b + 1)) in
    (λ j. c.in_ok-push.ensures.items j ++ left)
    ∙ append_assoc owed (c.top.result ∷ []) left
    ∙ (λ j. owed ++ c.top.ensures j ∷ left)
    ∙ ap (λ (ys : List Position). owed ++ ys) (sym (tops_step b n (search rules)))
    ∙ c.loop-before.invariant
