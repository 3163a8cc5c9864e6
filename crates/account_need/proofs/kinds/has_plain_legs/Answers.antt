use Rattle.std.proofs.Common.{List, pos, ap, sym, ◌∙◌}
use Rattle.std.specs.Prelude.{int_lt}
use Rattle.std.specs.List.{list_all}
use Rattle.form.specs.declared.legs.Leg.{Leg}
use Rattle.form.specs.Payoff.{legs_in}
use Rattle.account_need.proofs.Bounded.{plain_legs}
use Rattle.account_need.proofs.kinds.has_plain_legs.Goals as goal

pub returns : goal.returns
returns c =
    c.are_plain.ensures ∙ ap (λ (legs : List Leg). list_all (λ (leg : Leg). int_lt (pos 0) leg.count) legs) c.as_slice.ensures ∙ sym (plain_legs (legs_in c.args.bundle.now))
