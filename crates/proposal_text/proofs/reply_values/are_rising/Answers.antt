use Rattle.std.proofs.Common.{rules}
use Rattle.std.specs.Prelude.{nat_lt}
use Rattle.std.proofs.lemmas.List.Sorted.{answers_always}
use Rattle.form.specs.declared.orders.Order.{Order}
use Rattle.proposal_text.proofs.RisingNumbers.{tested}
use Rattle.proposal_text.proofs.reply_values.are_rising.Goals as goal

pub returns : goal.returns
returns c = tested c.args.orders.now c.is_sorted_by.result (c.is_sorted_by.ensures.cases (λ (x y : Order). nat_lt x.id y.id) (answers_always _ _ _ (λ f a r g called. search rules)))
