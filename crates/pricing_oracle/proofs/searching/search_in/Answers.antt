use Rattle.std.proofs.Common.{◌∙◌, ap, sym, length, map, unsigned_abs}
use Rattle.std.proofs.lemmas.List.{length-map}
use Rattle.sign_tree.proofs.LegLists.{length-fraction_legs}
use Rattle.pricing_oracle.specs.declared.legs.SearchQuestion.{SearchQuestion}
use Rattle.pricing_oracle.specs.Answers.{question}
use Rattle.pricing_oracle.specs.Searches.{asked_within}
use Rattle.pricing_oracle.proofs.Answered.{answer_is_true, answers, is_question}
use Rattle.pricing_oracle.proofs.searching.search_in.Goals as goal

pub search-requires-clause-count : goal.search-requires-clause-count
search-requires-clause-count g c =
    let value = g.N.Exact.fraction in
    let fills = c.args.fills.now in
    c.leg_count.ensures.count
    ∙ sym (length-fraction_legs c.as_slice-orders.result.now (map value fills) (length-map fills value ∙ c.requires.asked.fills ∙ ap length (sym c.as_slice-orders.ensures)))

pub returns-clause-search : goal.returns-clause-search
returns-clause-search g c =
    let value = g.N.Exact.fraction in
    let limit = unsigned_abs g.N.Exact.LIMIT in
    let batch = c.args.batch.now in
    let budget = c.args.budget.now in
    let q = question limit budget.limit batch (map value c.args.fills.now) (value c.args.liability.now) in
    let those : SearchQuestion g.row.N.Denot = record { underlyings = batch.underlyings; orders = c.as_slice-orders.result; fills = c.args.fills; liability = c.args.liability } in
    answers q (asked_within value limit budget.limit those) budget.spent c.search.new.budget.spent c.search.new.self.tree c.search.result (λ i. record q { orders = c.as_slice-orders.ensures i }) c.search.ensures.search

pub returns-clause-found : goal.returns-clause-found
returns-clause-found g c =
    let value = g.N.Exact.fraction in
    let limit = unsigned_abs g.N.Exact.LIMIT in
    let batch = c.args.batch.now in
    let budget = c.args.budget.now in
    let q = question limit budget.limit batch (map value c.args.fills.now) (value c.args.liability.now) in
    let asked = is_question value limit budget.limit batch c.args.fills.now c.args.liability.now g.met.N.Exact.lowest c.requires.asked.forms c.requires.asked.fills c.requires.asked.not_below_zero in
    answer_is_true q budget.spent c.search.new.budget.spent c.search.new.self.tree c.search.result asked (returns-clause-search g c)
