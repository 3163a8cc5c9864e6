use Rattle.std.proofs.Common.{ap, sym, ◌∙◌, Option}
use Rattle.portfolio_margin.specs.declared.needs.Needed.{Needed}
use Rattle.portfolio_margin.specs.Need.{sum_need, word_or}
use Rattle.portfolio_margin.proofs.NeedCovers.{needs_cover}
use Rattle.portfolio_margin.proofs.needs.need.Goals as goal

pub returns-in-Some-clause-covers : goal.returns-in-Some-clause-covers
returns-in-Some-clause-covers c = λ amount markets is covered.
    let margins = c.args.margins.now in
    needs_cover margins markets amount (ap (λ (word : Option Needed). word_or word (sum_need margins)) (sym c.in-Some.ensures) ∙ is) covered

pub returns-in-None-clause-covers : goal.returns-in-None-clause-covers
returns-in-None-clause-covers c = λ amount markets is covered.
    let margins = c.args.margins.now in
    needs_cover margins markets amount (ap (λ (word : Option Needed). word_or word (sum_need margins)) (sym c.in-None.ensures) ∙ sym c.sum_of.ensures ∙ is) covered
