use Rattle.std.proofs.Common.{[], ◌+◌, length, map, ap, ◌∙◌, List, ℕ}
use Rattle.form.specs.declared.orders.Order.{Order}
use Rattle.cell_cover.specs.Classes.{options_in}
use Rattle.cell_cover.specs.Formed.{is_formed}
use Rattle.cell_cover.specs.Read.{node_of}
use Rattle.cell_cover.specs.Rowed.{with_fresh}
use Rattle.cell_cover.proofs.Roots.{counted}
use Rattle.cell_cover.proofs.closing.is_formed.Goals as goal

pub returns : goal.returns
returns c =
    let batch = c.args.batch.now in
    let begun = c.in_ok-classes.ensures ∙ ap (λ (os : List Order). with_fresh [] (options_in os)) c.as_slice.ensures in
    c.is_formed.ensures ∙ ap (λ (k : ℕ). is_formed k (map node_of c.args.nodes.now)) (ap length c.as_slice-listed.ensures.value ∙ counted (batch.underlyings + 1) c.in_ok-classes.classes.items batch.orders begun)
