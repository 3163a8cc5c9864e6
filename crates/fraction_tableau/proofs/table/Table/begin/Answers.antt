use Rattle.std.proofs.Common.{◌≡◌, ◌∙◌, sym, ap, arith, length}
use Rattle.simplex_run.specs.Places.{numbers, values_at}
use Rattle.simplex_run.proofs.Listed.{listed_count}
use Rattle.fraction_tableau.proofs.Starts.{begun, begun_objective}
use Rattle.fraction_tableau.proofs.table.Table.begin.Goals as goal

pub returns-clause-program : goal.returns-clause-program
returns-clause-program g c =
    begun g.N.Exact.fraction c.write_numbers.new.numbers.items c.release_from.new.self.rows c.write_items.new.items.items c.args.costs.now c.zero.result c.write_numbers.ensures.items c.release_from.ensures.rows c.write_items.ensures.items

pub returns-clause-given : goal.returns-clause-given
unfolding values_at
returns-clause-given g c =
    let none = c.release_from.ensures.rows in
    let costs = c.args.costs.now in
    let count : length c.write_numbers.new.numbers.items ≡ length costs = ap length c.write_numbers.ensures.items ∙ listed_count (λ i. i) 0 (length costs) in
    record {
      labels = c.write_numbers.ensures.items ∙ ap (numbers 0) (sym count);
      basics = c.clear.ensures.items ∙ ap (λ k. numbers (length c.write_numbers.new.numbers.items) k) (sym (ap length none));
      widths = λ k d low. absurd (omega (arith, low, ap length none));
      objective = begun_objective g.N.Exact.fraction _ c.write_items.new.items.items costs c.zero.result count c.write_items.ensures.items c.zero.ensures;
    }
