use Rattle.std.proofs.Common.{◌∙◌, rules, length, map, sym, ap, subst, All}
use Rattle.std.proofs.lemmas.List.{length-map}
use Rattle.search_laws.proofs.Rounds.{fills_not_below}
use Rattle.exact_num.specs.Fraction.{IsNotBelowZero}
use Rattle.constraint_generation.specs.Readings.{reading_in_lists}
use Rattle.constraint_generation.proofs.round.round.Goals as goal

pub search_in-requires-clause-asked : goal.search_in-requires-clause-asked
search_in-requires-clause-asked g c =
    let fills = c.in_ok-read.ensures.certified.fills in
    let given = ap (map g.N.Exact.fraction) c.as_slice-fills.ensures.value in
    record {
      forms = c.requires.limits.has_forms;
      few = c.requires.limits.orders_fit;
      fills = ap length c.as_slice-fills.ensures.value ∙ sym (length-map c.solve_over.new.room.fills.items g.N.Exact.fraction) ∙ fills.0;
      not_below_zero = subst (All IsNotBelowZero) (sym given) (fills_not_below c.args.batch.now.orders _ fills.1 fills.0);
    }

pub returns-in-Some-clause-run : goal.returns-in-Some-clause-run
returns-in-Some-clause-run g c = (reading_in_lists g.N.Exact.fraction c.solve_over.new.room.fills.items c.solve_over.new.room.points.items c.in_ok-read.read, search rules)
