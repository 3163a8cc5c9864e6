use Rattle.std.proofs.Common.{◌<◌, arith, subst, sym}
use Rattle.std.specs.List.{sum}
use Rattle.constraint_generation.proofs.FirstStates.{unit_vector, some_unit, unit_not_below, zero_elsewhere, nine_long}
use Rattle.constraint_generation.proofs.first_states.unit_state.Goals as goal

pub invariant_of-result : goal.invariant_of-result
invariant_of-result c = record {
  count_in_range = c.requires.count;
  nine_entries = nine_long c.args.place;
  zero_past_count = λ i le. zero_elsewhere 9 c.args.place i (omega (arith, le, c.requires.place));
  not_below_zero = λ i. unit_not_below 9 c.args.place i;
  not_all_zero = subst (λ xs. 0 < sum xs) (sym (unit_vector c.args.count c.args.place c.requires.count.1 c.requires.place)) (some_unit c.args.count c.args.place c.requires.place);
}

pub returns-clause-vector : goal.returns-clause-vector
returns-clause-vector c = unit_vector c.args.count c.args.place c.requires.count.1 c.requires.place
