use Rattle.std.proofs.Common.{◌≡◌, ◌+◌, ◌-◌, ◌∷◌, ◌∙◌, sym, ap, subst, arith, length, map, set, pos, to_z, w64, ℤ, ℕ}
use Rattle.std.proofs.lemmas.Int.{to_z_pos}
use Rattle.std.proofs.lemmas.List.{length-set, length-map}
use borrow.Rule.Slice.PartMut.{put_mid}
use Rattle.exact_num.specs.CommonDenominator.{amount_over, signed_amounts_over}
use Rattle.fraction_tableau.proofs.ArenaSteps.{at_set_same}
use Rattle.run_equivalence.specs.IntegerRows.{widest, IsIntegerRow, integer_row}
use Rattle.integer_tableau.proofs.Turned.{front_of_mid, taken_front}
use Rattle.integer_tableau.proofs.fraction.take_numbers.Goals as goal

pub returns-clause-line : goal.returns-clause-line
returns-clause-line g c done =
    let f = g.N.Exact.fraction in
    let w = length c.args.entries.now in
    let fs = map f c.args.entries.now in
    let d = c.in-Some.denominator in
    let k = c.in-Some.ensures in
    let ns = c.write_amounts.new.numbers in
    let small = k.below in
    let signed : to_z w64 d ≡ pos d = to_z_pos w64 d (omega (arith, small)) in
    let amounts : ns ≡ signed_amounts_over d fs = c.write_amounts.ensures.amounts done in
    let count : length ns ≡ w = ap length amounts ∙ length-map fs (amount_over d) ∙ length-map c.args.entries.now f in
    let wide = c.requires.width in
    let filled = length-set c.args.row.now 0 (to_z w64 d) in
    let front = front_of_mid w (w + 1 - 1) (set c.args.row.now 0 (to_z w64 d)) ns (omega (arith, wide, filled)) count in
    let first = at_set_same c.args.row.now 0 (to_z w64 d) (pos 0) (omega (arith, wide)) ∙ signed in
    let line = taken_front w (put_mid 1 (w + 1 - 1) (set c.args.row.now 0 (to_z w64 d)) ns) ns (pos d) (front ∙ ap (λ (z : ℤ). z ∷ ns) first) in
    line ∙ ap (integer_row d) amounts ∙ ap (λ (m : ℕ). integer_row m (signed_amounts_over m fs)) k.is

pub returns-clause-within : goal.returns-clause-within
returns-clause-within g c done =
    let f = g.N.Exact.fraction in
    let w = length c.args.entries.now in
    let fs = map f c.args.entries.now in
    let d = c.in-Some.denominator in
    let k = c.in-Some.ensures in
    let ns = c.write_amounts.new.numbers in
    let small = k.below in
    let signed : to_z w64 d ≡ pos d = to_z_pos w64 d (omega (arith, small)) in
    let amounts : ns ≡ signed_amounts_over d fs = c.write_amounts.ensures.amounts done in
    let count : length ns ≡ w = ap length amounts ∙ length-map fs (amount_over d) ∙ length-map c.args.entries.now f in
    let wide = c.requires.width in
    let filled = length-set c.args.row.now 0 (to_z w64 d) in
    let front = front_of_mid w (w + 1 - 1) (set c.args.row.now 0 (to_z w64 d)) ns (omega (arith, wide, filled)) count in
    let first = at_set_same c.args.row.now 0 (to_z w64 d) (pos 0) (omega (arith, wide)) ∙ signed in
    let line = taken_front w (put_mid 1 (w + 1 - 1) (set c.args.row.now 0 (to_z w64 d)) ns) ns (pos d) (front ∙ ap (λ (z : ℤ). z ∷ ns) first) in
    subst (IsIntegerRow widest w) (sym line) (record { positive = k.positive; below = k.below; sizes = c.write_amounts.ensures.sizes done; count = count })
