use Rattle.std.proofs.Common.{◌≡◌, ◌∙◌, ◌+◌, ◌-◌, ◌<◌, ap, arith, length, set, pos, unsigned_abs, to_z, length-set}
use mir.Syntax.{w128}
use Rattle.std.proofs.lemmas.Int.{to_z_pos}
use Rattle.std.proofs.lemmas.List.{get_or-set_same}
use borrow.Rule.Slice.PartMut.{put_mid}
use Rattle.run_equivalence.specs.IntegerRows.{integer_row, number_at}
use Rattle.integer_tableau.proofs.Turned.{front_of_mid, taken_front}
use Rattle.integer_tableau.proofs.front.write_front.Goals as goal

pub returns : goal.returns
returns c =
    let ns = c.args.numbers.now in
    let w = length ns in
    let low = c.requires.denominator in
    let d = to_z w128 c.args.denominator in
    let signed : d ≡ pos c.args.denominator = to_z_pos w128 c.args.denominator (omega (arith, low)) in
    let row = set c.args.row.now 0 d in
    let same = length-set c.args.row.now 0 d in
    let some : 0 < length row = omega (arith, same, c.requires.width) in
    let first : number_at row 0 ≡ d = get_or-set_same c.args.row.now 0 d (pos 0) (omega (arith, c.requires.width)) in
    let out = c.copy_from_slice.new.self in
    let copied = c.copy_from_slice.ensures.after in
    taken_front w (put_mid 1 (w + 1 - 1) row out) out (number_at row 0) (front_of_mid w (w + 1 - 1) row out some (ap length copied))
    ∙ (λ i. integer_row (unsigned_abs ((first ∙ signed) i)) (copied i))
