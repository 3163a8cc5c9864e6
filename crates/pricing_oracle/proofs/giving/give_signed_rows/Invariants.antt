use Rattle.std.specs.Prelude.{vec_capacity}
use Rattle.std.proofs.Common.{◌≡◌, ◌≤◌, ◌+◌, length, map, replicate, unsigned_abs}
use Rattle.sign_tree.specs.Left.{IsAtLeg}
use Rattle.sign_tree.specs.Read.{sign_of}
use Rattle.simplex.specs.Spaces.{program_given}
use Rattle.simplex_run.specs.Places.{fraction_zero}
use Rattle.pricing_oracle.specs.Nodes.{in_roles, legs_asked, roles_left}
use Rattle.pricing_oracle.specs.Programs.{HasSameSize, IsOpen, given_with}
use Rattle.pricing_oracle.proofs.GivenRows.{signed_count, signed_rows_from}
use Rattle.pricing_oracle.proofs.giving.give_signed_rows.Given as goal

-- the rows that are left, given to what stands in the space, are all rows
abbrev pub invariant-loop-leg : goal.invariant-loop-leg
invariant-loop-leg g l =
    let value = g.N.Exact.fraction in
    let limit = unsigned_abs g.N.Exact.LIMIT in
    let n = l.asked.underlyings in
    let tail = replicate l.covers fraction_zero in
    let all = in_roles (legs_asked value l.asked) (map sign_of l.signs) in
    let left = roles_left value l.left in
    record {
      rows : given_with (program_given l.fn.space.contents) (signed_count n all) (signed_rows_from limit n tail all) ≡ given_with (program_given l.space.contents) (signed_count n left) (signed_rows_from limit n tail left);
      stands : IsOpen l.space (n + 1 + l.covers) (signed_count n left);
      size : HasSameSize l.fn.space l.space;
      row : l.asked.underlyings + 1 + l.covers ≤ vec_capacity l.row;
      kept : vec_capacity l.fn.row ≤ vec_capacity l.row;
      at : IsAtLeg l.left.legs;
    }

abbrev pub decreases-loop-leg : goal.decreases-loop-leg
decreases-loop-leg g l = length (roles_left g.N.Exact.fraction l.left)
