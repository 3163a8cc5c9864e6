use Rattle.std.specs.Prelude.{vec_capacity, vec_len}
use Rattle.std.proofs.Common.{◌≡◌, ◌≤◌, map, replicate}
use Rattle.clearing_model.specs.Tree.{Unsigned}
use Rattle.sign_tree.specs.Read.{sign_of}
use Rattle.pricing_oracle.proofs.room.write_unsigned.Given as goal

abbrev pub invariant-loop-i : goal.invariant-loop-i
invariant-loop-i l = record {
  signs : map sign_of l.signs.items ≡ replicate l._i Unsigned;
  len : vec_len l.signs ≡ l._i;
  room : vec_capacity l.fn.signs ≤ vec_capacity l.signs;
}
