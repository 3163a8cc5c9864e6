use Rattle.std.proofs.Common.{map, sym, refl, ◌∙◌}
use Rattle.cell_cover.specs.Read.{multiplier_of}
use Rattle.cell_cover.specs.Rows.{known_as}
use Rattle.cell_cover.proofs.FoundClasses.{mixes_with, mixes_not}
use Rattle.cell_cover.proofs.mixing.mixing_sign.Goals as goal

pub returns-then-is_not_below_zero : goal.returns-then-is_not_below_zero
returns-then-is_not_below_zero c =
    λ count. mixes_with (map (known_as count) c.args.known.now) (multiplier_of c.args.multiplier.now) _ c.sign_at.result refl (sym c.is_not_below_zero.ensures ∙ c.if-is_not_below_zero.true) (c.sign_at.ensures count)

pub returns-else-is_not_below_zero : goal.returns-else-is_not_below_zero
returns-else-is_not_below_zero c =
    λ count. mixes_not (map (known_as count) c.args.known.now) (multiplier_of c.args.multiplier.now) (sym c.is_not_below_zero.ensures ∙ c.if-is_not_below_zero.false)
