use Rattle.std.proofs.Common.{◌≡◌, ◌-◌, arith, rules, FitsSigned, to_z, of_z, get_or, map, ℤ, pos, refl, sym, ◌∙◌}
use Rattle.std.proofs.lemmas.Int.{to_z-of_z}
use mir.Syntax.{w8}
use Rattle.frac.specs.Value.{fraction_of}
use Rattle.sign_tree.specs.Read.{sign_of}
use Rattle.sign_tree.specs.Left.{exposure_as, leg_as}
use Rattle.sign_tree.specs.Walk.{fraction_legs, is_unsigned}
use Rattle.sign_tree.proofs.LegLists.{passes_zero, passes_behind, passes_nowhere, passes_there, none_is}
use Rattle.sign_tree.proofs.closing.split_index.Goals as goal
use Rattle.sign_tree.proofs.closing.split_index.Goals.{then-place-eq0-via-then-place-eq0, then-place-eq0-via-else-place-eq0+then-place-signs}

pub returns-then-place-eq0 : goal.returns-then-place-eq0
returns-then-place-eq0 c =
    let legs = fraction_legs c.args.orders.now (map fraction_of c.args.fills.now) in
    elim c.then-place-eq0.branch [
      | then-place-eq0-via-then-place-eq0 w ↦ passes_zero is_unsigned legs (map sign_of c.args.signs.now) c.args.place w.if-place-eq0.true
      | then-place-eq0-via-else-place-eq0+then-place-signs w ↦ passes_behind is_unsigned legs c.args.signs.now c.args.place w.if-place-signs.true
    ]

pub returns-in_err-leg : goal.returns-in_err-leg
returns-in_err-leg c =
    let legs = fraction_legs c.args.orders.now (map fraction_of c.args.fills.now) in
    let none = passes_nowhere is_unsigned legs (map sign_of c.args.signs.now) c.args.place (sym c.in_err-leg.ensures) in
    rw (c.from_residual.ensures) none

pub returns-then-is_unsigned : goal.returns-then-is_unsigned
returns-then-is_unsigned c =
    let legs = fraction_legs c.args.orders.now (map fraction_of c.args.fills.now) in
    let s : ℤ = to_z w8 (of_z w8 (get_or c.args.signs.now (c.args.place - 1) (pos 0))) in
    let fits : FitsSigned w8 (get_or c.args.signs.now (c.args.place - 1) (pos 0)) = search rules in
    let same : s ≡ get_or c.args.signs.now (c.args.place - 1) (pos 0) = to_z-of_z w8 _ fits in
    let there = passes_there is_unsigned legs c.args.signs.now c.args.place (leg_as fraction_of c.in_ok-leg.leg) s (omega (arith, c.if-place-eq0.false)) c.if-place-signs.false (sym c.in_ok-leg.ensures) same in
    record {
      splits = there ∙ sym c.is_unsigned.ensures ∙ c.if-is_unsigned.true;
      index = refl;
      within = omega (arith, c.if-place-eq0.false, c.if-place-signs.false);
      none = sym same ∙ none_is (exposure_as c.in_ok-leg.leg.exposure) s (sym c.is_unsigned.ensures ∙ c.if-is_unsigned.true);
    }

pub returns-else-is_unsigned : goal.returns-else-is_unsigned
returns-else-is_unsigned c =
    let legs = fraction_legs c.args.orders.now (map fraction_of c.args.fills.now) in
    let s : ℤ = to_z w8 (of_z w8 (get_or c.args.signs.now (c.args.place - 1) (pos 0))) in
    let fits : FitsSigned w8 (get_or c.args.signs.now (c.args.place - 1) (pos 0)) = search rules in
    passes_there is_unsigned legs c.args.signs.now c.args.place (leg_as fraction_of c.in_ok-leg.leg) s (omega (arith, c.if-place-eq0.false)) c.if-place-signs.false (sym c.in_ok-leg.ensures) (to_z-of_z w8 _ fits)
    ∙ sym c.is_unsigned.ensures ∙ c.if-is_unsigned.false
