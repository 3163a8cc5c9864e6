use Rattle.std.proofs.Common.{rules, ◌≡◌, ◌∙◌, ◌/◌, ◌≤◌, sym, ap, unsigned_abs, pos, w64, arith, ℕ, FitsSigned}
use Rattle.std.proofs.lemmas.Int.{to_z-of_z}
use Rattle.std.proofs.Math.Nat.{div-le_self}
use Rattle.run_equivalence.specs.IntegerRows.{widest}
use Rattle.integer_tableau.proofs.Eliminating.{shared_is, shared_with_one, undivided, undivided_signed, divided_by_itself, quotient_is, shared_by_rest, shared_whole}
use Rattle.integer_tableau.proofs.short_row.without_common.Goals as goal

pub returns-then-a-eq1-clause-a : goal.returns-then-a-eq1-clause-a
returns-then-a-eq1-clause-a c = ap pos (sym c.if-a-eq1.true ∙ undivided c.args.a _ (shared_with_one (unsigned_abs c.args.x) c.args.a c.if-a-eq1.true))

pub returns-then-a-eq1-clause-x : goal.returns-then-a-eq1-clause-x
returns-then-a-eq1-clause-x c = to_z-of_z w64 c.args.x c.ranges.x ∙ undivided_signed c.args.x _ (shared_with_one (unsigned_abs c.args.x) c.args.a c.if-a-eq1.true)

pub returns-then-rest-eq0-clause-a : goal.returns-then-rest-eq0-clause-a
returns-then-rest-eq0-clause-a c =
    let size : c.unsigned_abs.result ≡ unsigned_abs c.args.x = c.unsigned_abs.ensures.value ∙ ap unsigned_abs (to_z-of_z w64 c.args.x c.ranges.x) in
    ap pos (divided_by_itself c.args.a _ c.requires.above (shared_whole c.unsigned_abs.result (unsigned_abs c.args.x) c.args.a size c.if-rest-eq0.true))

pub returns-then-rest-eq0-clause-x : goal.returns-then-rest-eq0-clause-x
returns-then-rest-eq0-clause-x c =
    let size : c.unsigned_abs.result ≡ unsigned_abs c.args.x = c.unsigned_abs.ensures.value ∙ ap unsigned_abs (to_z-of_z w64 c.args.x c.ranges.x) in
    let fits : FitsSigned w64 c.short_quotient.result = search rules in
    quotient_is w64 c.args.x c.short_quotient.result c.args.a _ c.ranges.x fits c.short_quotient.ensures (sym (shared_whole c.unsigned_abs.result (unsigned_abs c.args.x) c.args.a size c.if-rest-eq0.true))

pub returns-then-shared-eq1-clause-a : goal.returns-then-shared-eq1-clause-a
returns-then-shared-eq1-clause-a c =
    let size : c.unsigned_abs.result ≡ unsigned_abs c.args.x = c.unsigned_abs.ensures.value ∙ ap unsigned_abs (to_z-of_z w64 c.args.x c.ranges.x) in
    let shared = shared_by_rest c.unsigned_abs.result (unsigned_abs c.args.x) c.args.a c.short_gcd-shared.result size c.short_gcd-shared.ensures.value in
    shared_is c.args.a c.requires.below ∙ ap pos (undivided c.args.a _ (sym shared ∙ c.if-shared-eq1.true))

pub returns-then-shared-eq1-clause-x : goal.returns-then-shared-eq1-clause-x
returns-then-shared-eq1-clause-x c =
    let size : c.unsigned_abs.result ≡ unsigned_abs c.args.x = c.unsigned_abs.ensures.value ∙ ap unsigned_abs (to_z-of_z w64 c.args.x c.ranges.x) in
    let shared = shared_by_rest c.unsigned_abs.result (unsigned_abs c.args.x) c.args.a c.short_gcd-shared.result size c.short_gcd-shared.ensures.value in
    to_z-of_z w64 c.args.x c.ranges.x ∙ undivided_signed c.args.x _ (sym shared ∙ c.if-shared-eq1.true)

pub returns-clause-a : goal.returns-clause-a
returns-clause-a c =
    let size : c.unsigned_abs.result ≡ unsigned_abs c.args.x = c.unsigned_abs.ensures.value ∙ ap unsigned_abs (to_z-of_z w64 c.args.x c.ranges.x) in
    let shared = shared_by_rest c.unsigned_abs.result (unsigned_abs c.args.x) c.args.a c.short_gcd-shared.result size c.short_gcd-shared.ensures.value in
    let less = div-le_self c.args.a c.short_gcd-shared.result in
    let low : c.args.a / c.short_gcd-shared.result ≤ widest = omega (arith, less, c.requires.below) in
    shared_is (c.args.a / c.short_gcd-shared.result) low ∙ ap (λ (k : ℕ). pos (c.args.a / k)) shared

pub returns-clause-x : goal.returns-clause-x
returns-clause-x c =
    let size : c.unsigned_abs.result ≡ unsigned_abs c.args.x = c.unsigned_abs.ensures.value ∙ ap unsigned_abs (to_z-of_z w64 c.args.x c.ranges.x) in
    let fits : FitsSigned w64 c.short_quotient-2.result = search rules in
    quotient_is w64 c.args.x c.short_quotient-2.result c.short_gcd-shared.result _ c.ranges.x fits c.short_quotient-2.ensures
    (shared_by_rest c.unsigned_abs.result (unsigned_abs c.args.x) c.args.a c.short_gcd-shared.result size c.short_gcd-shared.ensures.value)
