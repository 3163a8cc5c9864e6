use Rattle.std.proofs.Common.{◌≡◌, ◌≤◌, ℤ, unsigned_abs, to_z, of_z, arith, sym, subst, ◌∙◌}
use Rattle.std.proofs.lemmas.Int.{fits_signed_from_abs, to_z-of_z}
use mir.Syntax.{w64}
use Rattle.form.specs.Payoff.{bundle_legs, count_sizes, option_of}
use Rattle.account_need.proofs.HeldSums.{another_counts, none_owed}
use Rattle.account_need.proofs.Parts.{fewer_options, owed_few}
use Rattle.account_need.proofs.shares.part_owed.Goals as goal

same_bits : (k : ℤ) → unsigned_abs k ≤ 4000 → to_z w64 (of_z w64 k) ≡ k
same_bits k low = to_z-of_z w64 k (fits_signed_from_abs w64 k (omega (arith, low)))

pub rounded_up-requires-clause-few : goal.rounded_up-requires-clause-few
rounded_up-requires-clause-few c =
    let p = c.args.position.now in
    let k = c.owed_count-count.result in
    let few : unsigned_abs k ≤ count_sizes p.bundle = subst (λ (z : ℤ). unsigned_abs z ≤ count_sizes p.bundle) (sym c.owed_count-count.ensures.count) (owed_few (option_of c.args.form.now) p.side p.bundle) in
    rw (same_bits k c.owed_count-count.ensures.small) (fewer_options p (unsigned_abs k) c.requires few)

pub returns-then-is_of_another-clause-part : goal.returns-then-is_of_another-clause-part
returns-then-is_of_another-clause-part c =
    let v = option_of c.args.form.now in
    let p = c.args.position.now in
    sym (none_owed v p (another_counts v (bundle_legs p.bundle) (sym c.is_of_another.ensures ∙ c.if-is_of_another.true)))
