use Rattle.std.proofs.Common.{◌≡◌, ◌≤◌, ℕ, ℤ, pos, ◌*ℤ◌, unsigned_abs, to_z, of_z, arith, ap, rules, ◌∙◌}
use Rattle.std.proofs.lemmas.Int.{fits_signed_from_abs, to_z-of_z}
use mir.Syntax.{w128}
use Rattle.account_need.proofs.OnLine.{amount_small}
use Rattle.account_need.proofs.exposure.amount_of.Goals as goal

same_sum : (s : ℤ) → unsigned_abs s ≤ 72057594037927936000000 → to_z w128 (of_z w128 s) ≡ s
same_sum s small = to_z-of_z w128 s (fits_signed_from_abs w128 s (omega (arith, small)))

same_pays : (x : ℤ) (p : ℕ) → x ≡ pos p → p ≤ 2000000000000 → to_z w128 (of_z w128 x) ≡ pos p
same_pays x p is small =
    ap (λ (w : ℤ). to_z w128 (of_z w128 w)) is ∙ to_z-of_z w128 (pos p) (fits_signed_from_abs w128 (pos p) (omega (arith, small)))

pub overflow_mul-result : goal.overflow_mul-result
overflow_mul-result c =
    let s = c.args.item.now.sum in
    let p = c.pays.result in
    let size = amount_small s p c.requires.small c.pays.ensures.small in
    rw (same_sum s c.requires.small, same_pays c.from.result p (search rules) c.pays.ensures.small)
    (fits_signed_from_abs w128 (s *ℤ pos p) (omega (arith, size)))

pub returns-clause-amount : goal.returns-clause-amount
returns-clause-amount c =
    let s = c.args.item.now.sum in
    let p = c.pays.result in
    let size = amount_small s p c.requires.small c.pays.ensures.small in
    let back = to_z-of_z w128 (s *ℤ pos p) (fits_signed_from_abs w128 (s *ℤ pos p) (omega (arith, size))) in
    rw (same_sum s c.requires.small, same_pays c.from.result p (search rules) c.pays.ensures.small)
    (back ∙ ap (λ (n : ℕ). s *ℤ pos n) c.pays.ensures.pays)

pub returns-clause-small : goal.returns-clause-small
returns-clause-small c =
    let s = c.args.item.now.sum in
    let p = c.pays.result in
    let size = amount_small s p c.requires.small c.pays.ensures.small in
    let back = to_z-of_z w128 (s *ℤ pos p) (fits_signed_from_abs w128 (s *ℤ pos p) (omega (arith, size))) in
    rw (same_sum s c.requires.small, same_pays c.from.result p (search rules) c.pays.ensures.small, back) size
