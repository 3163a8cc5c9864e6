-- A balance that can pay the need of an account secures it.
use Rattle.std.proofs.Common.{◌≡◌, ℕ, ◌+◌, Bool, true, false, List, [], ◌∷◌, length, All, Ok, Err, arith, ℤ, pos, ◌+ℤ◌, ◌≤ℤ◌, refl}
use Rattle.std.specs.Prelude.{nat_le, if◌then◌else◌}
use Rattle.std.specs.List.{sum}
use Rattle.std.proofs.lemmas.Int.{ints}
use Rattle.std.proofs.lemmas.List.Sums.{sum_by-cons}
use Rattle.std.proofs.lemmas.List.Elements.{All-head, All-tail}
use Rattle.arithmetic.specs.Sums.{total}
use Rattle.arithmetic.proofs.Tests.{int_le-yes}
use Rattle.frac.specs.Range.{limit as largest}
use Rattle.account_need.specs.declared.need.NoNeed.{NoNeed}
use Rattle.account_need.specs.declared.need.NoNeed.TheVariants.{Sum}
use Rattle.account_need.specs.Account.{Need, bound_of, can_pay, need_from, need_of, on_amount, on_bound}
use Rattle.account_need.specs.Exposure.{AreEnough, Covers, IsSecured, Portfolio, asked_for}
use Rattle.account_need.specs.Laws.{AreTrueNeeds, IsTraded, NeedIsAboveTrue, PayingSecures}
use Rattle.account_need.specs.Rounded.{summed}
use Rattle.account_need.specs.Several.{Bounded}
use Rattle.account_need.proofs.SeveralBounds.{bounds_cover}

-- ---- answers
no_amount : (n : Need) (word : NoNeed) (amount : ℕ) → n ≡ Err word → n ≡ Ok amount → ⊥
no_amount n word amount e f = cc

same_amount : (n : Need) (a b : ℕ) → n ≡ Ok a → n ≡ Ok b → a ≡ b
same_amount n a b e f = cc

not_both : (b : Bool) → b ≡ true → b ≡ false → ⊥
not_both b e f = cc

-- ---- all markets
record Secures (markets : List Portfolio) (so_far amount : ℕ) : Type 0 where
  parts : List ℤ
  enough : AreEnough markets parts
  sum : pos so_far +ℤ total (λ part. part) parts ≡ pos amount

one_more : (p : Portfolio) (markets : List Portfolio) (so_far amount : ℕ) (S : ℤ) → Covers p S → Secures markets (so_far + asked_for p.live (length p.positions) S) amount → Secures (p ∷ markets) so_far amount
one_more p markets so_far amount S covers rest = record {
  parts = pos (asked_for p.live (length p.positions) S) ∷ rest.parts;
  enough = (record { bound = S; covers = covers; asked = omega (arith, ints) }, rest.enough);
  sum = omega (arith, ints, rest.sum);
}

parts_from : (markets : List Portfolio) (so_far spent amount : ℕ) → All IsTraded markets → need_from so_far spent markets ≡ Ok amount → Secures markets so_far amount
parts_from [] so_far spent amount traded found = record { parts = []; enough = tt; sum = omega (arith, ints, same_amount (Ok so_far) so_far amount refl found) }
parts_from (p ∷ markets) so_far spent amount traded found =
    by (bound_of p.underlyings spent (summed p)) refl found (λ x later h. parts_from markets x later amount (All-tail IsTraded p markets traded) h)
  where
    by : (b : Bounded) → bound_of p.underlyings spent (summed p) ≡ b → on_bound b (λ S later. on_amount (so_far + asked_for p.live (length p.positions) S) (λ x. need_from x later markets)) ≡ Ok amount
        → ((x later : ℕ) → need_from x later markets ≡ Ok amount → Secures markets x amount) → Secures (p ∷ markets) so_far amount
    by (Err word) e h rest = absurd (no_amount (Err word) word amount refl h)
    by (Ok (S, later)) e h rest = fits (nat_le (so_far + asked_for p.live (length p.positions) S) largest) h
      where
        fits : (b : Bool) → (if b then need_from (so_far + asked_for p.live (length p.positions) S) later markets else Err Sum) ≡ Ok amount → Secures (p ∷ markets) so_far amount
        fits false h = absurd (no_amount (Err Sum) Sum amount refl h)
        fits true h = one_more p markets so_far amount S (bounds_cover p spent later S (All-head IsTraded p markets traded) e) (rest (so_far + asked_for p.live (length p.positions) S) later h)

need_secures : (markets : List Portfolio) (amount : ℕ) (balance : ℤ) → All IsTraded markets → need_of markets ≡ Ok amount → pos amount ≤ℤ balance → IsSecured markets balance
need_secures markets amount balance traded found le =
    let s = parts_from markets 0 0 amount traded found in
    record { parts = s.parts; enough = s.enough; sum = omega (arith, ints, s.sum, le) }

pub paying_secures : PayingSecures
paying_secures markets balance traded pays = by (need_of markets) refl pays
  where
    by : (n : Need) → need_of markets ≡ n → can_pay balance n ≡ true → IsSecured markets balance
    by (Err word) e h = absurd (not_both false h refl)
    by (Ok amount) e h = need_secures markets amount balance traded e (int_le-yes (pos amount) balance h)

-- ---- the true needs
needs_below : (markets : List Portfolio) (needs : List ℕ) (parts : List ℤ) → AreTrueNeeds markets needs → AreEnough markets parts → pos (sum needs) ≤ℤ total (λ part. part) parts
needs_below [] [] [] are enough = omega (arith, ints)
needs_below [] [] (part ∷ parts) are enough = absurd enough
needs_below [] (need ∷ needs) parts are enough = absurd are
needs_below (p ∷ markets) [] parts are enough = absurd are
needs_below (p ∷ markets) (need ∷ needs) [] are enough = absurd enough
needs_below (p ∷ markets) (need ∷ needs) (part ∷ parts) are enough =
    omega (arith, ints, sum_by-cons (λ (k : ℕ). k) need needs, are.0.least part enough.0, needs_below markets needs parts are.1 enough.1)

pub need_is_above_true : NeedIsAboveTrue
need_is_above_true markets needs amount traded are found =
    let s = parts_from markets 0 0 amount traded found in
    omega (arith, ints, needs_below markets needs s.parts are s.enough, s.sum)
