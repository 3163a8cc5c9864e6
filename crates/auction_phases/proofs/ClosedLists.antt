-- The list of closed markets, as others come and go.
use Rattle.std.proofs.Common.{◌≡◌, ℕ, Bool, true, false, cond, not, ◌||◌, List, [], ◌∷◌, nat_eq, refl, ap, ◌∙◌, arith}
use Rattle.std.proofs.lemmas.Bool.Decides.{nat_tests}
use Rattle.auction_phases.specs.Phases.{is_closed, with_closed, with_open}

-- a closed market stays closed as another is opened
pub stays_closed : (market other : ℕ) → nat_eq market other ≡ false → (closed : List ℕ) → is_closed closed market ≡ true → is_closed (with_open closed other) market ≡ true
stays_closed market other differ [] is = cc
stays_closed market other differ (first ∷ closed) is = by (nat_eq first other) refl (nat_eq first market) refl is (stays_closed market other differ closed)
  where
    neither : nat_eq first other ≡ true → nat_eq first market ≡ true → ⊥
    neither a b = grind (arith, nat_tests)

    by : (b : Bool) → nat_eq first other ≡ b → (c : Bool) → nat_eq first market ≡ c → (c || is_closed closed market) ≡ true
        → (is_closed closed market ≡ true → is_closed (with_open closed other) market ≡ true)
        → is_closed (cond (not b) (first ∷ with_open closed other) (with_open closed other)) market ≡ true
    by true at true own h later = absurd (neither at own)
    by true at false own h later = later h
    by false at true own h later = ap (λ b. b || is_closed (with_open closed other) market) own
    by false at false own h later = ap (λ b. b || is_closed (with_open closed other) market) own ∙ later h

-- and as another is closed
pub closed_more : (market other : ℕ) (closed : List ℕ) → is_closed closed market ≡ true → is_closed (with_closed closed other) market ≡ true
closed_more market other [] is = cc
closed_more market other (first ∷ closed) is = by (nat_eq first market) is (closed_more market other closed)
  where
    by : (b : Bool) → (b || is_closed closed market) ≡ true → (is_closed closed market ≡ true → is_closed (with_closed closed other) market ≡ true)
        → (b || is_closed (with_closed closed other) market) ≡ true
    by true h later = refl
    by false h later = later h
