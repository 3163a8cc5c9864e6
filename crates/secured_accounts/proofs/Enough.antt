-- Balances that are enough for lists of portfolios: in another order, with one more in which there
-- is nothing, and with one less.
use Rattle.std.proofs.Common.{◌≡◌, ℕ, List, [], ◌∷◌, ◌++◌, map, arith, ℤ, pos, ◌+ℤ◌, ◌-ℤ◌, ◌≤ℤ◌, refl, sym, subst}
use Rattle.std.proofs.lemmas.Int.{ints}
use Rattle.arithmetic.specs.Sums.{total}
use Rattle.account_need.specs.Exposure.{AreEnough, IsEnough, IsSecured, Portfolio}
use Rattle.account_need.proofs.Portfolios.{portfolio_is}
use Rattle.account_need.proofs.Secured.{enough_not_below, more_is_secured}
use Rattle.account_need.proofs.Settles.{nothing_left}

abbrev sum_of : List ℤ → ℤ
sum_of parts = total (λ part. part) parts

-- ---- the first, and the others
pub record Front (p : Portfolio) (ps : List Portfolio) (balance : ℤ) : Type 0 where
  pub part : ℤ
  pub enough : IsEnough p part
  pub rest : IsSecured ps (balance -ℤ part)

pub front_of : (p : Portfolio) (ps : List Portfolio) (balance : ℤ) → IsSecured (p ∷ ps) balance → Front p ps balance
front_of p ps balance s = by s.parts s.enough s.sum
  where
    by : (parts : List ℤ) → AreEnough (p ∷ ps) parts → sum_of parts ≤ℤ balance → Front p ps balance
    by [] e le = absurd e
    by (part ∷ parts) e le = record { part = part; enough = e.0; rest = record { parts = parts; enough = e.1; sum = omega (arith, ints, le) } }

pub in_front : (p : Portfolio) (ps : List Portfolio) (balance : ℤ) → Front p ps balance → IsSecured (p ∷ ps) balance
in_front p ps balance f = record { parts = f.part ∷ f.rest.parts; enough = (f.enough, f.rest.enough); sum = omega (arith, ints, f.rest.sum) }

-- what holds of the others, whatever is left for them
pub under : (p : Portfolio) (ps qs : List Portfolio) → ((b : ℤ) → IsSecured ps b → IsSecured qs b) → (balance : ℤ) → IsSecured (p ∷ ps) balance → IsSecured (p ∷ qs) balance
under p ps qs step balance s =
    let f = front_of p ps balance s in
    in_front p qs balance (record { part = f.part; enough = f.enough; rest = step (balance -ℤ f.part) f.rest })

pub swapped : (p q : Portfolio) (ps : List Portfolio) (balance : ℤ) → IsSecured (p ∷ q ∷ ps) balance → IsSecured (q ∷ p ∷ ps) balance
swapped p q ps balance s =
    let f = front_of p (q ∷ ps) balance s in
    let g = front_of q ps (balance -ℤ f.part) f.rest in
    let rest = more_is_secured ps ((balance -ℤ f.part) -ℤ g.part) ((balance -ℤ g.part) -ℤ f.part) (omega (arith, ints)) g.rest in
    in_front q (p ∷ ps) balance (record {
      part = g.part;
      enough = g.enough;
      rest = in_front p ps (balance -ℤ g.part) (record { part = f.part; enough = f.enough; rest = rest });
    })

-- ---- one less, and one more
pub dropped : (p : Portfolio) (ps : List Portfolio) (balance : ℤ) → IsSecured (p ∷ ps) balance → IsSecured ps balance
dropped p ps balance s =
    let f = front_of p ps balance s in
    let low = enough_not_below p f.part f.enough in
    more_is_secured ps (balance -ℤ f.part) balance (omega (arith, ints, low)) f.rest

pub record HasNothing (p : Portfolio) : Type 0 where
  pub positions : p.positions ≡ []
  pub live : p.live ≡ []

pub nothing_enough : (p : Portfolio) (balance : ℤ) → HasNothing p → pos 0 ≤ℤ balance → IsEnough p balance
nothing_enough p balance none low =
    subst (λ (q : Portfolio). IsEnough q balance) (sym (portfolio_is p p.underlyings [] [] refl none.positions none.live)) (nothing_left p.underlyings balance low)

pub added : (p : Portfolio) (ps : List Portfolio) (balance : ℤ) → HasNothing p → IsSecured ps balance → IsSecured (p ∷ ps) balance
added p ps balance none s =
    let zero_is_low : pos 0 ≤ℤ pos 0 = omega (arith, ints) in
    let rest = more_is_secured ps balance (balance -ℤ pos 0) (omega (arith, ints)) s in
    in_front p ps balance (record { part = pos 0; enough = nothing_enough p (pos 0) none zero_is_low; rest = rest })

pub at_end : (p : Portfolio) (ps : List Portfolio) (balance : ℤ) → HasNothing p → IsSecured ps balance → IsSecured (ps ++ p ∷ []) balance
at_end p [] balance none s = added p [] balance none s
at_end p (q ∷ ps) balance none s = under q ps (ps ++ p ∷ []) (λ b rest. at_end p ps b none rest) balance s

-- ---- each changed by its number
module _ (before after : ℕ → Portfolio) (paid : ℕ → ℤ) (keeps : (n : ℕ) (part : ℤ) → IsEnough (before n) part → IsEnough (after n) (part +ℤ paid n)) where
  pub all_moved : (numbers : List ℕ) (balance : ℤ) → IsSecured (map before numbers) balance → IsSecured (map after numbers) (balance +ℤ total paid numbers)
  all_moved [] balance s = more_is_secured [] balance (balance +ℤ pos 0) (omega (arith, ints)) s
  all_moved (n ∷ numbers) balance s =
      let f = front_of (before n) (map before numbers) balance s in
      let rest = all_moved numbers (balance -ℤ f.part) f.rest in
      let sum = total paid numbers in
      let as_left = more_is_secured (map after numbers) ((balance -ℤ f.part) +ℤ sum) ((balance +ℤ (paid n +ℤ sum)) -ℤ (f.part +ℤ paid n)) (omega (arith, ints)) rest in
      in_front (after n) (map after numbers) (balance +ℤ (paid n +ℤ sum)) (record { part = f.part +ℤ paid n; enough = keeps n f.part f.enough; rest = as_left })
