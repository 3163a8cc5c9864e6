-- What the margins of one account demand of its balance.
use Rattle.std.specs.Prelude.{ℕ, suc, ◌/◌, nat_le, List, [], ◌∷◌, map, ℤ, pos, negsuc, neg_ℤ, ◌+ℤ◌, ◌≤ℤ◌, Option, Some, None, Result, Ok, Err, if◌then◌else◌}
use Rattle.std.specs.Int.{div_ceil}
use Rattle.std.specs.List.{sum}
use Rattle.arithmetic.specs.Sums.{positive_part}
use Rattle.exact_num.specs.Fraction.{Fraction, IsDefined, AtMost, whole}
use Rattle.frac.specs.Range.{limit as largest}
use Rattle.frac.specs.Value.{fraction_of}
use Rattle.portfolio_margin.specs.declared.least_margin.LeastMargin.{LeastMargin}
use Rattle.portfolio_margin.specs.declared.least_margin.LeastMargin.TheVariants.{Least, Unbounded, Wide, Budget}
use Rattle.portfolio_margin.specs.declared.needs.Needed.{Needed}
use Rattle.portfolio_margin.specs.declared.needs.Needed.TheVariants.{Amount, Unbounded as NoBound, Wide as TooWide, Budget as NoUnit, Sum}

-- n / d, rounded up
abbrev pub ceil_of : ℤ → ℕ → ℤ
ceil_of (pos n) d = pos (div_ceil n d)
ceil_of (negsuc n) d = neg_ℤ (pos (suc n / d))

-- m is the least whole number that is not below x
pub record IsCeil (x : Fraction) (m : ℤ) : Type 0 where
  pub not_below : AtMost x (whole m)
  pub least : (k : ℤ) → AtMost x (whole k) → m ≤ℤ k

abbrev pub LiabilitiesAreRoundedUp : Type 0
LiabilitiesAreRoundedUp = (x : Fraction) → IsDefined x → IsCeil x (ceil_of x.numerator x.denominator)

-- the liability of a margin that is least, or else its word
abbrev pub liability_or_word : LeastMargin → Result Fraction Needed
liability_or_word (Least L at tree) = Ok (fraction_of L)
liability_or_word (Unbounded ray) = Err NoBound
liability_or_word (Wide unit wide) = Err TooWide
liability_or_word Budget = Err NoUnit

-- ---- what markets demand: each a liability or a word, with a number of positions
abbrev pub Demand : Type 0 → Type 0
Demand W = Result Fraction W × ℕ

-- the liability rounded up and the number of positions, or 0 where that is below 0
abbrev pub demand_amount : {W : Type 0} → Result Fraction W → ℕ → ℕ
demand_amount (Ok L) positions = positive_part (ceil_of L.numerator L.denominator +ℤ pos positions)
demand_amount (Err word) positions = 0

abbrev pub demand_word : {W : Type 0} → Result Fraction W → Option W
demand_word (Ok L) = None
demand_word (Err word) = Some word

abbrev pub or_word : {W : Type 0} → Option W → Option W → Option W
or_word (Some word) later = Some word
or_word None later = later

-- the first word of all
abbrev pub first_demand_word : {W : Type 0} → List (Demand W) → Option W
first_demand_word [] = None
first_demand_word (d ∷ demands) = or_word (demand_word d.0) (first_demand_word demands)

abbrev pub whole_demand : {W : Type 0} → List (Demand W) → ℕ
whole_demand demands = sum (map (λ d. demand_amount d.0 d.1) demands)

-- no part is below 0, so that some sum of the first ones passes the limit just where the whole sum
-- does
abbrev pub demand_sum : {W : Type 0} → List (Demand W) → Needed
demand_sum demands = if nat_le (whole_demand demands) largest then Amount (whole_demand demands) else Sum

-- ---- what margins demand
abbrev pub part_of : LeastMargin → ℕ → ℕ
part_of margin positions = demand_amount (liability_or_word margin) positions

abbrev pub word_of : LeastMargin → Option Needed
word_of margin = demand_word (liability_or_word margin)

-- a margin with its number of positions
abbrev pub Counted : Type 0
Counted = LeastMargin × ℕ

abbrev pub demands_of : List Counted → List (Demand Needed)
demands_of margins = map (λ (m : Counted). (liability_or_word m.0, m.1)) margins

abbrev pub first_word : List Counted → Option Needed
first_word margins = first_demand_word (demands_of margins)

abbrev pub whole_of : List Counted → ℕ
whole_of margins = whole_demand (demands_of margins)

abbrev pub sum_need : List Counted → Needed
sum_need margins = demand_sum (demands_of margins)

abbrev pub word_or : Option Needed → Needed → Needed
word_or (Some word) need = word
word_or None need = need

abbrev pub need_of : List Counted → Needed
need_of margins = word_or (first_word margins) (sum_need margins)
