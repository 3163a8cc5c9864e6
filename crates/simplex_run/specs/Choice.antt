-- The choices of a pivot by Bland's rule: the entering column, the ratio test, the leaving row.
use Rattle.std.specs.Prelude.{ℕ, ◌+◌, List, [], ◌∷◌, if◌then◌else◌, nat_lt, Option, Some, None, Result, Ok}
use Rattle.std.specs.declared.cmp.Ordering.{Ordering}
use Rattle.std.specs.declared.cmp.Ordering.TheVariants.{Less, Equal, Greater}
use Rattle.exact_num.specs.declared.misfit.Wide.{Wide}
use Rattle.exact_num.specs.Fraction.{Fraction, fraction_cmp}
use Rattle.exact_num.specs.Fits.{div_of, after}
use Rattle.exact_num.specs.Tests.{is_below_zero, is_above_zero}
use Rattle.simplex_run.specs.Places.{at}
use Rattle.simplex_run.specs.Table.{Table, Row, right_side}

-- ---- the entering column: of those whose objective entry is below 0 that of the smallest variable
pub record Column : Type 0 where
  pub place : ℕ
  pub label : ℕ

abbrev pub smaller : Column → Option Column → Column
smaller c None = c
smaller c (Some d) = if nat_lt d.label c.label then d else c

-- of the columns from place k on
unfoldable pub least_below : ℕ → List ℕ → List Fraction → Option Column
least_below k [] xs = None
least_below k (v ∷ vs) [] = None
least_below k (v ∷ vs) (x ∷ xs) =
    let later = least_below (k + 1) vs xs in
    let here = Some (smaller (record { place = k; label = v }) later) in
    if is_below_zero x then here else later

unfoldable pub entering : Table → Option Column
entering t = least_below 0 t.labels t.objective

-- ---- the ratio test
-- a row that limits the entering variable, and the value at which it does
pub record Ratio : Type 0 where
  pub place : ℕ
  pub basic : ℕ
  pub value : Fraction

abbrev pub ratio_of : ℕ → ℕ → Fraction → Ratio
ratio_of place basic value = record { place = place; basic = basic; value = value }

-- the right side over the entry in column c, where that entry is above 0
unfoldable pub ratio_in : ℕ → ℕ → ℕ → List Fraction → Result (Option Fraction) Wide
ratio_in limit width c entries =
    if is_above_zero (at entries c)
    then after (div_of limit (right_side width entries) (at entries c)) (λ q. Ok (Some q))
    else Ok None

-- the ratio of row i, where it has one, before those of later rows
abbrev pub join_ratio : ℕ → ℕ → Option Fraction → List Ratio → List Ratio
join_ratio i basic None qs = qs
join_ratio i basic (Some q) qs = ratio_of i basic q ∷ qs

-- the ratios of the rows that limit column c, in rising order, the first row being row i
unfoldable pub ratios : ℕ → ℕ → ℕ → ℕ → List Row → Result (List Ratio) Wide
ratios limit width c i [] = Ok []
ratios limit width c i (row ∷ rows) =
    after (ratio_in limit width c row.entries)
    (λ q. after (ratios limit width c (i + 1) rows) (λ qs. Ok (join_ratio i row.basic q qs)))

-- the first, the second or the third, by an order
abbrev pub by_order : {A : Type 0} → Ordering → A → A → A → A
by_order Less x y z = x
by_order Equal x y z = y
by_order Greater x y z = z

-- the less of two ratios; of equal ones that of the smaller basic variable
abbrev pub lesser : Ratio → Ratio → Ratio
lesser a b = by_order (fraction_cmp a.value b.value) a (if nat_lt a.basic b.basic then a else b) b

-- the least of the ratios, whose row leaves
unfoldable pub least : Ratio → List Ratio → Ratio
least a [] = a
least a (b ∷ bs) = least (lesser a b) bs
