-- Worked margins, and the need of two of them.
use Rattle.std.specs.Prelude.{◌≡◌, ℕ, List, [], ◌∷◌, ℤ, pos, negsuc}
use Rattle.exact_num.specs.Limit.{limit as largest}
use Rattle.exact_num.specs.Fraction.{Fraction, whole, over}
use Rattle.frac.specs.ValueOf.{value_of}
use Rattle.form.specs.declared.bundles.Bundle.{Bundle}
use Rattle.form.specs.declared.orders.Side.{Side}
use Rattle.form.specs.declared.orders.Side.TheVariants.{Buy, Sell}
use Rattle.form.specs.FormOf.{form_of}
use Rattle.form.specs.BundleOf.{bundle_one, bundle_made}
use Rattle.form.specs.StateOf.{state_of}
use Rattle.clearing_model.specs.Written.{WrittenTree, Ends, Parts}
use Rattle.simplex_run.specs.Ending.{Ending, done, no_unit_left}
use Rattle.settlement.specs.declared.position.Position.{Position}
use Rattle.portfolio_margin.specs.declared.least_margin.LeastMargin.TheVariants.{Least, Unbounded}
use Rattle.portfolio_margin.specs.declared.needs.Needed.TheVariants.{Amount, Unbounded as NoBound, Sum}
use Rattle.portfolio_margin.specs.Run.{Margin, asked_for, least, endless, margin_run}
use Rattle.portfolio_margin.specs.Need.{Counted, need_of}

abbrev pub position_of : Side → Bundle → Fraction → Position
position_of side bundle fill = record { market = 1; batch = 1; order = 1; account = 2; side = side; bundle = bundle; fill = value_of fill }

abbrev pub option : List ℤ → Bundle
option v = bundle_one (form_of v)

abbrev pub run_on : ℕ → ℕ → List Position → Ending Margin
run_on budget n positions = margin_run (asked_for largest budget n positions)

-- a put with strike 10 is sold: it costs at most 10, where the price is 0
abbrev pub sold_put : List Position
sold_put = position_of Sell (option (pos 10 ∷ negsuc 0 ∷ [])) (whole (pos 1)) ∷ []

-- two sevenths of a call are sold: there is no bound
abbrev pub sold_call : List Position
sold_call = position_of Sell (option (negsuc 4 ∷ pos 1 ∷ [])) (over (pos 2) 7) ∷ []

-- a call with strike 10 is sold and one with strike 12 bought: at 12 and above they owe 2
abbrev pub spread : List Position
spread = position_of Sell (option (negsuc 9 ∷ pos 1 ∷ [])) (whole (pos 1)) ∷ position_of Buy (option (negsuc 11 ∷ pos 1 ∷ [])) (whole (pos 1)) ∷ []

-- a bundle is sold that counts a put with strike 10 once below 0: it is owed 10 where the price is
-- 0, and nothing from 10 on
abbrev pub sold_short : List Position
sold_short = position_of Sell (bundle_made (record { count = negsuc 0; form = form_of (pos 10 ∷ negsuc 0 ∷ []) } ∷ [])) (whole (pos 1)) ∷ []

-- the call that is bought covers the one that is sold, once both pay
abbrev pub spread_tree : WrittenTree
spread_tree = Parts 1 (Ends (record { place = 2; by = whole (pos 1) } ∷ [])) (Ends [])

pub record MarginsByHand : Type 0 where
  pub nothing : run_on 2000 1 [] ≡ done (least (whole (pos 0)) (1 ∷ 0 ∷ []) (Ends [])) 1
  pub put_sold : run_on 2000 1 sold_put ≡ done (least (whole (pos 10)) (1 ∷ 0 ∷ []) (Ends [])) 1
  pub put_one_short : run_on 0 1 sold_put ≡ no_unit_left 0
  pub call_sold : run_on 2000 1 sold_call ≡ done (endless (0 ∷ 1 ∷ [])) 2
  pub call_one_short : run_on 1 1 sold_call ≡ no_unit_left 1
  pub spread_helps : run_on 2000 1 spread ≡ done (least (whole (pos 2)) (1 ∷ 12 ∷ []) spread_tree) 9
  pub short_sold : run_on 2000 1 sold_short ≡ done (least (whole (pos 0)) (1 ∷ 10 ∷ []) (Ends [])) 4

-- 10 of one position and -5 of two: 11, and nothing
abbrev pub margin_of : ℤ → ℕ → Counted
margin_of liability positions = (Least (value_of (whole liability)) (state_of (1 ∷ 0 ∷ [])) (record { nodes = []; multipliers = [] }), positions)

abbrev pub no_bound : ℕ → Counted
no_bound positions = (Unbounded (state_of (0 ∷ 1 ∷ [])), positions)

abbrev pub largest_amount : ℕ
largest_amount = largest

-- the largest amount, and one more; a margin without a bound comes before a sum that does not fit
pub record NeedsByHand : Type 0 where
  pub two : need_of (margin_of (pos 10) 1 ∷ margin_of (negsuc 4) 2 ∷ []) ≡ Amount 11
  pub largest : need_of (margin_of (pos largest_amount) 0 ∷ []) ≡ Amount largest_amount
  pub too_large : need_of (margin_of (pos largest_amount) 0 ∷ margin_of (pos 0) 1 ∷ []) ≡ Sum
  pub word_first : need_of (margin_of (pos largest_amount) 1 ∷ no_bound 1 ∷ []) ≡ NoBound
