-- How many bytes a made text can have.
use Rattle.std.proofs.Common.{ℕ, zero, suc, ◌+◌, ◌*◌, ◌/◌, ◌^◌, ◌<◌, ◌≤◌, ◌++◌, List, [], length, codes, decimal, arith, length-append, Bool, true, false, if◌then◌else◌}
use Rattle.std.specs.Fmt.{digits}
use Rattle.std.proofs.lemmas.Fmt.{length-decimal-le}
use Rattle.std.proofs.lemmas.Nat.{mod_below}
use Rattle.form.specs.declared.orders.Side.{Side}
use Rattle.form.specs.declared.orders.Side.TheVariants.{Buy, Sell}
use Rattle.command_text.specs.declared.command.Kind.{Kind}
use Rattle.command_text.specs.declared.command.Kind.TheVariants.{Call, Put}
use Rattle.demo_run.specs.declared.order.Weights.{Weights}
use Rattle.demo_run.specs.declared.order.Weights.TheVariants.{First, Second, Both}
use Rattle.demo_run.specs.Draws.{after, drawn}
use Rattle.demo_run.specs.Orders.{kind_text, weights_text, strike_step, order_from, option_text, terms_text, order_line}
use Rattle.form.specs.Sides.{side_word}
use Rattle.demo_run.specs.Text.{each, clear_line, order_lines, settle_line, opening_text, made_text}

each_size : (text : ℕ → List ℕ) (size n : ℕ) → ((k : ℕ) → k < n → length (text k) ≤ size) → length (each text n) ≤ n * size
each_size text size zero small = omega arith
each_size text size (suc n) small =
    let rest = each_size text size n (λ k lt. small k (omega arith)) in
    let one = small n (omega arith) in
    omega (arith, length-append (each text n) (text n))

side_size : (side : Side) → length (side_word side) ≤ 4
side_size Buy = omega arith
side_size Sell = omega arith

kind_size : (kind : Kind) → length (kind_text kind) ≤ 4
kind_size Call = omega arith
kind_size Put = omega arith

weights_size : (weights : Weights) → length (weights_text weights) ≤ 3
weights_size First = omega arith
weights_size Second = omega arith
weights_size Both = omega arith

-- a strike that is drawn has at most four digits
strike_size : (x : ℕ) (weights : Weights) → (8 + drawn 5 5 x) * strike_step weights < 10000
strike_size x First = let lt = mod_below (after 5 x / 2 ^ 33) 5 (omega arith) in omega arith
strike_size x Second = let lt = mod_below (after 5 x / 2 ^ 33) 5 (omega arith) in omega arith
strike_size x Both = let lt = mod_below (after 5 x / 2 ^ 33) 5 (omega arith) in omega arith

option_size : (x : ℕ) → length (option_text (order_from x)) ≤ 20
option_size x =
    let side = side_size (order_from x).side in
    let kind = kind_size (order_from x).kind in
    let account : length (decimal (1 + drawn 1 40 x)) ≤ 2 = let lt = mod_below (after 1 x / 2 ^ 33) 40 (omega arith) in length-decimal-le 2 _ (omega arith) (omega arith) (omega arith) in
    let strike : length (decimal (order_from x).strike) ≤ 4 = let lt = strike_size x (order_from x).weights in length-decimal-le 4 _ (omega arith) (omega arith) (omega arith) in
    simp length-append (omega arith)

terms_size : (x : ℕ) → length (terms_text (order_from x)) ≤ 12
terms_size x =
    let weights = weights_size (order_from x).weights in
    let price : length (decimal (20 + drawn 6 400 x)) ≤ 3 = let lt = mod_below (after 6 x / 2 ^ 33) 400 (omega arith) in length-decimal-le 3 _ (omega arith) (omega arith) (omega arith) in
    let quantity : length (decimal (1 + drawn 7 10 x)) ≤ 2 = let lt = mod_below (after 7 x / 2 ^ 33) 10 (omega arith) in length-decimal-le 2 _ (omega arith) (omega arith) (omega arith) in
    simp length-append (omega arith)

clear_size : (b : Bool) → length (if b then codes "clear,1,2000\n" else []) ≤ 13
clear_size true = omega arith
clear_size false = omega arith

order_lines_size : (seed count k : ℕ) → length (order_lines seed count k) ≤ 45
order_lines_size seed count k =
    let x = after (7 * k) seed in
    let option = option_size x in
    let terms = terms_size x in
    let clear : length (clear_line count (k + 1)) ≤ 13 = clear_size _ in
    omega (arith, length-append (order_line (order_from x)) (clear_line count (k + 1)), length-append (option_text (order_from x)) (terms_text (order_from x)))

settle_size : (x : ℕ) → length (settle_line x) ≤ 20
settle_size x =
    let first : length (decimal (800 + drawn 1 401 x)) ≤ 4 = let lt = mod_below (after 1 x / 2 ^ 33) 401 (omega arith) in length-decimal-le 4 _ (omega arith) (omega arith) (omega arith) in
    let second : length (decimal (800 + drawn 2 401 x)) ≤ 4 = let lt = mod_below (after 2 x / 2 ^ 33) 401 (omega arith) in length-decimal-le 4 _ (omega arith) (omega arith) (omega arith) in
    simp length-append (omega arith)

opening_size : length opening_text ≤ 1433
unfolding digits
opening_size = omega arith

-- whatever is drawn
pub made_text_size : (seed count : ℕ) → length (made_text seed count) ≤ 1453 + 45 * count
unfolding made_text
made_text_size seed count =
    let orders = each_size (order_lines seed count) 45 count (λ k lt. order_lines_size seed count k) in
    let settle = settle_size (after (7 * count) seed) in
    let opening = opening_size in
    omega (arith, length-append (opening_text ++ each (order_lines seed count) count) (settle_line (after (7 * count) seed)), length-append opening_text (each (order_lines seed count) count))
