-- The orders that are drawn, and their lines.
use Rattle.std.specs.Prelude.{ℕ, ◌+◌, ◌*◌, List, ◌++◌, codes, decimal, ◌==◌, if◌then◌else◌}
use Rattle.form.specs.declared.orders.Side.{Side}
use Rattle.form.specs.declared.orders.Side.TheVariants.{Buy, Sell}
use Rattle.command_text.specs.declared.command.Kind.{Kind}
use Rattle.command_text.specs.declared.command.Kind.TheVariants.{Call, Put}
use Rattle.demo_run.specs.declared.order.Weights.{Weights}
use Rattle.demo_run.specs.declared.order.Weights.TheVariants.{First, Second, Both}
use Rattle.demo_run.specs.declared.order.DrawnOrder.{DrawnOrder}
use Rattle.demo_run.specs.Draws.{drawn}
use Rattle.form.specs.Sides.{side_word}

-- ---- what a draw says
abbrev pub side_of : ℕ → Side
side_of n = if n == 0 then Buy else Sell

abbrev pub kind_of : ℕ → Kind
kind_of n = if n == 0 then Call else Put

abbrev pub weights_of : ℕ → Weights
weights_of n = if n == 0 then First else if n == 1 then Second else Both

-- strikes are multiples of this
abbrev pub strike_step : Weights → ℕ
strike_step First = 100
strike_step Second = 100
strike_step Both = 200

-- the order of the seven draws from x on
abbrev pub order_from : ℕ → DrawnOrder
order_from x = record {
  account = 1 + drawn 1 40 x;
  side = side_of (drawn 2 2 x);
  kind = kind_of (drawn 3 2 x);
  weights = weights_of (drawn 4 3 x);
  strike = (8 + drawn 5 5 x) * strike_step (weights_of (drawn 4 3 x));
  price = 20 + drawn 6 400 x;
  quantity = 1 + drawn 7 10 x;
}

-- ---- its line
abbrev pub kind_text : Kind → List ℕ
kind_text Call = codes "call"
kind_text Put = codes "put"

abbrev pub weights_text : Weights → List ℕ
weights_text First = codes "1,0"
weights_text Second = codes "0,1"
weights_text Both = codes "1,1"

-- who trades which option
abbrev pub option_text : DrawnOrder → List ℕ
option_text order =
    side_word order.side ++ (codes "," ++ (decimal order.account ++ (codes ",1," ++ (kind_text order.kind ++ (codes "," ++ decimal order.strike)))))

-- at which price, how many, and on which underlyings
abbrev pub terms_text : DrawnOrder → List ℕ
terms_text order =
    codes "," ++ (decimal order.price ++ (codes "," ++ (decimal order.quantity ++ (codes "," ++ (weights_text order.weights ++ codes "\n")))))

abbrev pub order_line : DrawnOrder → List ℕ
order_line order = option_text order ++ terms_text order
