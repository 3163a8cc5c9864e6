-- Parts of the steps of a state's row.
use Rattle.std.specs.Prelude.{ℕ, ℤ, List, pos, Result, Ok}
use Rattle.exact_num.specs.declared.misfit.Wide.{Wide}
use Rattle.exact_num.specs.Fraction.{Fraction}
use Rattle.exact_num.specs.Fits.{sub_of, mul_of, whole_of, after}
use Rattle.form.specs.declared.orders.Order.{Order}
use Rattle.form.specs.Vector.{scale_of}
use Rattle.master_program.specs.Master.{payoff_at_zero, signed_for}

-- t times what the order pays at the first state
abbrev pub put_aside : ℕ → List ℕ → Order → Result Fraction Wide
put_aside limit z order =
    after (whole_of limit (pos (scale_of z))) (λ t. after (whole_of limit (payoff_at_zero order)) (λ first. mul_of limit t first))

-- a whole number less another number
abbrev pub whole_less : ℕ → ℤ → Fraction → Result Fraction Wide
whole_less limit v x = after (whole_of limit v) (λ whole. sub_of limit whole x)

-- what an order that pays v at a state owes there above what is put aside, the sign last
abbrev pub entry_over : ℕ → List ℕ → Order → ℤ → Result Fraction Wide
entry_over limit z order v =
    after (put_aside limit z order) (λ aside. after (whole_less limit v aside) (λ entry. Ok (signed_for order.side entry)))
