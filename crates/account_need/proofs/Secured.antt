-- Accounts whose balance is enough for all their markets.
use Rattle.std.proofs.Common.{◌≡◌, List, [], ◌∷◌, ◌++◌, arith, ℤ, pos, ◌+ℤ◌, ◌≤ℤ◌}
use Rattle.std.proofs.lemmas.Int.{ints}
use Rattle.arithmetic.specs.Sums.{total}
use Rattle.account_need.specs.Exposure.{Portfolio, IsEnough, AreEnough}
use Rattle.account_need.specs.Moves.{MovesKeepSecured, SecuredCanPay, MoreIsSecured}

abbrev sum_of : List ℤ → ℤ
sum_of parts = total (λ part. part) parts

pub enough_not_below : (p : Portfolio) (balance : ℤ) → IsEnough p balance → pos 0 ≤ℤ balance
enough_not_below p balance e = omega (arith, ints, e.asked)

all_not_below : (ps : List Portfolio) (parts : List ℤ) → AreEnough ps parts → pos 0 ≤ℤ sum_of parts
all_not_below [] [] e = omega (arith, ints)
all_not_below [] (part ∷ parts) e = absurd e
all_not_below (p ∷ ps) [] e = absurd e
all_not_below (p ∷ ps) (part ∷ parts) e = omega (arith, ints, enough_not_below p part e.0, all_not_below ps parts e.1)

pub secured_can_pay : SecuredCanPay
secured_can_pay markets balance s = omega (arith, ints, all_not_below markets s.parts s.enough, s.sum)

pub more_is_secured : MoreIsSecured
more_is_secured markets balance more le s = record { parts = s.parts; enough = s.enough; sum = omega (arith, ints, s.sum, le) }

-- one part of the balance changes
record Moved (markets : List Portfolio) (parts : List ℤ) (paid : ℤ) : Type 0 where
  new : List ℤ
  enough : AreEnough markets new
  sum : sum_of new ≡ sum_of parts +ℤ paid

moved : (front back : List Portfolio) (before after : Portfolio) (paid : ℤ) → ((part : ℤ) → IsEnough before part → IsEnough after (part +ℤ paid))
    → (parts : List ℤ) → AreEnough (front ++ before ∷ back) parts → Moved (front ++ after ∷ back) parts paid
moved [] back before after paid keeps [] e = absurd e
moved [] back before after paid keeps (part ∷ parts) e =
    record { new = (part +ℤ paid) ∷ parts; enough = (keeps part e.0, e.1); sum = omega (arith, ints) }
moved (p ∷ front) back before after paid keeps [] e = absurd e
moved (p ∷ front) back before after paid keeps (part ∷ parts) e =
    let m = moved front back before after paid keeps parts e.1 in
    record { new = part ∷ m.new; enough = (e.0, m.enough); sum = omega (arith, ints, m.sum) }

pub moves_keep_secured : MovesKeepSecured
moves_keep_secured front back before after paid balance keeps s =
    let m = moved front back before after paid keeps s.parts s.enough in
    record { parts = m.new; enough = m.enough; sum = omega (arith, ints, m.sum, s.sum) }
