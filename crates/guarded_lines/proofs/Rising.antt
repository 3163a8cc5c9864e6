-- The markets in which an account has positions are each listed once, in rising number.
use Rattle.std.proofs.Common.{◌≡◌, ℕ, ◌<◌, List, [], ◌∷◌, Bool, true, false, nat_eq, if◌then◌else◌, fold, refl, arith}
use Rattle.std.specs.List.{All}
use Rattle.std.specs.Ordering.{MatchOrdering, match_ordering, nat_cmp}
use Rattle.std.specs.declared.cmp.Ordering.{Ordering}
use Rattle.std.specs.declared.cmp.Ordering.TheVariants.{Less, Equal, Greater}
use Rattle.std.specs.BTreeSet.{insert_key}
use Rattle.std.proofs.lemmas.Cmp.{ranked}
use Rattle.std.proofs.lemmas.List.Elements.{All-nil, All-cons, All-weaker}
use Rattle.std.proofs.lemmas.Map.Views.{All-insert_key}
use Rattle.settlement.specs.declared.position.Position.{Position}
use Rattle.exchange_core.specs.Held.{markets_of, with_market}

-- each number is above those before it
abbrev pub AreRising : List ℕ → Type 0
AreRising [] = Unit {0}
AreRising (n ∷ ns) = All (λ (m : ℕ). n < m) ns × AreRising ns

rising-insert_key : (ns : List ℕ) (k : ℕ) → AreRising ns → AreRising (insert_key nat_cmp ns k)
rising-insert_key [] k rising = (All-nil (λ (m : ℕ). k < m), tt)
rising-insert_key (n ∷ ns) k (above, rising) = by (nat_cmp k n) (ranked k n (nat_cmp k n) refl) (rising-insert_key ns k rising)
  where
    more : k < n → (m : ℕ) → n < m → k < m
    more less m up = omega arith

    by : (r : Ordering) → MatchOrdering r (k < n) (k ≡ n) (n < k) → AreRising (insert_key nat_cmp ns k)
        → AreRising (match_ordering r (k ∷ n ∷ ns) (n ∷ ns) (n ∷ insert_key nat_cmp ns k))
    by Less less later = (All-cons (λ (m : ℕ). k < m) n ns less (All-weaker (λ (m : ℕ). n < m) (λ (m : ℕ). k < m) (more less) ns above), (above, rising))
    by Equal same later = (above, rising)
    by Greater up later = (All-insert_key nat_cmp k (λ (m : ℕ). n < m) ns above up, later)

rising_from : (account : ℕ) (positions : List Position) (ns : List ℕ) → AreRising ns → AreRising (fold (with_market account) ns positions)
rising_from account [] ns rising = rising
rising_from account (p ∷ positions) ns rising =
    rising_from account positions (with_market account ns p) (by (nat_eq p.account account))
  where
    by : (b : Bool) → AreRising (if b then insert_key nat_cmp ns p.market else ns)
    by true = rising-insert_key ns p.market rising
    by false = rising

pub markets_rise : (account : ℕ) (positions : List Position) → AreRising (markets_of account positions)
markets_rise account positions = rising_from account positions [] tt
