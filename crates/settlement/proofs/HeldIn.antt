-- The positions of a market, one after another.
use Rattle.std.proofs.Common.{◌≡◌, ℕ, Bool, true, false, cond, List, [], ◌∷◌, ◌++◌, nat_eq, ap, refl, subst, ◌∙◌, append_assoc}
use Rattle.std.specs.List.{All}
use Rattle.std.proofs.lemmas.List.Elements.{All-head, All-tail}
use Rattle.settlement.specs.declared.position.PaidOut.{PaidOut}
use Rattle.settlement.specs.declared.position.Position.{Position}
use Rattle.settlement.specs.Payout.{IsSettledAt}
use Rattle.settlement.specs.Positions.{AreSettledAt, held_in, paid_out, payouts_of}
use Rattle.std.proofs.lemmas.Bool.{eq-eqb, ne_eqb}

module _ (market : ℕ) (prices : List ℕ) (p : Position) (rest xs : List Position) (first : xs ≡ p ∷ rest) where
  abbrev IsSettled : Position → Type 0
  IsSettled position = IsSettledAt prices position.bundle

  held_first : p.market ≡ market → held_in market xs ≡ p ∷ held_in market rest
  held_first own = ap (held_in market) first ∙ ap (λ b. cond b (p ∷ held_in market rest) (held_in market rest)) (eq-eqb p.market market own)

  held_rest : (p.market ≡ market → ⊥) → held_in market xs ≡ held_in market rest
  held_rest other = ap (held_in market) first ∙ ap (λ b. cond b (p ∷ held_in market rest) (held_in market rest)) (ne_eqb p.market market other)

  -- the first can be settled, where it is of the market
  pub settled_first : p.market ≡ market → AreSettledAt market prices xs → IsSettledAt prices p.bundle
  settled_first own all = All-head IsSettled p (held_in market rest) (subst (All IsSettled) (held_first own) all)

  -- and so can the others
  pub settled_rest : AreSettledAt market prices xs → AreSettledAt market prices rest
  settled_rest all = by (nat_eq p.market market) (subst (λ (l : List Position). All IsSettled (held_in market l)) first all)
    where
      by : (b : Bool) → All IsSettled (cond b (p ∷ held_in market rest) (held_in market rest)) → All IsSettled (held_in market rest)
      by true h = All-tail IsSettled p (held_in market rest) h
      by false h = h

  pub paid_more : (paid more : List PaidOut) → p.market ≡ market → more ≡ paid ++ paid_out prices p ∷ []
      → more ++ payouts_of market prices rest ≡ paid ++ payouts_of market prices xs
  paid_more paid more own is = rw (is, held_first own) (append_assoc paid (paid_out prices p ∷ []) (payouts_of market prices rest))

  pub paid_same : (paid more : List PaidOut) → (p.market ≡ market → ⊥) → more ≡ paid → more ++ payouts_of market prices rest ≡ paid ++ payouts_of market prices xs
  paid_same paid more other is = rw (is, held_rest other) refl
