-- Lists of markets, of which one is changed.
use Rattle.std.proofs.Common.{◌≡◌, ℕ, Bool, true, false, cond, [], ◌∷◌, length, Some, nat_eq, refl, ap, sym, subst, ◌∙◌}
use Rattle.std.specs.List.{All, AllByRecursion, IsDistinct}
use Rattle.std.specs.Map.{lookup, set_value, keys_of}
use Rattle.std.proofs.lemmas.List.Elements.{All-head, All-tail, All-cons, All-nil}
use Rattle.std.proofs.lemmas.Map.{keys-set_value, length-set_value}
use Rattle.std.proofs.lemmas.Map.Keys.{IsDistinct-head, IsDistinct-tail}
use Rattle.std.proofs.lemmas.Bool.{eqb-true}
use Rattle.order_book.specs.Markets.{MarketState, Markets, changed_in, live_in}

-- the value of a key that was found is that of its entry
pub value_found : (e : ℕ × MarketState) (m : MarketState) → Some e.1 ≡ Some m → e.1 ≡ m
value_found e m h = cc

module _ (market : ℕ) where
  pub live_found : (markets : Markets) (m : MarketState) → lookup (nat_eq market) markets ≡ Some m → live_in market markets ≡ m.live
  live_found markets m found = rw found refl

  -- what holds of each market holds of the one that is found
  pub at_found : (P : ℕ × MarketState → Type 0) (markets : Markets) (m : MarketState) → lookup (nat_eq market) markets ≡ Some m → All P markets → P (market, m)
  at_found P [] m found all = cc
  at_found P (e ∷ markets) m found all = by (nat_eq market e.0) refl found (λ h. at_found P markets m h (All-tail P e markets all))
    where
      by : (b : Bool) → nat_eq market e.0 ≡ b → cond b (Some e.1) (lookup (nat_eq market) markets) ≡ Some m → (lookup (nat_eq market) markets ≡ Some m → P (market, m)) → P (market, m)
      by true b h later = subst (λ s. P (market, s)) (value_found e m h) (subst (λ k. P (k, e.1)) (sym (eqb-true market e.0 b)) (All-head P e markets all))
      by false b h later = later h

  module _ (P Q : ℕ × MarketState → Type 0) (others : (e : ℕ × MarketState) → nat_eq market e.0 ≡ false → P e → Q e) where
    pub all_others : (markets : Markets) → AllByRecursion (λ k. nat_eq market k ≡ false) (keys_of markets) → All P markets → All Q markets
    all_others [] apart all = All-nil Q
    all_others (e ∷ markets) apart all = All-cons Q e markets (others e apart.0 (All-head P e markets all)) (all_others markets apart.1 (All-tail P e markets all))

    -- what holds of each market, once one of them is changed
    pub all_changed : (change : MarketState → MarketState) (markets : Markets) (m : MarketState) → IsDistinct nat_eq (keys_of markets) → lookup (nat_eq market) markets ≡ Some m
        → (P (market, m) → Q (market, change m)) → All P markets → All Q (changed_in change market markets)
    all_changed change [] m distinct found at all = All-nil Q
    all_changed change (e ∷ markets) m distinct found at all =
        by (nat_eq market e.0) refl found (λ h. all_changed change markets m (IsDistinct-tail nat_eq e.0 (keys_of markets) distinct) h at (All-tail P e markets all))
      where
        by : (b : Bool) → nat_eq market e.0 ≡ b → cond b (Some e.1) (lookup (nat_eq market) markets) ≡ Some m
            → (lookup (nat_eq market) markets ≡ Some m → All Q (changed_in change market markets))
            → All Q (cond b ((e.0, change e.1) ∷ markets) (e ∷ changed_in change market markets))
        by true b h later =
            let k = eqb-true market e.0 b in
            let v = value_found e m h in
            let here : P (market, m) = subst (λ s. P (market, s)) v (subst (λ n. P (n, e.1)) (sym k) (All-head P e markets all)) in
            let apart = subst (λ n. AllByRecursion (λ y. nat_eq n y ≡ false) (keys_of markets)) (sym k) (IsDistinct-head nat_eq e.0 (keys_of markets) distinct) in
            All-cons Q (e.0, change e.1) markets (subst (λ n. Q (n, change e.1)) k (subst (λ s. Q (market, change s)) (sym v) (at here)))
            (all_others markets apart (All-tail P e markets all))
        by false b h later = All-cons Q e (changed_in change market markets) (others e b (All-head P e markets all)) (later h)

  module _ (change : MarketState → MarketState) where
    changed_set : (markets : Markets) (m : MarketState) → lookup (nat_eq market) markets ≡ Some m → set_value (nat_eq market) markets (change m) ≡ changed_in change market markets
    changed_set [] m found = refl
    changed_set (e ∷ markets) m found = by (nat_eq market e.0) found (changed_set markets m)
      where
        by : (b : Bool) → cond b (Some e.1) (lookup (nat_eq market) markets) ≡ Some m
            → (lookup (nat_eq market) markets ≡ Some m → set_value (nat_eq market) markets (change m) ≡ changed_in change market markets)
            → cond b ((e.0, change m) ∷ markets) (e ∷ set_value (nat_eq market) markets (change m)) ≡ cond b ((e.0, change e.1) ∷ markets) (e ∷ changed_in change market markets)
        by true h later = ap (λ s. (e.0, change s) ∷ markets) (sym (value_found e m h))
        by false h later = ap (λ l. e ∷ l) (later h)

    -- a market that was found, changed and written back
    pub changed_written : (markets new : Markets) (m now : MarketState) → lookup (nat_eq market) markets ≡ Some m → now ≡ change m
        → new ≡ set_value (nat_eq market) markets now → new ≡ changed_in change market markets
    changed_written markets new m now found is written = written ∙ ap (set_value (nat_eq market) markets) is ∙ changed_set markets m found

    module _ (markets : Markets) (m : MarketState) (found : lookup (nat_eq market) markets ≡ Some m) where
      pub keys_changed : keys_of (changed_in change market markets) ≡ keys_of markets
      keys_changed = ap keys_of (sym (changed_set markets m found)) ∙ keys-set_value (nat_eq market) markets (change m)

      pub length_changed : length (changed_in change market markets) ≡ length markets
      length_changed = ap length (sym (changed_set markets m found)) ∙ length-set_value (nat_eq market) markets (change m)
