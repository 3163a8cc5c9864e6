-- What is kept, market by market.
use Rattle.std.proofs.Common.{◌≡◌, ℕ, [], ◌∷◌, Bool, true, false, not, cond, nat_eq, if◌then◌else◌, Option, Some, None, option_and_then, refl, sym, ap, ◌∙◌, subst, arith, true≢false}
use Rattle.std.specs.List.{AllByRecursion, IsDistinct}
use Rattle.std.specs.Map.{keys_of, lookup, remove_entry}
use Rattle.std.proofs.lemmas.Bool.Decides.{nat_tests}
use Rattle.std.proofs.lemmas.Map.Keys.{IsDistinct-head, IsDistinct-tail}
use Rattle.std.proofs.lemmas.Bool.{eq-eqb, eqb-true}
use Rattle.arithmetic.proofs.Tests.{nat_eq-turned}
use Rattle.indexmap.specs.IndexMap.{insert_entry}
use Rattle.proposals.specs.declared.best.Best.{Best}
use Rattle.proposal_lines.specs.KeptByMarket.{KeptProposals, kept_in, with_kept, without_kept}

-- ---- tests

-- two markets are not one
not_both : (a b n : ℕ) → nat_eq a b ≡ false → nat_eq a n ≡ true → nat_eq b n ≡ true → ⊥
not_both a b n apart first second = true≢false (sym (one a b n first second) ∙ apart)
  where
    one : (a b n : ℕ) → nat_eq a n ≡ true → nat_eq b n ≡ true → nat_eq a b ≡ true
    one a b n first second = grind (arith, nat_tests)

-- an entry before others, unless it is for the market
abbrev unless_own : Bool → ℕ × Option Best → KeptProposals → KeptProposals
unless_own own e others = cond (not own) (e ∷ others) others

-- ---- what is for the market itself is taken out and in
module _ (market : ℕ) where
  own_found : (best : Option Best) (kept : KeptProposals) → lookup (nat_eq market) (insert_entry nat_eq kept market best) ≡ Some best
  own_found best [] = ap (λ b. cond b (Some best) None) (eq-eqb market market refl)
  own_found best (e ∷ kept) = by (nat_eq market e.0) refl (own_found best kept)
    where
      by : (b : Bool) → nat_eq market e.0 ≡ b → lookup (nat_eq market) (insert_entry nat_eq kept market best) ≡ Some best
          → lookup (nat_eq market) (if b then (e.0, best) ∷ kept else e ∷ insert_entry nat_eq kept market best) ≡ Some best
      by true own later = ap (λ b. cond b (Some best) (lookup (nat_eq market) kept)) own
      by false own later = ap (λ b. cond b (Some e.1) (lookup (nat_eq market) (insert_entry nat_eq kept market best))) own ∙ later

  pub own_counts : (best : Best) (kept : KeptProposals) → kept_in market (with_kept market best kept) ≡ Some best
  own_counts best kept = ap (option_and_then (λ best. best)) (own_found (Some best) (without_kept market kept))

  own_gone : (kept : KeptProposals) → lookup (nat_eq market) (without_kept market kept) ≡ None
  own_gone [] = refl
  own_gone (e ∷ kept) = by (nat_eq market e.0) refl (own_gone kept)
    where
      by : (b : Bool) → nat_eq market e.0 ≡ b → lookup (nat_eq market) (without_kept market kept) ≡ None
          → lookup (nat_eq market) (unless_own b e (without_kept market kept)) ≡ None
      by true own later = later
      by false own later = ap (λ b. cond b (Some e.1) (lookup (nat_eq market) (without_kept market kept))) own ∙ later

  -- nothing is kept for it
  pub none_left : (kept : KeptProposals) → kept_in market (without_kept market kept) ≡ None
  none_left kept = ap (option_and_then (λ best. best)) (own_gone kept)

  own_removed : (kept : KeptProposals) → without_kept market (without_kept market kept) ≡ without_kept market kept
  own_removed [] = refl
  own_removed (e ∷ kept) = by (nat_eq market e.0) refl (own_removed kept)
    where
      by : (b : Bool) → nat_eq market e.0 ≡ b → without_kept market (without_kept market kept) ≡ without_kept market kept
          → without_kept market (unless_own b e (without_kept market kept)) ≡ unless_own b e (without_kept market kept)
      by true own later = later
      by false own later = ap (λ b. unless_own b e (without_kept market (without_kept market kept))) own ∙ ap (λ l. e ∷ l) later

  own_inserted : (best : Option Best) (kept : KeptProposals) → without_kept market (insert_entry nat_eq kept market best) ≡ without_kept market kept
  own_inserted best [] = ap (λ b. unless_own b (market, best) []) (eq-eqb market market refl)
  own_inserted best (e ∷ kept) = by (nat_eq market e.0) refl (own_inserted best kept)
    where
      by : (b : Bool) → nat_eq market e.0 ≡ b → without_kept market (insert_entry nat_eq kept market best) ≡ without_kept market kept
          → without_kept market (if b then (e.0, best) ∷ kept else e ∷ insert_entry nat_eq kept market best) ≡ unless_own b e (without_kept market kept)
      by true own later = ap (λ b. unless_own b (e.0, best) (without_kept market kept)) own
      by false own later = ap (λ b. unless_own b e (without_kept market (insert_entry nat_eq kept market best))) own ∙ ap (λ l. e ∷ l) later

  pub own_kept : (best : Best) (kept : KeptProposals) → without_kept market (with_kept market best kept) ≡ without_kept market kept
  own_kept best kept = own_inserted (Some best) (without_kept market kept) ∙ own_removed kept

  -- ---- where the markets are apart, one entry is taken out
  abbrev IsElsewhere : ℕ → Type 0
  IsElsewhere other = nat_eq market other ≡ false

  none_own : (kept : KeptProposals) → AllByRecursion IsElsewhere (keys_of kept) → without_kept market kept ≡ kept
  none_own [] apart = refl
  none_own (e ∷ kept) apart = ap (λ b. unless_own b e (without_kept market kept)) apart.0 ∙ ap (λ l. e ∷ l) (none_own kept apart.1)

  pub one_removed : (kept : KeptProposals) → IsDistinct nat_eq (keys_of kept) → remove_entry (nat_eq market) kept ≡ without_kept market kept
  one_removed [] distinct = refl
  one_removed (e ∷ kept) distinct = by (nat_eq market e.0) refl (one_removed kept (IsDistinct-tail nat_eq e.0 (keys_of kept) distinct))
    where
      by : (b : Bool) → nat_eq market e.0 ≡ b → remove_entry (nat_eq market) kept ≡ without_kept market kept
          → cond b kept (e ∷ remove_entry (nat_eq market) kept) ≡ unless_own b e (without_kept market kept)
      by true own later =
          let here = eqb-true market e.0 own in
          let apart : AllByRecursion (λ y. nat_eq e.0 y ≡ false) (keys_of kept) = IsDistinct-head nat_eq e.0 (keys_of kept) distinct in
          sym (none_own kept (subst (λ n. AllByRecursion (λ y. nat_eq n y ≡ false) (keys_of kept)) (sym here) apart))
      by false own later = ap (λ l. e ∷ l) later

-- ---- what is for another
module _ (market q : ℕ) (apart : nat_eq q market ≡ false) where
  found_in_others : (kept : KeptProposals) → lookup (nat_eq q) (without_kept market kept) ≡ lookup (nat_eq q) kept
  found_in_others [] = refl
  found_in_others (e ∷ kept) = by (nat_eq market e.0) refl (nat_eq q e.0) refl (found_in_others kept)
    where
      by : (b : Bool) → nat_eq market e.0 ≡ b → (c : Bool) → nat_eq q e.0 ≡ c → lookup (nat_eq q) (without_kept market kept) ≡ lookup (nat_eq q) kept
          → lookup (nat_eq q) (unless_own b e (without_kept market kept)) ≡ cond c (Some e.1) (lookup (nat_eq q) kept)
      by true own true at later = absurd (not_both q market e.0 apart at own)
      by true own false at later = later
      by false own true at later = ap (λ c. cond c (Some e.1) (lookup (nat_eq q) (without_kept market kept))) at
      by false own false at later = ap (λ c. cond c (Some e.1) (lookup (nat_eq q) (without_kept market kept))) at ∙ later

  pub others_removed : (kept : KeptProposals) → kept_in q (without_kept market kept) ≡ kept_in q kept
  others_removed kept = ap (option_and_then (λ best. best)) (found_in_others kept)

  pub others_kept : (best : Best) (kept : KeptProposals) → kept_in q (with_kept market best kept) ≡ kept_in q kept
  others_kept best kept = sym (others_removed (with_kept market best kept)) ∙ ap (kept_in q) (own_kept market best kept) ∙ others_removed kept

  pub removed_in_others : (kept : KeptProposals) → without_kept market (without_kept q kept) ≡ without_kept q (without_kept market kept)
  removed_in_others [] = refl
  removed_in_others (e ∷ kept) = by (nat_eq market e.0) refl (nat_eq q e.0) refl (removed_in_others kept)
    where
      by : (b : Bool) → nat_eq market e.0 ≡ b → (c : Bool) → nat_eq q e.0 ≡ c → without_kept market (without_kept q kept) ≡ without_kept q (without_kept market kept)
          → without_kept market (unless_own c e (without_kept q kept)) ≡ without_kept q (unless_own b e (without_kept market kept))
      by true own true at later = absurd (not_both q market e.0 apart at own)
      by true own false at later = ap (λ b. unless_own b e (without_kept market (without_kept q kept))) own ∙ later
      by false own true at later = later ∙ sym (ap (λ c. unless_own c e (without_kept q (without_kept market kept))) at)
      by false own false at later =
          ap (λ b. unless_own b e (without_kept market (without_kept q kept))) own ∙ ap (λ l. e ∷ l) later
          ∙ sym (ap (λ c. unless_own c e (without_kept q (without_kept market kept))) at)

  inserted_in_others : (best : Option Best) (kept : KeptProposals) → without_kept market (insert_entry nat_eq kept q best) ≡ insert_entry nat_eq (without_kept market kept) q best
  inserted_in_others best [] = ap (λ b. unless_own b (q, best) []) (nat_eq-turned q market false apart)
  inserted_in_others best (e ∷ kept) = by (nat_eq market e.0) refl (nat_eq q e.0) refl (inserted_in_others best kept)
    where
      By : Bool → KeptProposals
      By c = if c then (e.0, best) ∷ without_kept market kept else e ∷ insert_entry nat_eq (without_kept market kept) q best

      by : (b : Bool) → nat_eq market e.0 ≡ b → (c : Bool) → nat_eq q e.0 ≡ c
          → without_kept market (insert_entry nat_eq kept q best) ≡ insert_entry nat_eq (without_kept market kept) q best
          → without_kept market (if c then (e.0, best) ∷ kept else e ∷ insert_entry nat_eq kept q best) ≡ insert_entry nat_eq (unless_own b e (without_kept market kept)) q best
      by true own true at later = absurd (not_both q market e.0 apart at own)
      by true own false at later = ap (λ b. unless_own b e (without_kept market (insert_entry nat_eq kept q best))) own ∙ later
      by false own true at later = ap (λ b. unless_own b (e.0, best) (without_kept market kept)) own ∙ sym (ap By at)
      by false own false at later =
          ap (λ b. unless_own b e (without_kept market (insert_entry nat_eq kept q best))) own ∙ ap (λ l. e ∷ l) later ∙ sym (ap By at)

  pub with_in_others : (best : Best) (kept : KeptProposals) → without_kept market (with_kept q best kept) ≡ with_kept q best (without_kept market kept)
  with_in_others best kept =
      inserted_in_others (Some best) (without_kept q kept) ∙ ap (λ l. insert_entry nat_eq l q (Some best)) (removed_in_others kept)
