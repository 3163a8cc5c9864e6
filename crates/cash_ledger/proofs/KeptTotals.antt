-- What is kept beside the entries stays the balances and the reserves.
use Rattle.std.proofs.Common.{◌≡◌, ℕ, ◌+◌, ◌<◌, ◌≤◌, ◌^◌, pos, ◌+ℤ◌, ◌-ℤ◌, List, [], ◌∷◌, ◌++◌, cond, nat_eq, length, Option, Some, FitsSigned, ⊎_elim, sym, ap, ◌∙◌, subst, arith}
use Rattle.std.proofs.lemmas.Int.{ints}
use Rattle.std.proofs.lemmas.Bool.{cases_eq}
use Rattle.std.proofs.lemmas.Bool.Decides.{nat_tests}
use Rattle.std.proofs.lemmas.Grind.{common_steps}
use mir.Syntax.{w128}
use Rattle.cash_ledger.specs.Kept.{AreKept, total_or_zero, reserve_or_zero}
use Rattle.cash_ledger.specs.Entries.{balance_of, IsBounded}
use Rattle.cash_ledger.specs.declared.holding.Holding.{Holding}
use Rattle.cash_ledger.specs.declared.entry.Entry.{Entry}
use Rattle.limits.specs.declared.TheConstants.{MAX_RESERVE, MAX_RESERVED}
use Rattle.cash_ledger.proofs.Balances.{balance_of-push, AreBounded-push, balance_size}

module _ (holding_of : ℕ → Option Holding) (entries : List Entry) (kept : AreKept holding_of entries) where
  pub AreKept-enter : (entry : Entry) (holding after : Holding) (new : ℕ → Option Holding) → IsBounded entry
      → holding_of entry.account ≡ Some holding → ((q : ℕ) → new q ≡ cond (nat_eq entry.account q) (Some after) (holding_of q))
      → after.total ≡ holding.total +ℤ entry.amount → after.reserved ≡ holding.reserved → AreKept new (entries ++ entry ∷ [])
  AreKept-enter entry holding after new small there updates total reserved = record {
    each = λ q. let k = kept.each q in let u = updates q in let p = balance_of-push q entries entry in ⊎_elim (λ (e : entry.account ≡ q). grind (arith, ints, common_steps, nat_tests)) (λ (ne : entry.account ≡ q → ⊥). grind (arith, ints, common_steps, nat_tests)) (cases_eq entry.account q);
    reserves = λ q. let k = kept.reserves q in let u = updates q in grind (arith, common_steps, nat_tests);
    bounded = AreBounded-push entries entry kept.bounded small;
  }

  pub AreKept-reserve : (account : ℕ) (holding after : Holding) (new : ℕ → Option Holding)
      → holding_of account ≡ Some holding → ((q : ℕ) → new q ≡ cond (nat_eq account q) (Some after) (holding_of q))
      → after.total ≡ holding.total → after.reserved ≤ MAX_RESERVED + MAX_RESERVE → AreKept new entries
  AreKept-reserve account holding after new there updates total small = record {
    each = λ q. let k = kept.each q in let u = updates q in grind (arith, common_steps, nat_tests);
    reserves = λ q. let k = kept.reserves q in let u = updates q in grind (arith, common_steps, nat_tests);
    bounded = kept.bounded;
  }

  pub total-balance : (account : ℕ) (holding : Holding) → holding_of account ≡ Some holding → holding.total ≡ balance_of account entries
  total-balance account holding there = sym (ap total_or_zero there) ∙ kept.each account

  pub reserve_small : (account : ℕ) (holding : Holding) → holding_of account ≡ Some holding → holding.reserved ≤ MAX_RESERVED + MAX_RESERVE
  reserve_small account holding there = subst (λ o. reserve_or_zero o ≤ MAX_RESERVED + MAX_RESERVE) there (kept.reserves account)

  -- the total and one amount more fit
  pub sum_fits : (entry : Entry) (holding : Holding) → IsBounded entry → holding_of entry.account ≡ Some holding → length entries < 2 ^ 64 → FitsSigned w128 (holding.total +ℤ entry.amount)
  sum_fits entry holding small there few =
      let is = total-balance entry.account holding there in
      let r = balance_size entry.account entries kept.bounded in
      omega (arith, ints, is, r.0, r.1, small.0, small.1)

  -- the total less what is reserved fits
  pub rest_fits : (account : ℕ) (holding : Holding) → holding_of account ≡ Some holding → length entries < 2 ^ 64 → FitsSigned w128 (holding.total -ℤ pos holding.reserved)
  rest_fits account holding there few =
      let is = total-balance account holding there in
      let r = balance_size account entries kept.bounded in
      omega (arith, ints, is, r.0, r.1, reserve_small account holding there)
