-- Balances as entries come, and how large they grow.
use Rattle.std.proofs.Common.{◌≡◌, ℕ, ◌*◌, pos, neg_ℤ, ◌+ℤ◌, ◌≤ℤ◌, List, [], ◌∷◌, ◌++◌, true, false, if◌then◌else◌, nat_eq, length, sym, ap, ◌∙◌, arith}
use Rattle.std.proofs.lemmas.Int.{ints}
use Rattle.std.proofs.Math.IntN.{+ℤ_assoc, +ℤ_comm}
use Rattle.cash_ledger.specs.Entries.{amount_for, balance_of, IsBounded, AreBounded}
use Rattle.cash_ledger.specs.Laws.{BalancesFit}
use Rattle.cash_ledger.specs.declared.entry.Entry.{Entry}
use Rattle.limits.specs.declared.TheConstants.{MAX_GAIN}

pub balance_of-push : (account : ℕ) (entries : List Entry) (entry : Entry) → balance_of account (entries ++ entry ∷ []) ≡ balance_of account entries +ℤ amount_for account entry
balance_of-push account [] entry = +ℤ_comm (amount_for account entry) (pos 0)
balance_of-push account (e ∷ entries) entry =
    ap (λ z. amount_for account e +ℤ z) (balance_of-push account entries entry) ∙ sym (+ℤ_assoc (amount_for account e) (balance_of account entries) (amount_for account entry))

pub balance_of-append : (account : ℕ) (xs ys : List Entry) → balance_of account (xs ++ ys) ≡ balance_of account xs +ℤ balance_of account ys
balance_of-append account [] ys = omega (arith, ints)
balance_of-append account (entry ∷ xs) ys = omega (arith, ints, balance_of-append account xs ys)

pub AreBounded-push : (entries : List Entry) (entry : Entry) → AreBounded entries → IsBounded entry → AreBounded (entries ++ entry ∷ [])
AreBounded-push [] entry all one = (one, tt)
AreBounded-push (e ∷ entries) entry all one = (all.0, AreBounded-push entries entry all.1 one)

amount_for_bound : (account : ℕ) (entry : Entry) → IsBounded entry → (neg_ℤ (pos MAX_GAIN) ≤ℤ amount_for account entry) × (amount_for account entry ≤ℤ pos MAX_GAIN)
amount_for_bound account entry h =
    elim (nat_eq account entry.account) as (λ b. (neg_ℤ (pos MAX_GAIN) ≤ℤ (if b then entry.amount else pos 0)) × ((if b then entry.amount else pos 0) ≤ℤ pos MAX_GAIN)) [
      | true ↦ h
      | false ↦ (omega (arith, ints), omega (arith, ints))
    ]

-- a balance is at most the limit for each entry
pub balance_size : (account : ℕ) (entries : List Entry) → AreBounded entries → (pos 0 ≤ℤ (balance_of account entries +ℤ pos (8001000000000000000 * length entries))) × (balance_of account entries ≤ℤ pos (8001000000000000000 * length entries))
balance_size account [] all = (omega (arith, ints), omega (arith, ints))
balance_size account (e ∷ entries) all =
    let s = amount_for_bound account e all.0 in
    let r = balance_size account entries all.1 in
    (omega (arith, ints, s.0, s.1, r.0, r.1), omega (arith, ints, s.0, s.1, r.0, r.1))

pub balances_fit : BalancesFit
balances_fit account entries all few = let r = balance_size account entries all in omega (arith, ints, r.0, r.1)
