-- Accounts that stand behind the house.
use Rattle.std.proofs.Common.{◌≡◌, ℕ, Bool, true, false, cond, ◌||◌, List, [], ◌∷◌, ◌++◌, nat_eq, None, Some, ap, arith}
use Rattle.std.specs.List.{list_any}
use Rattle.std.specs.Map.{lookup, keys_of}
use Rattle.std.proofs.lemmas.Bool.Decides.{nat_tests}
use Rattle.std.proofs.lemmas.List.{map-append}

not_the_house : (account : ℕ) → (account ≡ 0 → ⊥) → nat_eq account 0 ≡ false
not_the_house account other = grind (arith, nat_tests)

pub lookup_behind : {X : Type 0} (account : ℕ) (house : X) (es : List (ℕ × X)) → (account ≡ 0 → ⊥) → lookup (nat_eq account) ((0, house) ∷ es) ≡ lookup (nat_eq account) es
lookup_behind account house es other = ap (λ b. cond b (Some house) (lookup (nat_eq account) es)) (not_the_house account other)

-- an account that is not found is not the house
pub none_behind : {X : Type 0} (account : ℕ) (house : X) (es : List (ℕ × X)) → lookup (nat_eq account) ((0, house) ∷ es) ≡ None → lookup (nat_eq account) es ≡ None
none_behind account house es none =
    let Goal : Bool → Type 0 = λ b. cond b (Some house) (lookup (nat_eq account) es) ≡ None → lookup (nat_eq account) es ≡ None in
    (elim (nat_eq account 0) as Goal [ true ↦ λ h. cc | false ↦ λ h. h ]) none

pub any_behind : (account : ℕ) (ks : List ℕ) → (account ≡ 0 → ⊥) → list_any (nat_eq account) (0 ∷ ks) ≡ list_any (nat_eq account) ks
any_behind account ks other = ap (λ b. b || list_any (nat_eq account) ks) (not_the_house account other)

pub keys_push : {X : Type 0} (es : List (ℕ × X)) (p : ℕ × X) → keys_of (es ++ p ∷ []) ≡ keys_of es ++ p.0 ∷ []
keys_push es p = map-append (λ e. e.0) es (p ∷ [])
