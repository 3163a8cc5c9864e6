-- The laws of the greatest common divisor.
use Rattle.std.proofs.Common.{◌≡◌, ℕ, zero, suc, ◌+◌, ◌-◌, ◌*◌, ◌/◌, ◌%◌, ◌<◌, ◌≤◌, refl, sym, ◌∙◌, ap, subst, arith, ◌⊎◌, inl, inr, ℤ, pos, negsuc, ◌+ℤ◌, unsigned_abs}
use Rattle.std.proofs.lemmas.Int.{ints}
use Rattle.std.proofs.lemmas.Bool.{cases_lt}
use Rattle.arithmetic.specs.Gcd.{gcd_within, gcd}
use Rattle.std.specs.Int.{IsGcd, ◌∣◌}
use Rattle.std.proofs.lemmas.Nat.Gcd.{IsGcd-from_zero, IsGcd-from_mod, IsGcd-swap, same_from_IsGcd, dvd_trans, dvd-zero}
use Rattle.std.proofs.Math.Nat.{mod-lt, mod-eq_of_lt, mul-add-mod_self_left, div-add-mod, mul-add, mul-lt-mul_of_pos_left, mul_comm, mul_assoc, mul-zero, zero-mul, dvd-mul_left, div-mul_cancel, mul-div_cancel', eq-one_of_dvd-one, pos_of_dvd_of_pos, pos_of_ne-zero, mul-one, eq_of_mul-eq-mul_left, dvd-add, dvd-sub, dvd_refl}

gcd_within_is : (steps a b : ℕ) → b ≤ steps → IsGcd a b (gcd_within steps a b)
unfolding gcd_within
gcd_within_is zero a b h = IsGcd-from_zero a b (omega arith)
gcd_within_is (suc steps) a zero h = IsGcd-from_zero a zero refl
gcd_within_is (suc steps) a (suc b) h =
    let below : a % suc b < suc b = mod-lt a (omega arith) in
    IsGcd-from_mod a (suc b) _ (gcd_within_is steps (suc b) (a % suc b) (omega arith))

pub gcd_is : (a b : ℕ) → IsGcd a b (gcd a b)
unfolding gcd
gcd_is a b = gcd_within_is b a b (omega arith)

-- no other number is the greatest common divisor
pub gcd_unique : (a b g : ℕ) → IsGcd a b g → gcd a b ≡ g
gcd_unique a b g h = same_from_IsGcd a b (gcd a b) g (gcd_is a b) h

pub gcd_dvd_left : (a b : ℕ) → gcd a b ∣ a
gcd_dvd_left a b = (gcd_is a b).0

pub gcd_dvd_right : (a b : ℕ) → gcd a b ∣ b
gcd_dvd_right a b = (gcd_is a b).1

pub dvd_gcd : (d a b : ℕ) → d ∣ a → d ∣ b → d ∣ gcd a b
dvd_gcd d a b p q = (gcd_is a b).2 d p q

pub gcd_comm : (a b : ℕ) → gcd a b ≡ gcd b a
gcd_comm a b = gcd_unique a b (gcd b a) (IsGcd-swap b a (gcd b a) (gcd_is b a))

pub gcd-zero : (a : ℕ) → gcd a 0 ≡ a
gcd-zero a = gcd_unique a 0 a (IsGcd-from_zero a 0 refl)

pub zero-gcd : (b : ℕ) → gcd 0 b ≡ b
zero-gcd b = gcd_comm 0 b ∙ gcd-zero b

pub gcd-one : (a : ℕ) → gcd a 1 ≡ 1
gcd-one a = eq-one_of_dvd-one (gcd_dvd_right a 1)

-- one step of Euclid
pub gcd-mod : (a b : ℕ) → gcd a b ≡ gcd b (a % b)
gcd-mod a b = gcd_unique a b _ (IsGcd-from_mod a b _ (gcd_is b (a % b)))

pub gcd_self : (a : ℕ) → gcd a a ≡ a
gcd_self a = gcd_unique a a a (dvd_refl a, dvd_refl a, λ d p q. p)

pub gcd_pos_right : (a b : ℕ) → 0 < b → 0 < gcd a b
gcd_pos_right a b h = pos_of_dvd_of_pos (gcd_dvd_right a b) h

pub gcd_pos_left : (a b : ℕ) → 0 < a → 0 < gcd a b
gcd_pos_left a b h = pos_of_dvd_of_pos (gcd_dvd_left a b) h

-- a common factor comes out of a remainder
pub mul-mod_factor : (k a b : ℕ) → 0 < k → 0 < b → (k * a) % (k * b) ≡ k * (a % b)
mul-mod_factor k a b p q =
    let e : k * a ≡ (k * b) * (a / b) + k * (a % b) = ap (λ (n : ℕ). k * n) (sym (div-add-mod a b)) ∙ mul-add k (b * (a / b)) (a % b) ∙ ap (λ (n : ℕ). n + k * (a % b)) (sym (mul_assoc k b (a / b))) in
    ap (λ (n : ℕ). n % (k * b)) e ∙ mul-add-mod_self_left (k * b) (a / b) (k * (a % b)) ∙ mod-eq_of_lt (mul-lt-mul_of_pos_left (mod-lt a q) p)

-- a common factor comes out
gcd_within-mul : (steps k a b : ℕ) → b ≤ steps → 0 < k → IsGcd (k * a) (k * b) (k * gcd_within steps a b)
unfolding gcd_within
gcd_within-mul zero k a b h p = let e : b ≡ 0 = omega arith in IsGcd-from_zero (k * a) (k * b) (ap (λ (n : ℕ). k * n) e ∙ mul-zero k)
gcd_within-mul (suc steps) k a zero h p = IsGcd-from_zero (k * a) (k * zero) (mul-zero k)
gcd_within-mul (suc steps) k a (suc b) h p =
    let below : a % suc b < suc b = mod-lt a (omega arith) in
    IsGcd-from_mod (k * a) (k * suc b) _ (rw (mul-mod_factor k a (suc b) p (omega arith)) (gcd_within-mul steps k (suc b) (a % suc b) (omega arith) p))

pub gcd-mul : (k a b : ℕ) → 0 < k → gcd (k * a) (k * b) ≡ k * gcd a b
unfolding gcd
gcd-mul k a b p = gcd_unique (k * a) (k * b) (k * gcd a b) (gcd_within-mul b k a b (omega arith) p)

-- Euclid's lemma: what has nothing in common with b, and divides b * c, divides c
pub dvd_of_coprime : (a b c : ℕ) → gcd a b ≡ 1 → a ∣ b * c → a ∣ c
dvd_of_coprime a b zero one h = dvd-zero a
dvd_of_coprime a b (suc c) one h =
    let e : gcd (suc c * a) (suc c * b) ≡ suc c = gcd-mul (suc c) a b (omega arith) ∙ ap (λ (n : ℕ). suc c * n) one ∙ mul-one (suc c) in
    subst (λ (n : ℕ). a ∣ n) e (dvd_gcd a (suc c * a) (suc c * b) (dvd-mul_left a (suc c)) (subst (λ (n : ℕ). a ∣ n) (mul_comm b (suc c)) h))

-- divided by what they have in common, two numbers have nothing in common
pub coprime_of_div : (a b : ℕ) → 0 < gcd a b → gcd (a / gcd a b) (b / gcd a b) ≡ 1
coprime_of_div a b p =
    let g = gcd a b in
    let ea : g * (a / g) ≡ a = mul-div_cancel' g (gcd_dvd_left a b) in
    let eb : g * (b / g) ≡ b = mul-div_cancel' g (gcd_dvd_right a b) in
    let e : g * gcd (a / g) (b / g) ≡ g * 1 = sym (gcd-mul g (a / g) (b / g) p) ∙ ap (λ (n : ℕ). gcd n (g * (b / g))) ea ∙ ap (λ (n : ℕ). gcd a n) eb ∙ sym (mul-one g) in
    eq_of_mul-eq-mul_left g p _ _ e

-- a divisor of one of two numbers with nothing in common has nothing in common with the other
pub coprime_of_dvd : (a b d : ℕ) → gcd a b ≡ 1 → d ∣ a → gcd d b ≡ 1
coprime_of_dvd a b d one h =
    eq-one_of_dvd-one (subst (λ (n : ℕ). gcd d b ∣ n) one (dvd_gcd (gcd d b) a b (dvd_trans (gcd d b) (gcd_dvd_left d b) h) (gcd_dvd_right d b)))

-- two numbers that have nothing in common with c: nor has their product
pub coprime_of_mul : (a b c : ℕ) → gcd a c ≡ 1 → gcd b c ≡ 1 → gcd (a * b) c ≡ 1
coprime_of_mul a b c one_a one_b =
    let d = gcd (a * b) c in
    let from_c : gcd c a ≡ 1 = gcd_comm c a ∙ one_a in
    let apart : gcd d a ≡ 1 = coprime_of_dvd c a d from_c (gcd_dvd_right (a * b) c) in
    let divides : d ∣ b = dvd_of_coprime d a b apart (gcd_dvd_left (a * b) c) in
    eq-one_of_dvd-one (subst (λ (n : ℕ). d ∣ n) one_b (dvd_gcd d b c divides (gcd_dvd_right (a * b) c)))

pub pos_of_quotient : (n g : ℕ) → 0 < n → 0 < g → g ∣ n → 0 < n / g
pos_of_quotient n g p q h = pos_of_ne-zero (λ e. let back : n / g * g ≡ n = div-mul_cancel g h in let gone : n / g * g ≡ 0 = ap (λ (m : ℕ). m * g) e ∙ zero-mul g in omega arith)

-- a divisor of a sum and of one part divides the other
size_of_part : (s t : ℤ) → (unsigned_abs s ≡ unsigned_abs (s +ℤ t) + unsigned_abs t) ⊎ (unsigned_abs s ≡ unsigned_abs (s +ℤ t) - unsigned_abs t) ⊎ (unsigned_abs s ≡ unsigned_abs t - unsigned_abs (s +ℤ t))
size_of_part (pos a) (pos b) = inr (inl (omega (arith, ints)))
size_of_part (pos a) (negsuc b) =
    elim (cases_lt a (suc b)) [ inl h ↦ inr (inr (omega (arith, ints))) | inr h ↦ inl (omega (arith, ints)) ]
size_of_part (negsuc a) (pos b) =
    elim (cases_lt (suc a) b) [ inl h ↦ inr (inr (omega (arith, ints))) | inr h ↦ inl (omega (arith, ints)) ]
size_of_part (negsuc a) (negsuc b) = inr (inl (omega (arith, ints)))

pub dvd_part : (k : ℕ) (s t : ℤ) → k ∣ unsigned_abs (s +ℤ t) → k ∣ unsigned_abs t → k ∣ unsigned_abs s
dvd_part k s t h p =
    let divides : ℕ → Type 0 = λ n. k ∣ n in
    elim (size_of_part s t) [
      | inl e ↦ subst divides (sym e) (dvd-add k h p)
      | inr w ↦ elim w [ inl e ↦ subst divides (sym e) (dvd-sub k h p) | inr e ↦ subst divides (sym e) (dvd-sub k p h) ]
    ]

pub gcd_assoc : (a b c : ℕ) → gcd (gcd a b) c ≡ gcd a (gcd b c)
gcd_assoc a b c =
    let g = gcd a (gcd b c) in
    let of_rest : g ∣ gcd b c = gcd_dvd_right a (gcd b c) in
    gcd_unique (gcd a b) c g (
      dvd_gcd g a b (gcd_dvd_left a (gcd b c)) (dvd_trans g of_rest (gcd_dvd_left b c)),
      dvd_trans g of_rest (gcd_dvd_right b c),
      λ d p q. dvd_gcd d a (gcd b c) (dvd_trans d p (gcd_dvd_left a b)) (dvd_gcd d b c (dvd_trans d p (gcd_dvd_right a b)) q),
    )
