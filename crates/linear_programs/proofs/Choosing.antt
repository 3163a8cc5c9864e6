-- The number of ways to choose, one thing after another.
use Rattle.std.proofs.Common.{◌≡◌, ℕ, zero, suc, ◌+◌, ◌-◌, ◌*◌, ◌/◌, ◌<◌, ◌≤◌, Bool, true, false, refl, sym, ◌∙◌, ap, arith}
use Rattle.std.specs.Prelude.{Option, Some, None, nat_lt, if◌then◌else◌}
use Rattle.std.proofs.Math.Nat.{mul-div_cancel}
use Rattle.std.proofs.lemmas.Bool.{ltb-false, ltb-true}
use Rattle.simplex_run.specs.Choose.{choose}
use Rattle.simplex_run.proofs.Counting.{choose_both, choose_none}

-- the number of ways to choose b of a + b
abbrev pub ways : ℕ → ℕ → ℕ
ways a b = choose (a + b) b

choose_too_many : (n k : ℕ) → n < k → choose n k ≡ 0
unfolding choose
choose_too_many n zero h = absurd (omega (arith, h))
choose_too_many zero (suc k) h = refl
choose_too_many (suc n) (suc k) h =
    let first = choose_too_many n (suc k) (omega (arith, h)) in
    let second = choose_too_many n k (omega (arith, h)) in
    rw (first, second) refl

choose_of_all : (b : ℕ) → choose b b ≡ 1
unfolding choose
choose_of_all zero = refl
choose_of_all (suc b) =
    let none = choose_too_many b (suc b) (omega arith) in
    let all = choose_of_all b in
    rw (none, all) refl

pub ways_none : (a : ℕ) → ways a 0 ≡ 1
ways_none a = choose_none (a + 0)

ways_all : (b : ℕ) → ways 0 b ≡ 1
ways_all b = let same : 0 + b ≡ b = omega arith in ap (λ n. choose n b) same ∙ choose_of_all b

-- with a last thing that is left out or chosen
ways_both : (a b : ℕ) → ways (suc a) (suc b) ≡ ways a (suc b) + ways (suc a) b
ways_both a b =
    let whole : suc a + suc b ≡ suc (a + suc b) = omega arith in
    let others : a + suc b ≡ suc a + b = omega arith in
    ap (λ n. choose n (suc b)) whole ∙ choose_both (a + suc b) b ∙ ap (λ n. choose (a + suc b) (suc b) + choose n b) others

pub ways_turned : (a b : ℕ) → ways a b ≡ ways b a
ways_turned zero b = ways_all b ∙ sym (ways_none b)
ways_turned (suc a) zero = ways_none (suc a) ∙ sym (ways_all (suc a))
ways_turned (suc a) (suc b) =
    let left = ways_turned a (suc b) in
    let right = ways_turned (suc a) b in
    omega (arith, ways_both a b, ways_both b a, left, right)

-- ---- one thing more, by a product
by_chosen : (a b x y z : ℕ) → x * suc b ≡ z * suc (a + b) → y * suc a ≡ z * suc (a + b) → (x + y) * suc b ≡ y * suc (suc a + b)
by_chosen a b x y z p q = omega (arith, p, q)

by_others : (a b x y z : ℕ) → x * suc b ≡ z * suc (a + b) → y * suc a ≡ z * suc (a + b) → (x + y) * suc a ≡ x * suc (a + suc b)
by_others a b x y z p q = omega (arith, p, q)

other_more : (a : ℕ) → ((b : ℕ) → ways a (suc b) * suc b ≡ ways a b * suc (a + b)) → (b : ℕ) → ways (suc a) b * suc a ≡ ways a b * suc (a + b)
other_more a h zero =
    let left = ways_none (suc a) in
    let right = ways_none a in
    rw (left, right) (omega arith)
other_more a h (suc b) =
    let both = ways_both a b in
    rw both (by_others a b (ways a (suc b)) (ways (suc a) b) (ways a b) (h b) (other_more a h b))

pub chosen_more : (a b : ℕ) → ways a (suc b) * suc b ≡ ways a b * suc (a + b)
chosen_more zero b =
    let left = ways_all (suc b) in
    let right = ways_all b in
    rw (left, right) (omega arith)
chosen_more (suc a) b =
    let both = ways_both a b in
    let other = other_more a (λ k. chosen_more a k) b in
    rw both (by_chosen a b (ways a (suc b)) (ways (suc a) b) (ways a b) (chosen_more a b) other)

pub next_ways : (a b number things chosen : ℕ) → number ≡ ways a b → things ≡ a + b + 1 → chosen ≡ b + 1 → number * things / chosen ≡ ways a (b + 1)
next_ways a b number things chosen n t c =
    let one : b + 1 ≡ suc b = omega arith in
    let some : a + b + 1 ≡ suc (a + b) = omega arith in
    let product = sym (chosen_more a b) in
    rw (n, t, c, one, some, product) (mul-div_cancel (ways a (suc b)) {n = suc b} (omega arith))

-- ---- more things to choose, more ways
one_more_is_more : (a b : ℕ) → ways a b ≤ ways a (b + 1)
one_more_is_more a b =
    let one : b + 1 ≡ suc b = omega arith in
    let whole : a + suc b ≡ suc (a + b) = omega arith in
    let both = ap (λ n. choose n (suc b)) whole ∙ choose_both (a + b) b in
    rw one (omega (arith, both))

pub more_is_more : (a b d : ℕ) → ways a b ≤ ways a (b + d)
more_is_more a b zero = let same : b + 0 ≡ b = omega arith in rw same (omega arith)
more_is_more a b (suc d) =
    let whole : b + suc d ≡ b + 1 + d = omega arith in
    rw whole (omega (arith, one_more_is_more a b, more_is_more a (b + 1) d))

-- ---- one step of the code

pub step_some : (r : Option ℕ) (v next limit : ℕ) → r ≡ (if nat_lt v limit then Some v else None) → r ≡ Some next → (next ≡ v) × (next < limit)
step_some r v next limit e f = go (nat_lt v limit) refl (sym e ∙ f)
  where
    go : (b : Bool) → nat_lt v limit ≡ b → (if b then Some v else None) ≡ Some next → (next ≡ v) × (next < limit)
    go true t k = let same : v ≡ next = cc in let low : v < limit = ltb-true v limit t in (sym same, omega (arith, same, low))
    go false t k = cc

pub step_none : (r : Option ℕ) (v limit : ℕ) → r ≡ (if nat_lt v limit then Some v else None) → ((x : ℕ) → r ≡ Some x → ⊥) → limit ≤ v
step_none r v limit e f = go (nat_lt v limit) refl e
  where
    go : (b : Bool) → nat_lt v limit ≡ b → r ≡ (if b then Some v else None) → limit ≤ v
    go true t k = absurd (f v k)
    go false t k = ltb-false v limit t

-- too many ways already: too many in the end
pub too_many : (a b chosen limit : ℕ) → b < chosen → limit ≤ ways a (b + 1) → limit ≤ ways a chosen
too_many a b chosen limit low high =
    let d = chosen - (b + 1) in
    let whole : b + 1 + d ≡ chosen = omega arith in
    let more = rw whole at (more_is_more a (b + 1) d) in
    omega (arith, more, high)
