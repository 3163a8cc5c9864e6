-- The rows of a node's program as they are written.
use Rattle.std.proofs.Common.{◌≡◌, ℕ, zero, suc, ◌+◌, List, [], ◌∷◌, ◌++◌, map, replicate, pos, negsuc, ℤ, arith, refl, ap, sym, ◌∙◌, append_assoc}
use Rattle.std.proofs.lemmas.List.{map-append}
use Rattle.exact_num.specs.Fraction.{Fraction, whole}
use Rattle.simplex_run.specs.Places.{fraction_zero}
use Rattle.master_program.specs.Node.{size_row}
use Rattle.pricing_oracle.specs.Programs.{unit_at}

replicate-map : (k : ℕ) (x : ℤ) → map whole (replicate k x) ≡ replicate k (whole x)
replicate-map zero x = refl
replicate-map (suc k) x = ap (λ l. whole x ∷ l) (replicate-map k x)

replicate-last : (k : ℕ) (x : Fraction) → replicate k x ++ (x ∷ []) ≡ replicate (k + 1) x
replicate-last zero x = refl
replicate-last (suc k) x =
    let e : suc k + 1 ≡ suc (k + 1) = omega arith in
    rw e (ap (λ (l : List Fraction). x ∷ l) (replicate-last k x))

-- one number more, of which so many are there
pub one_more : {A : Type 0} (value : A → Fraction) (f : Fraction) (start old new : List A) (one : A) (k : ℕ)
    → map value old ≡ map value start ++ replicate k f → new ≡ old ++ (one ∷ []) → value one ≡ f
    → map value new ≡ map value start ++ replicate (k + 1) f
one_more value f start old new one k is pushed one_is =
    ap (map value) pushed ∙ map-append value old (one ∷ [])
    ∙ (λ i. is i ++ (one_is i ∷ []))
    ∙ append_assoc (map value start) (replicate k f) (f ∷ [])
    ∙ ap (λ (l : List Fraction). map value start ++ l) (replicate-last k f)

pub size_row_is : (n k : ℕ) (a b : List Fraction) → a ≡ replicate (n + 1) (whole (pos 1)) → b ≡ a ++ replicate k fraction_zero → b ≡ map whole (size_row n k)
size_row_is n k a b a_is b_is =
    let e : n + 1 ≡ suc n = omega arith in
    b_is
    ∙ (λ i. (a_is ∙ ap (λ (m : ℕ). replicate m (whole (pos 1))) e ∙ sym (replicate-map (suc n) (pos 1))) i ++ sym (replicate-map k (pos 0)) i)
    ∙ sym (map-append whole (replicate (suc n) (pos 1)) (replicate k (pos 0)))

-- the entries of an option, zeros, -1 and zeros
pub unit_row_is : {A : Type 0} (value : A → Fraction) (mid : List Fraction) (a b : List A) (c : List Fraction) (minus : A) (before behind : ℕ)
    → map value a ≡ mid ++ replicate before fraction_zero → b ≡ a ++ (minus ∷ []) → value minus ≡ whole (negsuc 0) → c ≡ map value b ++ replicate behind fraction_zero
    → c ≡ mid ++ map whole (unit_at before behind)
unit_row_is value mid a b c minus before behind a_is b_is minus_is c_is =
    let zeros = replicate before fraction_zero in
    let others = replicate behind fraction_zero in
    let tail : map whole (unit_at before behind) ≡ zeros ++ (whole (negsuc 0) ∷ others) =
    map-append whole (replicate before (pos 0)) (negsuc 0 ∷ replicate behind (pos 0)) ∙ (λ i. replicate-map before (pos 0) i ++ (whole (negsuc 0) ∷ replicate-map behind (pos 0) i)) in
    c_is
    ∙ ap (λ (l : List Fraction). l ++ others) (ap (map value) b_is ∙ map-append value a (minus ∷ []) ∙ (λ i. a_is i ++ (minus_is i ∷ [])))
    ∙ append_assoc (mid ++ zeros) (whole (negsuc 0) ∷ []) others
    ∙ append_assoc mid zeros (whole (negsuc 0) ∷ others)
    ∙ ap (λ (l : List Fraction). mid ++ l) (sym tail)
