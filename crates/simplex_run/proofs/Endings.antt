-- What a whole that goes on after an answer, or after steps, takes from its parts.
use Rattle.std.proofs.Common.{◌≡◌, ℕ, List, refl, ap, sym, ◌∙◌}
use Rattle.std.specs.Prelude.{Result, Ok, Err}
use Rattle.exact_num.specs.declared.misfit.Wide.{Wide}
use Rattle.exact_num.specs.Fraction.{Fraction}
use Rattle.simplex_run.specs.Ending.{Ending, done, unbounded, wide_at, no_unit_left, on_answer, on_steps, where_fits, HasNoMisfit, EndsBy}

-- ---- a whole that is done
pub record DoneAfter (A B : Type 0) (e : Ending A) (next : A → ℕ → Ending B) (b : B) (units : ℕ) : Type 0 where
  pub answer : A
  pub spent : ℕ
  pub first : e ≡ done answer spent
  pub rest : next answer spent ≡ done b units

pub on_answer-done : {A B : Type 0} (e : Ending A) (next : A → ℕ → Ending B) (b : B) (units : ℕ) → on_answer e next ≡ done b units → DoneAfter A B e next b units
on_answer-done (done a s) next b units h = record { answer = a; spent = s; first = refl; rest = h }
on_answer-done (unbounded d s) next b units h = cc
on_answer-done (wide_at s w) next b units h = cc
on_answer-done (no_unit_left s) next b units h = cc

pub record DoneBySteps (A B : Type 0) (r : Result A Wide) (next : A → Ending B) (b : B) (units : ℕ) : Type 0 where
  pub value : A
  pub first : r ≡ Ok value
  pub rest : next value ≡ done b units

pub on_steps-done : {A B : Type 0} (spent : ℕ) (r : Result A Wide) (next : A → Ending B) (b : B) (units : ℕ) → on_steps spent r next ≡ done b units → DoneBySteps A B r next b units
on_steps-done spent (Ok a) next b units h = record { value = a; first = refl; rest = h }
on_steps-done spent (Err w) next b units h = cc

-- an answer that stands where further steps fit
pub record DoneWhereFits (A B : Type 0) (e : Ending A) (steps : A → Result B Wide) (a : A) : Type 0 where
  pub spent : ℕ
  pub first : e ≡ done a spent
  pub value : B
  pub fits : steps a ≡ Ok value

same_answer : {A : Type 0} (a b : A) (s u : ℕ) → done a s ≡ done b u → a ≡ b
same_answer a b s u h = cc

pub where_fits-done : {A B : Type 0} (e : Ending A) (steps : A → Result B Wide) (a : A) (units : ℕ) → on_answer e (where_fits steps) ≡ done a units → DoneWhereFits A B e steps a
where_fits-done {A} e steps a units h =
    let whole = on_answer-done e (where_fits steps) a units h in
    let tested = on_steps-done whole.spent (steps whole.answer) (λ b. done whole.answer whole.spent) a units whole.rest in
    let same = same_answer whole.answer a whole.spent units tested.rest in
    let ended : A → Ending A = λ b. done b whole.spent in
    record { spent = whole.spent; first = whole.first ∙ ap ended same; value = tested.value; fits = ap steps (sym same) ∙ tested.first }

-- ---- what each end is
pub on_answer-by : {A B : Type 0} (P : A → ℕ → Type 0) (Q : B → ℕ → Type 0) (U : Type 0) (M : Wide → ℕ → Type 0) (e : Ending A) (next : A → ℕ → Ending B)
    → EndsBy P U M e → ((a : A) (s : ℕ) → P a s → EndsBy Q U M (next a s)) → EndsBy Q U M (on_answer e next)
on_answer-by P Q U M (done a s) next h f = f a s h
on_answer-by P Q U M (unbounded d s) next h f = h
on_answer-by P Q U M (wide_at s w) next h f = h
on_answer-by P Q U M (no_unit_left s) next h f = tt

pub on_steps-by : {A B : Type 0} (Q : B → ℕ → Type 0) (U : Type 0) (M : Wide → ℕ → Type 0) (spent : ℕ) (r : Result A Wide) (next : A → Ending B)
    → ((w : Wide) → r ≡ Err w → M w spent) → ((a : A) → r ≡ Ok a → EndsBy Q U M (next a)) → EndsBy Q U M (on_steps spent r next)
on_steps-by Q U M spent (Ok a) next misfits f = f a refl
on_steps-by Q U M spent (Err w) next misfits f = misfits w refl

-- it ends with an answer of which P holds, or with none: but never unbounded
abbrev Anything : Wide → ℕ → Type 0
Anything w s = Unit {0}

abbrev pub EndsWith : {A : Type 0} → (A → ℕ → Type 0) → Ending A → Type 0
EndsWith P e = EndsBy P ⊥ Anything e

pub ends_with : {A : Type 0} (P : A → ℕ → Type 0) (e : Ending A) → ((a : A) (s : ℕ) → e ≡ done a s → P a s) → ((d : List Fraction) (s : ℕ) → e ≡ unbounded d s → ⊥) → EndsWith P e
ends_with P (done a s) h never = h a s refl
ends_with P (unbounded d s) h never = never d s refl
ends_with P (wide_at s w) h never = tt
ends_with P (no_unit_left s) h never = tt

pub on_answer-ends : {A B : Type 0} (P : A → ℕ → Type 0) (Q : B → ℕ → Type 0) (e : Ending A) (next : A → ℕ → Ending B) → EndsWith P e → ((a : A) (s : ℕ) → P a s → EndsWith Q (next a s)) → EndsWith Q (on_answer e next)
on_answer-ends P Q e next h f = on_answer-by P Q ⊥ Anything e next h f

pub on_steps-ends : {A B : Type 0} (Q : B → ℕ → Type 0) (spent : ℕ) (r : Result A Wide) (next : A → Ending B) → ((a : A) → r ≡ Ok a → EndsWith Q (next a)) → EndsWith Q (on_steps spent r next)
on_steps-ends Q spent r next f = on_steps-by Q ⊥ Anything spent r next (λ w is. tt) f

pub where_fits-ends : {A B : Type 0} (P : A → ℕ → Type 0) (e : Ending A) (steps : A → Result B Wide) → EndsWith P e → EndsWith P (on_answer e (where_fits steps))
where_fits-ends P e steps h = on_answer-ends P P e (where_fits steps) h (λ a s here. on_steps-ends P s (steps a) (λ b. done a s) (λ b fits. here))

-- ---- with a greater limit
-- where the first has no misfit, the second is the same
abbrev pub IsAlike : {A : Type 0} → Ending A → Ending A → Type 0
IsAlike e e' = HasNoMisfit e → e' ≡ e

pub on_answer-alike : {A B : Type 0} (e e' : Ending A) (next next' : A → ℕ → Ending B) → IsAlike e e' → ((a : A) (s : ℕ) → IsAlike (next a s) (next' a s)) → IsAlike (on_answer e next) (on_answer e' next')
on_answer-alike {B} (done a s) e' next next' h f fits = let g : Ending _ → Ending B = λ x. on_answer x next' in ap g (h tt) ∙ f a s fits
on_answer-alike {B} (unbounded d s) e' next next' h f fits = let g : Ending _ → Ending B = λ x. on_answer x next' in ap g (h tt)
on_answer-alike (wide_at s w) e' next next' h f fits = absurd fits
on_answer-alike {B} (no_unit_left s) e' next next' h f fits = let g : Ending _ → Ending B = λ x. on_answer x next' in ap g (h tt)

pub on_steps-alike : {A B : Type 0} (spent : ℕ) (r r' : Result A Wide) (next next' : A → Ending B) → ((a : A) → r ≡ Ok a → r' ≡ Ok a) → ((a : A) → IsAlike (next a) (next' a)) → IsAlike (on_steps spent r next) (on_steps spent r' next')
on_steps-alike {A} {B} spent (Ok a) r' next next' h f fits = let g : Result A Wide → Ending B = λ x. on_steps spent x next' in ap g (h a refl) ∙ f a fits
on_steps-alike spent (Err w) r' next next' h f fits = absurd fits
