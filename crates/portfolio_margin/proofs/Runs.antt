-- What searches with one liability after another end with, by induction over those that are left.
use Rattle.std.proofs.Common.{◌≡◌, ℕ, zero, suc, ◌+◌, ◌≤◌, ◌<◌, List, Bool, true, false, nat_eq, arith, refl}
use Rattle.std.specs.Prelude.{Result, Ok, Err, if◌then◌else◌}
use Rattle.std.proofs.lemmas.Bool.{eqb-true}
use Rattle.exact_num.specs.declared.misfit.Wide.{Wide}
use Rattle.exact_num.specs.Fraction.{Fraction}
use Rattle.form.specs.Payoff.{scale_of}
use Rattle.clearing_model.specs.Written.{WrittenTree}
use Rattle.master_program.specs.Search.{Found, closed, found, search}
use Rattle.search_laws.specs.Search.{IsAsked, IsCounted}
use Rattle.search_laws.proofs.Searching.{search_ends}
use Rattle.search_laws.proofs.Units.{search_is_counted}
use Rattle.simplex_run.specs.Ending.{Ending, done, unbounded, wide_at, no_unit_left, on_answer, on_steps}
use Rattle.simplex_run.proofs.Endings.{EndsWith}
use Rattle.portfolio_margin.specs.Run.{MarginQuestion, Margin, least, endless, ends, goes, at_state, on_found, on_turn, question_of, turns_from, wanted_at}

-- a fact W of each liability with its state, which the searches keep, and a fact Q of the end that
-- follows from it
pub record Keeps (a : MarginQuestion) (W : Fraction → List ℕ → Type 0) (Q : Margin → Type 0) : Type 0 where
  pub asked : (L : Fraction) (at : List ℕ) → W L at → IsAsked (question_of a L)
  pub closes : (L : Fraction) (at : List ℕ) (spent units : ℕ) (tree : WrittenTree) → W L at → search (question_of a L) spent ≡ done (closed tree) units → Q (least L at tree)
  pub shows : (L : Fraction) (at z : List ℕ) (spent units : ℕ) → W L at → search (question_of a L) spent ≡ done (found z) units → scale_of z ≡ 0 → Q (endless z)
  pub wants : (L : Fraction) (at z : List ℕ) (spent units : ℕ) (more : Fraction) → W L at → search (question_of a L) spent ≡ done (found z) units
      → 1 ≤ scale_of z → wanted_at a z ≡ Ok more → W more z

module _ (a : MarginQuestion) (W : Fraction → List ℕ → Type 0) (Q : Margin → Type 0) (keeps : Keeps a W Q) where
  abbrev EndsIn : Margin → ℕ → Type 0
  EndsIn margin units = Q margin

  not_zero : (t : ℕ) → nat_eq t 0 ≡ false → 1 ≤ t
  not_zero zero e = cc
  not_zero (suc t) e = omega arith

  -- after a state is found
  state_leads : (L : Fraction) (at z : List ℕ) (spent units : ℕ) (next : Fraction → List ℕ → ℕ → Ending Margin) → W L at → search (question_of a L) spent ≡ done (found z) units
      → ((more : Fraction) → W more z → EndsWith EndsIn (next more z units)) → EndsWith EndsIn (on_answer (at_state a z units) (on_turn next))
  state_leads L at z spent units next w is go = by (nat_eq (scale_of z) 0) refl
    where
      steps : (r : Result Fraction Wide) → wanted_at a z ≡ r → 1 ≤ scale_of z → EndsWith EndsIn (on_answer (on_steps units r (λ more. done (goes more z) units)) (on_turn next))
      steps (Ok more) e some = go more (keeps.wants L at z spent units more w is some e)
      steps (Err wide) e some = tt

      by : (b : Bool) → nat_eq (scale_of z) 0 ≡ b
          → EndsWith EndsIn (on_answer (if b then done (ends (endless z)) units else on_steps units (wanted_at a z) (λ more. done (goes more z) units)) (on_turn next))
      by true e = keeps.shows L at z spent units w is (eqb-true (scale_of z) 0 e)
      by false e = steps (wanted_at a z) refl (not_zero (scale_of z) e)

  -- after a search
  search_leads : (L : Fraction) (at : List ℕ) (spent : ℕ) (next : Fraction → List ℕ → ℕ → Ending Margin) → W L at
      → (e : Ending Found) → search (question_of a L) spent ≡ e → IsCounted spent a.budget e
      → ((more : Fraction) (z : List ℕ) (units : ℕ) → W more z → spent < units → units ≤ a.budget → EndsWith EndsIn (next more z units))
      → EndsWith EndsIn (on_answer (on_answer e (on_found a L at)) (on_turn next))
  search_leads L at spent next w (done (closed tree) units) e counted go = keeps.closes L at spent units tree w e
  search_leads L at spent next w (done (found z) units) e counted go = state_leads L at z spent units next w e (λ more kept. go more z units kept counted.0 counted.1)
  search_leads L at spent next w (wide_at units wide) e counted go = tt
  search_leads L at spent next w (no_unit_left units) e counted go = tt
  search_leads L at spent next w (unbounded d units) e counted go = absurd (search_ends (question_of a L) spent units d (keeps.asked L at w) e)

  pub turns_say : (left : ℕ) (L : Fraction) (at : List ℕ) (spent : ℕ) → W L at → spent ≤ a.budget → a.budget + 1 ≤ spent + left → EndsWith EndsIn (turns_from a left L at spent)
  unfolding turns_from
  turns_say zero L at spent w le enough = absurd (omega (arith, le, enough))
  turns_say (suc left) L at spent w le enough =
      search_leads L at spent (λ more z units. turns_from a left more z units) w (search (question_of a L) spent) refl (search_is_counted (question_of a L) spent le)
      (λ more z units kept lt few. turns_say left more z units kept few (omega (arith, enough, lt)))
