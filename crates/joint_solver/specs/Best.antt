-- What the answer of a joint solve has shown.
use Rattle.exact_num.specs.Fraction.{Fraction}
use Rattle.form.specs.declared.orders.Batch.{Batch}
use Rattle.constraint_generation.specs.declared.solution.Solution.{Solution}
use Rattle.constraint_generation.specs.Answers.{OfSolution, reading_in}
use Rattle.constraint_generation.specs.Laws.{IsGreatestBy, IsYesWith}

-- its cover and its measure prove that nothing greater is cleared, and the verdict on it is yes
pub record IsBestOf {A : Type 0} (value : A → Fraction) (batch : Batch) (joint : Solution A) : Type 0 where
  pub greatest : OfSolution value (IsGreatestBy batch.underlyings batch.orders) joint
  pub yes : IsYesWith batch (reading_in value joint) joint.cover
