-- What the code answers of a round, and of all rounds.
use Rattle.std.specs.Prelude.{ℕ, ◌≡◌, ◌+◌, Result, Ok, Err}
use Rattle.exact_num.specs.Fraction.{Fraction}
use Rattle.form.specs.States.{vector_of}
use Rattle.clearing_model.specs.Written.{WrittenTree}
use Rattle.sign_tree.specs.declared.trees.SignTree.{SignTree}
use Rattle.simplex.specs.declared.stop.RunStop.{RunStop}
use Rattle.simplex_run.specs.Ending.{Ending, done}
use Rattle.master_program.specs.Reading.{Reading}
use Rattle.master_program.specs.Search.{Found, closed, found}
use Rattle.master_program.specs.Rounds.{Cleared}
use Rattle.pricing_oracle.specs.Answers.{IsTreeAs}
use Rattle.constraint_generation.specs.Readings.{reading_in_lists}
use Rattle.constraint_generation.specs.Stops.{IsStopOf}
use Rattle.constraint_generation.specs.declared.reading.Claim.{Claim}
use Rattle.constraint_generation.specs.declared.round.RoundEnd.{RoundEnd}
use Rattle.constraint_generation.specs.declared.round.RoundEnd.TheVariants.{Closed, Violated}
use Rattle.constraint_generation.specs.declared.solve_room.SolveRoom.{SolveRoom}

-- a round ends with what is read off and the tree of the search, or with a state
abbrev pub RoundEndsWith : {A : Type 0} → (A → Fraction) → Ending (Reading × Found) → SolveRoom A → SignTree → RoundEnd A → ℕ → Type 0
RoundEndsWith value ending room tree (Closed read) spent =
    (written : WrittenTree) × IsTreeAs written tree × (ending ≡ done (reading_in_lists value room.fills.items room.points.items read, closed written) spent)
RoundEndsWith value ending room tree (Violated state) spent = (r : Reading) × (ending ≡ done (r, found (vector_of state)) spent)

abbrev pub IsRoundAnswer : {A : Type 0} → (A → Fraction) → Ending (Reading × Found) → SolveRoom A → SignTree → Result (RoundEnd A) RunStop → ℕ → Type 0
IsRoundAnswer value ending room tree (Ok end) spent = RoundEndsWith value ending room tree end spent
IsRoundAnswer value ending room tree (Err stop) spent = IsStopOf ending stop spent

-- the state, where there is one, has as many entries as the forms
abbrev pub IsOnForms : {A : Type 0} → ℕ → RoundEnd A → Type 0
IsOnForms n (Closed read) = Unit {0}
IsOnForms n (Violated state) = state.count ≡ n + 1

-- rounds end with what is cleared
abbrev pub IsClearedAnswer : {A : Type 0} → (A → Fraction) → Ending Cleared → SolveRoom A → SignTree → Result (Claim A) RunStop → ℕ → Type 0
IsClearedAnswer value ending room tree (Ok read) spent =
    (written : WrittenTree) × IsTreeAs written tree × (ending ≡ done (reading_in_lists value room.fills.items room.points.items read, written) spent)
IsClearedAnswer value ending room tree (Err stop) spent = IsStopOf ending stop spent
