-- What joint solves work in.
use Rattle.std.specs.Prelude.{ℕ, ◌≡◌, ◌+◌, ◌/◌, ◌<◌, ◌≤◌, List, length, map, Option, Some, None, Result, Ok, Err, vec_capacity}
use Rattle.std.specs.List.{All}
use Rattle.form.specs.declared.orders.Batch.{Batch}
use Rattle.form.specs.declared.states.State.{State}
use Rattle.form.specs.States.{vector_of}
use Rattle.line_cover.specs.Breakpoints.{line_states}
use Rattle.master_program.specs.Rounds.{axis_rays}
use Rattle.pricing_oracle.specs.Rooms.{SearchSpace}
use Rattle.pricing_oracle.specs.Sizes.{AreWithin, sizes_for}
use Rattle.exact_num.specs.Fraction.{Fraction}
use Rattle.simplex_run.specs.Ending.{Ending, done}
use Rattle.master_program.specs.Reading.{Reading}
use Rattle.pricing_oracle.specs.Programs.{HasSameSize}
use Rattle.simplex.specs.declared.stop.RunStop.{RunStop}
use Rattle.constraint_generation.specs.declared.reading.Claim.{Claim}
use Rattle.constraint_generation.specs.declared.master.TheConstants.{MAX_STATES}
use Rattle.constraint_generation.specs.declared.joint_room.JointRoom.{JointRoom}
use Rattle.constraint_generation.specs.declared.solve_room.SolveRoom.{SolveRoom}
use Rattle.constraint_generation.specs.Readings.{reading_in_lists}
use Rattle.constraint_generation.specs.Stops.{IsStopOf}

-- room for programs of so many orders and states, the one where all prices are 0 among them
pub record IsSolveRoom {A : Type 0} (orders states : ℕ) (room : SolveRoom A) : Type 0 where
  pub rows : orders + states ≤ room.space.rows
  pub columns : orders + 1 ≤ room.space.columns
  pub row : orders + 1 ≤ vec_capacity room.row
  pub fills : orders ≤ vec_capacity room.fills
  pub points : states ≤ vec_capacity room.points

-- no less room than before
pub record KeepsSolveRoom {A : Type 0} (old new : SolveRoom A) : Type 0 where
  pub space : HasSameSize old.space new.space
  pub row : vec_capacity old.row ≤ vec_capacity new.row
  pub fills : vec_capacity old.fills ≤ vec_capacity new.fills
  pub points : vec_capacity old.points ≤ vec_capacity new.points

-- the solve ends with what was read off, whose lists are in the room, or stops
abbrev pub IsReadAnswer : {A : Type 0} → (A → Fraction) → Ending Reading → SolveRoom A → Result (Claim A) RunStop → ℕ → Type 0
IsReadAnswer value ending room (Ok read) spent = ending ≡ done (reading_in_lists value room.fills.items room.points.items read) spent
IsReadAnswer value ending room (Err stop) spent = IsStopOf ending stop spent

-- ---- the whole room
-- on one underlying: the states of the line, and room for a master program over them
pub record IsLineRoom {A : Type 0} (batch : Batch) (states : List State) (solve : SolveRoom A) : Type 0 where
  pub one : batch.underlyings ≡ 1
  pub are : map vector_of states ≡ line_states batch.orders
  pub counts : All (λ (state : State). state.count ≡ 2) states
  pub few : length states ≤ MAX_STATES
  pub solve_room : IsSolveRoom (length batch.orders) (length states) solve

-- the most states of the rounds with so many units, the one where all prices are 0 among them
abbrev pub states_within : ℕ → ℕ → ℕ
states_within n units = 1 + n + units / 2

-- on several: the axis rays, with room for as many states as the rounds find, and room for master
-- programs over them and for searches
pub record IsRoundsRoom {A : Type 0} (batch : Batch) (units : ℕ) (states : List State) (room_for : ℕ) (solve : SolveRoom A) (search : SearchSpace) : Type 0 where
  pub several : 1 < batch.underlyings
  pub are : map vector_of states ≡ axis_rays batch.underlyings
  pub counts : All (λ (state : State). state.count ≡ batch.underlyings + 1) states
  pub state_room : states_within batch.underlyings units ≤ room_for + 1
  pub few : states_within batch.underlyings units ≤ MAX_STATES
  pub solve_room : IsSolveRoom (length batch.orders) (states_within batch.underlyings units) solve
  pub search_room : AreWithin (sizes_for batch units) search.sizes

abbrev pub IsRoomBy : {A : Type 0} → Batch → ℕ → List State → ℕ → SolveRoom A → Option SearchSpace → Type 0
IsRoomBy batch units states room_for solve None = IsLineRoom batch states solve
IsRoomBy batch units states room_for solve (Some search) = IsRoundsRoom batch units states room_for solve search

-- room for the joint solve of the batch with so many units
abbrev pub IsJointRoom : {A : Type 0} → Batch → ℕ → JointRoom A → Type 0
IsJointRoom batch units room = IsRoomBy batch units room.states.items (vec_capacity room.states) room.solve room.search
