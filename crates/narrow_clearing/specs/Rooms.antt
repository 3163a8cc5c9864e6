-- What a batch is cleared in by a run in narrow numbers first.
use Rattle.std.specs.Prelude.{ℕ, ◌≤◌, length, vec_capacity}
use Rattle.form.specs.declared.orders.Batch.{Batch}
use Rattle.constraint_generation.specs.Rooms.{IsJointRoom}
use Rattle.clearing.specs.Rooms.{IsClearRoom}
use Rattle.narrow_clearing.specs.declared.room.FirstRoom.{FirstRoom}

-- room for the batch with at most so many units, by a run in these numbers and by one in 128 bits,
-- and for the fills of the first in 128 bits
pub record IsFirstRoom {A : Type 0} (batch : Batch) (units : ℕ) (room : FirstRoom A) : Type 0 where
  pub first : IsJointRoom batch units room.first
  pub fills : length batch.orders ≤ vec_capacity room.fills
  pub broad : IsClearRoom batch units room.broad
