-- What a batch is cleared in.
use Rattle.std.specs.Prelude.{ℕ, ◌≡◌, List, length}
use Rattle.exact_num.specs.Fraction.{whole}
use Rattle.frac.specs.ValueOf.{value_of}
use Rattle.form.specs.declared.orders.Order.{Order}
use Rattle.form.specs.declared.orders.Batch.{Batch}
use Rattle.clearing_model.specs.Clearing.{premium}
use Rattle.bundle_match.specs.Match.{match_by_bundle}
use Rattle.bundle_match.specs.Laws.{match_of}
use Rattle.cert_check.specs.Tests.{AreSigns}
use Rattle.constraint_generation.specs.Rooms.{IsJointRoom}
use Rattle.clearing.specs.declared.fallback.Matched.{Matched}
use Rattle.clearing.specs.declared.room.ClearRoom.{ClearRoom}
use Rattle.clearing.specs.Outcome.{whole_fills}

-- the match of these orders, as fractions
pub record IsMatchOf (orders : List Order) (kept : Matched) : Type 0 where
  pub fills : kept.fills.items ≡ whole_fills (match_by_bundle orders)
  pub surplus : kept.surplus ≡ value_of (whole (premium (match_of orders)))

-- room for what comes after a run of the batch: signs for the sums of the verdict, and the match
pub record IsEndRoom (batch : Batch) (room : ClearRoom) : Type 0 where
  pub signs : AreSigns batch.orders (length room.signs.items)
  pub matched : IsMatchOf batch.orders room.matched

-- and for a run with at most so many units too
pub record IsClearRoom (batch : Batch) (units : ℕ) (room : ClearRoom) : Type 0 where
  pub run : IsJointRoom batch units room.run
  pub end : IsEndRoom batch room
