-- Lines one behind another.
use Rattle.std.proofs.Common.{◌≡◌, ℕ, ◌+◌, ◌*◌, List, ◌++◌, add-one, append_assoc, refl}
use Rattle.demo_run.specs.Draws.{after}
use Rattle.demo_run.specs.Orders.{order_from, order_line}
use Rattle.demo_run.specs.Text.{each, clear_line, order_lines}

pub each_more : (text : ℕ → List ℕ) (n : ℕ) → each text (n + 1) ≡ each text n ++ text n
each_more text n = rw add-one refl

-- one order more
pub order_more : (seed count k : ℕ) (start before : List ℕ) → before ≡ start ++ each (order_lines seed count) k →
    (before ++ order_line (order_from (after (7 * k) seed))) ++ clear_line count (k + 1) ≡ start ++ each (order_lines seed count) (k + 1)
order_more seed count k start before e = rw (e, each_more (order_lines seed count) k) (simp append_assoc)
