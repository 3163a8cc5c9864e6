use Rattle.std.proofs.Common.{◌≡◌, ◌+◌, ◌≤◌, ◌++◌, length, take}
use Rattle.lists.proofs.block.Block.extend.Given as goal

abbrev pub invariant-loop-i : goal.invariant-loop-i
invariant-loop-i g l =
    record {
      numbers : take (l.count + l.i) l.self.numbers ≡ take l.count l.fn.self.numbers ++ take l.i l.numbers;
      places : (l.count + l.i ≤ length l.self.numbers) × (length l.self.numbers + l.self.spare ≡ length l.fn.self.numbers + l.fn.self.spare);
      alloc : l.self.alloc ≡ l.fn.self.alloc;
    }
