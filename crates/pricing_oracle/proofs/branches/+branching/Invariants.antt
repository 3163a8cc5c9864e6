use Rattle.std.proofs.Common.{◌+◌, ◌*◌, map}
use Rattle.sign_tree.specs.Read.{sign_of}
use Rattle.pricing_oracle.specs.Searches.{unsigned_in}
use Rattle.pricing_oracle.proofs.branches.+branching.Given as goal

abbrev pub decreases-branch : goal.decreases-branch
decreases-branch g l = 2 * unsigned_in (map sign_of l.signs.now) + 1

abbrev pub decreases-sides : goal.decreases-sides
decreases-sides g l = 2 * unsigned_in (map sign_of l.signs.now)
