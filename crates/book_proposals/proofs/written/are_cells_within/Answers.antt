use Rattle.std.proofs.Common.{◌≡◌, ◌&&◌, length, true, sym, ◌∙◌, arith}
use Rattle.std.specs.Prelude.{nat_le}
use Rattle.std.proofs.lemmas.Bool.{and_parts}
use Rattle.std.proofs.lemmas.Bool.Decides.{nat_tests}
use Rattle.proposal_text.specs.CellRanges.{listed}
use Rattle.proposal_text.specs.declared.cells.TheConstants.{MAX_CELLS, MAX_LISTED}
use Rattle.book_proposals.proofs.FormedCells.{formed_within}
use Rattle.book_proposals.proofs.written.are_cells_within.Goals as goal

pub returns : goal.returns
returns c few =
    let nodes = c.args.nodes.now in
    let test : nat_le (length nodes) MAX_CELLS && nat_le (listed nodes) MAX_LISTED ≡ true = sym c.are_few.ensures ∙ few in
    let parts = and_parts (nat_le (length nodes) MAX_CELLS) (nat_le (listed nodes) MAX_LISTED) test in (
      grind (arith, nat_tests, parts.0),
      grind (arith, nat_tests, parts.1),
      formed_within c.args.orders.now nodes c.requires.few c.requires.formed,
    )
