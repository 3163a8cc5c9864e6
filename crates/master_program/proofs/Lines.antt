-- With one underlying, what is read off an optimum over the states of the line is the greatest.
use Rattle.std.proofs.Common.{List, All}
use Rattle.std.proofs.lemmas.List.Elements.{All-tail}
use Rattle.form.specs.declared.orders.Order.{Order}
use Rattle.form.specs.Vector.{IsState}
use Rattle.cert_check.proofs.Certificate.{line_certificate_covers}
use Rattle.cert_check.specs.Breakpoints.{first_state, later_states, line_states}
use Rattle.cert_check.proofs.LineStates.{lines_close_at_states, line_states_are_states}
use Rattle.master_program.specs.Reading.{Reading}
use Rattle.master_program.specs.Certified.{IsCertifiedAt, IsGreatestByLine}
use Rattle.master_program.specs.OptimumLaws.{LineReadingsAreGreatest}
use Rattle.master_program.proofs.Read.{readings_are_certified, covered_is_greatest}

pub later_are_states : (orders : List Order) → All (IsState 1) (later_states orders)
later_are_states orders = All-tail (IsState 1) first_state (later_states orders) (line_states_are_states orders)

pub greatest_by_line : (orders : List Order) (r : Reading) → IsCertifiedAt 1 orders (line_states orders) r → IsGreatestByLine orders r
greatest_by_line orders r c =
    let closes = (lines_close_at_states orders r.fills r.liability c.fills.0).0 c.enough in
    let covers = line_certificate_covers orders r.fills r.liability r.surplus c.fills c.liability_defined closes c.earned in
    record {
      fills = c.fills;
      liability_defined = c.liability_defined;
      earned = c.earned;
      closes = closes;
      by_measure = covered_is_greatest 1 orders (line_states orders) r c covers;
    }

pub line_readings_are_greatest : LineReadingsAreGreatest
line_readings_are_greatest limit orders x y reduced value r is read =
    greatest_by_line orders r (readings_are_certified limit 1 orders (later_states orders) x y reduced value r (later_are_states orders) is read)
