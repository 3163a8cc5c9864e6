-- Fractions over which a cover by cells closes cover the premium less the liability.
use Rattle.std.proofs.Common.{◌≡◌, ℕ, [], ◌∷◌, ◌++◌, ap, sym, subst}
use Rattle.std.proofs.lemmas.List.{append-nil}
use Rattle.std.proofs.lemmas.List.Elements.{All-nil}
use Rattle.exact_num.specs.Fraction.{IsDefined}
use Rattle.exact_num.specs.CommonDenominator.{common_denominator, amount_over}
use Rattle.clearing_model.specs.Clearing.{HoldsAtEachState}
use Rattle.clearing_model.specs.Certificate.{filled_over}
use Rattle.market_laws.proofs.Certificate.{fills_cover, fills_defined, fills_not_below}
use Rattle.cell_cover.specs.Laws.{CellCertificateCovers}
use Rattle.cell_cover.proofs.Regrouped.{closed_cells_hold}

pub cell_certificate_covers : CellCertificateCovers
cell_certificate_covers n orders fills L S nodes is L_defined closes surplus =
    let enough = closed_cells_hold n orders fills L nodes is.0 (fills_defined orders fills is.1 is.0) (fills_not_below orders fills is.1 is.0) L_defined closes in
    let Q : ℕ → Type 0 = λ w. HoldsAtEachState n (filled_over w orders fills) (amount_over w L) in
    let e : common_denominator (L ∷ fills) ≡ common_denominator (L ∷ (fills ++ [])) = ap (λ fs. common_denominator (L ∷ fs)) (sym (append-nil fills)) in
    fills_cover n orders fills [] L S is L_defined (All-nil IsDefined) (subst Q e enough) surplus
