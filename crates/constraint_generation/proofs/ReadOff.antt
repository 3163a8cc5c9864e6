-- What is read off, part by part.
use Rattle.std.proofs.Common.{◌≡◌, ℕ, zero, suc, ◌+◌, ◌<◌, List, [], ◌∷◌, ◌++◌, drop, get_or, length, zip, take, Bool, true, false, if◌then◌else◌, Ok, Err, arith, refl, ap, sym, ◌∙◌}
use Rattle.exact_num.specs.declared.misfit.Wide.{Wide}
use Rattle.exact_num.specs.Fraction.{Fraction}
use Rattle.exact_num.specs.Fits.{after}
use Rattle.simplex_run.specs.Places.{at}
use Rattle.form.specs.declared.orders.Order.{Order}
use Rattle.clearing_model.specs.Certificate.{Point}
use Rattle.master_program.specs.Reading.{liability_of, points_of, reading_of, reading_with, has_weight, points_with_weight}

-- an entry behind so many
any_default : (y : List Fraction) (i : ℕ) (d e : Fraction) → i < length y → get_or y i d ≡ get_or y i e
any_default [] i d e low = absurd (omega (arith, low))
any_default (x ∷ y) zero d e low = refl
any_default (x ∷ y) (suc i) d e low = any_default y i d e (omega (arith, low))

pub at_behind : (y : List Fraction) (k i : ℕ) (d : Fraction) → k + i < length y → get_or (drop k y) i d ≡ at y (k + i)
at_behind [] k i d low = absurd (omega (arith, low))
at_behind (x ∷ y) zero i d low =
    let e : zero + i ≡ i = omega arith in
    rw e (any_default (x ∷ y) i d _ (omega (arith, low)))
at_behind (x ∷ y) (suc k) i d low =
    let e : suc k + i ≡ suc (k + i) = omega arith in
    rw e (at_behind y k i d (omega (arith, low)))

-- points of weight above 0 are those of the first and of the rest
pub points_with_weight_more : (point : Point) (points : List Point) → points_with_weight (point ∷ points) ≡ points_with_weight (point ∷ []) ++ points_with_weight points
points_with_weight_more point points = go (has_weight point)
  where
    go : (b : Bool) → (if b then point ∷ points_with_weight points else points_with_weight points) ≡ (if b then point ∷ [] else []) ++ points_with_weight points
    go true = refl
    go false = refl

pub read_is : (limit : ℕ) (first : List ℕ) (later : List (List ℕ)) (orders : List Order) (x y reduced fills : List Fraction) (value w L : Fraction) (measure : List Point)
    → fills ≡ take (length orders) x → liability_of limit orders fills (at x (length orders)) ≡ Ok L → w ≡ at reduced (length orders) → measure ≡ points_with_weight ((first, w) ∷ zip later (drop (length orders) y))
    → reading_of limit first orders later x y reduced value ≡ Ok (reading_with fills value measure L)
read_is limit first later orders x y reduced fills value w L measure is_fills ok is_w is_measure =
    let k = length orders in
    let points = points_with_weight (points_of k first later y reduced) in
    let measure_is : points ≡ measure = ap (λ w. points_with_weight ((first, w) ∷ zip later (drop k y))) (sym is_w) ∙ sym is_measure in
    ap (λ r. after r (λ L. Ok (reading_with (take k x) value points L))) (ap (λ fs. liability_of limit orders fs (at x k)) (sym is_fills) ∙ ok)
    ∙ (λ j. Ok (reading_with (sym is_fills j) value (measure_is j) L))

pub read_stops : (limit : ℕ) (first : List ℕ) (later : List (List ℕ)) (orders : List Order) (x y reduced fills : List Fraction) (value : Fraction) (w : Wide)
    → fills ≡ take (length orders) x → liability_of limit orders fills (at x (length orders)) ≡ Err w → reading_of limit first orders later x y reduced value ≡ Err w
read_stops limit first later orders x y reduced fills value w is_fills err =
    let k = length orders in
    let points = points_with_weight (points_of k first later y reduced) in
    ap (λ r. after r (λ L. Ok (reading_with (take k x) value points L))) (ap (λ fs. liability_of limit orders fs (at x k)) (sym is_fills) ∙ err)
