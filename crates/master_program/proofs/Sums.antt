-- The sums of the master program's rows and columns, in the words of the model.
use Rattle.std.proofs.Common.{◌≡◌, ℕ, zero, suc, ◌+◌, ◌<◌, List, [], ◌∷◌, ◌++◌, length, map, replicate, zip, get_or, arith, ℤ, pos, negsuc, neg_ℤ, ◌+ℤ◌, ◌-ℤ◌, ◌*ℤ◌, ◌≤ℤ◌, refl, ap, sym, ◌∙◌, subst}
use Rattle.std.proofs.lemmas.Int.{ints}
use Rattle.std.proofs.lemmas.List.{length-map, length-append, length-replicate}
use Rattle.arithmetic.specs.Sums.{dot_ℤ}
use Rattle.arithmetic.proofs.Integers.{neg_ℤ-*ℤ}
use Rattle.arithmetic.proofs.Products.{products}
use Rattle.arithmetic.proofs.Dots.{dot-append}
use Rattle.form.specs.declared.orders.Side.{Side}
use Rattle.form.specs.declared.orders.Side.TheVariants.{Buy, Sell}
use Rattle.form.specs.declared.orders.Order.{Order}
use Rattle.form.specs.Vector.{scale_of}
use Rattle.form.specs.Payoff.{bundle_of}
use Rattle.clearing_model.specs.Clearing.{SignedFill, for_side, signed_sum, signed_net, signed_premium}
use Rattle.clearing_model.specs.Measure.{mass_of, price_of}
use Rattle.master_program.specs.Master.{pays, order_cost, order_entry, state_row, quantity_rows, rows_of, right_sides_of, costs_of}
use Rattle.master_program.proofs.Matrix.{AreLong, RowsHold, entry}

-- ---- sums over orders
side_times : (side : Side) (v x : ℤ) → for_side side v *ℤ x ≡ for_side side (v *ℤ x)
side_times Buy v x = refl
side_times Sell v x = neg_ℤ-*ℤ v x

pub side_sum : (f : Order → ℤ) (orders : List Order) (X : List ℤ) → dot_ℤ (map (λ (o : Order). for_side o.side (f o)) orders) X ≡ signed_sum f (zip orders X)
side_sum f [] X = refl
side_sum f (o ∷ os) [] = refl
side_sum f (o ∷ os) (x ∷ X) =
    ap (λ w. w +ℤ dot_ℤ (map (λ (o : Order). for_side o.side (f o)) os) X) (side_times o.side (f o) x)
    ∙ ap (λ w. for_side o.side (f o *ℤ x) +ℤ w) (side_sum f os X)

less_step : (side : Side) (a b k x A B : ℤ) → for_side side ((a -ℤ (k *ℤ b)) *ℤ x) +ℤ (A -ℤ (k *ℤ B)) ≡ (for_side side (a *ℤ x) +ℤ A) -ℤ (k *ℤ (for_side side (b *ℤ x) +ℤ B))
less_step Buy a b k x A B = omega (arith, ints, products)
less_step Sell a b k x A B = omega (arith, ints, products)

signed-less : (f g : Order → ℤ) (k : ℤ) (fills : List SignedFill) → signed_sum (λ o. f o -ℤ (k *ℤ g o)) fills ≡ signed_sum f fills -ℤ (k *ℤ signed_sum g fills)
signed-less f g k [] = omega (arith, ints)
signed-less f g k (fill ∷ fills) =
    ap (λ w. for_side fill.0.side ((f fill.0 -ℤ (k *ℤ g fill.0)) *ℤ fill.1) +ℤ w) (signed-less f g k fills)
    ∙ less_step fill.0.side (f fill.0) (g fill.0) k fill.1 (signed_sum f fills) (signed_sum g fills)

minus_step : (side : Side) (a b x A B : ℤ) → for_side side ((a -ℤ b) *ℤ x) +ℤ (A -ℤ B) ≡ (for_side side (a *ℤ x) +ℤ A) -ℤ (for_side side (b *ℤ x) +ℤ B)
minus_step Buy a b x A B = omega (arith, ints, products)
minus_step Sell a b x A B = omega (arith, ints, products)

signed-minus : (f g : Order → ℤ) (fills : List SignedFill) → signed_sum (λ o. f o -ℤ g o) fills ≡ signed_sum f fills -ℤ signed_sum g fills
signed-minus f g [] = omega (arith, ints)
signed-minus f g (fill ∷ fills) =
    ap (λ w. for_side fill.0.side ((f fill.0 -ℤ g fill.0) *ℤ fill.1) +ℤ w) (signed-minus f g fills)
    ∙ minus_step fill.0.side (f fill.0) (g fill.0) fill.1 (signed_sum f fills) (signed_sum g fills)

-- ---- rows
mapped_count : {A : Type 0} (f : Order → A) (orders : List Order) (X : List ℤ) → length X ≡ length orders → length (map f orders) ≡ length X
mapped_count f orders X h = length-map orders f ∙ sym h

last_row : (N M t s : ℤ) → (N -ℤ (t *ℤ M)) +ℤ ((neg_ℤ t *ℤ s) +ℤ pos 0) ≡ N -ℤ (t *ℤ (M +ℤ s))
last_row N M t s = omega (arith, ints, products)

-- the row of a state: the net less t times what is put aside
pub row_sum : (first z : List ℕ) (orders : List Order) (X : List ℤ) (s : ℤ) → length X ≡ length orders
    → dot_ℤ (state_row first orders z) (X ++ (s ∷ [])) ≡ signed_net (zip orders X) z -ℤ (pos (scale_of z) *ℤ (signed_net (zip orders X) first +ℤ s))
row_sum first z orders X s len =
    let t : ℤ = pos (scale_of z) in
    let end : ℤ = (neg_ℤ t *ℤ s) +ℤ pos 0 in
    dot-append (map (order_entry first z) orders) (neg_ℤ t ∷ []) X (s ∷ []) (mapped_count (order_entry first z) orders X len)
    ∙ ap (λ w. w +ℤ end) (side_sum (λ o. pays o z -ℤ (t *ℤ pays o first)) orders X)
    ∙ ap (λ w. w +ℤ end) (signed-less (λ o. pays o z) (λ o. pays o first) t (zip orders X))
    ∙ last_row (signed_net (zip orders X) z) (signed_net (zip orders X) first) t s

last_cost : (P M s : ℤ) → (P -ℤ M) +ℤ ((negsuc 0 *ℤ s) +ℤ pos 0) ≡ P -ℤ (M +ℤ s)
last_cost P M s = omega (arith, ints, products)

-- the objective: the premium less what is put aside
pub cost_sum : (first : List ℕ) (orders : List Order) (X : List ℤ) (s : ℤ) → length X ≡ length orders
    → dot_ℤ (costs_of first orders) (X ++ (s ∷ [])) ≡ signed_premium (zip orders X) -ℤ (signed_net (zip orders X) first +ℤ s)
cost_sum first orders X s len =
    let end : ℤ = (negsuc 0 *ℤ s) +ℤ pos 0 in
    dot-append (map (order_cost first) orders) (negsuc 0 ∷ []) X (s ∷ []) (mapped_count (order_cost first) orders X len)
    ∙ ap (λ w. w +ℤ end) (side_sum (λ o. pos o.price -ℤ pays o first) orders X)
    ∙ ap (λ w. w +ℤ end) (signed-minus (λ o. pos o.price) (λ o. pays o first) (zip orders X))
    ∙ last_cost (signed_premium (zip orders X)) (signed_net (zip orders X) first) s

-- ---- the rows of quantities
-- each fill is at most its quantity, over F
abbrev pub AreWithin : ℕ → List Order → List ℤ → Type 0
AreWithin F [] X = Unit {0}
AreWithin F (o ∷ os) [] = ⊥
AreWithin F (o ∷ os) (x ∷ X) = (x ≤ℤ (pos o.quantity *ℤ pos F)) × AreWithin F os X

pub dot-replicate : (n : ℕ) (xs : List ℤ) → dot_ℤ (replicate n (pos 0)) xs ≡ pos 0
dot-replicate zero xs = refl
dot-replicate (suc n) [] = refl
dot-replicate (suc n) (x ∷ xs) = omega (arith, ints, dot-replicate n xs)

-- rows that begin with 0 say nothing of the first number
pub rows_shift : (F : ℕ) (rows : List (List ℤ)) (bs : List ℤ) (x : ℤ) (X : List ℤ) → RowsHold F (map (λ (r : List ℤ). pos 0 ∷ r) rows) bs (x ∷ X) → RowsHold F rows bs X
rows_shift F [] bs x X h = tt
rows_shift F (r ∷ rows) [] x X h = h
rows_shift F (r ∷ rows) (b ∷ bs) x X h = (omega (arith, ints, h.0), rows_shift F rows bs x X h.1)

pub quantities_hold : (F : ℕ) (orders : List Order) (X rest : List ℤ) → length X ≡ length orders
    → RowsHold F (quantity_rows (length orders)) (map (λ (o : Order). pos o.quantity) orders) (X ++ rest) → AreWithin F orders X
quantities_hold F [] X rest len h = tt
quantities_hold F (o ∷ os) [] rest len h = absurd (omega (arith, len))
quantities_hold F (o ∷ os) (x ∷ X) rest len h = (
  omega (arith, ints, h.0, dot-replicate (length os + 1) (X ++ rest)),
  quantities_hold F os X rest (omega (arith, len)) (rows_shift F (quantity_rows (length os)) (map (λ (o : Order). pos o.quantity) os) x (X ++ rest) h.1),
)

-- ---- counts
pub long-append : (n : ℕ) (rs ss : List (List ℤ)) → AreLong n rs → AreLong n ss → AreLong n (rs ++ ss)
long-append n [] ss h k = k
long-append n (r ∷ rs) ss h k = (h.0, long-append n rs ss h.1 k)

long-shift : (n : ℕ) (rs : List (List ℤ)) → AreLong n rs → AreLong (suc n) (map (λ (r : List ℤ). pos 0 ∷ r) rs)
long-shift n [] h = tt
long-shift n (r ∷ rs) h = (omega (arith, h.0), long-shift n rs h.1)

quantity_rows_long : (k : ℕ) → AreLong (k + 1) (quantity_rows k)
quantity_rows_long zero = tt
quantity_rows_long (suc k) =
    let e : suc (k + 1) ≡ suc k + 1 = omega arith in
    subst (λ n. AreLong n (quantity_rows (suc k))) e (ap suc (length-replicate (k + 1) (pos 0)), long-shift (k + 1) (quantity_rows k) (quantity_rows_long k))

pub quantity_rows_count : (k : ℕ) → length (quantity_rows k) ≡ k
quantity_rows_count zero = refl
quantity_rows_count (suc k) = ap suc (length-map (quantity_rows k) (λ (r : List ℤ). pos 0 ∷ r) ∙ quantity_rows_count k)

pub one_more : {A : Type 0} (f : Order → A) (x : A) (orders : List Order) → length (map f orders ++ (x ∷ [])) ≡ length orders + 1
one_more f x orders = length-append (map f orders) (x ∷ []) ∙ ap (λ (n : ℕ). n + 1) (length-map orders f)

state_rows_long : (first : List ℕ) (orders : List Order) (states : List (List ℕ)) → AreLong (length orders + 1) (map (state_row first orders) states)
state_rows_long first orders [] = tt
state_rows_long first orders (z ∷ states) = (one_more (order_entry first z) (neg_ℤ (pos (scale_of z))) orders, state_rows_long first orders states)

pub rows_long : (first : List ℕ) (orders : List Order) (states : List (List ℕ)) → AreLong (length orders + 1) (rows_of first orders states)
rows_long first orders states =
    long-append (length orders + 1) (quantity_rows (length orders)) (map (state_row first orders) states) (quantity_rows_long (length orders)) (state_rows_long first orders states)

pub rows_count : (first : List ℕ) (orders : List Order) (states : List (List ℕ)) → length (rows_of first orders states) ≡ length orders + length states
rows_count first orders states =
    length-append (quantity_rows (length orders)) (map (state_row first orders) states)
    ∙ ap (λ w. w + length (map (state_row first orders) states)) (quantity_rows_count (length orders))
    ∙ ap (λ w. length orders + w) (length-map states (state_row first orders))

pub right_sides_count : (orders : List Order) (states : List (List ℕ)) → length (right_sides_of orders states) ≡ length orders + length states
right_sides_count orders states =
    length-append (map (λ (o : Order). pos o.quantity) orders) (replicate (length states) (pos 0))
    ∙ ap (λ w. w + length (replicate (length states) (pos 0))) (length-map orders (λ (o : Order). pos o.quantity))
    ∙ ap (λ w. length orders + w) (length-replicate (length states) (pos 0))

-- ---- columns of the rows of quantities
pub entry-zeros : (n j : ℕ) → entry j (replicate n (pos 0)) ≡ pos 0
entry-zeros zero j = refl
entry-zeros (suc n) zero = refl
entry-zeros (suc n) (suc j) = entry-zeros n j

column-shift : (j : ℕ) (rs : List (List ℤ)) → map (entry (suc j)) (map (λ (r : List ℤ). pos 0 ∷ r) rs) ≡ map (entry j) rs
column-shift j [] = refl
column-shift j (r ∷ rs) = ap (λ w. entry j r ∷ w) (column-shift j rs)

column-none : (rs : List (List ℤ)) (Y : List ℤ) → dot_ℤ (map (entry 0) (map (λ (r : List ℤ). pos 0 ∷ r) rs)) Y ≡ pos 0
column-none [] Y = refl
column-none (r ∷ rs) [] = refl
column-none (r ∷ rs) (y ∷ Y) = omega (arith, ints, column-none rs Y)

-- below a row whose entry is 0, the column of rows that begin with 0
column-next : (k j : ℕ) (y : ℤ) (Y : List ℤ) → dot_ℤ (map (entry (suc j)) (quantity_rows (suc k))) (y ∷ Y) ≡ dot_ℤ (map (entry j) (quantity_rows k)) Y
column-next k j y Y =
    let rest : List ℤ = map (entry (suc j)) (map (λ (r : List ℤ). pos 0 ∷ r) (quantity_rows k)) in
    ap (λ w. (w *ℤ y) +ℤ dot_ℤ rest Y) (entry-zeros (k + 1) j) ∙ none y (dot_ℤ rest Y) ∙ ap (λ w. dot_ℤ w Y) (column-shift j (quantity_rows k))
  where
    none : (y v : ℤ) → (pos 0 *ℤ y) +ℤ v ≡ v
    none y v = omega (arith, ints)

pub unit_column : (k j : ℕ) (Y : List ℤ) → j < k → length Y ≡ k → dot_ℤ (map (entry j) (quantity_rows k)) Y ≡ entry j Y
unit_column zero j Y p h = absurd (omega (arith, p))
unit_column (suc k) j [] p h = absurd (omega (arith, h))
unit_column (suc k) zero (y ∷ Y) p h = omega (arith, ints, column-none (quantity_rows k) Y)
unit_column (suc k) (suc j) (y ∷ Y) p h = column-next k j y Y ∙ unit_column k j Y (omega (arith, p)) (omega (arith, h))

pub slack_column : (k : ℕ) (Y : List ℤ) → dot_ℤ (map (entry k) (quantity_rows k)) Y ≡ pos 0
slack_column zero Y = refl
slack_column (suc k) [] = refl
slack_column (suc k) (y ∷ Y) = column-next k k y Y ∙ slack_column k Y

-- ---- columns of the rows of states
pub entry_of_order : (f : Order → ℤ) (x : ℤ) (orders : List Order) (j : ℕ) (d : Order) → j < length orders → entry j (map f orders ++ (x ∷ [])) ≡ f (get_or orders j d)
entry_of_order f x [] j d h = absurd (omega (arith, h))
entry_of_order f x (o ∷ os) zero d h = refl
entry_of_order f x (o ∷ os) (suc j) d h = entry_of_order f x os j d (omega (arith, h))

pub last_entry : (f : Order → ℤ) (x : ℤ) (orders : List Order) → entry (length orders) (map f orders ++ (x ∷ [])) ≡ x
last_entry f x [] = refl
last_entry f x (o ∷ os) = last_entry f x os

pub order_column : (first : List ℕ) (orders : List Order) (j : ℕ) (d : Order) (states : List (List ℕ)) → j < length orders
    → map (entry j) (map (state_row first orders) states) ≡ map (λ z. order_entry first z (get_or orders j d)) states
order_column first orders j d [] h = refl
order_column first orders j d (z ∷ states) h =
    ap (λ w. w ∷ map (entry j) (map (state_row first orders) states)) (entry_of_order (order_entry first z) (neg_ℤ (pos (scale_of z))) orders j d h)
    ∙ ap (λ w. order_entry first z (get_or orders j d) ∷ w) (order_column first orders j d states h)

pub last_column : (first : List ℕ) (orders : List Order) (states : List (List ℕ)) → map (entry (length orders)) (map (state_row first orders) states) ≡ map (λ z. neg_ℤ (pos (scale_of z))) states
last_column first orders [] = refl
last_column first orders (z ∷ states) =
    ap (λ w. w ∷ map (entry (length orders)) (map (state_row first orders) states)) (last_entry (order_entry first z) (neg_ℤ (pos (scale_of z))) orders)
    ∙ ap (λ w. neg_ℤ (pos (scale_of z)) ∷ w) (last_column first orders states)

-- the slack's column: the mass of the states with a minus
pub mass_sum : (states : List (List ℕ)) (ws : List ℤ) → dot_ℤ (map (λ z. neg_ℤ (pos (scale_of z))) states) ws ≡ neg_ℤ (mass_of (zip states ws))
mass_sum [] ws = refl
mass_sum (z ∷ states) [] = refl
mass_sum (z ∷ states) (w ∷ ws) = mass_step (pos (scale_of z)) w (mass_of (zip states ws)) (dot_ℤ (map (λ z. neg_ℤ (pos (scale_of z))) states) ws) (mass_sum states ws)
  where
    mass_step : (t w M v : ℤ) → v ≡ neg_ℤ M → (neg_ℤ t *ℤ w) +ℤ v ≡ neg_ℤ ((w *ℤ t) +ℤ M)
    mass_step t w M v e = omega (arith, ints, products, e)

column_step : (side : Side) (h g t w P M : ℤ) → (for_side side (h -ℤ (t *ℤ g)) *ℤ w) +ℤ for_side side (P -ℤ (g *ℤ M)) ≡ for_side side (((w *ℤ h) +ℤ P) -ℤ (g *ℤ ((w *ℤ t) +ℤ M)))
column_step Buy h g t w P M = omega (arith, ints, products)
column_step Sell h g t w P M = omega (arith, ints, products)

no_column : (side : Side) (g : ℤ) → pos 0 ≡ for_side side (pos 0 -ℤ (g *ℤ pos 0))
no_column Buy g = omega (arith, ints)
no_column Sell g = omega (arith, ints)

-- an order's column: its price at the states less what is put aside for it there
pub column_sum : (first : List ℕ) (o : Order) (states : List (List ℕ)) (ws : List ℤ)
    → dot_ℤ (map (λ z. order_entry first z o) states) ws ≡ for_side o.side (price_of (bundle_of o) (zip states ws) -ℤ (pays o first *ℤ mass_of (zip states ws)))
column_sum first o [] ws = no_column o.side (pays o first)
column_sum first o (z ∷ states) [] = no_column o.side (pays o first)
column_sum first o (z ∷ states) (w ∷ ws) =
    ap (λ v. (order_entry first z o *ℤ w) +ℤ v) (column_sum first o states ws)
    ∙ column_step o.side (pays o z) (pays o first) (pos (scale_of z)) w (price_of (bundle_of o) (zip states ws)) (mass_of (zip states ws))
