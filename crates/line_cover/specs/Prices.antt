-- Prices of the code.
use Rattle.std.specs.Prelude.{ℕ, List, [], ◌∷◌}
use Rattle.line_cover.specs.declared.price.Price.{Price}

-- the state (t, s) of a price s / t
abbrev pub price_vector : Price → List ℕ
price_vector p = p.t ∷ p.s ∷ []
