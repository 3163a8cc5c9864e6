-- A text made by hand.
use Rattle.std.specs.Prelude.{◌≡◌, ◌++◌, ◌/◌, ◌^◌, codes}
use Rattle.demo_run.specs.Draws.{after, below}
use Rattle.demo_run.specs.Text.{made_text, opening_text}

-- the first draw of seed 1
abbrev pub FirstDraw : Type 0
FirstDraw = (after 1 1 ≡ 7806831264735756412) × (after 1 1 / 2 ^ 33 ≡ 908834774) × (below 40 (after 1 1) ≡ 14)

-- its text of one order
abbrev pub OneOrder : Type 0
OneOrder = made_text 1 1 ≡ opening_text ++ codes "sell,15,1,call,1200,215,1,1,0\nclear,1,2000\nsettle,1,961,1087\n"
