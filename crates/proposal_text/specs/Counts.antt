-- How long the certificate of a proposal may be: no judgement holds up all others.
use Rattle.std.specs.Prelude.{◌≤◌, List, Bool, true, Option, Some, None, ⊤, length, nat_le, if◌then◌else◌}
use Rattle.cert_check.specs.declared.outcome.Cover.{Cover}
use Rattle.cert_check.specs.declared.outcome.Cover.TheVariants.{Line, Tree}
use Rattle.proposal_text.specs.declared.counts.TheConstants.{MAX_POINTS, MAX_TREE_NODES}

abbrev pub is_short_cover : Cover → Bool
is_short_cover Line = true
is_short_cover (Tree tree) = nat_le (length tree.nodes) MAX_TREE_NODES

-- the same in words
abbrev pub IsShortCover : Cover → Type 0
IsShortCover Line = ⊤
IsShortCover (Tree tree) = length tree.nodes ≤ MAX_TREE_NODES

abbrev pub short_cover : Cover → Option Cover
short_cover cover = if is_short_cover cover then Some cover else None

abbrev pub few_points : {A : Type 0} → List A → Option (List A)
few_points points = if nat_le (length points) MAX_POINTS then Some points else None
