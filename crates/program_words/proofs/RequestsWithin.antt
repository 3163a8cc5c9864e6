-- A demo that words ask for is within its limits.
use Rattle.std.proofs.Common.{◌≡◌, ℕ, ◌≤◌, List, [], ◌∷◌, Bool, true, false, ◌&&◌, nat_le, codes, Option, Some, None, if◌then◌else◌, refl, arith}
use Rattle.std.proofs.lemmas.Bool.Decides.{nat_tests}
use Rattle.std.specs.Prelude.{IfSome}
use Rattle.std.specs.Str.{bytes_eq}
use Rattle.form.specs.Naturals.{is_natural, natural_value}
use Rattle.program_words.specs.declared.requests.Request.TheVariants.{Lines, Check, Sessions, Serve, Propose}
use Rattle.program_words.specs.declared.requests.Mode.TheVariants.{Run, Quotes, Guarded}
use Rattle.program_words.specs.declared.requests.Journal.TheVariants as wrote
use Rattle.program_words.specs.declared.requests.Served.TheVariants as served
use Rattle.program_words.specs.declared.requests.TheConstants.{MAX_SEED, MAX_DEMO_ORDERS}
use Rattle.program_words.specs.Requests.{natural_in, demo_of, request_of, IsRequestWithin}

tested : (low high n : ℕ) (a b c : Bool) → (b ≡ true → low ≤ n) → (c ≡ true → n ≤ high) → IfSome (if a && (b && c) then Some n else None) (λ n. (low ≤ n) × (n ≤ high))
tested low high n true true true above below = (above refl, below refl)
tested low high n true true false above below = tt
tested low high n true false c above below = tt
tested low high n false b c above below = tt

natural_within : (low high : ℕ) (text : List ℕ) → IfSome (natural_in low high text) (λ n. (low ≤ n) × (n ≤ high))
natural_within low high text =
    let n = natural_value text in
    tested low high n (is_natural text) (nat_le low n) (nat_le n high) (λ e. grind (arith, nat_tests)) (λ e. grind (arith, nat_tests))

of_one : (a b c d e f g h : Bool)
    → IfSome (if a then Some (Lines Run) else if b then Some (Lines Quotes) else if c then Some (Lines Guarded) else if d then Some (Check wrote.Run) else if e then Some (Check wrote.Served) else if f then Some Sessions else if g then Some (Serve served.Lines) else if h then Some Propose else None) IsRequestWithin
of_one true b c d e f g h = tt
of_one false true c d e f g h = tt
of_one false false true d e f g h = tt
of_one false false false true e f g h = tt
of_one false false false false true f g h = tt
of_one false false false false false true g h = tt
of_one false false false false false false true h = tt
of_one false false false false false false false true = tt
of_one false false false false false false false false = tt

of_two : (a b c : Bool) → IfSome (if a then (if b then Some (Serve served.Sessions) else if c then Some (Serve served.Members) else None) else None) IsRequestWithin
of_two true true c = tt
of_two true false true = tt
of_two true false false = tt
of_two false b c = tt

of_three : (test : Bool) (seed count : Option ℕ) → IfSome count (λ n. (1 ≤ n) × (n ≤ MAX_DEMO_ORDERS)) → IfSome (if test then demo_of seed count else None) IsRequestWithin
of_three false seed count within = tt
of_three true None count within = tt
of_three true (Some seed) None within = tt
of_three true (Some seed) (Some count) within = within

pub requests_are_within : (words : List (List ℕ)) → IfSome (request_of words) IsRequestWithin
requests_are_within [] = tt
requests_are_within (a ∷ []) = of_one (bytes_eq a (codes "run")) (bytes_eq a (codes "quotes")) (bytes_eq a (codes "guarded")) (bytes_eq a (codes "check")) (bytes_eq a (codes "audit")) (bytes_eq a (codes "sessions")) (bytes_eq a (codes "serve")) (bytes_eq a (codes "propose"))
requests_are_within (a ∷ b ∷ []) = of_two (bytes_eq a (codes "serve")) (bytes_eq b (codes "sessions")) (bytes_eq b (codes "members"))
requests_are_within (a ∷ b ∷ c ∷ []) = of_three (bytes_eq a (codes "demo")) (natural_in 0 MAX_SEED b) (natural_in 1 MAX_DEMO_ORDERS c) (natural_within 1 MAX_DEMO_ORDERS c)
requests_are_within (a ∷ b ∷ c ∷ d ∷ more) = tt
