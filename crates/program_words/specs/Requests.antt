-- What a list of words asks for.
use Rattle.std.specs.Prelude.{ℕ, ◌≤◌, ⊤, List, [], ◌∷◌, ◌&&◌, nat_le, codes, Option, Some, None, if◌then◌else◌}
use Rattle.std.specs.Str.{bytes_eq}
use Rattle.form.specs.Naturals.{is_natural, natural_value}
use Rattle.program_words.specs.declared.requests.Request.{Request}
use Rattle.program_words.specs.declared.requests.Request.TheVariants.{Lines, Check, Sessions, Serve, Propose, Demo}
use Rattle.program_words.specs.declared.requests.Mode.TheVariants.{Run, Quotes, Guarded}
use Rattle.program_words.specs.declared.requests.Journal.TheVariants as wrote
use Rattle.program_words.specs.declared.requests.Served.TheVariants as served
use Rattle.program_words.specs.declared.requests.TheConstants.{MAX_SEED, MAX_DEMO_ORDERS}

-- the value of `0`, or of digits that do not begin with 0, where it is from low to high
abbrev pub natural_in : ℕ → ℕ → List ℕ → Option ℕ
natural_in low high text =
    if is_natural text && (nat_le low (natural_value text) && nat_le (natural_value text) high) then Some (natural_value text) else None

abbrev pub demo_of : Option ℕ → Option ℕ → Option Request
demo_of None count = None
demo_of (Some seed) None = None
demo_of (Some seed) (Some count) = Some (Demo seed count)

abbrev pub one_word : List ℕ → Option Request
one_word word =
    if bytes_eq word (codes "run") then Some (Lines Run)
    else if bytes_eq word (codes "quotes") then Some (Lines Quotes)
    else if bytes_eq word (codes "guarded") then Some (Lines Guarded)
    else if bytes_eq word (codes "check") then Some (Check wrote.Run)
    else if bytes_eq word (codes "audit") then Some (Check wrote.Served)
    else if bytes_eq word (codes "sessions") then Some Sessions
    else if bytes_eq word (codes "serve") then Some (Serve served.Lines)
    else if bytes_eq word (codes "propose") then Some Propose
    else None

abbrev pub served_of : List ℕ → Option Request
served_of what =
    if bytes_eq what (codes "sessions") then Some (Serve served.Sessions)
    else if bytes_eq what (codes "members") then Some (Serve served.Members)
    else None

abbrev pub two_words : List ℕ → List ℕ → Option Request
two_words word what = if bytes_eq word (codes "serve") then served_of what else None

abbrev pub three_words : List ℕ → List ℕ → List ℕ → Option Request
three_words word seed count =
    if bytes_eq word (codes "demo") then demo_of (natural_in 0 MAX_SEED seed) (natural_in 1 MAX_DEMO_ORDERS count) else None

-- `run`, `quotes`, `guarded`, `check`, `audit`, `sessions`, `serve`, `serve sessions`, `propose`,
-- or `demo` with a seed and a number of orders
abbrev pub request_of : List (List ℕ) → Option Request
request_of [] = None
request_of (word ∷ []) = one_word word
request_of (word ∷ what ∷ []) = two_words word what
request_of (word ∷ seed ∷ count ∷ []) = three_words word seed count
request_of (word ∷ seed ∷ count ∷ more ∷ words) = None

-- a demo has at least one order, and at most as many as it may
abbrev pub IsRequestWithin : Request → Type 0
IsRequestWithin (Lines mode) = ⊤
IsRequestWithin (Check journal) = ⊤
IsRequestWithin Sessions = ⊤
IsRequestWithin (Serve served) = ⊤
IsRequestWithin Propose = ⊤
IsRequestWithin (Demo seed count) = (1 ≤ count) × (count ≤ MAX_DEMO_ORDERS)
