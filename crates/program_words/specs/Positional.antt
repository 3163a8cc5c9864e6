-- Lists of words that can be read as positional texts.
use Rattle.std.specs.Prelude.{ℕ, List, [], ◌∷◌, Bool, true, false, not, ◌==◌, ◌&&◌, Option, Some, None}
use Rattle.program_words.specs.declared.requests.Request.{Request}
use Rattle.program_words.specs.Requests.{one_word, two_words, three_words}

-- a word that begins with no `-`
abbrev pub is_plain : List ℕ → Bool
is_plain [] = true
is_plain (b ∷ bs) = not (b == 45)

-- one to three such words
abbrev pub are_positional : List (List ℕ) → Bool
are_positional [] = false
are_positional (a ∷ []) = is_plain a
are_positional (a ∷ b ∷ []) = is_plain a && is_plain b
are_positional (a ∷ b ∷ c ∷ []) = is_plain a && (is_plain b && is_plain c)
are_positional (a ∷ b ∷ c ∷ d ∷ more) = false

-- what the texts of three places ask for, of which the last two may be empty
abbrev pub request_in : Option (List ℕ) → Option (List ℕ) → Option (List ℕ) → Option Request
request_in None second third = None
request_in (Some word) None None = one_word word
request_in (Some word) None (Some third) = None
request_in (Some word) (Some what) None = two_words word what
request_in (Some word) (Some seed) (Some count) = three_words word seed count
