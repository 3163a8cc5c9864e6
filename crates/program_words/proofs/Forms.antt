-- What positional words ask for, and that other words ask for nothing.
use Rattle.std.proofs.Common.{◌≡◌, ℕ, List, [], ◌∷◌, true, slice_get, Option, None, Some, refl, sym, true≢false}
use Rattle.std.specs.Prelude.{Result, IfOk, IsErrOf}
use Rattle.std.specs.Option.{ok_or}
use Rattle.program_words.specs.declared.requests.Request.{Request}
use Rattle.program_words.specs.declared.requests.WordsFault.{WordsFault}
use Rattle.program_words.specs.declared.requests.WordsFault.TheVariants.{Usage}
use Rattle.program_words.specs.Positional.{are_positional, request_in}
use Rattle.program_words.specs.Requests.{request_of}

-- places say what the list says
pub by_place : (words : List (List ℕ)) → are_positional words ≡ true → request_in (slice_get words 0) (slice_get words 1) (slice_get words 2) ≡ request_of words
by_place [] e = refl
by_place (a ∷ []) e = refl
by_place (a ∷ b ∷ []) e = refl
by_place (a ∷ b ∷ c ∷ []) e = refl
by_place (a ∷ b ∷ c ∷ d ∷ more) e = absurd (true≢false (sym e))

-- the answer to what the words ask for
pub told_ok : (asked : Option Request) (result : Result Request WordsFault) (words : List (List ℕ)) → result ≡ ok_or asked Usage → asked ≡ request_of words → IfOk result (λ request. request_of words ≡ Some request)
told_ok None result words e is = rw e tt
told_ok (Some request) result words e is = rw e (sym is)

pub told_usage : (asked : Option Request) (result : Result Request WordsFault) (words : List (List ℕ)) → result ≡ ok_or asked Usage → asked ≡ request_of words → IsErrOf result Usage → request_of words ≡ None
told_usage None result words e is failed = sym is
told_usage (Some request) result words e is failed = absurd (cc)
