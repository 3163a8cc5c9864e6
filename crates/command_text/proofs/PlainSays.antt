-- What lines of one or two numbers say.
use Rattle.std.proofs.Common.{◌≡◌, ◌+◌, ◌==◌, ℕ, List, [], ◌∷◌, Bool, true, false, length, Option, Some, None, Result, Ok, Err, if◌then◌else◌, refl, sym, ap, ◌∙◌, arith}
use Rattle.std.proofs.lemmas.Bool.Decides.{nat_tests}
use Rattle.command_text.specs.declared.asked.Asked.{Asked}
use Rattle.command_text.specs.declared.asked.Fault.{Fault}
use Rattle.command_text.specs.declared.asked.Fault.TheVariants.{Syntax, Range}
use Rattle.command_text.specs.declared.command.Command.{Command}
use Rattle.command_text.specs.Asked.{says_in, fault_of, either_fault, fault_in, natural_in}
use Rattle.command_text.specs.Trades.{unless}

pub either_none : (fault : Option Fault) → either_fault fault None ≡ fault
either_none None = refl
either_none (Some Syntax) = refl
either_none (Some (Range place)) = refl

abbrev fault_at : List (List ℕ) → Asked → Option Fault
fault_at fields asked = fault_of (0 + asked.place) (says_in fields asked)

-- a line of a word and two numbers
pub two_say : (fields : List (List ℕ)) (first next : Asked) (fault : Option Fault) (v w : ℕ) → length fields ≡ 3 → fault ≡ either_fault (fault_at fields first) (fault_at fields next)
    → v ≡ natural_in fields first → w ≡ natural_in fields next
    → unless {A = ℕ × ℕ} fault (v, w) ≡ (if length fields == 3 then unless (fault_in 0 (first ∷ next ∷ []) fields) (natural_in fields first, natural_in fields next) else Err Syntax)
two_say fields first next fault v w three wrong is and =
    let inside : (length fields == 3) ≡ true = grind (arith, nat_tests) in
    let said : Option Fault → Result (ℕ × ℕ) Fault = λ f. unless {A = ℕ × ℕ} f (natural_in fields first, natural_in fields next) in
    (λ i. unless {A = ℕ × ℕ} (wrong i) (is i, and i)) ∙ ap (λ f. said (either_fault (fault_at fields first) f)) (sym (either_none (fault_at fields next)))
    ∙ sym (ap (λ b. if b then said (fault_in 0 (first ∷ next ∷ []) fields) else Err Syntax) inside)

-- the command that is made of what is read
abbrev pub made : {A : Type 0} → (A → Command) → Result A Fault → Result Command Fault
made make (Ok a) = Ok (make a)
made make (Err fault) = Err fault

either_made : {A : Type 0} (make : A → Command) (test : Bool) (fault : Option Fault) (said : A)
    → made make (if test then unless fault said else Err Syntax) ≡ (if test then unless fault (make said) else Err Syntax)
either_made make true None said = refl
either_made make true (Some fault) said = refl
either_made make false fault said = refl

pub command_made : {A : Type 0} (make : A → Command) (test : Bool) (fault : Option Fault) (said : A) (read : Result A Fault) → read ≡ (if test then unless fault said else Err Syntax)
    → made make read ≡ (if test then unless fault (make said) else Err Syntax)
command_made make test fault said read is = ap (made make) is ∙ either_made make test fault said
