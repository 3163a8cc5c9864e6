-- What a line says as a message: SESSION,NUMBER,BODY.
use Rattle.std.specs.Prelude.{ℕ, ◌==◌, pos, unsigned_abs, List, [], ◌∷◌, Option, None, Some, if◌then◌else◌}
use Rattle.std.specs.Option.{option_map, option_and_then}
use Rattle.command_text.specs.declared.numbers.NumberRead.{NumberRead}
use Rattle.command_text.specs.declared.numbers.NumberRead.TheVariants.{NotNumber, Outside, Value}
use Rattle.command_text.specs.Numbers.{number_in}
use Rattle.limits.specs.declared.TheConstants.{MAX_SESSION, MAX_MESSAGE}
use Rattle.session_gate.specs.Bodies.{is_body}
use Rattle.session_gate.specs.Gate.{Message, message_of}

-- the bytes before the first comma, and those behind it
abbrev pub at_comma : List ℕ → Option (List ℕ × List ℕ)
at_comma [] = None
at_comma (b ∷ bs) = if b == 44 then Some ([], bs) else option_map (λ parts. (b ∷ parts.0, parts.1)) (at_comma bs)

abbrev pub value_read : NumberRead → Option ℕ
value_read (Value value) = Some (unsigned_abs value)
value_read NotNumber = None
value_read Outside = None

-- the value of a number text from 1 to a limit
abbrev pub number_to : ℕ → List ℕ → Option ℕ
number_to limit field = value_read (number_in (pos 1) (pos limit) field)

-- the message of a session and a number, where both are read and the body is one
abbrev pub message_with : Option ℕ → Option ℕ → List ℕ → Option Message
message_with None number body = None
message_with (Some session) None body = None
message_with (Some session) (Some number) body = if is_body body then Some (message_of session number body) else None

-- the message of a line that is split at its first two commas
abbrev pub message_in : List ℕ → Option Message
message_in line = option_and_then (λ first. option_and_then (λ second.
    message_with (number_to MAX_SESSION first.0) (number_to MAX_MESSAGE second.0) second.1) (at_comma first.1)) (at_comma line)
