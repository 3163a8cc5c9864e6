-- The option of a trade or of a leg.
use Rattle.std.specs.Prelude.{ℤ, List}
use Rattle.form.specs.Vector.{call_of, put_of}
use Rattle.command_text.specs.declared.command.Kind.{Kind}
use Rattle.command_text.specs.declared.command.Kind.TheVariants.{Call, Put}

-- the option of a kind
abbrev pub option_by : Kind → ℤ → List ℤ → List ℤ
option_by Call strike weights = call_of strike weights
option_by Put strike weights = put_of strike weights
