-- The numbers and texts of the statuses.
use Rattle.std.specs.Prelude.{ℕ, List, [], codes}
use Rattle.exchange_program.specs.declared.status.Status.{Status}
use Rattle.exchange_program.specs.declared.status.Status.TheVariants.{Done, Usage, ReadFault, WriteFault, TooLong, CheckNo, Memory}

-- the exit status of the program
abbrev pub code_of : Status → ℕ
code_of Done = 0
code_of Usage = 2
code_of ReadFault = 3
code_of WriteFault = 4
code_of TooLong = 5
code_of CheckNo = 6
code_of Memory = 70

-- what the program writes to standard error, without its line feed
abbrev pub text_of : Status → List ℕ
text_of Done = []
text_of Usage = codes "usage: exchange run, exchange check, or exchange demo SEED COUNT"
text_of ReadFault = codes "read fault"
text_of WriteFault = codes "write fault"
text_of TooLong = codes "input too long"
text_of CheckNo = codes "check failed"
text_of Memory = codes "out of memory"
