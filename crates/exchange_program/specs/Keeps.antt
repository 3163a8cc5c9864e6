-- What a call of the program keeps, by what its words ask for.
use Rattle.std.specs.Prelude.{◌≡◌, ◌⊎◌, ◌≤◌, ◌+◌, true, length, IfSome}
use Rattle.std.specs.List.{All}
use Rattle.std.specs.Io.KnownBytes.{Appends}
use Rattle.byte_streams.specs.Faults.{Rose, raised_by}
use Rattle.byte_streams.specs.Reads.{TakesUpTo}
use Rattle.byte_streams.specs.Writes.{AppendsFront}
use Rattle.book_proposals.specs.Proposing.{WroteFor, WroteFrontFor, WroteFrontOf}
use Rattle.journal_check.specs.JournalLines.{lines_of}
use Rattle.live_lines.specs.Serving.{Counts, IsServed, Known}
use Rattle.program_words.specs.declared.requests.Request.{Request}
use Rattle.exchange_program.specs.Journals.{IsSoundIn, NamesFault}
use Rattle.exchange_program.specs.Live.{EndsAs, IsServedAs}
use Rattle.exchange_program.specs.Requests.{HasEnded, IsCheck, IsInputWithin, IsPastLimit, IsReadWhole, OfInput, OfOutput, OfSomeInput, Promised, PromisedFront, WhereCheck, WhereDemo, WherePropose, WhereServe, WithLimit, past_size, status_for}
use Rattle.exchange_program.specs.Wrote.{Wrote, WroteFront}
use Rattle.exchange_program.specs.declared.status.Status.{Status}
use Rattle.exchange_program.specs.declared.status.Status.TheVariants.{Done, ReadFault, WriteFault, TooLong, CheckNo, Memory}

-- of bytes left and written (`known`) and of faults and bytes taken (`counts`), before and after
pub record Keeps (request : Request) (known : Known) (counts : Counts) (status : Status) : Type 0 where
  -- What is written is the defined output of all bytes that were left, and the status is theirs.
  pub done : HasEnded status
      → OfInput request known.left (λ input. (status ≡ status_for request input) × OfOutput request input (Appends known.written known.writes))
  pub whole : HasEnded status → IsReadWhole request known.left known.still
  pub front : (status ≡ WriteFault) ⊎ (status ≡ Memory) → OfInput request known.left (λ input. OfOutput request input (AppendsFront known.written known.writes))
  -- It keeps what the request promises of it: each line is told its answer, and the answers keep
  -- what is promised.
  pub told : status ≡ Done → OfSomeInput request known.left (λ input. Wrote known.written known.writes (Promised request input))
  pub told_front : (status ≡ WriteFault) ⊎ (status ≡ Memory) → OfSomeInput request known.left (λ input. WroteFront known.written known.writes (PromisedFront request input))
  -- Where a check is done every line is sound, and else its report names the first that is not.
  pub sound : status ≡ Done → WhereCheck request (λ journal. IfSome known.left (λ input. All (IsSoundIn journal) (lines_of input)))
  pub faulty : status ≡ CheckNo → WhereCheck request (λ journal. IfSome known.left (NamesFault journal))
  pub check_alone : status ≡ CheckNo → IsCheck request
  -- A demo reads nothing, so no read of it fails.
  pub no_read_fault : status ≡ ReadFault → WhereDemo request ⊥
  -- Each other status has its cause.
  pub read_fault : status ≡ ReadFault → Rose counts.read counts.reads
  pub read_fault_in_time : status ≡ ReadFault → WithLimit request (λ limit. (counts.takes ≤ counts.taken + limit) × TakesUpTo known.left known.still limit)
  pub write_fault : status ≡ WriteFault → Rose counts.write counts.writes
  pub too_long : status ≡ TooLong → OfInput request known.left (IsPastLimit request)
  pub too_long_no_fault : status ≡ TooLong → counts.reads ≡ counts.read
  pub too_many : status ≡ TooLong → raised_by counts.taken (past_size request) ≤ counts.takes
  pub within : HasEnded status ⊎ (status ≡ WriteFault) → OfInput request known.left (λ input. WithLimit request (λ limit. length input ≤ limit))
  -- Lines and messages that are served, and books that are proposed for: at each end what is
  -- written is that of the lines that were answered, and it keeps what is promised of them.
  pub served : WhereServe request (λ kind. EndsAs status (IsServedAs kind known counts))
  pub proposed : WherePropose request (EndsAs status (IsServed WroteFor WroteFrontFor WroteFrontOf true known counts))
  -- Within the limit and without a fault, the output is written, or there was no memory.
  pub complete : IsInputWithin request known.left → ¬ Rose counts.read counts.reads → ¬ Rose counts.write counts.writes → HasEnded status ⊎ (status ≡ Memory)
