-- What is found of a line that fails a test of reading.
use Rattle.std.proofs.Common.{◌≡◌, ◌≢◌, ◌⊎◌, Ok, Err, Result, IfOk, inl, inr, sym, ap, ◌∙◌}
use Rattle.reply_text.specs.declared.faults.LineFault.{LineFault}
use Rattle.reply_text.specs.declared.faults.LineFault.TheVariants.{Memory}
use Rattle.journal_check.specs.declared.findings.Finding.{Finding}
use Rattle.journal_check.specs.Findings.{fault_finding}

-- by any reading of a text, where a fault of it is found as it is
pub by_read : {A E : Type 0} (found : Result A LineFault → Finding) → ((fault : LineFault) → found (Err fault) ≡ fault_finding fault) → (read : Result A LineFault) (result : Result Finding E) (fault : LineFault)
    → IfOk result (λ f. f ≡ fault_finding fault) → IfOk result (λ f. fault ≢ Memory) → (fault ≡ Memory) ⊎ (read ≡ Err fault) → IfOk result (λ f. f ≡ found read)
by_read found as_it_is read (Ok f) fault value some (inl e) = absurd (some e)
by_read found as_it_is read (Ok f) fault value some (inr e) = value ∙ sym (as_it_is fault) ∙ sym (ap found e)
by_read found as_it_is read (Err e) fault value some told = tt
