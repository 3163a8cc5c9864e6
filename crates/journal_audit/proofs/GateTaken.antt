-- What a gate refuses is read from its line again.
use Rattle.std.proofs.Common.{◌≡◌, ℕ, ◌+◌, Some, Ok, option_map, codes, refl, ap, arith}
use Rattle.serde_json.specs.Data.{Data}
use Rattle.limits.specs.declared.TheConstants.{MAX_SESSION, MAX_MESSAGE}
use Rattle.reply_print.specs.PieceData.{piece_data}
use Rattle.reply_print.specs.Within.{IsLine}
use Rattle.reply_print.specs.Written.{IsWritten}
use Rattle.reply_print.proofs.PlainPieces.{HasPlainTexts}
use Rattle.reply_print.proofs.WrittenReplies.{short}
use Rattle.reply_text.specs.Taking.{natural_at}
use Rattle.reply_text.specs.Tests.{read_by}
use Rattle.reply_text.proofs.FiveTests.{IsTaken, paired, written_passes}
use Rattle.reply_text.proofs.Taken.{natural_taken}
use Rattle.reply_text.proofs.TakenReplies.{line_taken, then_taken}
use Rattle.journal_audit.specs.declared.gate_lines.GateLine.{GateLine}
use Rattle.journal_audit.specs.declared.gate_lines.GateLine.TheVariants.{Malformed, Sessions, Expecting}
use Rattle.journal_audit.specs.declared.gate_lines.Why.{Why}
use Rattle.journal_audit.specs.declared.gate_lines.Why.TheVariants.{Old, Ahead, Changed}
use Rattle.journal_audit.specs.GateLines.{IsExpected, IsGateLineWithin, IsSessionNumber, expecting_from, gate_line, gate_piece, gate_tests, session_at}

pub gate_plain : (line : ℕ) (refused : GateLine) → HasPlainTexts (gate_piece line refused)
gate_plain line Malformed = (refl, tt, (refl, tt, (refl, refl, (refl, refl, tt))))
gate_plain line (Sessions session) = (refl, tt, (refl, tt, (refl, refl, (refl, refl, (refl, tt, tt)))))
gate_plain line (Expecting session expected Old) = (refl, tt, (refl, tt, (refl, tt, (refl, refl, (refl, refl, (refl, tt, tt))))))
gate_plain line (Expecting session expected Ahead) = (refl, tt, (refl, tt, (refl, tt, (refl, refl, (refl, refl, (refl, tt, tt))))))
gate_plain line (Expecting session expected Changed) = (refl, tt, (refl, tt, (refl, tt, (refl, refl, (refl, refl, (refl, tt, tt))))))

module _ (line session expected : ℕ) (l : IsLine line) (s : IsSessionNumber session) (e : IsExpected expected) where
  expecting_written : (why : Why) → IsWritten 6 (gate_piece line (Expecting session expected why))
  expecting_written Old =
      (refl, (refl, short expected (omega arith), (refl, short line (omega arith), (refl, refl, (refl, refl, (refl, refl, (refl, short session (omega arith), tt)))))))
  expecting_written Ahead =
      (refl, (refl, short expected (omega arith), (refl, short line (omega arith), (refl, refl, (refl, refl, (refl, refl, (refl, short session (omega arith), tt)))))))
  expecting_written Changed =
      (refl, (refl, short expected (omega arith), (refl, short line (omega arith), (refl, refl, (refl, refl, (refl, refl, (refl, short session (omega arith), tt)))))))

  expecting_found : (why : Why) (d : Data) → session_at d ≡ Some session → natural_at 1 (MAX_MESSAGE + 1) (codes "expected") d ≡ Some expected
      → expecting_from why d ≡ Some (Expecting session expected why)
  expecting_found why d a b = then_taken _ (session_at d) session _ a (ap (option_map (λ (n : ℕ). Expecting session n why)) b)

  sessions_written : IsWritten 6 (gate_piece line (Sessions session))
  sessions_written = (refl, (refl, short line (omega arith), (refl, refl, (refl, refl, (refl, refl, (refl, short session (omega arith), tt))))))

pub gate_written : (line : ℕ) (refused : GateLine) → IsGateLineWithin line refused → IsWritten 6 (gate_piece line refused)
gate_written line Malformed h = (refl, (refl, short line (omega arith), (refl, refl, (refl, refl, (refl, refl, tt)))))
gate_written line (Sessions session) h = sessions_written line session 1 h.0 h.1 (omega arith, omega arith)
gate_written line (Expecting session expected why) h = expecting_written line session expected h.0 h.1.0 h.1.1 why

abbrev IsTakenFrom : ℕ → GateLine → Type 0
IsTakenFrom line refused = IsTaken gate_tests (piece_data (gate_piece line refused)) (line, refused)

expecting_taken : (line session expected : ℕ) (why : Why) → IsGateLineWithin line (Expecting session expected why) → IsTakenFrom line (Expecting session expected why)
expecting_taken line session expected Old h = record {
  shape = refl;
  numbers = refl;
  taken = paired _ _ line _ (line_taken line h.0)
      (expecting_found line session expected h.0 h.1.0 h.1.1 Old (piece_data (gate_piece line (Expecting session expected Old))) (natural_taken 1 MAX_SESSION session h.1.0) (natural_taken 1 (MAX_MESSAGE + 1) expected h.1.1));
}
expecting_taken line session expected Ahead h = record {
  shape = refl;
  numbers = refl;
  taken = paired _ _ line _ (line_taken line h.0)
      (expecting_found line session expected h.0 h.1.0 h.1.1 Ahead (piece_data (gate_piece line (Expecting session expected Ahead))) (natural_taken 1 MAX_SESSION session h.1.0) (natural_taken 1 (MAX_MESSAGE + 1) expected h.1.1));
}
expecting_taken line session expected Changed h = record {
  shape = refl;
  numbers = refl;
  taken = paired _ _ line _ (line_taken line h.0)
      (expecting_found line session expected h.0 h.1.0 h.1.1 Changed (piece_data (gate_piece line (Expecting session expected Changed))) (natural_taken 1 MAX_SESSION session h.1.0) (natural_taken 1 (MAX_MESSAGE + 1) expected h.1.1));
}

gate_taken : (line : ℕ) (refused : GateLine) → IsGateLineWithin line refused → IsTakenFrom line refused
gate_taken line Malformed h = record { shape = refl; numbers = refl; taken = paired _ _ line _ (line_taken line h.0) refl }
gate_taken line (Sessions session) h =
    record { shape = refl; numbers = refl; taken = paired _ _ line _ (line_taken line h.0) (ap (option_map Sessions) (natural_taken 1 MAX_SESSION session h.1)) }
gate_taken line (Expecting session expected why) h = expecting_taken line session expected why h

pub gate_reads : (line : ℕ) (refused : GateLine) → IsGateLineWithin line refused → read_by gate_tests (gate_line line refused) ≡ Ok (line, refused)
gate_reads line refused h = written_passes gate_tests (line, refused) (gate_piece line refused) refl (gate_plain line refused) (gate_written line refused h) (gate_taken line refused h)
