-- What is written for a line of `serve` ends with a line feed.
use Rattle.command_text.specs.declared.words.TheConstants.{SERVED}
use Rattle.command_text.specs.Said.{said_in}
use Rattle.proposal_text.specs.Pieces.{served_line}
use Rattle.session_lines.specs.Served.{EndsLines}
use Rattle.session_lines.proofs.Served.{feed_again}
use Rattle.secured_lines.specs.Output.{secured_line, secured_reply}

pub ends_lines : EndsLines secured_line
ends_lines number state line = feed_again (served_line number (secured_reply state line (said_in SERVED line)).0)
