-- What is written between two reads, where a function answers.
use Rattle.std.proofs.Common.{◌≡◌, ◌∙◌, ℕ, List, Bool, Option, Result, ap, subst, sym}
use Rattle.std.specs.Io.KnownBytes.{Appends}
use Rattle.byte_streams.specs.Reads.{LastRead}
use Rattle.byte_streams.specs.Writes.{AppendsFront}
use Rattle.byte_streams.specs.declared.stop.IoStop.{IoStop}
use Rattle.live_lines.specs.Answering.{Answering}
use Rattle.live_lines.specs.Output.{output_of}
use Rattle.live_lines.specs.Serving.{Counts, IsServed, IsServedInTime, Known, Wrote, WroteFirst, WroteSome}
use Rattle.live_lines.proofs.Serves.{in_time_so, served_so}
use Rattle.live_lines.proofs.Steps.{front_of_all, one_output}
use Rattle.program_words.specs.declared.requests.Served.{Served}
use Rattle.exchange_program.specs.Live.{WroteAnswers, WroteAnswersFront, served_output, skips_mark}
use Rattle.exchange_program.proofs.Served.{told_served}

-- its output is that of what is served
module _ {S : Type 0} (Answers : Answering S) (step : ℕ → S → List ℕ → List ℕ × S)
    (is : (number : ℕ) (old : S) (line text : List ℕ) (new : S) → Answers number old line text new → (text, new) ≡ step number old line)
    (kind : Served) (start : S) (same : (input : List ℕ) → output_of step (skips_mark kind) start input ≡ served_output kind input) where
  abbrev skips : Bool
  skips = skips_mark kind

  wrote : (known : Known) (bytes : List ℕ) → Wrote Answers skips start known bytes → WroteAnswers kind known bytes
  wrote known bytes h =
      let Now = Appends known.written known.writes in
      (subst Now (same bytes) (subst Now (one_output Answers step is skips start bytes h.0 h.1) h.2), told_served kind bytes)

  wrote_some : (known : Known) (bytes : List ℕ) → WroteSome Answers skips start known bytes → WroteAnswersFront kind known bytes
  wrote_some known bytes h =
      let Now = AppendsFront known.written known.writes in
      (subst Now (same bytes) (subst Now (one_output Answers step is skips start bytes h.0 h.1) h.2), told_served kind bytes)

  wrote_first : (known : Known) (bytes : List ℕ) → WroteFirst Answers skips start known bytes → WroteAnswersFront kind known bytes
  wrote_first known bytes h =
      let Now = AppendsFront known.written known.writes in
      (subst Now (same bytes) (front_of_all Answers step is skips start bytes h.0 h.1 known.written known.writes h.2), told_served kind bytes)

  pub answered_in_time : (own : Bool) → own ≡ skips → (left written : Option (List ℕ)) (last : Option LastRead)
      → IsServedInTime (Wrote Answers own start) own left written last → IsServedInTime (WroteAnswers kind) skips left written last
  answered_in_time own e left written last h =
      in_time_so skips left written last wrote (subst (λ (b : Bool). IsServedInTime (Wrote Answers b start) b left written last) e h)

  pub answered : (own : Bool) → own ≡ skips → (known : Known) (counts : Counts) (ended : Result (Unit {0}) IoStop)
      → IsServed (Wrote Answers own start) (WroteSome Answers own start) (WroteFirst Answers own start) own known counts ended
      → IsServed (WroteAnswers kind) (WroteAnswersFront kind) (WroteAnswersFront kind) skips known counts ended
  answered own e known counts ended h =
      served_so skips known counts ended wrote wrote_some wrote_first
      (subst (λ (b : Bool). IsServed (Wrote Answers b start) (WroteSome Answers b start) (WroteFirst Answers b start) b known counts ended) e h)

-- what is served is answered from its start
pub output_is : {S : Type 0} (step : ℕ → S → List ℕ → List ℕ × S) (kind own : Served) (start first : S) → kind ≡ own → start ≡ first → (input : List ℕ)
    → output_of step (skips_mark own) first input ≡ served_output own input → output_of step (skips_mark kind) start input ≡ served_output kind input
output_is step kind own start first is from input same =
    (λ i. output_of step (skips_mark (is i)) (from i) input) ∙ same ∙ sym (ap (λ (k : Served). served_output k input) is)
