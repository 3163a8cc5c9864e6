-- What is written for an input that comes as one piece, where a function answers.
use Rattle.std.proofs.Common.{◌≡◌, ◌≤◌, ℕ, ◌+◌, List, [], ◌++◌, Bool, Option, length, ap, ◌∙◌, subst, sym, inl, inr, arith, append-nil}
use Rattle.std.proofs.KnownBytes.{Appends-trans}
use Rattle.std.specs.Io.KnownBytes.{Appends}
use Rattle.byte_streams.specs.Writes.{AppendsFront}
use Rattle.command_text.proofs.LineParts.{cut}
use Rattle.live_lines.specs.Answering.{Answering, IsLastAnswer}
use Rattle.live_lines.specs.Open.{Open, new_open}
use Rattle.limits.specs.declared.TheConstants.{MAX_BYTES}
use Rattle.live_lines.specs.Output.{output_of}
use Rattle.live_lines.specs.Taken.{Completes, Stops, Took}
use Rattle.live_lines.specs.Turns.{BeganLast, WroteLast}
use Rattle.live_lines.proofs.Cuts.{cut_lines}
use Rattle.live_lines.proofs.Fronts.{front_behind, whole_front}
use Rattle.live_lines.proofs.Outputs.{whole_output}
use Rattle.live_lines.proofs.Standing.{took_stands}
use Rattle.live_lines.proofs.Steps.{front_of_all, one_output}
use Rattle.live_lines.proofs.Takes.{took_complete}
use Rattle.live_lines.proofs.Within.{more_than_limit}

module _ {S : Type 0} (Answers : Answering S) (skips : Bool) (start first : S) (begun : Open) (new : first ≡ start) (fresh : begun ≡ new_open skips) (input : List ℕ) where
  from_start : (P : S → Open → Type 0) → P first begun → P start (new_open skips)
  from_start P h = subst (λ s. P s (new_open skips)) new (subst (P first) fresh h)

  pub stands_first : (Stands : ℕ → S → Type 0) → Stands 1 start → Stands begun.number first
  stands_first Stands h = subst (λ (o : Open). Stands o.number first) (sym fresh) (subst (Stands 1) (sym new) h)

  -- no line of it is too long, nor are there too many
  pub none_too_long : (text : List ℕ) → length input ≤ MAX_BYTES → Stops Answers first begun input text → ⊥
  none_too_long text few stops =
      let h = from_start (λ s o. Stops Answers s o input text) stops in
      omega (arith, few, ap length h.0.split, more_than_limit skips h.0.lines h.0.rest h.1)

  pub stands_behind : (Stands : ℕ → S → Type 0)
      → ((number : ℕ) (state : S) → Stands number state → Stands (number + 1) state × ((line text : List ℕ) (new : S) → Answers number state line text new → Stands (number + 1) new))
      → Stands 1 start → (state : S) (line : Open) (text : List ℕ) → Took Answers first begun state line input text → Stands line.number state
  stands_behind Stands on h state line text took = took_stands Answers Stands on first state begun line input text took (stands_first Stands h)

  module _ (step : ℕ → S → List ℕ → List ℕ × S) (is : (number : ℕ) (old : S) (line text : List ℕ) (new : S) → Answers number old line text new → (text, new) ≡ step number old line) where
    -- a front of the answers to lines that it completes
    pub lines_cut : (old last : Option (List ℕ)) (text : List ℕ) → AppendsFront old last text → Completes Answers first begun input text
        → AppendsFront old last (output_of step skips start input)
    lines_cut old last text part completes =
        let h = from_start (λ s o. Completes Answers s o input text) completes in
        let parts = ap cut h.split ∙ cut_lines skips 1 h.lines h.rest h.within in
        front_of_all Answers step is skips start input text (h.lines, cut h.rest, h.after, parts, h.answers) old last part

    module _ (state : S) (line : Open) (text : List ℕ) (took : Took Answers first begun state line input text) where
      whole : (last : List ℕ) → IsLastAnswer Answers state line last → text ++ last ≡ output_of step skips start input
      whole last left =
          one_output Answers step is skips start input (text ++ last)
          (whole_output Answers skips start state line input text last (from_start (λ s o. Took Answers s o state line input text) took) left)

      -- the line that is left is answered
      pub all_written : (old now last : Option (List ℕ)) → Appends old now text → WroteLast Answers state line now last
          → Appends old last (output_of step skips start input)
      all_written old now last told adds = subst (Appends old last) (whole adds.0 adds.1) (Appends-trans old now last text adds.0 told adds.2)

      -- a front of the answer to it, or nothing
      pub last_cut : (old now last : Option (List ℕ)) → Appends old now text → BeganLast Answers state line now last
          → AppendsFront old last (output_of step skips start input)
      last_cut old now last told part = elim part [
        | inl same ↦ lines_cut old last text (whole_front old last text (subst (λ n. Appends old n text) (sym same) told))
            (subst (λ bytes. Completes Answers first begun bytes text) (append-nil input) (took_complete Answers first state begun line input text took []))
        | inr some ↦ subst (AppendsFront old last) (whole some.0 some.1) (front_behind old now last text some.0 told some.2)
      ]
