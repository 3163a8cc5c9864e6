-- The lines that ask nothing are told as an input of their own.
use Rattle.std.proofs.Common.{◌≡◌, ℕ, ◌+◌, Bool, true, false, List, [], ◌∷◌, refl, sym, ap, ◌∙◌, subst, drop}
use Rattle.command_text.specs.Lines.{mark_size}
use Rattle.live_lines.specs.Output.{output_of}
use Rattle.live_lines.proofs.Places.{output_is, without_mark}
use Rattle.asked_lines.specs.Apart.{OthersAreToldAlone, TellBeside, bare, others_alone}
use Rattle.asked_lines.specs.Asked.{asked_step, asking_first}
use Rattle.asked_lines.specs.Laws.{IsUnmarked, lines_of}
use Rattle.asked_lines.proofs.Bytes.{asking_changes_nothing}

-- where no mark is skipped none is missed
unmarked : (number : ℕ) (lines : List (List ℕ)) → IsUnmarked false number lines
unmarked number [] = tt
unmarked number (line ∷ lines) = (λ asks. unmarked (number + 1) lines, λ other. refl)

-- without the mark an input has the output of one of which none is skipped
module _ {S : Type 0} (step : ℕ → S → List ℕ → List ℕ × S) (start : S) where
  bare_output : (input : List ℕ) → output_of step true start input ≡ output_of step false start (drop (mark_size input) input)
  bare_output input =
      output_is step true start input ∙ ap (λ (r : List ℕ × S). r.0) (without_mark step start input) ∙ sym (output_is step false start (drop (mark_size input) input))

module _ {S : Type 0} (ask : ℕ → S → List ℕ → List ℕ) (step : ℕ → S → List ℕ → List ℕ × S) where
  pub others_are_told_alone : OthersAreToldAlone ask step
  others_are_told_alone false start input =
      let same = asking_changes_nothing ask step false start input (unmarked 1 (lines_of input)) in
      record { whole = same.whole; others = same.others; state = same.state }
  others_are_told_alone true start input =
      let own = bare true input in
      let same = asking_changes_nothing ask step false start own (unmarked 1 (lines_of own)) in
      let alone = others_alone true input in
      record {
        whole = bare_output (asked_step ask step) (asking_first start) input ∙ same.whole;
        others = same.others ∙ sym (bare_output step start alone);
        state = same.state ∙ sym (ap (λ (r : List ℕ × S). r.1) (without_mark step start alone));
      }

  -- so they keep what is promised of what is written where no line asks
  pub tells_beside : (skips : Bool) (start : S) (Tell : List ℕ → List ℕ → Type 0) → ((input : List ℕ) → Tell input (output_of step skips start input)) → (input : List ℕ)
      → TellBeside ask step skips start Tell input (output_of (asked_step ask step) skips (asking_first start) input)
  tells_beside skips start Tell tell input =
      let told = others_are_told_alone skips start input in
      let alone = others_alone skips input in
      record { whole = told.whole; others = subst (Tell alone) (sym told.others) (tell alone); state = told.state }
