use Rattle.std.proofs.Common.{ℕ, ◌+◌, ◌≤◌, List, length, inl, rules, subst}
use Rattle.limits.specs.declared.TheConstants.{MAX_BYTES}
use Rattle.book_proposals.proofs.ProposalsWithin.{submission_within}
use Rattle.book_proposals.proofs.answers.written_line.Goals as goal

pub returns-then-is_short : goal.returns-then-is_short
returns-then-is_short c =
    let proposal = c.args.proposal in
    let short : length c.deref.result.now ≤ MAX_BYTES + 1 = c.is_short.ensures c.if-is_short.true in
    record {
      proposal = proposal;
      judged = c.requires.judged;
      earned = inl c.requires.earned;
      within = submission_within c.args.batch.now proposal c.requires.ranges (c.is_written.ensures (search rules));
      is = c.in_ok-line.ensures;
      short = subst (λ (line : List ℕ). length line ≤ MAX_BYTES + 1) c.deref.ensures.value short;
    }
