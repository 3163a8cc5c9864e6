use Rattle.std.proofs.Common.{◌≡◌, ◌<◌, ◌+◌, ◌≤◌, [], ◌∷◌, ◌++◌, ◌∙◌, refl, sym, ap, subst, arith, length, vec_len, List, ℕ}
use Rattle.std.specs.List.{All}
use Rattle.std.proofs.lemmas.List.{length-append}
use Rattle.std.proofs.lemmas.List.Elements.{All-append}
use Rattle.fraction_tableau.specs.declared.sparse_entry.Entry.{Entry}
use Rattle.fraction_tableau.specs.SparseEnds.{AreEnds}
use Rattle.fraction_tableau.proofs.Written.{added_entry}
use Rattle.fraction_tableau.proofs.Parts.{ends_more, row_given, few_more}
use Rattle.fraction_tableau.proofs.sparse.SparseProgram.row.Goals as goal

pub invariant_of-self : goal.invariant_of-self
invariant_of-self g c =
    let value = g.N.Exact.fraction in
    let s = c.args.self.now in
    let n = length s.costs.items in
    let a = c.args.a.now in
    let new = c.push_within.new.items in
    let ends = c.push_within-2.new.items in
    let h = added_entry value a c.args.b _ s.entries.items c.push_nonzero.new.entries.items new.items c.push_within.ensures.items refl refl c.push_nonzero.ensures.entries in
    let len : c.len.result ≡ length new.items = omega (arith, c.len.ensures, new.ok) in
    let longer : length s.entries.items ≤ length new.items = omega (arith, ap length h.items, length-append s.entries.items h.added) in
    let ends_are : ends.items ≡ s.ends.items ++ length new.items ∷ [] = c.push_within-2.ensures.items ∙ ap (λ (k : ℕ). s.ends.items ++ k ∷ []) len in
    let count : length (a ++ c.args.b ∷ []) ≡ n + 1 = omega (arith, length-append a (c.args.b ∷ []), c.requires.width) in
    let has_place : Entry g.row.N.Denot → Type 0 = λ e. e.place < n + 1 in
    record {
      in_order = subst (λ (es : List ℕ). AreEnds 0 es (length new.items)) (sym ends_are) (ends_more 0 s.ends.items (length s.entries.items) (length new.items) s.in_order longer);
      inside = subst (All has_place) (sym h.items) (All-append has_place s.entries.items h.added s.inside (h.stand.places (n + 1) (omega (arith, count))));
      few = few_more (vec_len s.entries) (vec_len s.ends) (vec_len s.costs) (length a) (vec_len c.push_nonzero.new.entries) (vec_len new) (vec_len ends)
          s.few (omega (arith, c.requires.width, s.costs.ok)) c.push_nonzero.ensures.few c.push_within.ensures.len c.push_within-2.ensures.len;
    }

pub returns-clause-program : goal.returns-clause-program
returns-clause-program g c =
    let value = g.N.Exact.fraction in
    let s = c.args.self.now in
    let new = c.push_within.new.items in
    let h = added_entry value c.args.a.now c.args.b _ s.entries.items c.push_nonzero.new.entries.items new.items c.push_within.ensures.items refl refl c.push_nonzero.ensures.entries in
    let len : c.len.result ≡ length new.items = omega (arith, c.len.ensures, new.ok) in
    let ends_are = c.push_within-2.ensures.items ∙ ap (λ (k : ℕ). s.ends.items ++ k ∷ []) len in
    row_given value (length s.costs.items) s.entries.items new.items s.ends.items c.push_within-2.new.items.items c.args.a.now c.args.b _ s.in_order h ends_are c.requires.width
