use Rattle.std.proofs.Common.{◌≡◌, ◌+◌, ℕ, [], ◌∷◌, replicate, set, ap, ◌∙◌, subst, sym, arith}
use Rattle.std.proofs.lemmas.List.Elements.{All-append, All-cons, All-nil}
use Rattle.std.specs.List.{All}
use Rattle.form.specs.declared.states.State.{State}
use Rattle.constraint_generation.proofs.FirstStates.{ray_added, rays_end}
use Rattle.constraint_generation.proofs.first_states.write_axis_rays.Goals as goal

pub loop-i-preserved : goal.loop-i-preserved
loop-i-preserved c =
    let n = c.args.underlyings in
    let ray = c.unit_state.result in
    let place : c.from.result + 1 ≡ c.loop-i.i + 1 = ap (λ (k : ℕ). k + 1) c.from.ensures in
    let OnForms : State → Type 0 = λ state. state.count ≡ n + 1 in
    record {
      rays = ray_added n c.loop-i.i c.loop-i.rays.items c.push_within.new.items.items ray c.loop-i-test.true c.push_within.ensures.items (c.unit_state.ensures.vector ∙ ap (λ (k : ℕ). set (replicate (n + 1) 0) k 1) place) c.loop-i.invariant.rays;
      counts = subst (All OnForms) (sym c.push_within.ensures.items) (All-append OnForms c.loop-i.rays.items (ray ∷ []) c.loop-i.invariant.counts (All-cons OnForms ray [] c.unit_state.ensures.count (All-nil OnForms)));
      len = omega (arith, c.loop-i.invariant.len, c.push_within.ensures.len);
      room = omega (arith, c.loop-i.invariant.room, c.push_within.ensures.capacity);
    }

pub returns-clause-rays : goal.returns-clause-rays
returns-clause-rays c = rays_end c.args.underlyings c.loop-i.i c.loop-i.rays.items (omega (arith, c.loop-i-test.false)) c.loop-i.invariant.rays
