-- `none` makes a block of a null pointer.
use Rattle.lists.proofs.Steps.{◌≡◌, ℕ, [], ◌∷◌, refl, arith, Val, vptr, named, inst_fn, SProp, Fml, ftrue, fsep, flft, ‵, raw, ◌⊛◌, ◌$◌, ◌∵◌, !, qed, by, keep, split, use0, fjoin, lit, no_more, and_then, returns, enter, agg, alloc_all, pass_all, free_all, look_at, get, sets, fact, fact_i, tables, emp, yes, owns, plain, types_at, RefOf, null_ptr, shr_vals, shr_Tells, nothing, Stays, stay_dropped, walk_of, Goes-dropped, El, Al}
use Rattle.lists.proofs.Walks.{proved, leaves}
use Rattle.lists.proofs.Fields.{args, P, Br, block_val, block_Good, block_from_none}
use Rattle.lists.specs.contracts.block.Block.none.{ended, clauses}
use Rattle.lists.specs.contracts.block.Block.none.Key.{name as #self}
use Rattle.lists.proofs.block.Block.none.Statement.{statement}
use Rattle.lists.proofs.block.Block.none.Code as code

pub none_spec : {M : Type 1} → statement M
none_spec 𝓤 𝓛 𝓜 𝓡 wired X U L LU g d dd met _ =
    let H = 𝓛.H in let 𝓣 = tables 𝓤 H 𝓜 𝓡 𝓡.env in let En = ended X U g d dd in
    let E : El = record { row = X; laws = L } in let Z : Al = record { row = U; laws = LU; g = g; d = d; drops = dd } in let fn = inst_fn (args E Z) code.function in
    let heap = RefOf (0 ∷ []) tt (plain (λ _. P E Z)) (λ _. tt) in let c = clauses X U g d dd 𝓛 𝓜.mem 𝓡.returns in
    let hs : Stays En.signature.params En.kept = (stay_dropped heap yes, tt) in
    proved 𝓛 En hs c 𝓜 𝓡 (Goes-dropped 𝓛 3 heap yes (λ κs x f. refl), tt) (#self (args E Z)) fn (code.unfolded 𝓤 H 𝓜 𝓡 wired (X, (U, tt)) d dd)
    (λ κs. (shr_vals, tt)) (λ κs. (shr_Tells (named 0) κs.0 (P E Z), tt)) (λ κs qs bounds a gh are.
    let κ = κs.0 in let q = qs.0 in let hp : ℕ × ℕ = a.0.ref_ptr in let h : U.Denot = a.0.now in
    let y : (walk_of 𝓛 En hs c).Ghost = ((κs, qs, bounds, a, (vptr hp.0 hp.1 ∷ [], tt)), gh) in let Post : Val → SProp 𝓤 = (walk_of 𝓛 En hs c).post y in
    let others : Fml = fsep (flft κs.1.0 qs.1.0) (fsep (flft κs.1.1.0 qs.1.1.0) ftrue) in
    let empty_block : (Br E Z).Denot = record { ptr = null_ptr; by = record {}; numbers = []; spare = 0; alloc = h } in
    let Told : Type 0 = (empty_block.numbers ≡ []) × (empty_block.spare ≡ 0) × (empty_block.alloc ≡ h) in
    qed 𝓛 (((‵ (flft κ q) ⊛ ‵ others) ⊛ ‵ (owns (types_at En.signature.params κs) a y.0.4)) ∷ raw (fact 𝓤 _) ∷ raw (fact 𝓤 _) ∷ ‵ ftrue ∷ []) ∵
    keep ! (0 ∷ []) $ split ! $ keep ! (0 ∷ []) $
    enter ! 𝓣.C 𝓣.Λ fn (vptr hp.0 hp.1 ∷ []) Post $ alloc_all ! (λ l. pass_all ! refl ((tt, tt), tt) $
    sets ! (agg ! (no_more !)) refl (tt, tt) $ sets ! (agg ! (and_then ! (lit ! tt) (and_then ! (get ! refl) (no_more !)))) refl (block_Good null_ptr) $
    block_from_none E Z ! empty_block refl (omega arith) $ use0 𝓛 (raw (fact 𝓤 Told)) (fact_i 𝓤 Told (emp 𝓤) (refl, refl, refl)) $ nothing ! $ nothing ! $ fjoin ! $
    returns ! (look_at ! 0 refl) $ free_all ! refl $ keep ! (3 ∷ 0 ∷ 2 ∷ 1 ∷ []) $ by ! (leaves 𝓛 En hs c y (block_val null_ptr) empty_block (tt, tt) (tt, tt))))
