-- `pair` lends two parts of the block's numbers, one of them to be written.
use Rattle.lists.proofs.Steps.{◌≡◌, ℕ, ◌+◌, ◌*◌, ◌^◌, ◌<◌, ◌≤◌, ◌⊎◌, List, [], ◌∷◌, length, sym, refl, ap, subst, arith, w64, named, Val, vint, vptr, inst_fn, SProp, emp, Fml, GName, Incl-trans, ftrue, fsep, flft, ‵, raw, ◌⊛◌, some, later, given, at_ret, ◌$◌, ◌∵◌, !, qed, by, move, keep, drop, split, split3, join, fsplit, fsplit3, fjoin, group, learn, pick, await, rewrite, use0, use1, use2, stop, fld, load, size_lit, of_opd, bin, no_more, and_then, first, blocks, exec, returns, enter, alloc_all, pass_all, free_all, look_at, get, through, is, sets, sets_last, env, agg, sub, whole, look_in, ◌⊑◌, fact, fact_i, tables, Array, usize, yes, no, follows, uint_vals, uint_Tells, RattleType, owns, ptr_val, Bor, MutBor, mut_vals, mut_Tells, types_at, plain, mut_ref_to, MutSlice, ShrSlice, Room, slice_val, nothing, Tuple, Stays, stay_dropped, walk_of, Goes-dropped, Goes-spent_ref, El, R, Al, times_below, one_below, after}
use Rattle.lists.specs.Parts.{part, with_part}
use Rattle.lists.specs.Lends.{with_numbers}
use Rattle.lists.proofs.Lists.{length-part, length-with_part}
use Rattle.lists.proofs.Pairs.{pair_val, pair_of}
use Rattle.lists.proofs.Walks.{proved, leaves}
use Rattle.lists.proofs.Fields.{sz, args, Br, block_opens}
use Rattle.lists.proofs.Cuts.{both}
use Rattle.lists.proofs.Loans.{lends}
use Rattle.lists.specs.contracts.block.Block.pair.{ended, clauses}
use Rattle.lists.specs.contracts.block.Block.pair.Key.{name as #self}
use Rattle.lists.proofs.block.Block.pair.Statement.{statement}
use Rattle.lists.proofs.block.Block.pair.Code as code

pub pair_spec : {M : Type 1} → statement M
pair_spec 𝓤 𝓛 𝓜 𝓡 wired X U L LU g d dd _ _ =
    let H = 𝓛.H in let 𝓣 = tables 𝓤 H 𝓜 𝓡 𝓡.env in let En = ended X U g d dd in
    let E : El = record { row = X; laws = L } in let Z : Al = record { row = U; laws = LU; g = g; d = d; drops = dd } in let fn = inst_fn (args E Z) code.function in
    let Row : RattleType = Br E Z in let c = clauses X U g d dd 𝓛 𝓜.mem 𝓡.returns in let number = stay_dropped (plain (λ _. usize)) yes in
    let hs : Stays En.signature.params En.kept = (stay_dropped (mut_ref_to (0 ∷ []) tt (plain (λ _. Row))) no, (number, (number, (number, tt)))) in let gone = Goes-dropped 𝓛 3 (plain (λ _. usize)) yes (λ κs x f. refl) in
    proved 𝓛 En hs c 𝓜 𝓡 (Goes-spent_ref 𝓛 3 (0 ∷ []) tt (plain (λ _. Row)), (gone, (gone, (gone, tt)))) (#self (args E Z)) fn (code.unfolded 𝓤 H 𝓜 𝓡 wired (X, (U, tt)) d dd)
    (λ κs. (mut_vals, (uint_vals w64, (uint_vals w64, (uint_vals w64, tt))))) (λ κs. (mut_Tells (named 0) κs.0 Row, (uint_Tells w64, (uint_Tells w64, (uint_Tells w64, tt))))) (λ κs qs bounds a gh are.
    let rb : ℕ = a.0.ref_ptr.0 in let ro : ℕ = a.0.ref_ptr.1 in let γ : GName = a.0.ghost_name in let h : Row.Denot = a.0.now in let xs : List X.Denot = h.numbers in
    let i : ℕ = a.1.0 in let j : ℕ = a.1.1.0 in let n : ℕ = a.1.1.1.0 in let κ = κs.0 in let s : ℕ = sz E in let all : ℕ = length xs + h.spare in
    let y : (walk_of 𝓛 En hs c).Ghost = ((κs, qs, bounds, a, (vptr rb ro ∷ [], (vint w64 i ∷ [], (vint w64 j ∷ [], (vint w64 n ∷ [], tt))))), gh) in let Post : Val → SProp 𝓤 = (walk_of 𝓛 En hs c).post y in
    let others : Fml = fsep (flft κs.1.0 qs.1.0) (fsep (flft κs.1.1.0 qs.1.1.0) ftrue) in
    let Asked : Type 0 = (0 < n) × (i + n ≤ length xs) × (j + n ≤ length xs) × ((i + n ≤ j) ⊎ (j + n ≤ i)) in
    qed 𝓛 (((‵ (flft κ qs.0) ⊛ ‵ others) ⊛ ‵ (owns (types_at En.signature.params κs) a y.0.4)) ∷ given (κs.1.0 ⊑ X.lives) (‵ ftrue) ∷ raw (fact 𝓤 _) ∷ given Asked (‵ ftrue) ∷ []) ∵
    keep ! (1 ∷ 3 ∷ 0 ∷ []) $ learn ! (λ within. drop ! $ learn ! (λ asked. drop ! $ split ! $ split ! $ move ! (2 ∷ []) $ fsplit ! $ fsplit3 ! $ keep ! (1 ∷ 2 ∷ 4 ∷ 5 ∷ []) $
    let r : List X.Denot = part i n xs in let w : List X.Denot = part j n xs in let lr : length r ≡ n = length-part i n xs asked.1 in let lw : length w ≡ n = length-part j n xs asked.2 in
    let fn' : n < 2 ^ 64 = are.1.1.1.0.1 in let new = λ (ws : List X.Denot). with_numbers h (with_part j n xs ws) in
    enter ! 𝓣.C 𝓣.Λ fn (vptr rb ro ∷ vint w64 i ∷ vint w64 j ∷ vint w64 n ∷ []) Post $
    alloc_all ! (λ l. pass_all ! refl ((tt, tt), ((tt, record { fits = are.1.0.1 }), ((tt, record { fits = are.1.1.0.1 }), ((tt, record { fits = fn' }), tt)))) $ let Ev = env fn.locals l in
    block_opens E Z ! tt h rb ro (omega (arith, asked.0, asked.1)) (λ b o at fit.
    let tiny : s < 2 ^ 64 = omega (arith, one_below all s (2 ^ 63) (omega (arith, asked.0, asked.1)) fit) in
    let bi : i * s < 2 ^ 64 = omega (arith, times_below i all s (2 ^ 63) (omega (arith, asked.1)) fit) in let bj : j * s < 2 ^ 64 = omega (arith, times_below j all s (2 ^ 63) (omega (arith, asked.2)) fit) in
    let room : Room (R E) n = (fn', times_below n all s (2 ^ 63) (omega (arith, asked.1)) fit) in let pi : ℕ = i * s + o in let pj : ℕ = j * s + o in
    sets ! (is ! (of_opd ! (load ! (through ! refl (fld ! refl (stop !))) (look_in ! 3 (sub ! 0 refl (whole !))))) (ap ptr_val at)) refl (tt, tt) $ first ! $ blocks ! $
    -- from_raw_parts(first.add(read) as *const N, count)
    sets ! (bin ! (get ! refl) (size_lit ! (record { fits = tiny })) (record { fits = bi })) refl (tt, record { fits = bi }) $ sets ! (bin ! (get ! refl) (get ! refl) tt) refl (tt, tt) $ sets ! (of_opd ! (get ! refl)) refl (tt, tt) $
    sets ! (agg ! (and_then ! (get ! refl) (and_then ! (get ! refl) (no_more !)))) refl (tt, (tt, (record { fits = fn' }, tt))) $
    -- from_raw_parts_mut(first.add(write), count)
    sets ! (bin ! (get ! refl) (size_lit ! (record { fits = tiny })) (record { fits = bj })) refl (tt, record { fits = bj }) $ sets ! (bin ! (get ! refl) (get ! refl) tt) refl (tt, tt) $
    sets ! (agg ! (and_then ! (get ! refl) (and_then ! (get ! refl) (no_more !)))) refl (tt, (tt, (record { fits = fn' }, tt))) $
    sets_last ! (agg ! (and_then ! (get ! refl) (and_then ! (get ! refl) (no_more !)))) refl (tt, ((tt, (record { fits = fn' }, tt)), ((tt, (record { fits = fn' }, tt)), tt))) $
    exec ! 𝓣.C 𝓣.Λ Ev (after 2 fn.body) (at_ret Ev Post) $ sets ! (of_opd ! (get ! refl)) refl (tt, ((tt, (record { fits = fn' }, tt)), ((tt, (record { fits = fn' }, tt)), tt))) $
    let u : Val = slice_val (b, pi) n in let v : Val = slice_val (b, pj) n in let code' = Row.coded.code h in
    group ! 7 $ use1 𝓛 (later (some (λ (γ' : GName). ‵ ((ShrSlice (named 0) κ (R E)).own_val (record { ref_ptr = (b, pi); now = r }) (slice_val (b, pi) (length r) ∷ []))
    ⊛ ‵ ((MutSlice (named 0) κ (R E)).own_val (record { ref_ptr = (b, pj); ghost_name = γ'; now = w }) (slice_val (b, pj) (length w) ∷ [])) ⊛ ‵ (flft κ qs.0) ⊛ ‵ (follows Row (Array (R E) 0) γ γ' new))))
    (lends E Z 𝓛 κ qs.0 rb ro b o γ h at fit r w pi pj (with_part j n xs) (both 𝓛 (R E) b o xs i j n (asked.1, asked.2, asked.3)) (λ w' e. length-with_part j n xs w' asked.2) (Incl-trans bounds.0 within)
    (subst (Room (R E)) (sym lr) room) (subst (Room (R E)) (sym lw) room) code' code') $ await ! tt $ pick ! (λ γ'. split3 ! $ move ! (2 ∷ []) $ split ! $ move ! (2 ∷ 3 ∷ []) $
    let read : Bor (List X.Denot) = record { ref_ptr = (b, pi); now = r } in let write : MutBor (List X.Denot) = record { ref_ptr = (b, pj); ghost_name = γ'; now = w } in
    rewrite ! 0 (λ (k : ℕ). ‵ ((ShrSlice (named 0) κ (R E)).own_val read (slice_val (b, pi) k ∷ []))) lr refl $ rewrite ! 1 (λ (k : ℕ). ‵ ((MutSlice (named 0) κ (R E)).own_val write (slice_val (b, pj) k ∷ []))) lw refl $
    use2 𝓛 (‵ ((Tuple (ShrSlice (named 0) κ (R E) ∷ MutSlice (named 0) κ (R E) ∷ [])).own_val (read, write) (pair_val u v ∷ []))) (pair_of 𝓛 (ShrSlice (named 0) κ (R E)) (MutSlice (named 0) κ (R E)) read write u v) $
    -- [the pair; the token; the block follows; the other tokens]
    move ! (1 ∷ 3 ∷ []) $ join ! $ use0 𝓛 (raw (fact 𝓤 ((r ≡ r) × (w ≡ w)))) (fact_i 𝓤 _ (emp 𝓤) (refl, refl)) $ move ! (3 ∷ 0 ∷ []) $ join ! $
    nothing ! $ nothing ! $ fjoin ! $ nothing ! $ fjoin ! $ nothing ! $ fjoin ! $ nothing ! $ fjoin ! $
    returns ! (look_at ! 0 refl) $ free_all ! refl $ keep ! (2 ∷ 0 ∷ 3 ∷ 1 ∷ []) $ by ! (leaves 𝓛 En hs c y (pair_val u v) (read, write) (tt, (tt, (tt, (tt, tt)))) (tt, (tt, (tt, (tt, tt)))))))))))
