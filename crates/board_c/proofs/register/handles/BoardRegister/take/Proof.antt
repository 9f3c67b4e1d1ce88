-- `take` reads the pointer and clears the state, and what the handle kept goes out. Assumes `Logic`.
use Rattle.std.proofs.Common.{◌≡◌, ℕ, List, [], ◌∷◌, ◌++◌, refl, sym, ap, ◌∙◌, subst, lit<}
use base.Fraction.{full_share}
use base.Logic.{SProp, ent, id⊢, never, fst∗}
use base.Fml.{ftrue, flft}
use mir.Raw.{raw as bare}
use mir.Val.{Val, vptr}
use prog.Wp.{WpFn}
use contract.Monad.{fact}
use contract.Running.{tables}
use types.Logic.{sem}
use types.Kit.{‵, raw, ◌⊛◌, ◌$◌, ◌∵◌, !, qed, done, move, keep, drop, use0, split, join, fsplit, fsplit3, fjoin, rewrite, suffices, frame, group}
use types.Run.{enter, of_opd, lit, load, stop, fld, no_more, and_then, returns, assigns}
use types.ByLocal.{alloc_all, pass_all, free_all, look_at, through, get, sets}
use types.Part.{agg, whole, sub, look_in, store_in}
use denote.Exit.{yes}
use denote.RattleType.{RattleType, owns}
use denote.Laws.{Is, shows}
use denote.Memory.{cell_at, lone}
use denote.Param.{layout}
use denote.RawPtr.{Ptr, block_ptr, null_ptr, in_a_block}
use denote.Signature.{plain, types_at}
use denote.Steps.{nothing, heard, opens, closes, peeks}
use denote.Triple.Walked.{Stays, walk_of, says, stay_ref, Goes-ref, stay_dropped, Goes-dropped, ends_at}
use Rattle.core.proofs.cell.Inside.{one}
use Rattle.std.proofs.raw_atomic.Walks.{proved_at}
use Rattle.std.specs.contracts.alloc.Global as heap
use Rattle.std.proofs.alloc.Global.TheLaws as heap_laws
use Rattle.std.specs.contracts.impls.GlobalAllocator.TheImpl.{ghosts}
use Rattle.std.specs.Box.Ownership.{box_owns}
use Rattle.council_core.specs.contracts.published.PublishedRegister as register
use Rattle.board_c.specs.Handles.{keeps, frees}
use Rattle.board_c.specs.contracts.register.handles.BoardRegister.take as f
use Rattle.board_c.proofs.register.handles.BoardRegister.take.Statement.{statement}
use Rattle.board_c.proofs.register.handles.BoardRegister.take.Code as code
use Rattle.board_c.proofs.Fields.{R, Data, word, told, made}
use Rattle.board_c.proofs.Values.{both, Loose, loose_good, loose_in}

abbrev Z : RattleType
Z = heap.the_row

abbrev Rr : RattleType
Rr = register.the_row

abbrev Lr : RattleType
Lr = Loose Rr Z heap_laws.the_row_laws ghosts

abbrev stayed : Stays f.ended.signature.params f.ended.kept
stayed = (stay_ref (0 ∷ []) tt (plain (λ _. R)), (stay_dropped (plain (λ _. Z)) yes, tt))

pub take_spec : {M : Type 1} → statement M
take_spec 𝓤 𝓛 𝓜 𝓡 wired =
    let H = 𝓛.H in let c = f.clauses 𝓛 𝓜.mem 𝓡.returns in let W = walk_of 𝓛 f.ended stayed c in let 𝓣 = tables 𝓤 H 𝓜 𝓡 𝓡.env in
    proved_at 𝓛 f.ended stayed c 𝓜 𝓡 (Goes-ref 𝓛 1 0 tt (plain (λ _. R)), (Goes-dropped 𝓛 1 (plain (λ _. Z)) yes (λ κs x g. refl), tt))
    f.Key.name code.function (code.unfolded 𝓤 H 𝓜 𝓡 wired) (λ z are.
    let κs = z.0.0 in let qs = z.0.1 in let a = z.0.3 in let m = a.0 in let b = m.ref_ptr.0 in let o = m.ref_ptr.1 in let h = m.now in let al = a.1.0 in
    let Post : Val → SProp 𝓤 = W.post z in let Run : List Val → SProp 𝓤 = λ ws. WpFn 𝓤 H 𝓣.C 𝓣.Λ code.function ws Post in
    let Cell = λ (ws : List Val). ‵ (cell_at full_share R.mir ws b o) in
    let hv = one (layout Z) z.0.4.1.0 ((heap_laws.the_row_laws.lawful 𝓛).typed al z.0.4.1.0 are.1.0) in
    qed 𝓛 (((‵ (flft κs.0 qs.0) ⊛ ‵ ftrue) ⊛ ‵ (owns (types_at f.signature.params κs) a z.0.4)) ∷ raw (fact 𝓤 (h.state ≡ 1)) ∷ []) ∵
    move ! (1 ∷ []) $ heard ! (h.state ≡ 1) (λ live. split ! $ split ! $ move ! (2 ∷ []) $ fsplit ! $ move ! (1 ∷ []) $ fsplit ! $
    rewrite ! 0 (λ (us : List Val). ‵ (Z.own_val al us)) hv.1 refl $ keep ! (0 ∷ 2 ∷ 3 ∷ []) $
    -- [the handle of the heap; the reference; the token]
    let args : List Val = vptr b o ∷ hv.0 ∷ [] in
    suffices ! (Run args) (subst (λ (us : List Val). ent 𝓤 (Run args) (Run us)) (sym (λ i. are.0.0 i ++ (hv.1 i ++ []))) (id⊢ 𝓤 (Run args))) $
    enter ! 𝓣.C 𝓣.Λ code.function args Post $ alloc_all ! (λ l. pass_all ! refl ((tt, tt), (hv.2, tt)) $
    move ! (1 ∷ []) $ fsplit3 ! $ move ! (1 ∷ 2 ∷ 4 ∷ []) $ opens ! tt R b o (λ us.
    move ! (1 ∷ []) $ fsplit ! $ peeks ! Data (Is Data) (shows 𝓛 Data) (h.at, (h.state, tt)) us (λ is.
    move ! (1 ∷ []) $ rewrite ! 0 (λ (s : ℕ). ‵ (keeps h.at s h.register)) live refl $
    in_a_block ! h.at (λ p. box_owns frees Rr p h.register) (fst∗ 𝓤 (never 𝓤) (sem 𝓛 (frees (bare (lone Rr.mir)) null_ptr))) (λ pb po e.
    -- [what the box owned; what the fields own; the cell; the open borrow, in three entries; the equation; the handle of the heap]
    let to : Ptr = block_ptr pb po in
    rewrite ! 2 Cell ((told h.at h.state us is).0 ∙ ap (λ (p : Ptr). word p h.state ∷ []) e) refl $
    sets ! (of_opd ! (load ! (through ! refl (fld ! refl (stop !))) (look_in ! 2 (sub ! 0 refl (whole !))))) refl (tt, tt) $
    sets ! (of_opd ! (get ! refl)) refl (tt, tt) $
    assigns ! (of_opd ! (lit ! tt)) (through ! refl (fld ! refl (stop !))) (store_in ! 2 (sub ! 1 refl (whole !)) (tt, record { fits = lit< tt })) $
    sets ! (agg ! (and_then ! (get ! refl) (and_then ! (get ! refl) (no_more !)))) refl (loose_good Rr Z heap_laws.the_row_laws ghosts pb po hv.0 hv.2) $
    move ! (0 ∷ 7 ∷ []) $ loose_in Rr Z heap_laws.the_row_laws ghosts ! pb po hv.0 al h.register $ move ! (1 ∷ []) $ drop ! $
    let h' : R.Denot = record { at = to; state = 0; register = h.register } in
    nothing ! $ use0 𝓛 (‵ (Data.own_val (to, (0, tt)) (word to 0 ∷ []))) (made 𝓛 to 0 (lit< tt)) $ fjoin ! $
    move ! (2 ∷ 0 ∷ 3 ∷ 4 ∷ 5 ∷ []) $ closes ! tt R h' (word to 0 ∷ []) b o $
    returns ! (look_at ! 0 refl) $ free_all ! refl $ move ! (4 ∷ []) $
    suffices ! _ (ends_at 𝓛 f.ended stayed c z (both (vptr pb po) hv.0) (record { at = to; alloc = al; value = h.register }) (h', (tt, tt)) (tt, (tt, tt))) $ says ! (refl, refl) $
    group ! 3 $ nothing ! $ nothing ! $ join ! $ move ! (1 ∷ 0 ∷ []) $ join ! $ nothing ! $ move ! (2 ∷ 0 ∷ []) $ join ! $ frame ! $ frame ! $ done !))))))
