-- `register_of` lends what the handle's pointer points to, and the handle follows it. Assumes `Logic`.
use Rattle.std.proofs.Common.{◌≡◌, ℕ, ◌<◌, ◌^◌, List, [], ◌∷◌, refl, sym, ap, ◌∙◌}
use seplogic.Ra.Ura.{Ura}
use base.Fraction.{full_share}
use base.Logic.{ent, sep, never, fst∗, id⊢}
use base.Fml.{GName, Fml, ftrue, fsep, flft}
use mir.Raw.{raw as bare}
use mir.Syntax.{named}
use mir.Val.{Val, vptr}
use contract.Monad.{fact}
use contract.Running.{tables}
use types.Logic.{Logic, sem}
use types.Kit.{‵, raw, ◌⊛◌, some, later, at_ret, ◌$◌, ◌∵◌, !, qed, done, move, keep, drop, use0, use1, split, split3, join, fsplit, fsplit3, fjoin, fpack, pick, await, rewrite, suffices, frame, group}
use types.Run.{enter, of_opd, addr, load, stop, fld, first, blocks, exec, returns}
use types.ByLocal.{alloc_all, pass_all, free_all, look_at, through, get, sets, sets_last, env}
use types.Part.{whole, sub, look_in}
use denote.Exit.{no}
use denote.RattleType.{RattleType}
use denote.Laws.{Is, shows}
use denote.Memory.{cell_at, lone, mem, part_at, part_of}
use denote.RawPtr.{Ptr, block_ptr, null_ptr, in_a_block}
use denote.Ref.{MutRef, mut_vals, mut_Tells}
use denote.Signature.{plain, mut_ref_to}
use denote.Steps.{nothing, heard, opens, peeks}
use denote.Follow.{follows, Part, lends_Part}
use denote.Triple.Walked.{Stays, walk_of, says, stay_dropped, Goes-spent_ref, ends_at}
use Rattle.std.proofs.VecSteps.Shapes.{after}
use Rattle.std.proofs.raw_atomic.Walks.{proved}
use Rattle.std.specs.Box.Ownership.{box_owns}
use Rattle.council_core.specs.Sequential.{Sequential}
use Rattle.council_core.specs.contracts.published.PublishedRegister as register
use Rattle.board_c.specs.Handles.{keeps, frees}
use Rattle.board_c.specs.Lending.{with_register}
use Rattle.board_c.specs.contracts.register.lends.register_of as f
use Rattle.board_c.proofs.register.lends.register_of.Statement.{statement}
use Rattle.board_c.proofs.register.lends.register_of.Code as code
use Rattle.board_c.proofs.Fields.{R, Data, word, told, made}

abbrev Rr : RattleType
Rr = register.the_row

abbrev stayed : Stays f.ended.signature.params f.ended.kept
stayed = (stay_dropped (mut_ref_to (0 ∷ []) tt (plain (λ _. R))) no, tt)

module _ {M : Type 1} {𝓤 : Ura M} (𝓛 : Logic 𝓤) (h : R.Denot) (b o pb po : ℕ) (live : h.state ≡ 1) (e : h.at ≡ block_ptr pb po) (low : h.state < 2 ^ 64) where
  -- all of the handle but its register: the right to free the block, and the handle's cell
  abbrev Rest : Fml
  Rest = fsep (frees (bare (lone Rr.mir)) (block_ptr pb po)) (cell_at full_share R.mir (word (block_ptr pb po) h.state ∷ []) b o)

  back : (w : Sequential) → ent 𝓤 (sep 𝓤 (sem 𝓛 ((mem Rr).own_at w pb po)) (sem 𝓛 Rest)) (sem 𝓛 ((mem R).own_at (with_register h w) b o))
  unfolding part_of
  back w =
      qed 𝓛 (‵ (part_at Rr full_share w pb po) ∷ ‵ Rest ∷ []) ∵ move ! (1 ∷ []) $ fsplit ! $ move ! (2 ∷ 0 ∷ []) $ fjoin ! $
      rewrite ! 0 (λ (p : Ptr). ‵ (box_owns frees Rr p w)) (sym e) refl $ rewrite ! 0 (λ (s : ℕ). ‵ (keeps h.at s w)) (sym live) refl $
      rewrite ! 1 (λ (p : Ptr). ‵ (cell_at full_share R.mir (word p h.state ∷ []) b o)) (sym e) refl $
      use0 𝓛 (‵ (Data.own_val (h.at, (h.state, tt)) (word h.at h.state ∷ []))) (made 𝓛 h.at h.state low) $ fjoin ! $ move ! (1 ∷ 0 ∷ []) $ fjoin ! $
      fpack ! (List Val) (λ us. fsep (cell_at full_share R.mir us b o) (R.own_val (with_register h w) us)) (word h.at h.state ∷ []) $ done !

pub register_of_spec : {M : Type 1} → statement M
register_of_spec 𝓤 𝓛 𝓜 𝓡 wired =
    let c = f.clauses 𝓛 𝓜.mem 𝓡.returns in let W = walk_of 𝓛 f.ended stayed c in let 𝓣 = tables 𝓤 𝓛.H 𝓜 𝓡 𝓡.env in
    proved 𝓛 f.ended stayed c 𝓜 𝓡 (Goes-spent_ref 𝓛 1 (0 ∷ []) tt (plain (λ _. R)), tt)
    f.Key.name code.function (code.unfolded 𝓤 𝓛.H 𝓜 𝓡 wired)
    (λ κs. (mut_vals, tt)) (λ κs. (mut_Tells (named 0) κs.0 R, tt)) (λ κs qs bounds a _ are.
    let κ = κs.0 in let q = qs.0 in let b = a.0.ref_ptr.0 in let o = a.0.ref_ptr.1 in let γ = a.0.ghost_name in let h = a.0.now in let vs = mut_vals a.0 in
    let y : W.Ghost = ((κs, qs, bounds, a, (vs, tt)), tt) in let Cell = λ (ws : List Val). ‵ (cell_at full_share R.mir ws b o) in
    qed 𝓛 (((‵ (flft κ q) ⊛ ‵ ftrue) ⊛ ‵ ((MutRef (named 0) κ R).own_val a.0 vs) ⊛ ‵ ftrue) ∷ raw (fact 𝓤 (h.state ≡ 1)) ∷ []) ∵
    move ! (1 ∷ []) $ heard ! (h.state ≡ 1) (λ live. split ! $ split ! $ move ! (2 ∷ []) $ split ! $ keep ! (0 ∷ 2 ∷ []) $
    enter ! _ _ _ _ _ $ alloc_all ! (λ l. pass_all ! refl ((tt, tt), tt) $
    fsplit3 ! $ drop ! $ opens ! tt R b o (λ us.
    move ! (1 ∷ []) $ fsplit ! $ peeks ! Data (Is Data) (shows 𝓛 Data) (h.at, (h.state, tt)) us (λ is. let t = told h.at h.state us is in
    drop ! $ rewrite ! 0 (λ (s : ℕ). ‵ (keeps h.at s h.register)) live refl $
    in_a_block ! h.at (λ p. box_owns frees Rr p h.register) (fst∗ 𝓤 (never 𝓤) (sem 𝓛 (frees (bare (lone Rr.mir)) null_ptr))) (λ pb po e.
    rewrite ! 1 Cell (t.0 ∙ ap (λ (p : Ptr). word p h.state ∷ []) e) refl $ fsplit ! $
    -- [the register; the right to free its block; the cell; the open borrow; obs; auth]
    first ! $ blocks ! $ sets ! (of_opd ! (load ! (through ! refl (fld ! refl (stop !))) (look_in ! 2 (sub ! 0 refl (whole !))))) refl (tt, tt) $
    sets ! (of_opd ! (get ! refl)) refl (tt, tt) $ sets_last ! (addr ! (through ! refl (stop !))) refl (tt, tt) $
    exec ! 𝓣.C 𝓣.Λ (env code.Mir.locals l) (after 1 (code.function).body) (at_ret _ (W.post y)) $ sets ! (of_opd ! (get ! refl)) refl (tt, tt) $
    move ! (1 ∷ 2 ∷ []) $ fjoin ! $ move ! (2 ∷ 3 ∷ 4 ∷ 1 ∷ 0 ∷ []) $ group ! 5 $
    use1 𝓛 (later (some (λ (γ' : GName). raw (Part 𝓛 R Rr (with_register h) (named 0) κ q b o pb po γ (sem 𝓛 (Rest 𝓛 h b o pb po live e t.1)) (back 𝓛 h b o pb po live e t.1) h.register γ'))))
    (lends_Part 𝓛 R Rr (with_register h) (named 0) κ q b o pb po γ (sem 𝓛 (Rest 𝓛 h b o pb po live e t.1)) (back 𝓛 h b o pb po live e t.1) (R.coded.code h) (R.coded.code h) h.register) $ await ! tt $ pick ! (λ γ'.
    use1 𝓛 (‵ ((MutRef (named 0) κ Rr).own_val (record { ref_ptr = (pb, po); ghost_name = γ'; now = h.register }) (vptr pb po ∷ [])) ⊛ ‵ (flft κ q) ⊛ ‵ (follows R Rr γ γ' (with_register h))) (id⊢ 𝓤 _) $ split3 ! $
    returns ! (look_at ! 0 refl) $ free_all ! refl $ keep ! (0 ∷ 1 ∷ 2 ∷ []) $
    suffices ! _ (ends_at 𝓛 f.ended stayed c y (vptr pb po) (record { ref_ptr = (pb, po); ghost_name = γ'; now = h.register }) (tt, tt) (tt, tt)) $
    nothing ! $ nothing ! $ fjoin ! $ join ! $ nothing ! $ move ! (2 ∷ 0 ∷ []) $ join ! $ join ! $ frame ! $ says ! refl $ done !)))))))
