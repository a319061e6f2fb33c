use Rattle.std.proofs.Common.{◌≡◌, ℕ, ◌^◌, ◌<◌, Bool, true, false, List, [], ◌∷◌, ◌++◌, length, sym, refl, ap, ◌∙◌, subst, arith, lit<, w64}
use mir.Syntax.{a_type, dcons, dnil, named}
use mir.Val.{Val, vunit, vint, vptr, vstruct, vcons, vnil, of_list}
use mir.MapTy.{inst_fn}
use base.Logic.{SProp, wand, emp, id⊢, via, apply∗}
use base.Fml.{Lft, Share, Fml, ftrue, fsep, fex, feq, flft, fhide}
use types.Logic.{sem}
use types.Kit.{‵, raw, ◌⊛◌, some, given, later, mean, at_ret, ◌$◌, ◌∵◌, !, qed, by, move, keep, drop, split, join, group, fsplit, fsplit3, fjoin, fjoin3, fpick, fpack, pick, learn, use0, use1, use2, use3, await, rewrite, feq_i, flt_i}
use types.Run.{stop, fld, addr, lit, unit_lit, of_opd, no_more, and_then, first, blocks, exec, Calls-last, returns, enter}
use types.ByLocal.{alloc_all, pass_all, free_all, look_at, get, get_in, through, sets, lands_last, env}
use types.Part.{agg, sub, whole}
use contract.Monad.{fact, fact_i}
use contract.Running.{tables}
use denote.Exit.{yes, no}
use denote.RattleType.{RattleType, owns, Valss}
use denote.Signature.{types_at, plain}
use denote.Builtin.{RefOf, u64, unit}
use denote.Ref.{mut_vals, mut_Tells, shr_vals, shr_Tells}
use denote.Memory.{hidden_shr}
use denote.Opens.{unhide}
use denote.Steps.{nothing, opens, closes}
use denote.Param.{param, bounded}
use denote.Struct.Tuple.{Tuple}
use denote.Triple.Walked.{Stays, stay_dropped, stay_ref, walk_of, Goes-dropped, Goes-ref}
use Rattle.atomic_table.proofs.Walks.{proved}
use Rattle.logbook.specs.Kept.{part, fact as fact_fml, offer_owns}
use Rattle.logbook.specs.contracts.tokens.Start as Start
use Rattle.logbook.specs.contracts.tokens.Seen as Seen
use Rattle.logbook.specs.contracts.tokens.Gained as Gained
use Rattle.logbook.specs.contracts.tokens.Offer as Offer
use Rattle.logbook.proofs.Fields.{token, Token, token_told, token_made, ends}
use Rattle.unit_sequence.specs.Rights.{first_of, right_owns, counts, count_after, gained, AddsEntry}
use Rattle.unit_sequence.specs.contracts.right.Answer as Answer
use Rattle.unit_sequence.specs.contracts.right.Counted as Counted
use Rattle.unit_sequence.specs.contracts.right.Law as Law
use Rattle.unit_sequence.specs.contracts.right.Right as Right
use Rattle.unit_sequence.specs.contracts.right.CountedGainAnswer.TheImpl as Gains
use Rattle.unit_sequence.specs.contracts.right.LawRuleAnswer.TheImpl as Rules
use Rattle.std.proofs.Common.{None}
use Rattle.unit_sequence.proofs.Trade.{trades}
use Rattle.unit_sequence.specs.contracts.right.Right.offer.{ended, clauses}
use Rattle.unit_sequence.specs.contracts.right.Right.offer.Key.{name as #self}
use Rattle.unit_sequence.proofs.right.Right.offer.Statement.{statement}
use Rattle.unit_sequence.proofs.right.Right.offer.Code as code

pub offer_spec : {M : Type 1} → statement M
offer_spec 𝓤 𝓛 𝓜 𝓡 wired E X N _ _ _ gn dn _ =
    let H = 𝓛.H in let 𝓣 = tables 𝓤 H 𝓜 𝓡 𝓡.env in let E' : RattleType = param 0 E in let X' : RattleType = param 1 X in let N' : RattleType = param 2 N in let A' : RattleType = Answer.the_row in let P' : RattleType = Law.the_row in let G' : RattleType = Counted.the_row in let En = ended E X N gn dn in
    let inst = bounded (a_type ∷ a_type ∷ a_type ∷ []) (E, (X, (N, tt))) (dcons dn dnil) in let fn = inst_fn inst code.function in let c = clauses E X N gn dn 𝓛 𝓜.mem 𝓡.returns in
    let g = Rules.ghosts E' in let gg = Gains.ghosts E' in let Sn : RattleType = Seen.the_row E' A' P' g in
    let hs : Stays En.signature.params En.kept = (stay_dropped (plain (λ _. Right.the_row)) yes, (stay_dropped (RefOf (0 ∷ []) tt (plain (λ _. Sn)) (λ _. tt)) yes, (stay_dropped (RefOf (1 ∷ []) tt (plain (λ _. X')) (λ _. tt)) yes, tt))) in
    proved 𝓛 En hs c 𝓜 𝓡 (Goes-dropped 𝓛 5 (plain (λ _. Right.the_row)) yes (λ κs x f. refl), (Goes-dropped 𝓛 5 (RefOf (0 ∷ []) tt (plain (λ _. Sn)) (λ _. tt)) yes (λ κs x f. refl), (Goes-dropped 𝓛 5 (RefOf (1 ∷ []) tt (plain (λ _. X')) (λ _. tt)) yes (λ κs x f. refl), tt))) (#self inst) fn (code.unfolded 𝓤 H 𝓜 𝓡 wired (E, (X, (N, tt))) dn)
    (λ κs. ((λ x. token ∷ []), (shr_vals, (shr_vals, tt)))) (λ κs. ((λ x vs is. token_told unit vs is.0), (shr_Tells (named 0) κs.0 Sn, (shr_Tells (named 1) κs.1.0 X', tt)))) (λ κs qs bounds a gh are.
    let right = a.0 in let me = a.1.0.now in let x = a.1.1.0.now in let at : Val = vptr a.1.0.ref_ptr.0 a.1.0.ref_ptr.1 in let on : Val = vptr a.1.1.0.ref_ptr.0 a.1.1.0.ref_ptr.1 in
    let y : (walk_of 𝓛 En hs c).Ghost = ((κs, qs, bounds, a, (token ∷ [], (at ∷ [], (on ∷ [], tt)))), gh) in let Post : Val → SProp 𝓤 = (walk_of 𝓛 En hs c).post y in
    let toks : Fml = fsep (flft κs.0 qs.0) (fsep (flft κs.1.0 qs.1.0) (fsep (flft κs.1.1.0 qs.1.1.0) (fsep (flft κs.1.1.1.0 qs.1.1.1.0) (fsep (flft κs.1.1.1.1.0 qs.1.1.1.1.0) ftrue)))) in
    qed 𝓛 ((‵ toks ⊛ ‵ (owns (types_at En.signature.params κs) a y.0.4)) ∷ raw (fact 𝓤 _) ∷ raw (fact 𝓤 _) ∷ raw (fact 𝓤 _) ∷ given _ (‵ ftrue) ∷ []) ∵ keep ! (4 ∷ 0 ∷ []) $ learn ! (λ asked. drop ! $ split ! $
    move ! (1 ∷ []) $ fsplit ! $ fsplit ! $ keep ! (1 ∷ 3 ∷ []) $
    enter ! 𝓣.C 𝓣.Λ fn (token ∷ at ∷ on ∷ []) Post $ alloc_all ! (λ l. pass_all ! refl ((tt, (tt, tt)), ((tt, tt), ((tt, tt), tt))) $
    rewrite ! 0 (λ (k : ℕ). ‵ (right_owns k right.count)) (sym (ap first_of asked.0)) refl $ rewrite ! 0 (λ (k : ℕ). ‵ (right_owns (first_of me.names) k)) asked.1 refl $
    use1 𝓛 (‵ (offer_owns (g.keeps me.names) (g.moves (gn.ask x)) (gg.after me.names me.log) None)) (trades 𝓛 me.names me.log (gn.ask x)) $
    use0 𝓛 (‵ ((Token (Tuple (E' ∷ A' ∷ P' ∷ G' ∷ []))).own_val (record {}, tt) (token ∷ []))) (token_made (Tuple (E' ∷ A' ∷ P' ∷ G' ∷ [])) 𝓛) $ fjoin ! $ sets ! (agg ! (no_more !)) refl (tt, tt) $ sets ! (agg ! (and_then ! (get ! refl) (no_more !))) refl (tt, (tt, tt)) $
    nothing ! $ nothing ! $ fjoin ! $ nothing ! $ fjoin ! $ nothing ! $ fjoin ! $
    returns ! (look_at ! 0 refl) $ free_all ! refl $ keep ! (2 ∷ 0 ∷ 1 ∷ []) $ by ! (ends 𝓛 En hs c y token (record { marker = record {}; names = me.names; ask = gn.ask x; about = me.log; state = None }) (tt, (tt, (tt, tt))) (tt, (tt, (tt, tt))) (fact_i 𝓤 _ (emp 𝓤) ((refl, refl, refl, refl)))))))
