use Rattle.std.proofs.Common.{◌≡◌, ℕ, ◌^◌, ◌<◌, Bool, true, false, List, [], ◌∷◌, ◌++◌, length, sym, refl, ap, ◌∙◌, subst, arith, lit<, w64}
use mir.Syntax.{a_type, dcons, dnil, named}
use mir.Val.{Val, vunit, vint, vptr, vstruct, vcons, vnil, of_list}
use mir.MapTy.{inst_fn}
use base.Logic.{SProp, wand, emp, id⊢, via, apply∗}
use base.Fml.{Lft, Share, Fml, ftrue, fsep, fex, feq, flft, fhide}
use types.Logic.{sem}
use types.Kit.{‵, raw, ◌⊛◌, some, given, later, mean, at_ret, ◌$◌, ◌∵◌, !, qed, by, move, keep, drop, split, join, group, fsplit, fsplit3, fjoin, fjoin3, fpick, fpack, pick, learn, use0, use1, use2, use3, await, rewrite, feq_i, flt_i}
use types.Run.{stop, fld, addr, lit, unit_lit, of_opd, no_more, and_then, first, blocks, exec, Calls-last, returns, enter}
use types.ByLocal.{alloc_all, pass_all, free_all, look_at, get, get_in, through, sets, lands_last, env}
use types.Part.{agg, sub, whole}
use contract.Monad.{fact, fact_i}
use contract.Running.{tables}
use denote.Exit.{yes, no}
use denote.RattleType.{RattleType, owns, Valss}
use denote.Signature.{types_at, plain}
use denote.Builtin.{RefOf, u64, unit}
use denote.Ref.{mut_vals, mut_Tells, shr_vals, shr_Tells}
use denote.Memory.{hidden_shr}
use denote.Opens.{unhide}
use denote.Steps.{nothing, opens, closes}
use denote.Param.{param, bounded}
use denote.Struct.Tuple.{Tuple}
use denote.Triple.Walked.{Stays, stay_dropped, stay_ref, walk_of, Goes-dropped, Goes-ref}
use Rattle.atomic_table.proofs.Walks.{proved}
use Rattle.logbook.specs.Kept.{part, fact as fact_fml, offer_owns}
use Rattle.logbook.specs.contracts.tokens.Start as Start
use Rattle.logbook.specs.contracts.tokens.Seen as Seen
use Rattle.logbook.specs.contracts.tokens.Gained as Gained
use Rattle.logbook.specs.contracts.tokens.Offer as Offer
use Rattle.logbook.proofs.Fields.{token, Token, token_told, token_made, ends}
use Rattle.unit_sequence.specs.Rights.{first_of, right_owns, counts, count_after, gained, AddsEntry}
use Rattle.unit_sequence.specs.contracts.right.Answer as Answer
use Rattle.unit_sequence.specs.contracts.right.Counted as Counted
use Rattle.unit_sequence.specs.contracts.right.Law as Law
use Rattle.unit_sequence.specs.contracts.right.Right as Right
use Rattle.unit_sequence.specs.contracts.right.CountedGainAnswer.TheImpl as Gains
use Rattle.unit_sequence.specs.contracts.right.LawRuleAnswer.TheImpl as Rules
use Rattle.unit_sequence.specs.contracts.right.take.{ended, clauses}
use Rattle.unit_sequence.specs.contracts.right.take.Key.{name as #self}
use Rattle.unit_sequence.proofs.right.take.Statement.{statement}
use Rattle.unit_sequence.proofs.right.take.Code as code

pub take_spec : {M : Type 1} → statement M
take_spec 𝓤 𝓛 𝓜 𝓡 wired E _ =
    let H = 𝓛.H in let 𝓣 = tables 𝓤 H 𝓜 𝓡 𝓡.env in let E' : RattleType = param 0 E in let A' : RattleType = Answer.the_row in let G' : RattleType = Counted.the_row in let En = ended E in
    let inst = bounded (a_type ∷ []) (E, tt) dnil in let fn = inst_fn inst code.function in let c = clauses E 𝓛 𝓜.mem 𝓡.returns in
    let All : RattleType = Tuple (E' ∷ A' ∷ G' ∷ []) in let Gd : RattleType = Gained.the_row E' A' G' (Gains.ghosts E') in
    let hs : Stays En.signature.params En.kept = (stay_dropped (plain (λ _. Gd)) no, tt) in
    proved 𝓛 En hs c 𝓜 𝓡 (Goes-dropped 𝓛 1 (plain (λ _. Gd)) no (λ κs x f. refl), tt) (#self inst) fn (code.unfolded 𝓤 H 𝓜 𝓡 wired (E, tt))
    (λ κs. ((λ x. token ∷ []), tt)) (λ κs. ((λ x vs is. token_told All vs is.0), tt)) (λ κs qs bounds a gh are.
    let up = a.0 in
    let y : (walk_of 𝓛 En hs c).Ghost = ((κs, qs, bounds, a, (token ∷ [], tt)), gh) in let Post : Val → SProp 𝓤 = (walk_of 𝓛 En hs c).post y in let toks : Fml = fsep (flft κs.0 qs.0) ftrue in
    qed 𝓛 ((‵ toks ⊛ ‵ (owns (types_at En.signature.params κs) a y.0.4)) ∷ raw ((c κs a).requires gh) ∷ []) ∵ keep ! (0 ∷ []) $ split ! $
    move ! (1 ∷ []) $ fsplit ! $ fsplit ! $ keep ! (1 ∷ 3 ∷ []) $
    fsplit ! $ fpick ! (λ found. drop ! $
    enter ! 𝓣.C 𝓣.Λ fn (token ∷ []) Post $ alloc_all ! (λ l. pass_all ! refl ((tt, (tt, tt)), tt) $
    use0 𝓛 (‵ ((Token unit).own_val (record {}, tt) (token ∷ []))) (token_made unit 𝓛) $ fjoin ! $ sets ! (agg ! (no_more !)) refl (tt, tt) $ sets ! (agg ! (and_then ! (get ! refl) (no_more !))) refl (tt, (tt, tt)) $
    nothing ! $ nothing ! $ fjoin ! $
    returns ! (look_at ! 0 refl) $ free_all ! refl $ keep ! (2 ∷ 0 ∷ 1 ∷ []) $ by ! (ends 𝓛 En hs c y token (record { marker = record {}; name = first_of up.names; count = count_after up.answer }) (tt, tt) (tt, tt) (fact_i 𝓤 _ (emp 𝓤) ((found, refl, λ name e. ap first_of e)))))))
