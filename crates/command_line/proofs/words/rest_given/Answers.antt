use Rattle.std.proofs.Common.{Global, ap, sym, subst, map, Some, None, ◌≡◌, ◌∙◌}
use Rattle.std.proofs.lemmas.Result.{IfOk-weaker}
use Rattle.std.specs.Borrow.{Bor}
use Rattle.std.specs.declared.vec.Vec.{Vec}
use Rattle.clap.specs.Words.{Text, all_of, found_of, rows_of}
use Rattle.clap.proofs.WalkLemmas.{raw_values-rows}
use Rattle.command_line.specs.Words.{are_rest}
use Rattle.command_line.proofs.words.rest_given.Goals as goal

pub returns-in-Some : goal.returns-in-Some
returns-in-Some c =
    let is : all_of c.args.id.now (rows_of (found_of c.args.matches.now)) ≡ Some (map (λ (v : Bor Text). v.now) c.in-Some.rest.now) =
    sym (c.in-Some.ensures ∙ raw_values-rows (found_of c.args.matches.now) c.args.id.now) in
    IfOk-weaker _ _ _ (λ (v : Vec (Bor Text) Global) h. subst (λ o. are_rest o (map (λ (v : Bor Text). v.now) v.items)) (sym is) (ap (map (λ (v : Bor Text). v.now)) h))
    c.from_slice.ensures.items

pub returns-in-None : goal.returns-in-None
returns-in-None c =
    let is : all_of c.args.id.now (rows_of (found_of c.args.matches.now)) ≡ None =
    sym (c.in-None.ensures ∙ raw_values-rows (found_of c.args.matches.now) c.args.id.now) in
    subst (λ o. are_rest o (map (λ (v : Bor Text). v.now) c.new.result.items)) (sym is) (ap (map (λ (v : Bor Text). v.now)) c.new.ensures.items)
