use Rattle.std.proofs.Common.{sym, ◌∙◌}
use Rattle.login.proofs.Cuts.{is_listed_first, is_listed_none, or_true, or_left}
use Rattle.login.proofs.value.is_listed.Goals as goal

pub returns-then-eq : goal.returns-then-eq
returns-then-eq c =
    let e = c.in-Some.ensures in
    or_true _ _ _ _ (is_listed_first _ _ _ _ e.some e.before e.behind) (sym c.eq.ensures
    ∙ c.if-eq.true) c.loop-item.invariant

pub loop-item-preserved : goal.loop-item-preserved
loop-item-preserved c =
    let e = c.in-Some.ensures in
    or_left _ _ _ _ (is_listed_first _ _ _ _ e.some e.before e.behind) (sym c.eq.ensures
    ∙ c.if-eq.false) c.loop-item.invariant

pub returns : goal.returns
returns c = let e = is_listed_none c.args.word.now c.loop-item.rest.now c.in_default.ensures.none in c.eq-2.ensures
    ∙ sym e ∙ c.loop-item.invariant
