use Rattle.std.proofs.Common.{sym, ◌∙◌}
use Rattle.login.proofs.Cuts.{is_text_first, is_text_none, and_false, and_true}
use Rattle.login.proofs.text.is_text.Goals as goal

pub returns-then-not-is_pair : goal.returns-then-not-is_pair
returns-then-not-is_pair c =
    let e = c.in-Some.ensures in
    and_false _ _ _ _ (is_text_first _ _ _ e.some e.before e.behind) (sym c.is_pair.ensures
    ∙ c.if-not-is_pair.true) c.loop-part.invariant

pub loop-part-preserved : goal.loop-part-preserved
loop-part-preserved c =
    let e = c.in-Some.ensures in
    and_true _ _ _ _ (is_text_first _ _ _ e.some e.before e.behind) (sym c.is_pair.ensures
    ∙ c.if-not-is_pair.false) c.loop-part.invariant

pub returns : goal.returns
returns c = let e = is_text_none c.loop-part.rest.now c.in_default.ensures.none in c.is_empty.ensures ∙ sym e
    ∙ c.loop-part.invariant
