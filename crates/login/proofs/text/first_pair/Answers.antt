use Rattle.login.proofs.Cuts.{pairs_first, pairs_none}
use Rattle.login.proofs.text.first_pair.Goals as goal

pub returns-in_default-clause-none : goal.returns-in_default-clause-none
returns-in_default-clause-none c = pairs_none c.args.text.now c.in_default.ensures.none

pub returns-clause-some : goal.returns-clause-some
returns-clause-some c =
    let e = c.in-Some.ensures in
    pairs_first c.args.text.now c.in-Some.part.now c.in-Some.rest.now _ _ e.some e.before e.behind
    c.pair_of.ensures.key c.pair_of.ensures.value
