use Rattle.std.proofs.Common.{arith, rules}
use Rattle.std.proofs.lemmas.Grind.{pieces}
use Rattle.session_full_feature.proofs.session.Session.on_text.Goals as goal

pub answer_text-requires : goal.answer_text-requires
answer_text-requires c = search (pieces, arith) depth 5 fits 300

pub returns-in-Some-clause-on : goal.returns-in-Some-clause-on
returns-in-Some-clause-on c = search rules
