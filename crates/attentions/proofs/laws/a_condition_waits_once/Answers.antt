use Rattle.attentions.proofs.Repeats.{apart, kept}
use Rattle.attentions.proofs.laws.a_condition_waits_once.Goals as goal

pub returns-clause-apart : goal.returns-clause-apart
returns-clause-apart c = apart

pub returns-clause-kept : goal.returns-clause-kept
returns-clause-kept c = kept
