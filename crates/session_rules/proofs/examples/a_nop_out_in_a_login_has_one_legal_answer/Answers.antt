use Rattle.session_rules.proofs.ShortLogins.{refusal_lawful, refusal_is, refusal_last, refusal_first}
use Rattle.session_rules.proofs.examples.a_nop_out_in_a_login_has_one_legal_answer.Goals as goal

pub returns : goal.returns
returns c = record { legal = refusal_lawful; no_other = refusal_is; last = refusal_last; first = refusal_first }
