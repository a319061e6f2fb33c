use Rattle.unit_state.proofs.HistoryLaws.{state_after-snoc, IsLegal-snoc, reply_at-snoc, reply_at-before}
use Rattle.unit_state.proofs.laws.one_entry_more.Goals as goal

pub returns : goal.returns
returns c = record { state = state_after-snoc; legal = IsLegal-snoc; reply = reply_at-snoc; before = reply_at-before }
