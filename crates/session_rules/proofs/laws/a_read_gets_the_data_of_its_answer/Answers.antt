use Rattle.session_rules.proofs.Following.{read_data, read_size}
use Rattle.session_rules.proofs.laws.a_read_gets_the_data_of_its_answer.Goals as goal

pub returns : goal.returns
returns c = record { bytes = read_data; size = read_size }
