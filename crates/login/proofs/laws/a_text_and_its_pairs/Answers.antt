use Rattle.login.proofs.Spelled.{again, spelled_again}
use Rattle.login.proofs.laws.a_text_and_its_pairs.Goals as goal

pub returns : goal.returns
returns c = record { text = λ ps h. (again ps h).0; read = λ ps h. (again ps h).1; spelled = spelled_again }
