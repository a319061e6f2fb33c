use Rattle.identity.proofs.Serials.{serials_differ}
use Rattle.identity.proofs.laws.a_unit_is_known_by_its_names.Goals as goal

pub returns-clause-serials_differ : goal.returns-clause-serials_differ
returns-clause-serials_differ c = serials_differ
