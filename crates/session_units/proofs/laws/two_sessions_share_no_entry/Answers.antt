use Rattle.session_units.specs.Late.{late_at, late_of}
use Rattle.session_units.proofs.Apart.{names_its_attach, one_attach, one_session}
use Rattle.session_units.proofs.laws.two_sessions_share_no_entry.Goals as goal

pub returns-clause-attach : goal.returns-clause-attach
returns-clause-attach g c = λ s unit nexus done history is.
    names_its_attach g.U.LogicalUnits.claims (late_at (late_of g.G.Gate.is_late g.G.Gate.lasts) unit) s nexus done history
    (λ h opens legal. c.serials_count_commands.ensures g.U.LogicalUnits.claims.contents s h opens legal) is

pub returns-clause-apart : goal.returns-clause-apart
returns-clause-apart g c = λ one two e first second. one_session one two e first second

pub returns-clause-nexus : goal.returns-clause-nexus
returns-clause-nexus g c = λ nexus other session one two both first second. one_attach nexus other session one two both first second
