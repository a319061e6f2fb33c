use Rattle.unit_state.proofs.Restart.{found_among}
use Rattle.unit_state.proofs.laws.a_restart_finds_a_record_that_was_named.Goals as goal

pub returns : goal.returns
returns g c = λ device named disk found lasts left holds.
    found_among disk found (λ r other. c.one_record_is_held.ensures disk r found other holds) named (lasts disk left)
