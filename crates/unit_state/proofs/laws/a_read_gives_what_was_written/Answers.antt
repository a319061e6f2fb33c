use Rattle.std.proofs.Common.{refl}
use Rattle.unit_state.proofs.ReadBack.{read_after}
use Rattle.unit_state.proofs.laws.a_read_gives_what_was_written.Goals as goal

pub returns-clause-write : goal.returns-clause-write
returns-clause-write c = λ s session serial by lba blocks fua bytes h. rw h refl

pub returns-clause-read : goal.returns-clause-read
returns-clause-read c = read_after
