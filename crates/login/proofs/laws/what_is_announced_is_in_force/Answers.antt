use Rattle.login.proofs.Announced.{burst_told, first_told, immediate_told}
use Rattle.login.proofs.laws.what_is_announced_is_in_force.Goals as goal

pub returns : goal.returns
returns c = record { burst = burst_told; first_burst = first_told; immediate_data = immediate_told }
