use Rattle.std.proofs.Common.{◌≡◌, length}
use Rattle.login.specs.Text.{is_text}
use Rattle.login.proofs.text.is_text.Given as goal

abbrev pub invariant-loop-part : goal.invariant-loop-part
invariant-loop-part l = is_text l.rest ≡ is_text l.text

abbrev pub decreases-loop-part : goal.decreases-loop-part
decreases-loop-part l = length l.rest
