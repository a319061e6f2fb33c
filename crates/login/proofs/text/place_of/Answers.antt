use Rattle.std.proofs.Common.{length, sym, arith}
use Rattle.std.proofs.lemmas.List.Sums.{position_or_len_is}
use Rattle.login.specs.Text.{is_byte}
use Rattle.login.proofs.Cuts.{not_byte, this_byte}
use Rattle.login.proofs.text.place_of.Goals as goal

pub returns-then-b-byte-clause-place : goal.returns-then-b-byte-clause-place
returns-then-b-byte-clause-place c =
    sym (position_or_len_is (is_byte c.args.byte) c.args.bytes.now c.loop-i.i 0 (omega arith)
    (λ k lt. not_byte c.args.byte _ (c.loop-i.invariant k lt)) (λ lt. this_byte c.args.byte _ c.if-b-byte.true))

pub returns-clause-place : goal.returns-clause-place
returns-clause-place c =
    sym (position_or_len_is (is_byte c.args.byte) c.args.bytes.now (length c.args.bytes.now) 0 (omega arith)
    (λ k lt. not_byte c.args.byte _ (c.loop-i.invariant k (omega arith))) (λ lt. absurd (omega arith)))
