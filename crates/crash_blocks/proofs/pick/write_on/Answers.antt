use Rattle.std.proofs.Common.{◌⊎◌, ◌+◌, ◌/◌, ◌<◌, ◌≤◌, length, inl, inr, refl, arith}
use Rattle.crash_blocks.proofs.ValuesLaws.{gone_more, gone_past}
use Rattle.crash_blocks.proofs.pick.write_on.Goals.{then-k-first-via-then-k-first, then-k-first-via-else-k-first+then-k-first-2}
use Rattle.crash_blocks.proofs.pick.write_on.Goals as goal

pub returns-then-k-first-clause-past : goal.returns-then-k-first-clause-past
returns-then-k-first-clause-past c =
    let out : (c.args.k < c.args.first) ⊎ (c.args.first + length c.args.bytes.now / 512 ≤ c.args.k) =
    elim c.then-k-first.branch [
      | then-k-first-via-then-k-first w ↦ inl w.if-k-first.true
      | then-k-first-via-else-k-first+then-k-first-2 w ↦ inr (omega arith)
    ] in
    λ disk values lt fits is. gone_past _ _ _ _ disk values fits _ out is

pub returns-then-past-wanted-clause-past : goal.returns-then-past-wanted-clause-past
returns-then-past-wanted-clause-past c = λ disk values lt fits is.
    gone_more c.args.first c.args.bytes.now c.args.k c.args.wanted disk values fits c.args.past.now _ _ (omega arith) (omega arith) c.block_in-past.ensures
    (λ e. refl) (λ other. absurd (other c.if-past-wanted.true)) is

pub returns-else-past-wanted-clause-past : goal.returns-else-past-wanted-clause-past
returns-else-past-wanted-clause-past c = λ disk values lt fits is.
    gone_more c.args.first c.args.bytes.now c.args.k c.args.wanted disk values fits c.args.past.now _ _ (omega arith) (omega arith) c.block_in-past.ensures
    (λ e. absurd (c.if-past-wanted.false e)) (λ other. refl) is
