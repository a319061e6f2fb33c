use Rattle.std.proofs.Common.{◌-◌, take, arith, ap, ◌∙◌}
use Rattle.session.proofs.Memory.{moved_over}
use Rattle.session.proofs.inbox.Inbox.renew.Goals as goal

pub returns : goal.returns
returns c =
    let s = c.self.inside in
    ap (take (s.filled - s.start)) c.in-Ok-resize.ensures.items
    ∙ rw c.in-Ok-extend_from_slice.ensures.items (rw c.in-Ok.ensures.items (moved_over s.start s.filled c.args.capacity
    s.bytes.items c.deref.result.now _ _ c.self.invariant c.deref.ensures.value c.self.view_is
    (omega (arith, c.requires.few, c.requires.capacity.0))))
