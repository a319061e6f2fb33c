use Rattle.std.proofs.Common.{refl}
use Rattle.unit_control.specs.Groups.{tell_news}
use Rattle.unit_control.specs.Sessions.{of_others}
use Rattle.unit_control.proofs.Places.{next_changed, written_back}
use Rattle.unit_control.proofs.sessions.tell_others.Goals as goal

pub loop-attached-init : goal.loop-attached-init
loop-attached-init c = refl

pub loop-attached-preserved : goal.loop-attached-preserved
loop-attached-preserved c =
    rw (c.hear_news.ensures, ← c.attached-item.is)
    (next_changed (of_others (tell_news c.args.news) c.args.by) c.deref_mut-attached-items.result.now c.loop-attached.attached-items
    c.loop-attached.attached-index c.attached-item.result c.loop-attached.invariant c.loop-attached-test.true
    c.attached-item.is)

pub returns-clause-items : goal.returns-clause-items
returns-clause-items c =
    let of = c.deref_mut-attached-items in
    written_back (of_others (tell_news c.args.news) c.args.by) _ of.result.now _ _ _ of.ensures.value of.ensures.len c.loop-attached.invariant
    c.loop-attached.auto.attached-items c.loop-attached-test.false
