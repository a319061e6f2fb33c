use Rattle.std.proofs.Common.{◌≡◌, ◌++◌, take, drop, map}
use Rattle.unit_control.specs.Groups.{tell_news}
use Rattle.unit_control.specs.Sessions.{of_others}
use Rattle.unit_control.proofs.sessions.tell_others.Given as goal

abbrev pub invariant-loop-attached : goal.invariant-loop-attached
invariant-loop-attached l =
    l.attached-items ≡ map (of_others (tell_news l.news) l.by)
    (take l.attached-index l.initial.attached-items) ++ drop l.attached-index l.initial.attached-items
