use Rattle.std.proofs.Common.{subst, sym, ◌∙◌}
use Rattle.session_stream.{specs.Outbox.OutboxValue, specs.Outbox.IsOut, proofs.Queues.waits}
use Rattle.session_stream.proofs.outbox.Outbox.put.Goals as goal

pub returns-then-has_room : goal.returns-then-has_room
returns-then-has_room g c = λ first begun least all k.
    waits first _ begun _ c.self.inside.bytes.items least all c.self.inside.failed _ _ c.append.ensures.put
    (subst (λ (v : OutboxValue). IsOut first (g.K.Sink.held c.args.sink.now) begun (g.K.Sink.failures c.args.sink.now) v least all)
    (sym (c.self.view_is ∙ c.widen_for.ensures)) k)

pub returns : goal.returns
returns g c = λ first begun least all k.
    waits first _ begun _ c.self-2.inside.bytes.items least all c.self-2.inside.failed _ _ c.append-2.ensures.put
    (subst (λ (v : OutboxValue). IsOut first (g.K.Sink.held c.flush.new.sink) begun (g.K.Sink.failures c.flush.new.sink) v least all)
    (sym c.self-2.view_is)
    (c.flush.ensures.written first begun least all (subst (λ (v : OutboxValue). IsOut first (g.K.Sink.held c.args.sink.now) begun
    (g.K.Sink.failures c.args.sink.now) v least all) (sym c.widen_for.ensures) k)))
