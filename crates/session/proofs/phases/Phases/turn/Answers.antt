use Rattle.std.proofs.Common.{sym, ◌∙◌, arith}
use Rattle.session.proofs.Exchanges.{by_turn, by_login, begins_now}
use Rattle.session.proofs.phases.Phases.turn.Goals.{then-begins+in-Some-1, then-begins+in-None-1, else-begins}
use Rattle.session.proofs.phases.Phases.turn.Goals as goal

pub returns-in-None-clause-exchange : goal.returns-in-None-clause-exchange
returns-in-None-clause-exchange g c = rw (← c.self.view_is) (by_turn c.in-None.is c.feature_turn.ensures.turn)

pub returns-after-begins-clause-exchange : goal.returns-after-begins-clause-exchange
returns-after-begins-clause-exchange g c = rw (← c.self.view_is, c.in-Some.is) (elim c.if-begins.branch [
  | then-begins+in-Some-1 w ↦ begins_now c.login_turn-outcome.ensures.turn c.end.ensures c.self.view_is c.in-Some.is
      c.requires.fresh (sym c.begins.ensures ∙ w.if-begins.true) w.start.ensures (omega arith) (omega arith) w.kind.ensures
      w.begin.ensures w.self-is
  | then-begins+in-None-1 w ↦ begins_now c.login_turn-outcome.ensures.turn c.end.ensures c.self.view_is c.in-Some.is
      c.requires.fresh (sym c.begins.ensures ∙ w.if-begins.true) w.start.ensures (omega arith) (omega arith) w.kind.ensures
      w.begin.ensures w.self-is
  | else-begins w ↦
      by_login c.login_turn-outcome.ensures.turn c.end.ensures _ (sym c.begins.ensures ∙ w.if-begins.false) w.self-is
])
