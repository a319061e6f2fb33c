use Rattle.std.proofs.Common.{ap, subst}
use Rattle.session_rules.specs.TaskManagement.{IsManagement}
use Rattle.session_full_feature.specs.Counters.{Counters, after_collecting}
use Rattle.session_full_feature.proofs.session.Session.drop_tasks.Goals as goal

pub returns : goal.returns
returns c = (
  c.management_for.new.waiting,
  subst (λ (s : Counters). IsManagement s.setting.units s.standing.collecting c.args.request.now
      c.management_for.result c.management_for.new.waiting) c.self.view_is c.management_for.ensures,
  ap (after_collecting c.management_for.new.waiting) c.self.view_is,
)
