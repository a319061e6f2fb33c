use Rattle.session_full_feature.proofs.session.Session.turned_away.Goals as goal

pub unreachable-requires : goal.unreachable-requires
unreachable-requires c = c.requires c.in-Full.is
