use Rattle.std.proofs.Common.{refl}
use Rattle.session_full_feature.specs.declared.actions.CommandData.TheVariants.{Gathered}
use Rattle.session_full_feature.proofs.Receiving.{can, stands, at_within, on_filling, on_calling, needs_r2t, on_r2t}
use Rattle.session_full_feature.proofs.session.Session.take_data.Goals as goal

pub feed_at-requires : goal.feed_at-requires
feed_at-requires c = let here = can c.self.view_is c.requires in (here.this, here.stands, here.continues)

pub at-command-requires : goal.at-command-requires
at-command-requires c = at_within c.self.view_is c.requires c.feed_at.ensures.fed

pub remove-requires : goal.remove-requires
remove-requires c = at_within c.self.view_is c.requires c.feed_at.ensures.fed

pub returns-then-not-is_filled-clause-on : goal.returns-then-not-is_filled-clause-on
returns-then-not-is_filled-clause-on c =
    on_filling c.self.view_is c.requires c.feed_at.ensures.fed c.at-command.ensures c.feed_at.ensures.asked
    _ _ c.is_filled.ensures c.if-not-is_filled.true c.silence.ensures.silent

pub returns-then-len-need-clause-on : goal.returns-then-len-need-clause-on
returns-then-len-need-clause-on c =
    on_calling c.self.view_is c.requires c.feed_at.ensures.fed c.at-command.ensures c.feed_at.ensures.asked c.need.ensures c.len.ensures
    _ _ (Gathered c.finish-done.result.bytes) _ _ c.if-len-need.true
    (c.remove.ensures.removed _ (stands c.self.view_is c.requires c.feed_at.ensures.fed)) c.finish-done.ensures refl c.call.ensures.calls

pub next_r2t_at-r2t-requires : goal.next_r2t_at-r2t-requires
next_r2t_at-r2t-requires c =
    needs_r2t c.self.view_is c.requires c.feed_at.ensures.fed c.at-command.ensures c.feed_at.ensures.asked c.need.ensures c.len.ensures
    c.if-len-need.false

pub returns-clause-on : goal.returns-clause-on
returns-clause-on c =
    let there = stands c.self.view_is c.requires c.feed_at.ensures.fed in
    on_r2t c.self.view_is c.requires c.feed_at.ensures.fed c.at-command.ensures c.feed_at.ensures.asked c.need.ensures c.len.ensures
    c.if-len-need.false _ _ _ _ _ _ _ c.is_filled.ensures c.if-not-is_filled.false
    c.numbered.ensures.count c.r2t_with-with.ensures (c.next_r2t_at-r2t.ensures.waits _ there) (c.next_r2t_at-r2t.ensures.r2t _ there)
    (c.next_r2t_at-r2t.ensures.fits _ there) c.send_r2t.ensures.sends c.next_transfer_tag-self-inside.ensures
