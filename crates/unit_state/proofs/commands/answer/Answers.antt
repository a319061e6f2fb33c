use Rattle.unit_control.specs.Refusal.{refusal, request}
use Rattle.unit_state.proofs.Answering.{lacking_as_asked, left_as_asked, refusal_leaves, refusal_replies, replied_as_asked}
use Rattle.unit_state.proofs.commands.answer.Goals as goal

pub returns-in-Err-clause-leaves : goal.returns-in-Err-clause-leaves
returns-in-Err-clause-leaves g c =
    refusal_leaves g.B.Blocks g.F.Blocks g.O.Opener
    (refusal c.args.control.now (request c.args.sender.session c.args.asked c.args.bytes.now))
    (request c.args.sender.session c.args.asked c.args.bytes.now) c.args.sender.at c.args.devices.now c.args.control.now
    c.refuse.new.control c.refuse.ensures.stays c.refuse.ensures.access c.refuse.ensures.lasting

pub returns-in-Err-clause-replied : goal.returns-in-Err-clause-replied
returns-in-Err-clause-replied g c =
    refusal_replies g.B.Blocks g.F.Blocks g.O.Opener (request c.args.sender.session c.args.asked c.args.bytes.now)
    c.in-Err.refusal c.reply.result c.args.devices.now c.args.control.now c.refuse.new.control c.in-Err.ensures
    c.reply.ensures c.refuse.ensures.told

pub returns-clause-leaves : goal.returns-clause-leaves
returns-clause-leaves g c =
    left_as_asked _ _ _ _ _ _ _ g.B.Blocks g.F.Blocks g.O.Opener _ c.in-Ok.ensures c.serve.ensures.leaves

pub returns-clause-replied : goal.returns-clause-replied
returns-clause-replied g c =
    replied_as_asked _ _ _ _ _ _ _ g.B.Blocks g.F.Blocks g.O.Opener _ c.in-Ok.ensures c.serve.ensures.replied

pub returns-clause-err : goal.returns-clause-err
returns-clause-err g c = lacking_as_asked _ _ _ _ _ _ _ _ c.in-Ok.ensures c.serve.ensures.err
