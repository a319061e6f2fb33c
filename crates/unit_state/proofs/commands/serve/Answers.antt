use Rattle.std.proofs.Common.{refl}
use Rattle.unit_state.proofs.Answering.{groups_leave, groups_reply, performing_lacks, performing_leaves, performing_replies, reserve_leaves, reserve_replies}
use Rattle.unit_state.proofs.PowerLoss.{reserved_stop}
use Rattle.unit_state.proofs.Served.{reserved_ok}
use Rattle.unit_state.proofs.commands.serve.Goals as goal

pub returns-in-SetTargetPortGroups-clause-leaves : goal.returns-in-SetTargetPortGroups-clause-leaves
returns-in-SetTargetPortGroups-clause-leaves g c =
    let done = c.set_groups.ensures in
    rw c.in-SetTargetPortGroups.is (groups_leave g.B.Blocks g.F.Blocks g.O.Opener c.args.sender.session
    c.args.sender.at _ c.args.bytes.now c.args.control.now c.set_groups.new.control c.args.devices.now.device
    c.set_groups.new.device c.args.devices.now.opener c.set_groups.new.opener c.args.devices.now.file done.size done.stays
    done.lasting done.unopened done.idle done.opened done.kept)

pub returns-in-SetTargetPortGroups-clause-replied : goal.returns-in-SetTargetPortGroups-clause-replied
returns-in-SetTargetPortGroups-clause-replied g c =
    let done = c.set_groups.ensures in
    rw c.in-SetTargetPortGroups.is (groups_reply g.B.Blocks g.F.Blocks g.O.Opener c.args.sender.session
    c.args.sender.at _ c.args.bytes.now c.args.control.now c.set_groups.new.control c.args.devices.now.device
    c.set_groups.new.device c.args.devices.now.opener c.set_groups.new.opener c.args.devices.now.file c.set_groups.result refl
    done.served done.counted done.device_failures done.fine done.kept)

pub returns-in-PersistentReserveOut-clause-leaves : goal.returns-in-PersistentReserveOut-clause-leaves
returns-in-PersistentReserveOut-clause-leaves g c =
    let done = c.reserve.ensures in
    reserve_leaves g.B.Blocks g.F.Blocks g.O.Opener c.args.sender.session c.args.sender.at c.args.command c.args.bytes.now
    c.args.control.now c.reserve.new.control c.args.devices.now.device c.args.devices.now.opener c.args.devices.now.file
    c.reserve.new.file (rw c.in-PersistentReserveOut.is refl) done.stays done.kept done.access
    (λ h m lasts. reserved_stop g.F.Blocks.moment g.F.Blocks.left_since c.args.control.now c.args.sender.session
    c.args.command _ _ _ _ c.args.bytes.now _ c.args.devices.now.file.device c.reserve.new.file.device
    c.in-PersistentReserveOut.is c.pr_out.ensures (done.stop h m lasts))

pub returns-in-PersistentReserveOut-clause-replied : goal.returns-in-PersistentReserveOut-clause-replied
returns-in-PersistentReserveOut-clause-replied g c =
    let done = c.reserve.ensures in
    reserve_replies g.B.Blocks g.F.Blocks g.O.Opener c.args.sender.session c.args.sender.at c.args.command c.args.bytes.now
    c.args.control.now c.reserve.new.control c.args.devices.now.device c.args.devices.now.opener c.args.devices.now.file
    c.reserve.new.file c.reserve.result (rw c.in-PersistentReserveOut.is refl)
    (reserved_ok _ _ _ _ _ _ _ _ _ _ _ _ _ c.in-PersistentReserveOut.is c.pr_out.ensures done.reserved) done.counted
    done.fine

pub returns-in-TestUnitReady-clause-leaves : goal.returns-in-TestUnitReady-clause-leaves
returns-in-TestUnitReady-clause-leaves g c =
    let done = c.perform.ensures in
    performing_leaves g.B.Blocks g.F.Blocks g.O.Opener c.args.sender.session c.args.sender.at
    c.args.command c.args.bytes.now c.args.control.now c.perform.new.control c.args.devices.now.device c.perform.new.device
    c.args.devices.now.opener c.args.devices.now.file done.size done.stays done.lasting done.access done.idle

pub returns-in-TestUnitReady-clause-replied : goal.returns-in-TestUnitReady-clause-replied
returns-in-TestUnitReady-clause-replied g c =
    let done = c.perform.ensures in
    performing_replies g.B.Blocks g.F.Blocks g.O.Opener c.args.sender.session c.args.sender.at
    c.args.command c.args.bytes.now c.args.control.now c.perform.new.control c.args.devices.now.device c.perform.new.device
    c.args.devices.now.opener c.args.devices.now.file c.perform.result done.served done.counted
    done.fine done.lasts done.left

pub returns-in-TestUnitReady-clause-err : goal.returns-in-TestUnitReady-clause-err
returns-in-TestUnitReady-clause-err g c =
    performing_lacks g.B.Blocks g.F.Blocks g.O.Opener c.args.sender.session c.args.sender.at
    c.args.command c.args.bytes.now c.args.control.now c.perform.new.control c.args.devices.now.device c.perform.new.device
    c.args.devices.now.opener c.args.devices.now.file c.perform.result c.perform.ensures.err
    c.perform.ensures.memory
