use Rattle.std.proofs.Common.{◌≡◌, ◌∙◌, true, false, ap, arith, subst, refl}
use Rattle.scsi_types.specs.Nexus.{Nexus}
use Rattle.registrants.specs.Registry.{IsAscending}
use Rattle.registrants.proofs.Listed.{ascending_registered}
use Rattle.reservations.specs.Seen.{value_of}
use Rattle.reservations.specs.Table.{is_too_much, of_port, registration}
use Rattle.reservations.proofs.Room.{done_port, full_port, not_too_much, room_second, told_port, too_much_port, with_key}
use Rattle.reservations.proofs.table.Table.register_port.Goals as goal
use Rattle.reservations.proofs.table.Table.register_port.Goals.{else-request-ne0-via-then-request-ne0+else-not-has_room_for, else-request-ne0-via-else-request-ne0}

pub returns-then-not-has_room_for-clause-does : goal.returns-then-not-has_room_for-clause-does
returns-then-not-has_room_for-clause-does c =
    let v = value_of c.args.self.now in
    let n = c.args.nexus.now in
    let q = c.args.request in
    let none = told_port v.registrants n _ _ _ _ false c.missing.ensures c.missing-then-request-ne0.ensures
    c.through_other-other.ensures c.has_room_for.ensures c.if-not-has_room_for.true in
    (full_port v n q (too_much_port v n q true c.requires.ready.ascending c.if-request-ne0.true none), refl, refl)

pub set_registration-requires-2-clause-ascending : goal.set_registration-requires-2-clause-ascending
set_registration-requires-2-clause-ascending c = λ some.
    let v = value_of c.args.self.now in
    subst IsAscending (with_key v _ c.args.nexus.now c.args.request c.set_registration.ensures.set some)
    (ascending_registered c.args.nexus.now c.args.request.sakey v.registrants c.requires.ready.ascending)

pub set_registration-requires-2-clause-space : goal.set_registration-requires-2-clause-space
set_registration-requires-2-clause-space c = λ some out.
    let v = value_of c.args.self.now in
    let n = c.args.nexus.now in
    let q = c.args.request in
    elim c.else-request-ne0.branch [
      | else-request-ne0-via-then-request-ne0+else-not-has_room_for w ↦
          room_second n _ q.sakey v.registrants _ _ c.through_other-other.ensures c.requires.ready.ascending
          (told_port v.registrants n _ _ _ _ true w.missing.ensures w.missing-then-request-ne0.ensures
          c.through_other-other.ensures w.has_room_for.ensures w.if-not-has_room_for.false)
          (omega (arith, c.requires.ready.room, c.set_registration.ensures.room))
          (with_key v _ n q c.set_registration.ensures.set some) out
      | else-request-ne0-via-else-request-ne0 w ↦ absurd (let zero = rw w.if-request-ne0.false at some in cc)
    ]

pub returns-clause-does : goal.returns-clause-does
returns-clause-does c =
    let v = value_of c.args.self.now in
    let n = c.args.nexus.now in
    let q = c.args.request in
    let fits : is_too_much q (of_port v n q) ≡ false =
    elim c.else-request-ne0.branch [
      | else-request-ne0-via-then-request-ne0+else-not-has_room_for w ↦
          too_much_port v n q false c.requires.ready.ascending w.if-request-ne0.true
          (told_port v.registrants n _ _ _ _ true w.missing.ensures w.missing-then-request-ne0.ensures
          c.through_other-other.ensures w.has_room_for.ensures w.if-not-has_room_for.false)
      | else-request-ne0-via-else-request-ne0 w ↦ not_too_much q (of_port v n q) w.if-request-ne0.false
    ] in
    let second = c.set_registration-2.ensures.set
    ∙ ap (λ (m : Nexus). registration (value_of c.set_registration.new.self) m q) c.through_other-other.ensures in
    rw (c.registered.ensures.end, c.registered.ensures.counted, c.notice_of_end-notice.ensures)
    (done_port v _ _ n q c.set_registration.ensures.set second fits)
