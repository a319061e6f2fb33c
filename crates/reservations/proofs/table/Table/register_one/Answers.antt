use Rattle.std.proofs.Common.{◌≡◌, true, false, refl}
use Rattle.reservations.specs.Seen.{value_of}
use Rattle.reservations.specs.Table.{is_too_much, registration}
use Rattle.reservations.proofs.Room.{done_one, full_one, not_too_much, told_one, too_much_one}
use Rattle.reservations.proofs.table.Table.register_one.Goals as goal
use Rattle.reservations.proofs.table.Table.register_one.Goals.{else-request-ne0-via-then-request-ne0+else-not-has_room_for, else-request-ne0-via-else-request-ne0}

pub returns-then-not-has_room_for-clause-does : goal.returns-then-not-has_room_for-clause-does
returns-then-not-has_room_for-clause-does c =
    let v = value_of c.args.self.now in
    let n = c.args.nexus.now in
    let q = c.args.request in
    let none = told_one v.registrants n _ _ false c.missing.ensures c.has_room_for.ensures c.if-not-has_room_for.true in
    (full_one v n q (too_much_one v n q true c.requires.ready.ascending c.if-request-ne0.true none), refl, refl)

pub returns-clause-does : goal.returns-clause-does
returns-clause-does c =
    let v = value_of c.args.self.now in
    let n = c.args.nexus.now in
    let q = c.args.request in
    let fits : is_too_much q (registration v n q) ≡ false =
    elim c.else-request-ne0.branch [
      | else-request-ne0-via-then-request-ne0+else-not-has_room_for w ↦
          too_much_one v n q false c.requires.ready.ascending w.if-request-ne0.true
          (told_one v.registrants n _ _ true w.missing.ensures w.has_room_for.ensures w.if-not-has_room_for.false)
      | else-request-ne0-via-else-request-ne0 w ↦ not_too_much q (registration v n q) w.if-request-ne0.false
    ] in
    rw (c.registered.ensures.end, c.registered.ensures.counted, c.notice_of_end-notice.ensures)
    (done_one v _ n q c.set_registration.ensures.set fits)
