use Rattle.std.proofs.Common.{◌<◌, ◌≡◌, List, length, sym, ◌∙◌, ap, arith, Some}
use Rattle.std.proofs.lemmas.List.{at_drop_all}
use Rattle.registrants.specs.declared.registrant.Registrant.{Registrant}
use Rattle.registrants.specs.Nexus.{through}
use Rattle.reservations.specs.Notice.{code_told, tellings}
use Rattle.reservations.proofs.Hearing.{first_heard, heard_here, heard_of, told_first}
use Rattle.reservations.proofs.table.Table.told.Goals as goal

pub returns-in-Some : goal.returns-in-Some
returns-in-Some c =
    let n = through c.args.port.now c.args.group in
    let t = c.args.telling.now in
    let within : c.loop-x.x-index < length c.deref-x-items.result.now = omega arith in
    let heard : heard_of n t c.x-item.result ≡ Some c.in-Some.code =
    rw (sym c.is.ensures ∙ c.if-is.true) (sym c.code_for.ensures ∙ c.in-Some.is) in
    heard_here n t c.deref-x-items.result.now c.loop-x.x-index c.x-item.result c.in-Some.code within c.x-item.is heard
    c.loop-x.invariant
    ∙ ap (λ (xs : List Registrant). code_told (tellings t xs) n) c.deref-x-items.ensures.value

pub returns : goal.returns
returns c =
    let n = through c.args.port.now c.args.group in
    let t = c.args.telling.now in
    let items = c.deref-x-items.result.now in
    sym (sym (ap (λ (xs : List Registrant). code_told (tellings t xs) n) c.deref-x-items.ensures.value)
    ∙ told_first n t items ∙ c.loop-x.invariant ∙ at_drop_all (first_heard n t) items c.loop-x.x-index (omega arith))
