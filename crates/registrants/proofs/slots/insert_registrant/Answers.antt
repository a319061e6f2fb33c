use Rattle.std.proofs.Common.{arith}
use Rattle.registrants.proofs.Insert.{insert_is, length_before}
use Rattle.registrants.proofs.slots.insert_registrant.Goals as goal

pub insert-requires : goal.insert-requires
insert-requires c = omega (arith, length_before c.args.nexus.now c.deref.result.now)

pub returns-clause-items : goal.returns-clause-items
returns-clause-items c =
    let items = rw c.in-Ok.is at c.insert.ensures.items in
    rw (items, c.place_of-place.ensures, c.deref.ensures.value, c.copy-nexus.ensures.equal)
    (insert_is c.args.nexus.now c.args.key c.args.registrants.now.items c.requires.ascending c.requires.new)
