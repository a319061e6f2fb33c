use Rattle.std.proofs.Common.{◌+◌, ◌∙◌, ◌<◌, ap, arith, drop, length, subst, sym, ℕ}
use Rattle.std.proofs.lemmas.List.{drop-drop}
use Rattle.unit_history.specs.Naming.{IsNamedAt}
use Rattle.array_units.proofs.Naming.{named_at, removed}
use Rattle.array_units.proofs.units.Units.new.Goals as goal

pub seat_next-requires-clause-named : goal.seat_next-requires-clause-named
seat_next-requires-clause-named g c =
    let rest = c.loop-place.new.items in
    let some : 0 < length rest = omega (arith, c.remove.ensures.len) in
    subst (λ (place : ℕ). IsNamedAt g.N.ArrayNaming.book g.N.ArrayNaming.table g.N.ArrayNaming.opening g.B.Blocks.contents place c.remove.result)
    (sym c.loop-place.invariant.1)
    (named_at g.N.ArrayNaming.book g.N.ArrayNaming.table g.N.ArrayNaming.opening g.B.Blocks.contents c.args.new.items c.loop-place._place
    c.remove.result c.requires.named
    (removed c.args.new.items rest c.loop-place._place c.remove.result c.loop-place.invariant.0 some c.remove.ensures.value))

pub loop-place-preserved : goal.loop-place-preserved
loop-place-preserved g c = (
  c.remove.ensures.by_index.2 ∙ (ap (λ l. drop 1 l) c.loop-place.invariant.0 ∙ drop-drop 1 c.loop-place._place c.args.new.items),
  c.in_ok-seat_next.ensures.count ∙ ap (λ (n : ℕ). n + 1) c.loop-place.invariant.1,
  c.in_ok-seat_next.ensures.order,
)
