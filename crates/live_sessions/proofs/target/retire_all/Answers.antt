use Rattle.std.proofs.Common.{rules, All, ◌≡◌, ◌<◌, ◌∷◌, ◌++◌, [], List, sym, subst, ap, ◌∙◌, map}
use Rattle.std.proofs.lemmas.List.{map-append}
use Rattle.live_sessions.specs.Target.{Sight}
use Rattle.live_sessions.proofs.Retiring.{SoFar, all_left, one_more}
use Rattle.live_sessions.proofs.target.retire_all.Goals as goal

pub units-preserved : goal.units-preserved
units-preserved g c =
    let before = c.units.invariant in
    let f = g.U.LogicalUnits.seen in
    let kept : map f c.push_reserved.new.self.items ≡ map f c.units.seen.items ++ f c.retire.result ∷ [] =
    ap (map f) c.push_reserved.ensures.items ∙ map-append f c.units.seen.items (c.retire.result ∷ []) in (
      search rules,
      c.push_reserved.ensures.capacity ∙ before.1,
      subst (λ l. All (λ a. a.place < g.U.LogicalUnits.unit_count c.args.units.now) l) (sym c.remove-one.ensures.items)
          (all_left (λ a. a.place < g.U.LogicalUnits.unit_count c.args.units.now) c.units.attached.items before.2),
      subst (λ (l : List Sight). SoFar g.U.LogicalUnits.claims g.U.LogicalUnits.opening c.args.attached.now.items c.remove-one.new.self.items
          (map f c.args.seen.now.items) l) (sym kept)
          (subst (λ l. SoFar g.U.LogicalUnits.claims g.U.LogicalUnits.opening c.args.attached.now.items l
          (map f c.args.seen.now.items) (map f c.units.seen.items ++ f c.retire.result ∷ [])) (sym c.remove-one.ensures.items)
          (one_more g.U.LogicalUnits.claims g.U.LogicalUnits.opening c.args.attached.now.items c.units.attached.items _ _
          c.remove-one.result (f c.retire.result) (search rules) c.remove-one.ensures.value before.3 c.retire.ensures)),
    )
