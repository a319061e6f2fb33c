use Rattle.std.proofs.Common.{◌++◌, ◌∷◌, [], length, length-take-le, map, take, arith, ap, sym, ◌∙◌}
use Rattle.std.proofs.lemmas.List.{length-map, map_more, take_all}
use Rattle.portal.specs.Server.{named_by}
use Rattle.portal.proofs.server.named.Goals as goal

pub push_reserved-requires : goal.push_reserved-requires
push_reserved-requires c =
    let so_far = c.loop-portal.invariant in
    let portals = c.args.portals.now in
    let before = take c.loop-portal.portal-index portals in
    let more = c.loop-portal-test.true in
    omega (
      arith,
      c.loop-portal.told.ok.0,
      ap length so_far.0,
      length-map before (named_by c.args.reached),
      length-take-le c.loop-portal.portal-index portals (omega (arith, more)),
      more,
      so_far.1,
    )

pub loop-portal-preserved : goal.loop-portal-preserved
loop-portal-preserved c =
    let so_far = c.loop-portal.invariant in
    let portals = c.args.portals.now in
    let f = named_by c.args.reached in
    let before = map f (take c.loop-portal.portal-index portals) in (
      c.push_reserved.ensures.items ∙ ap (λ told. told ++ c.named_by.result ∷ []) so_far.0
          ∙ ap (λ one. before ++ one ∷ []) c.named_by.ensures ∙ sym (map_more f portals c.loop-portal.portal-index _ c.loop-portal-test.true),
      omega (arith, c.push_reserved.ensures.capacity, so_far.1),
    )

pub returns : goal.returns
returns c =
    c.loop-portal.invariant.0
    ∙ ap (map (named_by c.args.reached)) (take_all c.loop-portal.portal-index c.args.portals.now c.loop-portal-test.false)
