use Rattle.std.proofs.Common.{◌≡◌, ℕ, ◌+◌, ◌-◌, ◌*◌, ◌<◌, suc, List, ◌∷◌, ◌++◌, set, replicate, drop, refl}
use Rattle.std.proofs.Common.{subst, IfOk, ◌∙◌, ap, arith, rules}
use Rattle.std.proofs.lemmas.List.{drop-replicate}
use Rattle.byteorder.specs.Endian.{big_bytes}
use Rattle.identity.specs.Table.{Number, Reserved, cut, spell}
use Rattle.identity.specs.Luns.{luns_below}
use Rattle.identity.proofs.LunList.{written, whole}
use Rattle.identity.proofs.luns.report_luns.Goals as goal

pub loop-unit-init : goal.loop-unit-init
loop-unit-init c =
    let number : c.from.result ≡ c.how_many-units.result = search rules in (
      omega arith,
      c.write_u32.ensures
          ∙ ap (λ n. big_bytes 4 (8 * n) ++ drop 4 (replicate {A = ℕ} 2048 0)) number
          ∙ ap (λ s. big_bytes 4 (8 * c.how_many-units.result) ++ s) (drop-replicate 4 2048 0),
    )

pub loop-unit-preserved : goal.loop-unit-preserved
loop-unit-preserved c =
    let front : List ℕ = big_bytes 4 (8 * c.how_many-units.result) ++ replicate 4 0 in
    let unit : ℕ = c.loop-unit.unit in
    let below : unit < 255 = omega (arith, c.loop-unit-test.true) in
    let rest : 8 * (255 - unit) ≡ 8 + 8 * (255 - (unit + 1)) = omega arith in
    let next : suc unit ≡ unit + 1 = omega arith in (
      omega (arith, c.loop-unit-test.true),
      ap (λ s. set s (8 + 8 * unit + 1) unit) c.loop-unit.invariant.1
          ∙ ap (λ n. set (front ++ spell (luns_below unit) ++ replicate {A = ℕ} n 0) (8 + 8 * unit + 1) unit) rest
          ∙ written front unit (8 * (255 - (unit + 1))) refl
          ∙ ap (λ n. front ++ spell (luns_below n) ++ replicate {A = ℕ} (8 * (255 - (unit + 1))) 0) next,
    )

pub returns : goal.returns
returns c =
    let all : c.loop-unit.unit ≡ c.how_many-units.result = omega (arith, c.loop-unit-test.false, c.loop-unit.invariant.0) in
    let list = whole c.how_many-units.result c.loop-unit.unit c.loop-unit.list all c.loop-unit.invariant.1 in
    let selected_units = ap (λ n. spell (Number "LUN LIST LENGTH" 4 (8 * n) ∷ Reserved 4 ∷ luns_below n))
    c.how_many-units.ensures in
    let P : List ℕ → Type 0 = λ s. IfOk c.cut_to.result (λ v. v.items ≡ cut c.args.allocation s) in
    subst P (list ∙ selected_units) c.cut_to.ensures
