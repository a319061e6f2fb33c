use Rattle.std.proofs.Common.{◌≡◌, ◌<◌, ◌+◌, ◌*◌, ℕ, List, [], ◌∷◌, drop, length, sym, ap, ◌∙◌, arith, refl}
use Rattle.login.specs.Number.{read_on, digits_in, within}
use Rattle.login.proofs.Numbers.{beyond, digit_more}
use Rattle.login.proofs.value.digits_at_most.Goals as goal

some_digits : (base : ℕ) (cs : List ℕ) → 0 < length cs → digits_in base cs ≡ read_on base 0 cs
some_digits base [] some = absurd (omega arith)
some_digits base (c ∷ cs) some = refl

pub returns-then-number-most : goal.returns-then-number-most
returns-then-number-most c =
    let e = c.in-Some.ensures.value in
    let step = digit_more c.args.base c.loop-byte.number c.in-Some.digit c.args.digits.now c.loop-byte.byte-index
    c.loop-byte-test.true (sym e.1) (omega (arith, e.0, e.1)) in
    let all : digits_in c.args.base c.args.digits.now
    ≡ read_on c.args.base (c.loop-byte.number * c.args.base + c.in-Some.digit)
    (drop (c.loop-byte.byte-index + 1) c.args.digits.now) =
    some_digits c.args.base c.args.digits.now (omega arith) ∙ sym c.loop-byte.invariant.1 ∙ step in
    sym (ap (within 0 c.args.most) all
    ∙ beyond c.args.base (c.loop-byte.number * c.args.base + c.in-Some.digit) c.args.most
    (drop (c.loop-byte.byte-index + 1) c.args.digits.now) (omega arith) c.if-number-most.true)
