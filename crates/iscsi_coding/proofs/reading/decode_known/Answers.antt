use Rattle.std.proofs.Common.{◌≡◌, ℕ, ◌+◌, ◌-◌, ◌≤◌, ◌<◌, ◌∙◌, length, take, drop, ap, sym, subst, arith}
use Rattle.iscsi_pdu.specs.Number.{three_at}
use Rattle.iscsi_pdu.specs.Spelling.{padded}
use Rattle.iscsi_pdu.specs.Pdu.{IsPdu}
use Rattle.iscsi_coding.proofs.Fronts.{none-whole, none-behind, good-reserved, opcode-target, whole, pad-from, pad-to}
use Rattle.iscsi_coding.proofs.Fronts.{bad-padding}
use Rattle.iscsi_coding.proofs.reading.decode_known.Goals as goal

pub returns-then-bytes-end-clause-found : goal.returns-then-bytes-end-clause-found
returns-then-bytes-end-clause-found c =
    let b = c.args.bytes.now in
    let end : c.padded_length-end.result ≡ padded (three_at b 5) = c.padded_length-end.ensures
    ∙ ap padded c.requires.same_length in
    λ n h d p w. none-whole b n h d (subst (λ (k : ℕ). length b < 48 + k) end c.if-bytes-end.true) p w

pub returns-then-bytes-end-clause-sound : goal.returns-then-bytes-end-clause-sound
returns-then-bytes-end-clause-sound c =
    let b = c.args.bytes.now in
    let end : c.padded_length-end.result ≡ padded (three_at b 5) = c.padded_length-end.ensures
    ∙ ap padded c.requires.same_length in
    let front = c.requires.bhs in
    λ f s. none-behind b c.in_ok-header.header front c.in_ok-header.ensures.found
    (λ bad. absurd (omega (arith, bad.1, end, c.if-bytes-end.true))) f s

pub returns-then-not-is_padding-clause-fault : goal.returns-then-not-is_padding-clause-fault
returns-then-not-is_padding-clause-fault c =
    let b = c.args.bytes.now in
    let h = c.in_ok-header.header in
    let fields = c.in_ok-header.ensures.found in
    let end : c.padded_length-end.result ≡ padded (three_at b 5) = c.padded_length-end.ensures
    ∙ ap padded c.requires.same_length in
    let fits : 48 + padded (three_at b 5) ≤ length b = subst (λ (k : ℕ). 48 + k ≤ length b) end c.if-bytes-end.false in
    let front = c.requires.bhs in
    let wrong = c.is_padding.ensures.wrong c.if-not-is_padding.true in (
      front,
      good-reserved h b fields,
      (
        opcode-target h b wrong.0 fields,
        fits,
        λ e. wrong.1
            (pad-to b (three_at b 5) c.args.len c.padded_length-end.result c.requires.same_length end fits e),
      ),
    )

pub returns-clause-found : goal.returns-clause-found
returns-clause-found c =
    let b = c.args.bytes.now in
    let h = c.in_ok-header.header in
    let end : c.padded_length-end.result ≡ padded (three_at b 5) = c.padded_length-end.ensures
    ∙ ap padded c.requires.same_length in
    let fits : 48 + padded (three_at b 5) ≤ length b = subst (λ (k : ℕ). 48 + k ≤ length b) end c.if-bytes-end.false in
    let front = c.requires.bhs in
    let pdu = whole b h front c.in_ok-header.ensures.found fits
    (λ t. pad-from b (three_at b 5) c.args.len c.padded_length-end.result c.requires.same_length end fits
    (c.is_padding.ensures.right c.if-not-is_padding.false t)) in (
      c.if-bytes-end.false,
      subst (λ (k : ℕ). IsPdu (take (48 + k) b) h (take (48 + c.args.len - 48) (drop 48 b))) (sym end)
          (subst (λ (k : ℕ). IsPdu (take (48 + padded (three_at b 5)) b) h (take (48 + k - 48) (drop 48 b)))
          (sym c.requires.same_length) pdu),
    )

pub returns-clause-sound : goal.returns-clause-sound
returns-clause-sound c =
    let b = c.args.bytes.now in
    let h = c.in_ok-header.header in
    let fields = c.in_ok-header.ensures.found in
    let end : c.padded_length-end.result ≡ padded (three_at b 5) = c.padded_length-end.ensures
    ∙ ap padded c.requires.same_length in
    let front = c.requires.bhs in
    λ f s. none-behind b h front fields (λ bad. bad-padding b h fields bad
    (λ t. pad-from b (three_at b 5) c.args.len c.padded_length-end.result c.requires.same_length end bad.1
    (c.is_padding.ensures.right c.if-not-is_padding.false t))) f s
