use Rattle.std.proofs.Common.{◌≡◌, ℕ, ◌+◌, ◌<◌, List, ◌∷◌, ◌++◌, length, ap, arith, length-append}
use Rattle.login.specs.declared.status.SessionType.{SessionType}
use Rattle.login.specs.Text.{Pair}
use Rattle.login.specs.Targets.{answer_of, answers_of}
use Rattle.login.proofs.within.answered_within.Goals as goal

-- an answer without room leaves none for it and what is behind it
too_long : (target : List ℕ) (kind : SessionType) (told : List ℕ) (p : Pair) (ps qs : List Pair)
    (out start all : List ℕ) (most : ℕ) → out ++ answers_of target kind told ps ≡ start ++ all → ps ≡ p ∷ qs
    → most < length out + length (answer_of target kind told p.key p.value) → most < length start + length all
too_long target kind told p ps qs out start all most put some more =
    let here : List ℕ = answer_of target kind told p.key p.value in
    let behind : List ℕ = answers_of target kind told qs in
    let parts : answers_of target kind told ps ≡ here ++ behind = ap (answers_of target kind told) some in
    omega (
      arith,
      more,
      ap length put,
      ap length parts,
      length-append out
          (answers_of target kind told ps),
      length-append start all,
      length-append here behind,
    )

pub returns-then-not-answer_one-clause-put : goal.returns-then-not-answer_one-clause-put
returns-then-not-answer_one-clause-put c =
    too_long _ _ _ (record { key = c.in-Some.first.key.now; value = c.in-Some.first.value.now }) _ _
    c.loop-first.out.items _ _ _ c.loop-first.invariant.put c.in-Some.ensures.some c.if-not-answer_one.ensures.put
