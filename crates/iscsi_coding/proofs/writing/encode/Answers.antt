use Rattle.std.proofs.Common.{◌≡◌, ℕ, ◌-◌, ◌≤◌, ◌∙◌, List, ◌++◌, length, take, ap, sym, arith, Result, Ok, Err}
use Rattle.std.proofs.Common.{OnErr, OnOk, append_assoc, cond, refl, zero, suc, [], ◌∷◌}
use Rattle.std.specs.Result.{is_ok}
use Rattle.iscsi_pdu.specs.Spelling.{padded, zeros, spelling, bhs}
use Rattle.iscsi_pdu.proofs.Grammar.{length-spelling}
use Rattle.iscsi_coding.proofs.writing.encode.Goals as goal

on-err : {T E P : Type 0} (r : Result T E) → P → OnErr r P
on-err (Ok x) p = tt
on-err (Err e) p = p

pub returns-in_err-try_reserve-clause-full : goal.returns-in_err-try_reserve-clause-full
returns-in_err-try_reserve-clause-full c = on-err c.from_residual.result
    (omega (arith, c.in_err-try_reserve.ensures.full, c.padded_length-padded.ensures))

pub returns-in_err-try_reserve-clause-size : goal.returns-in_err-try_reserve-clause-size
returns-in_err-try_reserve-clause-size c = length-spelling c.args.pdu.now.header c.args.pdu.now.data.now
    (ap length (sym c.spell_bhs-bhs.ensures) ∙ omega arith)

pub returns-clause-size : goal.returns-clause-size
returns-clause-size c = length-spelling c.args.pdu.now.header c.args.pdu.now.data.now
    (ap length (sym c.spell_bhs-bhs.ensures) ∙ omega arith)

on-ok-append : {T E : Type 0} (r : Result T E) (was now xs zs : List ℕ) → now ≡ cond (is_ok r) (was ++ xs) was
    → was ++ xs ≡ zs → OnOk r (now ≡ zs)
on-ok-append (Ok x) was now xs zs e h = e ∙ h
on-ok-append (Err x) was now xs zs e h = tt

regroup : (o w d z : List ℕ) → o ++ w ++ d ++ z ≡ o ++ (w ++ d ++ z)
regroup o w d z = simp append_assoc

take-zeros : (k : ℕ) → k ≤ 3 → take k (0 ∷ 0 ∷ 0 ∷ []) ≡ zeros k
take-zeros zero h = refl
take-zeros (suc zero) h = refl
take-zeros (suc (suc zero)) h = refl
take-zeros (suc (suc (suc zero))) h = refl
take-zeros (suc (suc (suc (suc k)))) h = absurd (omega arith)

pub returns-clause-ok : goal.returns-clause-ok
unfolding spelling
returns-clause-ok c =
    let o = c.args.out.now.items in
    let h = c.args.pdu.now.header in
    let d = c.args.pdu.now.data.now in
    let w : List ℕ = bhs h (length d) in
    let k : ℕ = c.padded_length-padded.result - length d in
    let pad : take k (0 ∷ 0 ∷ 0 ∷ []) ≡ zeros (padded (length d) - length d) = take-zeros k
    (omega (arith, c.padded_length-padded.ensures))
    ∙ ap (λ (m : ℕ). zeros (m - length d)) c.padded_length-padded.ensures in
    let e1 : c.extend_from_slice.new.self.items ≡ o ++ w = c.in_ok-extend_from_slice.ensures.items
    ∙ ap (λ (x : List ℕ). x ++ c.spell_bhs-bhs.result) c.in_ok-try_reserve.ensures.items
    ∙ ap (λ (x : List ℕ). o ++ x) c.spell_bhs-bhs.ensures in
    let e2 : c.extend_from_slice-2.new.self.items ≡ o ++ w ++ d = c.in_ok-extend_from_slice-2.ensures.items
    ∙ ap (λ (x : List ℕ). x ++ d) e1 in
    let joined : c.extend_from_slice-2.new.self.items ++ take k (0 ∷ 0 ∷ 0 ∷ []) ≡ o ++
    (w ++ d ++ zeros (padded (length d) - length d)) =
    ap (λ (x : List ℕ). x ++ take k (0 ∷ 0 ∷ 0 ∷ [])) e2 ∙ ap (λ (x : List ℕ). o ++ w ++ d ++ x) pad
    ∙ regroup o w d (zeros (padded (length d) - length d)) in
    on-ok-append c.extend_from_slice-3.result c.extend_from_slice-2.new.self.items c.extend_from_slice-3.new.self.items
    (take k (0 ∷ 0 ∷ 0 ∷ [])) (o ++
    (w ++ d ++ zeros (padded (length d) - length d))) c.extend_from_slice-3.ensures.items joined
