-- What reading does to the bytes that wait, and to the memory that they are in.
use Rattle.std.proofs.Common.{◌≡◌, ℕ, ◌+◌, ◌-◌, ◌<◌, ◌≤◌, List, ◌++◌, length, take, drop, arith, sym, ap, ◌∙◌}
use Rattle.std.proofs.Common.{length-take-le, length-drop}
use Rattle.std.proofs.lemmas.List.{take-append-le, drop-append-le, drop-take, take_all}
use Rattle.std.proofs.Math.Seq.{take-append-add}
use Rattle.iscsi_pdu.specs.declared.TheConstants.{LONGEST_PDU}
use Rattle.session.specs.{declared.inbox.TheConstants.INBOX_CAPACITY, Inbox.Waits}

-- n bytes of the part behind `filled` come behind the waiting bytes
pub grown_behind : (xs part rest : List ℕ) (start filled n : ℕ) → start ≤ filled → filled ≤ length xs
    → n ≤ length part
    → drop start (take (filled + n) (take filled xs ++ (part ++ rest))) ≡ drop start (take filled xs) ++ take n part
grown_behind xs part rest start filled n order within h =
    let e : length (take filled xs) ≡ filled = length-take-le filled xs within in
    let front : take (filled + n) (take filled xs ++ (part ++ rest)) ≡ take filled xs ++ take n part =
    ap (λ (m : ℕ). take (m + n) (take filled xs ++ (part ++ rest))) (sym e)
    ∙ take-append-add (take filled xs) (part ++ rest) n
    ∙ ap (λ (x : List ℕ). take filled xs ++ x) (take-append-le n part rest h) in
    ap (drop start) front ∙ drop-append-le start (take filled xs) (take n part) (omega (arith, e))

-- ---- the memory behind one read

-- a slice that is as long as its memory is written back as a whole
pub written_back : (n : ℕ) (xs ys : List ℕ) → length xs ≡ n → take n (xs ++ drop (length xs) ys) ≡ xs
written_back n xs ys long =
    take-append-le n xs (drop (length xs) ys) (omega (arith, long)) ∙ take_all n xs (omega (arith, long))

-- bytes that wait are the first of a memory that they were put into, with more behind them
pub moved_over : (start filled capacity : ℕ) (memory bytes now more : List ℕ) → Waits start filled memory → bytes ≡ memory
    → drop start (take filled memory) ≡ now → length now ≤ capacity
    → take (filled - start) (take capacity (take (filled - start) (drop start bytes)) ++ more) ≡ now
moved_over start filled capacity memory bytes now more waits same is few =
    let n = filled - start in
    let whole : start + n ≡ filled = omega (arith, waits.order) in
    let part : take n (drop start memory) ≡ now =
    sym (drop-take start n memory) ∙ ap (λ (m : ℕ). drop start (take m memory)) whole ∙ is in
    let long : length now ≡ n =
    sym (ap length part) ∙ length-take-le n (drop start memory)
    (omega (arith, length-drop start memory, waits.order, waits.within)) in
    ap (λ (z : List ℕ). take n (take capacity (take n (drop start z)) ++ more)) same
    ∙ ap (λ (z : List ℕ). take n (take capacity z ++ more)) part
    ∙ ap (λ (z : List ℕ). take n (z ++ more)) (take_all capacity now few)
    ∙ take-append-le n now more (omega (arith, long)) ∙ take_all n now (omega (arith, long))

pub waits_so : (n r f : ℕ) (xs ys : List ℕ) → length xs ≡ n → LONGEST_PDU ≤ n → n ≤ INBOX_CAPACITY → r ≤ f → f ≤ n
    → Waits r f (take n (xs ++ drop (length xs) ys))
waits_so n r f xs ys long least most order within = rw (written_back n xs ys long) (record {
  order = order;
  within = omega (arith, long, within);
  least = omega (arith, long, least);
  most = omega (arith, long, most);
})

pub few_wait : (r f : ℕ) (memory : List ℕ) → Waits r f memory → length (drop r (take f memory)) ≤ INBOX_CAPACITY
few_wait r f memory k =
    omega (arith, length-drop r (take f memory), length-take-le f memory k.within, k.within, k.most)
