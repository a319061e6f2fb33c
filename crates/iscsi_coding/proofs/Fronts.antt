-- The header at the front of the bytes, and what faults stand behind it.
use Rattle.std.proofs.Common.{◌≡◌, ℕ, ◌+◌, ◌-◌, ◌%◌, ◌<◌, ◌≤◌, List, length, take, drop, sym, ap, subst, ◌∙◌}
use Rattle.std.proofs.Common.{arith, length-drop, length-take-le}
use Rattle.std.proofs.lemmas.List.{get_or-take, take-take, drop-take}
use Rattle.std.specs.Prelude.{slice_index, slice_range}
use Rattle.iscsi_pdu.specs.declared.fault.PduFault.{PduFault}
use Rattle.iscsi_pdu.specs.declared.fault.PduFault.TheVariants.{UnknownOpcode, HasAhs, TooLong, BadFlags}
use Rattle.iscsi_pdu.specs.declared.fault.PduFault.TheVariants.{BadReserved, NonZeroPad}
use Rattle.iscsi_pdu.specs.declared.header.Header.{Header}
use Rattle.iscsi_pdu.specs.declared.header.Header.TheVariants.{Initiator, Target}
use Rattle.iscsi_pdu.specs.declared.header.InitiatorHeader.{InitiatorHeader}
use Rattle.iscsi_pdu.specs.Number.{three_at}
use Rattle.iscsi_pdu.specs.Spelling.{padded, zeros}
use Rattle.iscsi_pdu.specs.Fields.{opcode_of, HasBadFlags}
use Rattle.iscsi_pdu.specs.Pdu.{IsTarget, HasFields, IsPdu}
use Rattle.iscsi_pdu.specs.Fault.{IsInitiatorOpcode, IsTargetOpcode, HasBadReserved, HasBadPadding, HasBhs, Stands}
use Rattle.iscsi_pdu.proofs.Grammar.{three-take}
use Rattle.iscsi_pdu.proofs.OneHeader.{initiator-opcode, target-opcode}

pub index-take : (b : List ℕ) (n k : ℕ) → k < n → slice_index (take n b) k ≡ slice_index b k
index-take b n k h = get_or-take n b k 0 h

opcode-take : (b : List ℕ) → opcode_of (take 48 b) ≡ opcode_of b
opcode-take b = ap (λ (x : ℕ). x % 64) (index-take b 48 0 (omega arith))

-- a fault of the front is one of the whole, and the other way round
pub flags-front : (b : List ℕ) → HasBadFlags b → HasBadFlags (take 48 b)
flags-front b bad = rw (index-take b 48 0 (omega arith), index-take b 48 1 (omega arith)) bad

pub bad-reserved-stands : (b : List ℕ) (f : PduFault) → HasBhs b → (f ≡ BadReserved) × HasBadReserved (take 48 b)
    → Stands b f
bad-reserved-stands b f front (is, (target, none)) =
    subst (Stands b) (sym is) (
      front,
      (
        subst IsTargetOpcode (opcode-take b) target,
        λ h e. none h
            (subst (λ (x : List ℕ). HasFields x (Target h)) (sym (take-take 48 48 b (omega arith))) e),
      ),
    )

-- the fields are read, so neither fault of a BHS stands
pub opcode-target : (h : Header) (b : List ℕ) → IsTarget h → HasFields (take 48 b) h → IsTargetOpcode (opcode_of b)
opcode-target (Initiator h) b t fields = absurd t
opcode-target (Target h) b t fields = subst IsTargetOpcode (opcode-take b) (target-opcode (take 48 b) h fields.0)

opcode-initiator : (h : InitiatorHeader) (b : List ℕ) → HasFields (take 48 b) (Initiator h)
    → IsInitiatorOpcode (opcode_of b)
opcode-initiator h b fields = subst IsInitiatorOpcode (opcode-take b) (initiator-opcode (take 48 b) h fields.0)

pub good-reserved : (h : Header) (b : List ℕ) → HasFields (take 48 b) h → HasBadReserved b → ⊥
good-reserved (Initiator h) b fields bad = let op = opcode-initiator h b fields in omega (arith, op, bad.0)
good-reserved (Target h) b fields bad = bad.1 h fields

pub good-flags : (h : Header) (b : List ℕ) → HasFields (take 48 b) h → HasBadFlags b → ⊥
good-flags (Initiator h) b fields bad = fields.1 (flags-front b bad)
good-flags (Target h) b fields bad = let op = opcode-target (Target h) b tt fields in omega (arith, op, bad.0)

-- where the fields are read, nothing but the padding can be wrong
pub none-behind : (b : List ℕ) (h : Header) → HasBhs b → HasFields (take 48 b) h → (HasBadPadding b → ⊥)
    → (f : PduFault) → Stands b f → ⊥
none-behind b h front fields pad UnknownOpcode s = s.1 front.known
none-behind b h front fields pad HasAhs s = s.2 front.no_ahs
none-behind b h front fields pad TooLong s = omega (arith, s.3, front.limit)
none-behind b h front fields pad BadFlags s = good-flags h b fields s.1
none-behind b h front fields pad BadReserved s = good-reserved h b fields s.1
none-behind b h front fields pad NonZeroPad s = pad s.2

-- a PDU is as long as its header says
pub none-whole : (b : List ℕ) (n : ℕ) (h : Header) (d : List ℕ) → length b < 48 + padded (three_at b 5)
    → IsPdu (take n b) h d → n ≤ length b → ⊥
none-whole b n h d short p within =
    let long : length (take n b) ≡ n = length-take-le n b within in
    let same = three-take b n 5 (omega (arith, p.long, long)) in
    let size : n ≡ 48 + padded (three_at b 5) = sym long ∙ p.size ∙ ap (λ (k : ℕ). 48 + padded k) same in
    absurd (omega (arith, size, short, within))

le-padded : (n : ℕ) → n ≤ padded n
le-padded n = omega arith

pub data-is : (b : List ℕ) (len : ℕ)
    → take (48 + len - 48) (drop 48 b) ≡ slice_range (take (48 + padded len) b) 48 (48 + len)
data-is b len =
    let le = le-padded len in
    let inner : drop 48 (take (48 + padded len) b) ≡ take (padded len) (drop 48 b) = drop-take 48 (padded len) b in
    sym (ap (take (48 + len - 48)) inner ∙ take-take (48 + len - 48) (padded len) (drop 48 b) (omega arith))

-- the padding, in the bytes and in the PDU
pub padding-is : (b : List ℕ) (len : ℕ)
    → drop (48 + len) (take (48 + padded len) b) ≡ slice_range b (48 + len) (48 + padded len)
padding-is b len =
    let le = le-padded len in
    ap (λ (k : ℕ). drop (48 + len) (take k b)) (omega arith) ∙ drop-take (48 + len) (padded len - len) b
    ∙ ap (λ (k : ℕ). take k (drop (48 + len) b)) (omega arith)

-- A PDU with this header stands at the front, where its padding is right.
pub whole : (b : List ℕ) (h : Header) → HasBhs b → HasFields (take 48 b) h → 48 + padded (three_at b 5) ≤ length b
    → (IsTarget h → slice_range b (48 + three_at b 5) (48 + padded (three_at b 5)) ≡ zeros
    (padded (three_at b 5) - three_at b 5))
    → IsPdu (take (48 + padded (three_at b 5)) b) h (take (48 + three_at b 5 - 48) (drop 48 b))
whole b h front fields fits pad =
    let len : ℕ = three_at b 5 in
    let size : ℕ = 48 + padded len in
    let same : three_at (take size b) 5 ≡ len = three-take b size 5 (omega arith) in
    record {
      long = omega (arith, length-take-le size b fits);
      no_ahs = index-take b size 4 (omega arith) ∙ front.no_ahs;
      limit = omega (arith, same, front.limit);
      size = length-take-le size b fits ∙ ap (λ (k : ℕ). 48 + padded k) (sym same);
      fields = subst (λ (z : List ℕ). HasFields z h) (sym (take-take 48 size b (omega arith))) fields;
      same_data = data-is b len ∙ ap (λ (k : ℕ). slice_range (take size b) 48 (48 + k)) (sym same);
      padding = λ t. ap (λ (k : ℕ). drop (48 + k) (take size b)) same ∙ padding-is b len ∙ pad t
          ∙ ap (λ (k : ℕ). zeros (padded k - k)) (sym same);
    }

pad-length : (b : List ℕ) (n : ℕ) → 48 + padded n ≤ length b
    → length (slice_range b (48 + n) (48 + padded n)) ≡ padded n - n
pad-length b n fits =
    let le = le-padded n in
    length-take-le (48 + padded n - (48 + n)) (drop (48 + n) b) (omega (arith, length-drop (48 + n) b)) ∙ omega arith

-- the test on the padding, at the numbers that the code has for its ends
pub pad-from : (b : List ℕ) (n x y : ℕ) → x ≡ n → y ≡ padded n → 48 + padded n ≤ length b
    → slice_range b (48 + x) (48 + y) ≡ zeros (length (slice_range b (48 + x) (48 + y)))
    → slice_range b (48 + n) (48 + padded n) ≡ zeros (padded n - n)
pad-from b n x y ex ey fits e =
    let p = λ (i j : ℕ). slice_range b (48 + i) (48 + j) in
    ap (λ (i : ℕ). p i (padded n)) (sym ex) ∙ ap (p x) (sym ey) ∙ e ∙ ap (λ (j : ℕ). zeros (length (p x j))) ey
    ∙ ap (λ (i : ℕ). zeros (length (p i (padded n)))) ex ∙ ap zeros (pad-length b n fits)

pub pad-to : (b : List ℕ) (n x y : ℕ) → x ≡ n → y ≡ padded n → 48 + padded n ≤ length b
    → slice_range b (48 + n) (48 + padded n) ≡ zeros (padded n - n)
    → slice_range b (48 + x) (48 + y) ≡ zeros (length (slice_range b (48 + x) (48 + y)))
pad-to b n x y ex ey fits e =
    let p = λ (i j : ℕ). slice_range b (48 + i) (48 + j) in
    ap (p x) ey ∙ ap (λ (i : ℕ). p i (padded n)) ex ∙ e
    ∙ sym (ap (λ (j : ℕ). zeros (length (p x j))) ey ∙ ap (λ (i : ℕ). zeros (length (p i (padded n)))) ex
    ∙ ap zeros (pad-length b n fits))

-- padding that is right where the header is a target's is not wrong
pub bad-padding : (b : List ℕ) (h : Header) → HasFields (take 48 b) h → HasBadPadding b
    → (IsTarget h → slice_range b (48 + three_at b 5) (48 + padded (three_at b 5)) ≡ zeros
    (padded (three_at b 5) - three_at b 5)) → ⊥
bad-padding b (Initiator h) fields bad right = let op = opcode-initiator h b fields in omega (arith, op, bad.0)
bad-padding b (Target h) fields bad right = bad.2 (right tt)
