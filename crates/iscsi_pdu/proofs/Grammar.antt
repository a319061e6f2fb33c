-- No spelling of a PDU begins another's, bytes spell one PDU at most, and a target's PDU has one spelling.
use Rattle.std.proofs.Common.{◌≡◌, ℕ, ◌+◌, ◌-◌, ◌/◌, ◌%◌, ◌^◌, Bool, true, nat_eq, inl, inr, ◌<◌, ◌≤◌, List}
use Rattle.std.proofs.Common.{◌++◌, length, get_or, take, drop, refl, sym, ap, subst, ◌∙◌, arith, append_assoc}
use Rattle.std.proofs.Common.{length-append, length-drop, length-take-le}
use Rattle.std.proofs.Math.ListN.{get_or-append}
use Rattle.std.proofs.lemmas.List.{take_at, drop_at, get_or-take, get_or-drop, drop-drop, take-append-drop}
use Rattle.std.proofs.lemmas.List.{length-replicate}
use Rattle.std.specs.Prelude.{IsTrue, slice_index, slice_range}
use Rattle.iscsi_pdu.specs.Headers.{Header, Initiator, Target, InitiatorHeader, NopOut, ScsiCommand}
use Rattle.iscsi_pdu.specs.Headers.{TaskManagementRequest, LoginRequest, TextRequest, DataOut, LogoutRequest}
use Rattle.iscsi_pdu.specs.Headers.{TargetHeader}
use Rattle.iscsi_pdu.specs.declared.TheConstants.{MAX_DATA_SEGMENT_LENGTH}
use Rattle.iscsi_pdu.specs.Number.{three_at}
use Rattle.iscsi_pdu.specs.Fields.{HasBadFlags}
use Rattle.iscsi_pdu.specs.Spelling.{command_flags, initiator_bhs, target_bhs, bhs, padded, zeros, spelling}
use Rattle.iscsi_pdu.specs.Range.{IsInitiatorInRange, IsInRange}
use Rattle.iscsi_pdu.specs.Pdu.{HasFields, IsPdu}
use Rattle.iscsi_pdu.proofs.Back.{final-back, read-back, write-back}
use Rattle.iscsi_pdu.proofs.InitiatorSays.{initiator-says}
use Rattle.iscsi_pdu.proofs.TargetSays.{target-says}
use Rattle.iscsi_pdu.proofs.OneHeader.{one-initiator, one-target, initiator-opcode, target-opcode}
use Rattle.iscsi_pdu.proofs.Parts.{has-parts, told-length}

three-same : (a b : List ℕ) (at : ℕ) → ((k : ℕ) → k < at + 3 → get_or a k 0 ≡ get_or b k 0)
    → three_at a at ≡ three_at b at
unfolding three_at
three-same a b at same =
    let cell = λ (k : ℕ) (h : at + k < at + 3). get_or-drop at a k 0 ∙ same (at + k) h ∙ sym (get_or-drop at b k 0) in
    rw (cell 0 (omega arith), cell 1 (omega arith), cell 2 (omega arith)) refl

-- a front tells the number that it holds
pub three-take : (b : List ℕ) (n at : ℕ) → at + 3 ≤ n → three_at (take n b) at ≡ three_at b at
three-take b n at h = three-same (take n b) b at (λ k lt. get_or-take n b k 0 (omega arith))

pub three-front : (a x : List ℕ) (at : ℕ) → at + 3 ≤ length a → three_at (a ++ x) at ≡ three_at a at
three-front a x at h = three-same (a ++ x) a at (λ k lt. get_or-append a x 0 k (omega arith))

-- No spelling of a PDU begins the spelling of another.
pub one_front : (a b x y : List ℕ) (h k : Header) (d e : List ℕ) → IsPdu a h d → IsPdu b k e → a ++ x ≡ b ++ y → a ≡ b
one_front a b x y h k d e p q same =
    let len : three_at a 5 ≡ three_at b 5 = sym (three-front a x 5 (omega (arith, p.long)))
    ∙ ap (λ (z : List ℕ). three_at z 5) same ∙ three-front b y 5 (omega (arith, q.long)) in
    let long : length a ≡ length b = p.size ∙ ap (λ (m : ℕ). 48 + padded m) len ∙ sym q.size in
    sym (take_at a x (length b) long) ∙ ap (take (length b)) same ∙ take_at b y (length b) refl

-- Bytes spell one PDU at most.
one-header : (b : List ℕ) (h k : Header) → HasFields b h → HasFields b k → h ≡ k
one-header b (Initiator h) (Initiator k) x y = ap Initiator (one-initiator b h k x.0 y.0)
one-header b (Initiator h) (Target k) x y = absurd (omega (arith, initiator-opcode b h x.0, target-opcode b k y.0))
one-header b (Target h) (Initiator k) x y = absurd (omega (arith, target-opcode b h x.0, initiator-opcode b k y.0))
one-header b (Target h) (Target k) x y = ap Target (one-target b h k x.0 y.0)

pub one_pdu : (b : List ℕ) (h k : Header) (d e : List ℕ) → IsPdu b h d → IsPdu b k e → (h ≡ k) × (d ≡ e)
one_pdu b h k d e p q = (one-header (take 48 b) h k p.fields q.fields, p.same_data ∙ sym q.same_data)

pub length-zeros : (n : ℕ) → length (zeros n) ≡ n
length-zeros n = length-replicate n 0

-- a PDU takes its BHS, and its data with padding
pub length-spelling : (h : Header) (d : List ℕ) → length (bhs h (length d)) ≡ 48
    → length (spelling h d) ≡ 48 + padded (length d)
unfolding spelling
length-spelling h d wide =
    let w : List ℕ = bhs h (length d) in
    let z : List ℕ = zeros (padded (length d) - length d) in
    omega (arith, length-append (w ++ d) z, length-append w d, wide, length-zeros (padded (length d) - length d))

data-place : (b : List ℕ) (n : ℕ) → slice_range b 48 (48 + n) ≡ take n (drop 48 b)
data-place b n = ap (λ (k : ℕ). take k (drop 48 b)) (omega arith)

-- the flags of the BHS that is written of a header are right
right-flags : (b : List ℕ) (r w : Bool) (a : ℕ) → slice_index b 1 ≡ command_flags r w a
    → (IsTrue r → IsTrue w → ⊥) → HasBadFlags b → ⊥
right-flags b r w a e one (o, inl x) =
    let f = final-back r w a in
    let g = ap (λ (n : ℕ). nat_eq (n / 128 % 2) 1) e in
    cc
right-flags b r w a e one (o, inr (x, y)) =
    let read : r ≡ true = read-back r w a ∙ sym (ap (λ (n : ℕ). nat_eq (n / 64 % 2) 1) e) ∙ x in
    let write : w ≡ true = write-back r w a ∙ sym (ap (λ (n : ℕ). nat_eq (n / 32 % 2) 1) e) ∙ y in
    one read write

flags-right : (h : InitiatorHeader) (n : ℕ) → IsInitiatorInRange h → HasBadFlags (initiator_bhs h n) → ⊥
unfolding initiator_bhs
flags-right (NopOut p) n r bad = omega (arith, bad.0, (initiator-says (NopOut p) n r).0)
flags-right (ScsiCommand p) n r bad =
    right-flags (initiator_bhs (ScsiCommand p) n) p.read p.write p.attribute refl r.0 bad
flags-right (TaskManagementRequest p) n r bad = omega (arith, bad.0, (initiator-says (TaskManagementRequest p) n r).0)
flags-right (LoginRequest p) n r bad = omega (arith, bad.0)
flags-right (TextRequest p) n r bad = omega (arith, bad.0, (initiator-says (TextRequest p) n r).0)
flags-right (DataOut p) n r bad = omega (arith, bad.0)
flags-right (LogoutRequest p) n r bad = omega (arith, bad.0, (initiator-says (LogoutRequest p) n r).0)

says : (h : Header) (n : ℕ) → n < 2 ^ 24 → IsInRange h → HasFields (bhs h n) h
says (Initiator h) n lt r = (initiator-says h n r, flags-right h n r)
says (Target h) n lt r = (
  target-says h n r,
  ap (target_bhs h)
      (sym (told-length (target_bhs h n) n (has-parts (Target h) n) lt)),
)

-- What `spelling` gives of a header whose fields are in range spells it.
pub spelled : (h : Header) (d : List ℕ) → IsInRange h → length d ≤ MAX_DATA_SEGMENT_LENGTH → IsPdu (spelling h d) h d
unfolding spelling
spelled h d range within =
    let n : ℕ = length d in
    let w : List ℕ = bhs h n in
    let z : List ℕ = zeros (padded n - n) in
    let b : List ℕ = w ++ d ++ z in
    let wide : length w ≡ 48 = (has-parts h n).long in
    let told : three_at w 5 ≡ n = told-length w n (has-parts h n) (omega arith) in
    let parts : b ≡ w ++ (d ++ z) = append_assoc w d z in
    let front : take 48 b ≡ w = ap (take 48) parts ∙ take_at w (d ++ z) 48 wide in
    let rest : drop 48 b ≡ d ++ z = ap (drop 48) parts ∙ drop_at w (d ++ z) 48 wide in
    let len : three_at b 5 ≡ n = ap (λ (x : List ℕ). three_at x 5) parts
    ∙ three-front w (d ++ z) 5 (omega (arith, wide)) ∙ told in
    let size : length b ≡ 48 + padded n = length-spelling h d wide in
    record {
      long = omega (arith, size);
      no_ahs = ap (λ (x : List ℕ). slice_index x 4) parts ∙ get_or-append w (d ++ z) 0 4 (omega (arith, wide))
          ∙ (has-parts h n).no_ahs;
      limit = omega (arith, len);
      size = size ∙ ap (λ (m : ℕ). 48 + padded m) (sym len);
      fields = subst (λ (x : List ℕ). HasFields x h) (sym front) (says h n (omega arith) range);
      same_data = sym (ap (λ (m : ℕ). slice_range b 48 (48 + m)) len ∙ data-place b n ∙ ap (take n) rest
          ∙ take_at d z n refl);
      padding = λ _. ap (λ (m : ℕ). drop (48 + m) b) len ∙ sym (drop-drop n 48 b) ∙ ap (drop n) rest
          ∙ drop_at d z n refl ∙ ap (λ (m : ℕ). zeros (padded m - m)) (sym len);
    }

-- A target's PDU has one spelling.
pub one_spelling : (b : List ℕ) (h : TargetHeader) (d : List ℕ) → IsPdu b (Target h) d → b ≡ spelling (Target h) d
unfolding spelling
one_spelling b h d p =
    let n : ℕ = three_at b 5 in
    let rest : List ℕ = drop 48 b in
    let front : take 48 b ≡ target_bhs h n = p.fields.1 ∙ ap (target_bhs h) (three-take b 48 5 (omega arith)) in
    let fit : n ≤ length rest = omega (arith, length-drop 48 b, p.size) in
    let data-is : d ≡ take n rest = p.same_data ∙ data-place b n in
    let len : length d ≡ n = ap length data-is ∙ length-take-le n rest fit in
    let pad : drop n rest ≡ zeros (padded n - n) = drop-drop n 48 b ∙ p.padding tt in
    sym (take-append-drop 48 b) ∙ ap (λ (x : List ℕ). take 48 b ++ x) (sym (take-append-drop n rest))
    ∙ ap (λ (x : List ℕ). x ++ (take n rest ++ drop n rest)) front
    ∙ ap (λ (x : List ℕ). target_bhs h n ++ (x ++ drop n rest)) (sym data-is)
    ∙ ap (λ (x : List ℕ). target_bhs h n ++ (d ++ x)) pad
    ∙ sym (append_assoc (target_bhs h n) d (zeros (padded n - n)))
    ∙ ap (λ (m : ℕ). target_bhs h m ++ d ++ zeros (padded m - m)) (sym len)
