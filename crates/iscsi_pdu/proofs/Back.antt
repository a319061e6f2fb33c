-- What is written at a place of a BHS is read there again.
use Rattle.std.proofs.Common.{◌≡◌, ℕ, ◌+◌, ◌/◌, ◌%◌, ◌<◌, Bool, true, false, nat_eq}
use Rattle.std.proofs.Common.{List, ◌++◌, drop, refl, sym, ap, ◌∙◌, arith}
use Rattle.std.proofs.lemmas.Bool.Decides.{nat_tests}
use Rattle.byteorder.specs.Endian.{big_number}
use Rattle.byteorder.specs.Numbers.{big_number-reads_back}
use Rattle.iscsi_pdu.specs.declared.header.CommandNumbers.{CommandNumbers}
use Rattle.iscsi_pdu.specs.declared.header.Numbers.{Numbers}
use Rattle.iscsi_pdu.specs.Number.{half_at, word_at}
use Rattle.iscsi_pdu.specs.Fields.{command_numbers_at, numbers_at}
use Rattle.iscsi_pdu.specs.Spelling.{flag, half, word, command_flags, login_flags}
use Rattle.iscsi_pdu.proofs.Cells.{cells-whole}
use Rattle.iscsi_pdu.specs.Range.{IsHalf, IsWord, AreCommandNumbers, AreNumbers}

pub word-back : (b : List ℕ) (at x : ℕ) → drop at b ≡ word x ++ drop (at + 4) b → IsWord x → x ≡ word_at b at
unfolding word_at
word-back b at x e lt = sym (ap (big_number 4) e ∙ big_number-reads_back 4 x (drop (at + 4) b) lt)

pub half-back : (b : List ℕ) (at x : ℕ) → drop at b ≡ half x ++ drop (at + 2) b → IsHalf x → x ≡ half_at b at
unfolding half_at
half-back b at x e lt = sym (ap (big_number 2) e ∙ big_number-reads_back 2 x (drop (at + 2) b) lt)

pub command_numbers-back : (b : List ℕ) (n : CommandNumbers) → drop 24 b ≡ word n.cmd_sn ++ drop 28 b
    → drop 28 b ≡ word n.exp_stat_sn ++ drop 32 b
    → AreCommandNumbers n → n ≡ command_numbers_at b
command_numbers-back b n e f r = λ i. record {
  cmd_sn = word-back b 24 n.cmd_sn e r.cmd_sn i;
  exp_stat_sn = word-back b 28 n.exp_stat_sn f r.exp_stat_sn i;
}

pub numbers-back : (b : List ℕ) (n : Numbers) → drop 24 b ≡ word n.stat_sn ++ drop 28 b
    → drop 28 b ≡ word n.exp_cmd_sn ++ drop 32 b → drop 32 b ≡ word n.max_cmd_sn ++ drop 36 b → AreNumbers n
    → n ≡ numbers_at b
numbers-back b n e f g r = λ i. record {
  stat_sn = word-back b 24 n.stat_sn e r.stat_sn i;
  exp_cmd_sn = word-back b 28 n.exp_cmd_sn f r.exp_cmd_sn i;
  max_cmd_sn = word-back b 32 n.max_cmd_sn g r.max_cmd_sn i;
}

-- byte 0: the immediate bit and the opcode, which is of six bits
pub immediate-back : (x : Bool) (k : ℕ) → k % 64 ≡ k → x ≡ nat_eq ((k + flag x 64) / 64 % 2) 1
immediate-back true k h = let e : (k + 64) / 64 % 2 ≡ 1 = omega arith in rw e refl
immediate-back false k h = let e : (k + 0) / 64 % 2 ≡ 0 = omega arith in rw e refl

pub opcode-back : (x : Bool) (k : ℕ) → k % 64 ≡ k → (k + flag x 64) % 64 ≡ k
opcode-back true k h = omega arith
opcode-back false k h = omega arith

-- the same of a NOP-Out, whose opcode is 0
pub lone_immediate-back : (x : Bool) → x ≡ nat_eq (flag x 64 / 64 % 2) 1
lone_immediate-back true = refl
lone_immediate-back false = refl

pub lone_opcode-back : (x : Bool) → flag x 64 % 64 ≡ 0
lone_opcode-back true = refl
lone_opcode-back false = refl

-- byte 1 of a SCSI Command
pub final-back : (r w : Bool) (a : ℕ) → nat_eq (command_flags r w a / 128 % 2) 1 ≡ true
final-back r w a = grind (arith, nat_tests)

pub read-back : (r w : Bool) (a : ℕ) → r ≡ nat_eq (command_flags r w a / 64 % 2) 1
read-back r w a = grind (arith, nat_tests)

pub write-back : (r w : Bool) (a : ℕ) → w ≡ nat_eq (command_flags r w a / 32 % 2) 1
write-back r w a = grind (arith, nat_tests)

pub attribute-back : (r w : Bool) (a : ℕ) → a < 8 → a ≡ command_flags r w a % 8
attribute-back r w a h = grind (arith, nat_tests)

-- byte 1 of Task Management and Logout: seven bits
pub seven-back : (n : ℕ) → n < 128 → n ≡ (128 + n % 128) % 128
seven-back n h = omega arith

-- byte 1 of a login
pub transit-back : (t c : Bool) (x y : ℕ) → t ≡ nat_eq (login_flags t c x y / 128 % 2) 1
transit-back t c x y = grind (arith, nat_tests)

pub login_continues-back : (t c : Bool) (x y : ℕ) → c ≡ nat_eq (login_flags t c x y / 64 % 2) 1
login_continues-back t c x y = grind (arith, nat_tests)

pub current-back : (t c : Bool) (x y : ℕ) → x < 4 → x ≡ login_flags t c x y / 4 % 4
current-back t c x y h = grind (arith, nat_tests)

pub next-back : (t c : Bool) (x y : ℕ) → y < 4 → y ≡ login_flags t c x y % 4
next-back t c x y h = grind (arith, nat_tests)

-- byte 1 of a Text Request, of data, of a SCSI Response
pub text_last-back : (l c : Bool) → l ≡ nat_eq ((flag l 128 + flag c 64) / 128 % 2) 1
text_last-back l c = grind (arith, nat_tests)

pub text_continues-back : (l c : Bool) → c ≡ nat_eq ((flag l 128 + flag c 64) / 64 % 2) 1
text_continues-back l c = grind (arith, nat_tests)

pub last-back : (l : Bool) → l ≡ nat_eq (flag l 128 / 128 % 2) 1
last-back true = refl
last-back false = refl

pub overflow-back : (o u : Bool) → o ≡ nat_eq ((128 + flag o 4 + flag u 2) / 4 % 2) 1
overflow-back o u = grind (arith, nat_tests)

pub underflow-back : (o u : Bool) → u ≡ nat_eq ((128 + flag o 4 + flag u 2) / 2 % 2) 1
underflow-back o u = grind (arith, nat_tests)

-- what both an initiator's and a target's fields want
pub ruleset backs = (
  refl,
  cells-whole,
  word-back,
  half-back,
  transit-back,
  login_continues-back,
  current-back,
  next-back,
  last-back,
)
