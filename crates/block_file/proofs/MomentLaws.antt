-- Time over one call of a device after another.
use Rattle.std.proofs.Common.{◌≡◌, inl, inr, ⊎_elim, ℕ, List, ◌∙◌, arith}
use Rattle.block_file.specs.Disk.{NoMore, MayLeave}
use Rattle.block_file.specs.Moment.{Elapses, TimePasses, StopsAmong}

-- no call
pub no_time : (now : ℕ) (past : ℕ → List (List ℕ) → Type 0) (leave : List (List ℕ) → Type 0)
    → Elapses now now past past leave
no_time now past leave =
    record { later = omega arith; nothing_else = λ t disk le left. inl left; keeps = λ t disk le left. left }

-- calls, and then more, which leave nothing else
pub then_elapses : (a b c : ℕ) (past mid since : ℕ → List (List ℕ) → Type 0) (leave more : List (List ℕ) → Type 0)
    → Elapses a b past mid leave → Elapses b c mid since more → ((disk : List (List ℕ)) → more disk → leave disk)
    → Elapses a c past since leave
then_elapses a b c past mid since leave more first second within = record {
  later = omega (arith, first.later, second.later);
  nothing_else = λ t disk le left.
      ⊎_elim (λ m. first.nothing_else t disk le m) (λ now. inr (within disk now))
      (second.nothing_else t disk (omega (arith, le, first.later)) left);
  keeps = λ t disk le left. second.keeps t disk (omega (arith, le, first.later)) (first.keeps t disk le left);
}

-- a disk that a crash may leave, among values that its blocks may hold
pub leaves_within : (size size' : ℕ) (values may_hold : ℕ → List ℕ → Type 0) (disk : List (List ℕ)) → size' ≡ size
    → NoMore values may_hold → MayLeave size' may_hold disk → MayLeave size values disk
leaves_within size size' values may_hold disk same within left = record {
  as_long = left.as_long ∙ same;
  each = λ k lt. within k _ (left.each k (omega (arith, lt, same)));
}

module _ {D : Type 0} (moment : D → ℕ) (left_since : D → ℕ → List (List ℕ) → Type 0) (size : D → ℕ) where
  -- a call
  pub stops_in : (may_hold : D → ℕ → List ℕ → Type 0) (old new : D) (values : ℕ → List ℕ → Type 0)
      → TimePasses moment left_since size may_hold old new → size new ≡ size old → NoMore values (may_hold new)
      → StopsAmong moment left_since size values old new
  stops_in may_hold old new values time same within = record {
    later = time.later;
    nothing_else = λ t disk le left.
        ⊎_elim (λ p. inl p) (λ now. inr (leaves_within (size old) (size new) values (may_hold new) disk same within now))
        (time.nothing_else t disk le left);
    keeps = time.keeps;
  }

  -- a call more
  pub stops_on : (may_hold : D → ℕ → List ℕ → Type 0) (old mid new : D) (values : ℕ → List ℕ → Type 0)
      → StopsAmong moment left_since size values old mid → TimePasses moment left_since size may_hold mid new
      → size new ≡ size old → NoMore values (may_hold new) → StopsAmong moment left_since size values old new
  stops_on may_hold old mid new values so_far time same within =
      then_elapses (moment old) (moment mid) (moment new) (left_since old) (left_since mid) (left_since new)
      (MayLeave (size old) values) (MayLeave (size new) (may_hold new)) so_far time
      (λ disk left. leaves_within (size old) (size new) values (may_hold new) disk same within left)

  -- and calls more, which stop among fewer values
  pub stops_then : (old mid new : D) (values fewer : ℕ → List ℕ → Type 0)
      → StopsAmong moment left_since size values old mid
      → StopsAmong moment left_since size fewer mid new → size mid ≡ size old → NoMore values fewer
      → StopsAmong moment left_since size values old new
  stops_then old mid new values fewer so_far more same within =
      then_elapses (moment old) (moment mid) (moment new) (left_since old) (left_since mid) (left_since new)
      (MayLeave (size old) values) (MayLeave (size mid) fewer) so_far more
      (λ disk left. leaves_within (size old) (size mid) values fewer disk same within left)
