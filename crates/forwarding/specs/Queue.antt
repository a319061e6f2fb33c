-- What waits at a desk.
use Rattle.std.specs.Prelude.{◌≡◌, ℕ, Bool, true, false, List, [], ◌∷◌, ◌++◌, length, Some, slice_get}
use Rattle.std.specs.List.{remove}
use Rattle.forwarding.specs.declared.queue.NotQueued.{NotQueued}
use Rattle.forwarding.specs.declared.queue.NotQueued.TheVariants.{Full, Closed}

-- what waits, the first that came first, and whether no more may come
pub record Queued (T : Type 0) : Type 0 where
  pub items : List T
  pub is_closed : Bool

module _ {T : Type 0} where
  abbrev pub no_items : Queued T
  no_items = record { items = []; is_closed = false }

  abbrev pub with_item : Queued T → T → Queued T
  with_item q item = record { items = q.items ++ item ∷ []; is_closed = q.is_closed }

  abbrev pub after_close : Queued T → Queued T
  after_close q = record { items = q.items; is_closed = true }

  -- why nothing more comes: the queue is closed; or it is not, and 64 wait
  abbrev pub IsNotQueued : Queued T → NotQueued → Type 0
  IsNotQueued q Closed = q.is_closed ≡ true
  IsNotQueued q Full = (q.is_closed ≡ false) × (length q.items ≡ 64)

  -- the item at this index is taken out, and the others keep their order
  abbrev pub IsTakenOut : Queued T → ℕ → T → Queued T → Type 0
  IsTakenOut old at item new =
      (slice_get old.items at ≡ Some item) × (new ≡ record { items = remove old.items at; is_closed = old.is_closed })
