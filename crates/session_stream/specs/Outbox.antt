-- What is written of the bytes that are to go out, and what waits.
use Rattle.std.specs.Io.KnownBytes.{Appends}
use Rattle.std.specs.Prelude.{◌≡◌, ◌⊎◌, ◌≤◌, ◌++◌}
use Rattle.session_rules.specs.Words.{ℕ, Bool, true, false, List, length, Option}
use Rattle.session_rules.specs.declared.end.End.{End, TheVariants.OutputFailed}
use Rattle.session_stream.specs.Source.{AppendsFrom, Rises}

-- the bytes that wait, and whether the sink failed
pub record OutboxValue : Type 0 where
  pub waiting : List ℕ
  pub failed : Bool

-- While the sink serves, what it took and what waits are all the bytes that are to go out; once it failed, and counted
-- it, it took a beginning of them. It took so many at least.
abbrev pub IsOutBy : Bool → Option (List ℕ) → Option (List ℕ) → ℕ → ℕ → List ℕ → ℕ → List ℕ → Type 0
IsOutBy false held held' before now waiting least bytes =
    (now ≡ before) × (gone : List ℕ) × Appends held held' gone × (gone ++ waiting ≡ bytes) × (least ≤ length gone)
IsOutBy true held held' before now waiting least bytes = Rises before now × AppendsFrom held held' least bytes

abbrev pub IsOut : Option (List ℕ) → Option (List ℕ) → ℕ → ℕ → OutboxValue → ℕ → List ℕ → Type 0
IsOut held held' before now o least bytes = IsOutBy o.failed held held' before now o.waiting least bytes

-- these bytes are to go out behind all that were
abbrev pub IsQueued : Option (List ℕ) → Option (List ℕ) → ℕ → ℕ → OutboxValue → OutboxValue → List ℕ → Type 0
IsQueued held held' before now o o' bytes =
    (first : Option (List ℕ)) (begun least : ℕ) (all : List ℕ)
    → IsOut first held begun before o least all → IsOut first held' begun now o' least (all ++ bytes)

-- no more are to go out
abbrev pub IsAllOut : Option (List ℕ) → Option (List ℕ) → ℕ → ℕ → OutboxValue → OutboxValue → Type 0
IsAllOut held held' before now o o' =
    (first : Option (List ℕ)) (begun least : ℕ) (all : List ℕ)
    → IsOut first held begun before o least all → IsOut first held' begun now o' least all

-- all bytes went out, and this is the end that was called for; or the sink failed
abbrev pub IsClosed : Option (List ℕ) → Option (List ℕ) → ℕ → ℕ → ℕ → List ℕ → End → End → Type 0
IsClosed held held' before now least bytes wanted end =
    ((end ≡ wanted) × Appends held held' bytes × (now ≡ before))
    ⊎ ((end ≡ OutputFailed) × AppendsFrom held held' least bytes × Rises before now)

-- what waits is written at the end
abbrev pub IsClosedAs : Option (List ℕ) → Option (List ℕ) → ℕ → ℕ → OutboxValue → End → End → Type 0
IsClosedAs held held' before now o wanted end =
    (first : Option (List ℕ)) (begun least : ℕ) (all : List ℕ)
    → IsOut first held begun before o least all → IsClosed first held' begun now least all wanted end
