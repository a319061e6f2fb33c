-- Units and the preparers of their disks, in the same order: the names of both.
use Rattle.std.proofs.Common.{◌≡◌, sym, subst, ℕ, List, map}
use Rattle.disk_preparer.specs.declared.Node.{Node}
use Rattle.session_units.specs.Disks.{AreOver, named_by, over_their_own}
use Rattle.session_units.specs.declared.gate.Disks.{Ghosts as NamesOfDisks}
use Rattle.unit_control.specs.State.{UnitState}
use Rattle.unit_history.specs.Naming.{book_of, opening_of, table_of}
use Rattle.unit_history.specs.declared.new_unit.NewUnit.{NewUnit}
use Rattle.unit_sequence.specs.declared.naming.ArrayNaming.{Ghosts as NamesOfUnits}

-- the names of an array's units, as they are picked
abbrev pub names_of : {S B F O : Type 0} → (B → List (List ℕ)) → List (NewUnit B F O) → NamesOfUnits S UnitState
names_of contents units = record { book = book_of units; table = table_of units; opening = opening_of contents units }

-- and those of its disks
abbrev pub disks_of : {S T : Type 0} → (T → Node) → List T → NamesOfDisks S
disks_of disk all = record { disk = named_by (map disk all) }

-- what is over these files, in order, is over the files that are named by them
pub over_the_same : {T : Type 0} (disk : T → Node) (files : List Node) (all : List T) → files ≡ map disk all
    → AreOver disk (named_by files) all
over_the_same disk files all same =
    subst (λ (names : List Node). AreOver disk (named_by names) all) (sym same) (over_their_own disk all)
