-- Which file is the disk of which unit.
use Rattle.std.specs.Prelude.{◌≡◌, ℕ, List, Some, slice_get, get_or, map}
use Rattle.std.proofs.Common.{sym, ◌∙◌, ap, option_map}
use Rattle.std.proofs.lemmas.Option.{slice_get-map, get_or_from_slice_get}
use Rattle.disk_preparer.specs.declared.Node.{Node}

-- the name of no file
abbrev pub no_file : Node
no_file = record { device = 0; number = 0 }

-- these files by their places
abbrev pub named_by : List Node → ℕ → Node
named_by files place = get_or files place no_file

-- Each of these is over the file at its place.
pub record AreOver {T : Type 0} (disk : T → Node) (at : ℕ → Node) (all : List T) : Type 0 where
  pub each : (place : ℕ) (one : T) → slice_get all place ≡ Some one → disk one ≡ at place

-- each is over its own
pub over_their_own : {T : Type 0} (disk : T → Node) (all : List T) → AreOver disk (named_by (map disk all)) all
over_their_own disk all =
    record {
      each = λ place one is.
          sym (get_or_from_slice_get (map disk all) place (disk one) no_file
          (slice_get-map disk all place ∙ ap (option_map disk) is));
    }
