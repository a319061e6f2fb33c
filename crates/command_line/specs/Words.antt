-- What the words of a command line ask for.
use Rattle.std.specs.Prelude.{◌≡◌, ◌↔◌, ◌<◌, ◌≤◌, ◌^◌, ℕ, Bool, true, false, IsTrue, List, [], ◌∷◌, length, map, codes, pos, Option, Some, None}
use Rattle.std.specs.Borrow.{Bor}
use Rattle.std.specs.Net.Grammar.{IsIpv4Text}
use Rattle.std.specs.Str.Parse.{IsNumeral, digits_value, without_leading_plus}
use Rattle.std.specs.declared.net.ipv4_addr.Ipv4Addr.{Ipv4Addr}
use Rattle.clap.specs.Words.{App, Row, Rule, Text, all_of, fault_of, first_of, matches_of, new_app, new_rule, one_of, with_rule}
use Rattle.clap.specs.declared.builder.ArgAction.TheVariants.{Append, Set, SetTrue}
use Rattle.clap.specs.declared.builder.value_parser.ValueParser.TheVariants as vp
use Rattle.clap.specs.Lexer.{usize_max}
use Rattle.command_line.specs.declared.words.Options.{Options}

-- ---- the options, as clap takes them: each with its default, a number with its range

-- a flag that is given or not
abbrev pub flag_lem : Text → Rule
flag_lem name = record (new_rule name) { long = Some name; action = Some SetTrue }

-- an option that takes a value, with the value that it has where it is not given
abbrev pub option_lem : Text → Text → Rule
option_lem name default = record (new_rule name) {
  long = Some name;
  action = Some Set;
  defaults = default ∷ [];
}

-- one that takes a number from low to high
abbrev pub number_lem : Text → Text → ℕ → ℕ → Rule
number_lem name default low high =
    record (option_lem name default) { parser = Some (vp.Signed (pos low) (pos high)) }

-- the words that belong to no option
abbrev pub rest_lem : Text → Rule
rest_lem name = record (new_rule name) {
  action = Some Append;
  range = Some (record { start_inclusive = 0; end_inclusive = usize_max });
}

abbrev pub once : Rule
once = flag_lem (codes "once")

abbrev pub target : Rule
target = option_lem (codes "target") (codes "iqn.2000-01.test:array")

abbrev pub array : Rule
array = number_lem (codes "array") (codes "1") 0 4294967295

abbrev pub host : Rule
host = option_lem (codes "host") (codes "127.0.0.1")

abbrev pub port : Rule
port = number_lem (codes "port") (codes "3260") 1 65528

abbrev pub portals : Rule
portals = number_lem (codes "portals") (codes "1") 1 4

abbrev pub paths : Rule
paths = rest_lem (codes "paths")

-- the part of the command line that says which array is served
abbrev pub of_array : App
of_array = with_rule (with_rule (with_rule (new_app (codes "arrayd")) once) target) array

-- the command line of the program
abbrev pub arrayd : App
arrayd = with_rule (with_rule (with_rule (with_rule of_array host) port) portals) paths

-- what clap finds in the words, the program's name first, and in the defaults
abbrev pub rows : List Text → List Row
rows words = matches_of arrayd words

-- ---- what they mean

-- the option with this id has this number of so many bits, in decimal
abbrev pub IsNumberIn : ℕ → Text → List Row → ℕ → Type 0
IsNumberIn bits id found n = (text : Text) × (one_of id found ≡ Some text)
    × IsNumeral 10 (without_leading_plus text) × (n ≡ digits_value 10 (without_leading_plus text)) × (n < 2 ^ bits)

-- these are the words that belong to no option
abbrev pub are_rest : Option (List Text) → List Text → Type 0
are_rest (Some given) texts = texts ≡ given
are_rest None texts = texts ≡ []

abbrev pub AreRestIn : Text → List Row → List Text → Type 0
AreRestIn id found texts = are_rest (all_of id found) texts

-- a target's name has at most 196 bytes, so that what each portal says of it fits
abbrev pub IsName : Text → Type 0
IsName text = (1 ≤ length text) × (length text ≤ 196)

-- with --once there is no file, and else there is one for each of one to eight units
abbrev pub IsCount : Bool → ℕ → Type 0
IsCount true count = count ≡ 0
IsCount false count = (1 ≤ count) × (count ≤ 8)

pub record Meaning : Type 0 where
  pub is_once : Bool
  pub target : Text
  pub array : ℕ
  pub host : Ipv4Addr
  pub port : ℕ
  pub portals : ℕ
  pub files : List Text

-- what was found of the options gives just this
pub record Gives (found : List Row) (m : Meaning) : Type 0 where
  pub once : IsTrue m.is_once ↔ (first_of once.id found ≡ Some (codes "true"))
  pub target : first_of target.id found ≡ Some m.target
  pub name : IsName m.target
  pub array : IsNumberIn 32 array.id found m.array
  pub host : (text : Text) × (first_of host.id found ≡ Some text) × IsIpv4Text text m.host
  pub port : IsNumberIn 16 port.id found m.port
  pub portals : IsNumberIn 16 portals.id found m.portals
  pub rest : AreRestIn paths.id found m.files
  pub files : IsCount m.is_once (length m.files)

-- the words are obeyed, and ask for just this
pub record Asks (words : List Text) (m : Meaning) : Type 0 where
  pub parsed : fault_of arrayd words ≡ []
  pub given : Gives (rows words) m

abbrev pub meaning_of : Options → Meaning
meaning_of o = record {
  is_once = o.is_once;
  target = o.target.now;
  array = o.array;
  host = o.host;
  port = o.port;
  portals = o.portals;
  files = map (λ (path : Bor Text). path.now) o.paths.items;
}
