-- What stays the same over a session.
use Rattle.session_rules.specs.Words.{ℕ, Bool, true, false, List, SessionType, Normal, TargetRecord, Start}
use Rattle.login.specs.{Targets.target_text, declared.status.SessionType.TheVariants.Discovery}

-- how many units the target has, from unit 0 on; the kind of the session; the target's name, and what it tells of itself;
-- the numbers that the session begins with, and the lengths in force
pub record Setting : Type 0 where
  pub units : ℕ
  pub kind : SessionType
  pub target_name : List ℕ
  pub told : List ℕ
  pub start : Start

-- the setting of a session of this kind that begins so, with a target of this record that has so many units
abbrev pub setting_of : ℕ → TargetRecord → SessionType → Start → Setting
setting_of units me kind start = record {
  units = units;
  kind = kind;
  target_name = me.target_name.now;
  told = target_text me.target_name.now me.first.now me.second.now;
  start = start;
}

-- a discovery session serves no command (RFC 7143, 4.3)
abbrev pub discovers : SessionType → Bool
discovers Normal = false
discovers Discovery = true
