-- A whole session (RFC 7143, 4.2 and 6.3): its login phase, and full feature phase behind it.
use Rattle.std.specs.Prelude.{◌≡◌, ◌⊎◌, ◌∷◌, ◌++◌}
use Rattle.session_rules.specs.Words.{ℕ, true, false, List, [], map, Option, None, filter_map, flat_map, AllByRecursion}
use Rattle.session_rules.specs.Words.{kind_in, SessionType, End, TargetRecord, Opening, Login, FullFeature, Start}
use Rattle.session_rules.specs.{Asking.Asking, Setting.setting_of, Turn.Incoming, Turn.Out, Turn.Turn}
use Rattle.session_rules.specs.Legal.{AtEachOf, bhs_of, end_after, Lawful}
use Rattle.session_rules.specs.LoginPhase.{LoginTurn, login_standing, IsLoginTurn, login_end, begins, IsStart}

-- the turns of the login, and those of full feature phase behind them
pub record Transcript : Type 0 where
  pub logins : List LoginTurn
  pub turns : List Turn

-- a turn of either phase: what came, what the target was asked, what went out, and the end that it calls for
pub record Exchange : Type 0 where
  pub came : Incoming
  pub call : Option Asking
  pub sent : List Out
  pub end : Option End

abbrev pub of_login : LoginTurn → Exchange
of_login l = record { came = l.came; call = l.call; sent = l.sent; end = login_end (bhs_of l.came) l.outcome }

abbrev pub of_turn : Turn → Exchange
of_turn t = record { came = t.came; call = t.call; sent = t.sent; end = end_after t.verdict t.came t.call }

abbrev pub exchanges : Transcript → List Exchange
exchanges c = map of_login c.logins ++ map of_turn c.turns

-- what came, what the target was asked, and what went out, in order
abbrev pub incoming : List Exchange → List Incoming
incoming es = map (λ e. e.came) es

abbrev pub asked : List Exchange → List Asking
asked es = filter_map (λ e. e.call) es

abbrev pub outgoing : List Exchange → List Out
outgoing es = flat_map (λ e. e.sent) es

-- none calls for an end
abbrev pub NoneEnds : List Exchange → Type 0
NoneEnds es = AllByRecursion (λ e. e.end ≡ None) es

-- ---- the login

-- none of these turns began the session
abbrev pub NoneBegins : List LoginTurn → Type 0
NoneBegins ls = AllByRecursion (λ l. begins l.outcome ≡ false) ls

-- Each turn is one of a login with this target, by a portal of the group with this tag. Nothing comes in the login behind the
-- turn that begins the session, or behind one that calls for an end.
pub record IsLogin (target : List ℕ) (tag : ℕ) (ls : List LoginTurn) : Type 0 where
  pub turns : AtEachOf (λ (before : List LoginTurn) (l : LoginTurn). IsLoginTurn (login_standing target tag before) l) ls
  pub none_begun : AtEachOf (λ (before : List LoginTurn) (l : LoginTurn). NoneBegins before) ls
  pub ends : AtEachOf (λ (before : List LoginTurn) (l : LoginTurn). NoneEnds (map of_login before)) ls

-- the last turn of the login began the session
pub record Began (ls : List LoginTurn) : Type 0 where
  pub front : List LoginTurn
  pub last : LoginTurn
  pub whole : ls ≡ front ++ last ∷ []
  pub begun : begins last.outcome ≡ true

-- full feature phase has this kind and this start, as the login left them
pub record IsBehindLogin (target : List ℕ) (tag : ℕ) (ls : List LoginTurn) (kind : SessionType) (start : Start)
    : Type 0 where
  pub began : Began ls
  pub kind_is : kind ≡ kind_in (login_standing target tag ls).progress.kind
  pub start_is : IsStart (login_standing target tag ls) start

-- ---- the whole

-- Behind a login no turn came; or the login has begun the session, and the turns are lawful in the setting that it came to.
abbrev pub IsLawfulBehind : ℕ → TargetRecord → ℕ → Transcript → Type 0
IsLawfulBehind units me tag c =
    (c.turns ≡ [])
    ⊎ ((kind : SessionType) × (start : Start) × IsBehindLogin me.target_name.now tag c.logins kind start
    × Lawful (setting_of units me kind start) c.turns)

-- The transcript of a session that begins so, with a target of this record that has so many units.
abbrev pub IsLawful : ℕ → TargetRecord → Opening → Transcript → Type 0
IsLawful units me (Login tag) c = IsLogin me.target_name.now tag c.logins × IsLawfulBehind units me tag c
IsLawful units me (FullFeature kind start) c = (c.logins ≡ []) × Lawful (setting_of units me kind start) c.turns
