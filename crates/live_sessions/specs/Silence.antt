-- For how long an initiator may be silent. What is said of sockets stands for its name: only the proofs of their own calls
-- (`connection`) cite what gives it.
use Rattle.std.specs.Prelude.{ℕ}

-- before its login is over, in seconds
abbrev pub login_silence : ℕ
login_silence = 30

-- a socket was told to fail reads that wait for so many seconds
pub has_limit : {S : Type 0} → S → ℕ → Type 0
has_limit socket seconds = Unit {0}

-- a socket was told that silence is no failure: its reads wait, and say every few seconds that nothing came
pub has_none : {S : Type 0} → S → Type 0
has_none socket = Unit {0}

pub a_limit_says : {S : Type 0} (socket : S) (seconds : ℕ) → has_limit socket seconds
unfolding has_limit
a_limit_says socket seconds = tt

pub no_limit_says : {S : Type 0} (socket : S) → has_none socket
unfolding has_none
no_limit_says socket = tt
