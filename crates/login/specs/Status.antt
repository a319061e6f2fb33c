-- The status of a refused login (RFC 7143, 11.13.5): its class and its detail.
use Rattle.std.specs.Prelude.{ℕ}
use Rattle.login.specs.declared.status.LoginStatus.{LoginStatus}
use Rattle.login.specs.declared.status.LoginStatus.TheVariants as Is

pub record Code : Type 0 where
  pub class : ℕ
  pub detail : ℕ

abbrev pub code : ℕ → ℕ → Code
code class detail = record { class = class; detail = detail }

abbrev pub code_of : LoginStatus → Code
code_of Is.InitiatorError = code 0x02 0x00
code_of Is.AuthenticationFailure = code 0x02 0x01
code_of Is.NotFound = code 0x02 0x03
code_of Is.UnsupportedVersion = code 0x02 0x05
code_of Is.TooManyConnections = code 0x02 0x06
code_of Is.MissingParameter = code 0x02 0x07
code_of Is.SessionTypeNotSupported = code 0x02 0x09
code_of Is.SessionDoesNotExist = code 0x02 0x0A
code_of Is.InvalidDuringLogin = code 0x02 0x0B
code_of Is.OutOfResources = code 0x03 0x02
