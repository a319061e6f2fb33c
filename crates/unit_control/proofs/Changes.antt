-- Changes of access states.
use Rattle.std.proofs.Common.{◌≡◌, ℕ, Bool, true, false, ◌&&◌, List, [], take, Some, Result, Ok, refl, sym, ap, ◌∙◌}
use Rattle.std.specs.Prelude.{IsTrue}
use Rattle.access_states.specs.AccessMap.{AccessMapValue}
use Rattle.access_states.specs.Change.{access_after}
use Rattle.access_states.specs.declared.list.AsetFault.{AsetFault}
use Rattle.access_states.specs.declared.state.Cause.TheVariants.{Explicit}
use Rattle.scsi_types.specs.Cdb.{is_group_list}
use Rattle.scsi_types.specs.ReplyValue.{ReplyValue, good}
use Rattle.scsi_types.specs.declared.command.Command.TheVariants.{SetTargetPortGroups}
use Rattle.unit_control.specs.Answer.{IsPerformed}
use Rattle.unit_control.specs.Groups.{after_change, set_by, with_access}
use Rattle.unit_control.specs.Medium.{Done}
use Rattle.unit_control.specs.State.{ControlValue, unit_of}

pub set_is : (c : ControlValue) (n : ℕ) (bytes : List ℕ) (r : Result AccessMapValue AsetFault) → is_group_list n ≡ true
    → r ≡ access_after Explicit c.access (take n bytes) → r ≡ set_by c n bytes
set_is c n bytes r fits is = rw fits is

-- the devices claim what each of them claims
pub first_claims : (a b : Bool) → IsTrue (a && b) → IsTrue a
first_claims true b h = refl
first_claims false b h = absurd (cc)

pub second_claims : (a b : Bool) → IsTrue (a && b) → IsTrue b
second_claims true b h = h
second_claims false b h = absurd (cc)

-- a SET TARGET PORT GROUPS that did its change
pub set_served : (claims : Bool) (c now : ControlValue) (old new : List (List ℕ)) (session n : ℕ) (bytes : List ℕ)
    (access : AccessMapValue) (reply : ReplyValue) → set_by c n bytes ≡ Ok access → now ≡ with_access c
    (Some session) access
    → (IsTrue claims → new ≡ old) → reply ≡ good []
    → IsPerformed claims (unit_of c old) (unit_of now new) session (SetTargetPortGroups n) bytes reply
set_served claims c now old new session n bytes access reply set is same said = rw said (record {
  finding = Done [];
  chosen = tt;
  may = refl;
  torn = λ h. tt;
  told = λ h. refl;
  leaves = same;
  control = is ∙ ap (after_change c (Some session)) (sym set);
  answers = refl;
})
