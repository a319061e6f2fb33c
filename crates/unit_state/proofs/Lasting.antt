-- What GOOD of a PERSISTENT RESERVE OUT tells.
use Rattle.std.proofs.Common.{◌≡◌, ℕ, List, [], Option, Some, None, Ok, refl, ap}
use Rattle.reservations.specs.Table.{Effect, Done, Conflicting, Refused as Illegal}
use Rattle.scsi_types.specs.ReplyValue.{ReplyValue, good}
use Rattle.scsi_types.specs.declared.status.Status.TheVariants.{Good}
use Rattle.scsi_types.specs.declared.command.Command.TheVariants.{PersistentReserveOut}
use Rattle.scsi_types.specs.declared.reservation.PrOutAction.{PrOutAction}
use Rattle.unit_control.specs.declared.refusal.Refusal.{Refusal}
use Rattle.unit_control.specs.declared.refusal.Refusal.TheVariants.{Attention, Conflict, Check}
use Rattle.unit_control.specs.Choice.{Choice, Fine, ReadFailed, WriteFailed, OpenFailed, SaveFailed}
use Rattle.unit_control.specs.Entry.{control_with, count_command, reply_with}
use Rattle.unit_control.specs.Medium.{Nothing, found}
use Rattle.unit_control.specs.Refusal.{refusal_reply, request}
use Rattle.unit_control.specs.Reserve.{after_saved, effect_by, effect_reply, pr_out, saved_reply}
use Rattle.unit_control.specs.Saving.{LastsAlone}
use Rattle.unit_control.specs.State.{ControlValue}

-- the status of a reply that is GOOD
status_of : (reply : ReplyValue) → Some reply ≡ Some (good []) → reply.status ≡ Good
status_of reply is = ap (λ (r : ReplyValue). r.status) (let e : reply ≡ good [] = cc in e)

no_refusal : (refused : Refusal) → (refusal_reply refused).status ≡ Good → ⊥
no_refusal (Attention a) is = cc
no_refusal Conflict is = cc
no_refusal (Check s) is = cc

done_lasts : (c : ControlValue) (session : ℕ) (e : Effect) (choice : Choice) → (effect_reply e).status ≡ Good
    → after_saved c e choice ≡ after_saved c e Fine → LastsAlone (count_command (after_saved c e choice) session)
done_lasts c session (Done new told) choice is same = rw same (record { lasting = refl; sure = refl })
done_lasts c session Conflicting choice is same = absurd (cc)
done_lasts c session (Illegal asc ascq) choice is same = absurd (cc)

saved_lasts : (c : ControlValue) (session : ℕ) (e : Effect) (choice : Choice) (blocks : List (List ℕ))
    → (saved_reply e (found blocks Nothing choice)).status ≡ Good
    → LastsAlone (count_command (after_saved c e choice) session)
saved_lasts c session e Fine blocks is = done_lasts c session e Fine is refl
saved_lasts c session e ReadFailed blocks is = done_lasts c session e ReadFailed is refl
saved_lasts c session e (WriteFailed after) blocks is = done_lasts c session e (WriteFailed after) is refl
saved_lasts c session e OpenFailed blocks is = done_lasts c session e OpenFailed is refl
saved_lasts c session e (SaveFailed after) blocks is = absurd (cc)

pub good_lasts : (c : ControlValue) (session : ℕ) (action : PrOutAction) (scope kind n : ℕ) (bytes : List ℕ)
    (choice : Choice) (blocks : List (List ℕ)) (refused : Option Refusal)
    → Some (reply_with refused c (request session (Ok (PersistentReserveOut action scope kind n)) bytes)
    (found blocks Nothing choice)) ≡ Some (good [])
    → LastsAlone (count_command
    (control_with refused c (request session (Ok (PersistentReserveOut action scope kind n)) bytes) choice) session)
good_lasts c session action scope kind n bytes choice blocks (Some refused) is =
    absurd (no_refusal refused (status_of (refusal_reply refused) is))
good_lasts c session action scope kind n bytes choice blocks None is =
    let e : Effect = effect_by c session (pr_out action scope kind bytes) in
    saved_lasts c session e choice blocks (status_of (saved_reply e (found blocks Nothing choice)) is)
