-- What the blocks of a disk decide of an entry: of a device that claims nothing, nothing.
use Rattle.std.proofs.Common.{◌≡◌, Bool, List, ℕ, Option, Some, None, sym, subst, ap, ◌∙◌}
use Rattle.std.specs.Prelude.{IsTrue}
use Rattle.scsi_types.specs.ReplyValue.{ReplyValue}
use Rattle.unit_control.specs.declared.refusal.Refusal.{Refusal}
use Rattle.unit_control.specs.State.{ControlValue, UnitState}
use Rattle.unit_control.specs.Choice.{Choice}
use Rattle.unit_control.specs.Medium.{found, work_asked}
use Rattle.unit_control.specs.Refusal.{Request, request, refusal}
use Rattle.unit_control.specs.Entry.{Entry, Attach, Detach, Reset, Move, Command, CanTear, IsPossible, IsReplyTo, IsReplyWith}

module _ (claims : Bool) (c : ControlValue) (old new : List (List ℕ)) (same : IsTrue claims → new ≡ old) where
  abbrev at : List (List ℕ) → UnitState
  at blocks = record { control = c; blocks = blocks }

  pub possible_over : (e : Entry) → IsPossible claims (at old) e → IsPossible claims (at new) e
  possible_over (Attach nexus) is = is
  possible_over (Detach session) is = is
  possible_over (Reset session) is = is
  possible_over (Move list choice) is = is
  possible_over (Command session serial by_group asked bytes choice) is =
      let r = request session asked bytes in
      record {
        next = is.next;
        owner = is.owner;
        chosen = is.chosen;
        torn = λ h.
            subst (λ (b : List (List ℕ)). CanTear (refusal c r) b (work_asked asked bytes) choice)
            (sym (same h)) (is.torn h);
      }

  reply_with_over : (refused : Option Refusal) (r : Request) (choice : Choice) (reply : ReplyValue)
      → IsReplyWith refused claims (at old) r choice reply → IsReplyWith refused claims (at new) r choice reply
  reply_with_over (Some a) r choice reply is = is
  reply_with_over None r choice reply is = record {
    finding = is.finding;
    may = is.may;
    is = is.is;
    told = λ h. is.told h ∙ ap (λ (b : List (List ℕ)). found b (work_asked r.asked r.bytes) choice) (sym (same h));
  }

  pub reply_over : (e : Entry) (reply : ReplyValue) → IsReplyTo claims (at old) e reply
      → IsReplyTo claims (at new) e reply
  reply_over (Attach nexus) reply is = absurd is
  reply_over (Detach session) reply is = absurd is
  reply_over (Reset session) reply is = absurd is
  reply_over (Move list choice) reply is = absurd is
  reply_over (Command session serial by_group asked bytes choice) reply is =
      let r = request session asked bytes in reply_with_over (refusal c r) r choice reply is
