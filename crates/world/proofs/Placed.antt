-- The entry of a command whose flush came behind it, with what stands before and behind it.
use Rattle.std.proofs.Common.{◌≡◌, ℕ, zero, suc, Bool, List, [], ◌∷◌, ◌++◌, length, Option, Some, Result, refl, ap, subst, ◌∙◌}
use Rattle.std.specs.Prelude.{slice_get}
use Rattle.scsi_types.specs.ReplyValue.{ReplyValue}
use Rattle.scsi_types.specs.declared.command.Command.{Command as ScsiCommand}
use Rattle.scsi_types.specs.declared.command.CdbFault.{CdbFault}
use Rattle.unit_control.specs.State.{UnitState}
use Rattle.unit_control.specs.Entry.{Entry, Command, IsPossible, after}
use Rattle.unit_state.specs.History.{state_after, IsLegal, IsReplyAt}
use Rattle.unit_entries.specs.Histories.{IsToldBehind}
use Rattle.unit_events.specs.Flushes.{IsToldBehindFlush, IsUnflushed}
use Rattle.unit_events.proofs.FlushLaws.{late_flush_of}
use Rattle.world.specs.Orders.{IsSettledAt}
use Rattle.unit_events.specs.declared.job.Job.{Job}
use Rattle.world.proofs.Lists.{some_same}
use Rattle.world.proofs.Sound.{HasEntry}

-- an entry with what stands before and behind it
record Placed (claims : Bool) (s : UnitState) (h : List Entry) (at : ℕ) (e : Entry) (reply : ReplyValue) : Type 0 where
  before : List Entry
  behind : List Entry
  is : h ≡ (before ++ e ∷ []) ++ behind
  place : at ≡ length before
  possible : IsPossible claims (state_after s before) e
  told : IsToldBehind claims s before e reply

placed : (claims : Bool) (s : UnitState) (h : List Entry) (at : ℕ) (e : Entry) (reply : ReplyValue) → slice_get h at ≡ Some e
    → IsReplyAt claims s h at reply → IsLegal claims s h → Placed claims s h at e reply
placed claims s [] at e reply there replies legal = absurd replies
placed claims s (x ∷ h) zero e reply there replies legal =
    let same : x ≡ e = some_same x e there in
    record {
      before = [];
      behind = h;
      is = ap (λ (y : Entry). y ∷ h) same;
      place = refl;
      possible = subst (λ (y : Entry). IsPossible claims s y) same legal.0;
      told = subst (λ (y : Entry). IsToldBehind claims s [] y reply) same replies;
    }
placed claims s (x ∷ h) (suc at) e reply there replies legal =
    let o = placed claims (after s x) h at e reply there replies legal.1 in
    record {
      before = x ∷ o.before;
      behind = o.behind;
      is = ap (λ (ys : List Entry). x ∷ ys) o.is;
      place = ap (λ (k : ℕ). suc k) o.place;
      possible = o.possible;
      told = o.told;
    }

pub settled_at : (claims : Bool) (lasts : Type 0) (s : UnitState) (h : List Entry) (id serial : ℕ) (job : Job)
    (served : Result ScsiCommand CdbFault) (reply told : ReplyValue) (at : ℕ) → IsLegal claims s h → IsUnflushed job.asked served
    → HasEntry claims s h id serial job.by_group served job.bytes reply at → IsToldBehindFlush lasts reply told
    → IsSettledAt claims lasts s h id serial job told at
settled_at claims lasts s h id serial job served reply told at legal off o ended =
    let it : Entry = Command id serial job.by_group served job.bytes o.is.0 in
    let here : slice_get h at ≡ Some it = o.there ∙ ap (λ (e : Entry). let r : Option Entry = Some e in r) o.is.1 in
    let p = placed claims s h at it reply here o.replies legal in
    record {
      before = p.before;
      behind = p.behind;
      served = served;
      choice = o.is.0;
      is = p.is;
      place = p.place;
      stands = late_flush_of claims lasts s p.before id serial job.by_group job.bytes o.is.0 job.asked served off p.possible reply told
          p.told ended;
    }
