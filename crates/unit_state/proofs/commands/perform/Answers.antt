use Rattle.std.proofs.Common.{◌∙◌, ap, refl, inl, inr}
use Rattle.std.specs.Prelude.{IsTrue}
use Rattle.unit_state.specs.Step.{is_describing}
use Rattle.scsi_types.specs.ReplyValue.{good}
use Rattle.unit_state.proofs.Served.{medium_served, good_served, described_served}
use Rattle.unit_state.proofs.PowerLoss.{compared_left, idle_left}
use Rattle.unit_control.specs.Medium.{work_of}
use Rattle.unit_state.proofs.commands.perform.Goals as goal

pub returns-in-TestUnitReady-clause-served : goal.returns-in-TestUnitReady-clause-served
returns-in-TestUnitReady-clause-served g c =
    rw c.in-TestUnitReady.is (good_served _ _ _ _ _ _ _ _ _ refl refl refl (c.good.ensures ∙ ap good c.new.ensures.items))

pub returns-in_ok-memory-in-Read-clause-served : goal.returns-in_ok-memory-in-Read-clause-served
returns-in_ok-memory-in-Read-clause-served g c =
    rw c.in-Read.is (medium_served _ _ _ _ _ _ _ _ _ _ _ _ (λ f. refl)
    (λ d. refl) refl c.read-end.ensures.worked refl c.medium_reply.ensures)

pub returns-in-Write-clause-served : goal.returns-in-Write-clause-served
returns-in-Write-clause-served g c =
    rw c.in-Write.is (medium_served _ _ _ _ _ _ _ _ _ _ _ _ (λ f. refl)
    (λ d. refl) refl c.write-end.ensures.worked c.new-in-Write.ensures.items c.medium_reply-in-Write.ensures)

pub returns-in-CompareAndWrite-clause-served : goal.returns-in-CompareAndWrite-clause-served
returns-in-CompareAndWrite-clause-served g c =
    rw c.in-CompareAndWrite.is
    (medium_served _ _ _ _ _ _ _ _ _ _ _ _ (λ f. refl)
    (λ d. refl) refl c.compare-end.ensures.worked c.new-in-CompareAndWrite.ensures.items
    c.medium_reply-in-CompareAndWrite.ensures)

pub returns-in-SynchronizeCache-clause-served : goal.returns-in-SynchronizeCache-clause-served
returns-in-SynchronizeCache-clause-served g c =
    rw c.in-SynchronizeCache.is
    (medium_served _ _ _ _ _ _ _ _ _ _ _ _ (λ f. refl)
    (λ d. refl) refl (c.flush-end.ensures.worked _ _) c.new-in-SynchronizeCache.ensures.items
    c.medium_reply-in-SynchronizeCache.ensures)

pub returns-in_ok-sense-in-RequestSense-clause-served : goal.returns-in_ok-sense-in-RequestSense-clause-served
returns-in_ok-sense-in-RequestSense-clause-served g c =
    let told = c.in_ok-sense-in-RequestSense.ensures in
    rw c.in-RequestSense.is (good_served _ _ _ _ _ _ _ _ _ refl refl told.told (c.good-in-RequestSense.ensures
    ∙ ap good told.sense))

pub returns-in_ok-describe-in-Inquiry-clause-served : goal.returns-in_ok-describe-in-Inquiry-clause-served
returns-in_ok-describe-in-Inquiry-clause-served g c =
    let tells : IsTrue (is_describing c.args.command) =
    elim c.in-Inquiry.is as (λ any. IsTrue (is_describing c.args.command)) [
      | inl inquiry ↦ rw inquiry.2 refl
      | inr other ↦ elim other as (λ any. IsTrue (is_describing c.args.command)) [
        | inl mode ↦ rw mode.4 refl
        | inr other ↦ elim other as (λ any. IsTrue (is_describing c.args.command)) [
          | inl luns ↦ rw luns.2 refl
          | inr other ↦ elim other as (λ any. IsTrue (is_describing c.args.command)) [
            | inl reserve ↦ rw reserve.2 refl
            | inr other ↦ elim other as (λ any. IsTrue (is_describing c.args.command)) [
              | inl groups ↦ rw groups.1 refl
              | inr other ↦ elim other as (λ any. IsTrue (is_describing c.args.command)) [
                | inl ten ↦ rw ten refl
                | inr sixteen ↦ rw sixteen.1 refl
              ]
            ]
          ]
        ]
      ]
    ] in
    described_served _ _ _ _ _ _ _ _ tells c.in_ok-describe-in-Inquiry.ensures.described c.good-in-Inquiry.ensures

pub returns-in-TestUnitReady-clause-left : goal.returns-in-TestUnitReady-clause-left
returns-in-TestUnitReady-clause-left g c = λ h.
    idle_left _ _ _ _ _ (g.B.Blocks.contents c.args.device.now) (work_of c.args.command c.args.bytes.now) _ c.args.device.now

pub returns-in_ok-memory-in-Read-clause-left : goal.returns-in_ok-memory-in-Read-clause-left
returns-in_ok-memory-in-Read-clause-left g c = rw c.in-Read.is c.read-end.ensures.left

pub returns-in-Write-clause-left : goal.returns-in-Write-clause-left
returns-in-Write-clause-left g c = rw c.in-Write.is c.write-end.ensures.left

pub returns-in-CompareAndWrite-clause-left : goal.returns-in-CompareAndWrite-clause-left
returns-in-CompareAndWrite-clause-left g c =
    rw c.in-CompareAndWrite.is (λ h.
    compared_left _ _ _ _ _ (g.B.Blocks.contents c.args.device.now)
    (record { lba = c.in-CompareAndWrite.lba; blocks = c.in-CompareAndWrite.blocks }) c.args.bytes.now
    c.in-CompareAndWrite.fua _ _ _ _ _ _ _ c.medium_reply-in-CompareAndWrite.ensures (c.compare-end.ensures.left h))

pub returns-in-SynchronizeCache-clause-left : goal.returns-in-SynchronizeCache-clause-left
returns-in-SynchronizeCache-clause-left g c = rw c.in-SynchronizeCache.is c.flush-end.ensures.left

pub returns-in_ok-sense-in-RequestSense-clause-left : goal.returns-in_ok-sense-in-RequestSense-clause-left
returns-in_ok-sense-in-RequestSense-clause-left g c = λ h.
    idle_left _ _ _ _ _ (g.B.Blocks.contents c.args.device.now) (work_of c.args.command c.args.bytes.now) _ c.args.device.now

pub returns-in_ok-describe-in-Inquiry-clause-left : goal.returns-in_ok-describe-in-Inquiry-clause-left
returns-in_ok-describe-in-Inquiry-clause-left g c = λ h.
    idle_left _ _ _ _ _ (g.B.Blocks.contents c.args.device.now) (work_of c.args.command c.args.bytes.now) _ c.args.device.now
