-- What is judged of a turn, and that it holds of each turn of a request that is no SCSI Command.
use Rattle.std.proofs.Common.{if◌then◌else◌, ◌≡◌, ◌⊎◌, ℕ, ◌+◌, ◌%◌, Bool, true, false, not, List, [], ◌∷◌, Option, Some, None, refl, inl}
use Rattle.std.proofs.Common.{inr}
use Rattle.session_rules.specs.Words.{Initiator, TaskManagementRequest, ManagementHeader, R2tHeader}
use Rattle.session_rules.specs.{Asking.Asking, Turn.Incoming, Turn.pdu, Turn.Out, Tasks.Collecting, Tasks.r2t_with, Tasks.r2ts_of}
use Rattle.session_rules.specs.{Requests.IsRequestAnswered, Verdict.IsJudged, Response.response_with, Response.responses}
use Rattle.session_rules.specs.{DataIn.data_in_with, DataIn.data_ins}
use Rattle.session_rules.specs.declared.{verdict.Verdict.Verdict, verdict.Verdict.TheVariants.Accepted, lengths.Lengths.Lengths}
use Rattle.session_rules.specs.Window.{wrap, numbers_of, exp_cmd_sn_behind, takes_number}
use Rattle.session_rules.specs.TaskManagement.{IsManaged, management_answer}
use Rattle.session_rules.specs.Answered.{Answered, Outcome, answered_by, answered_in, IsCalled}
use Rattle.session_rules.specs.Legal.{status_number, status_numbers, IsWindow, HaveWindow, HaveNextR2t, IsSentFor, HasItsData}
use Rattle.session_rules.specs.Legal.{HaveTheirData, IsAnsweredTask, IsTiledTask, IsCountedTask, HasResiduals, IsToldTask}
use Rattle.session_full_feature.specs.Counters.{Counters, after_status, after_number, after_collecting, after_answer, next_numbers}

-- what goes out in a turn, and the numbers behind it, where the session's counters are these before and behind it
pub record OutFacts (s s' : Counters) (came : Incoming) (outs : List Out) : Type 0 where
  pub windows : HaveWindow s'.standing outs
  pub transfers : HaveNextR2t s.standing s.stat_sn outs
  pub carried : HaveTheirData s.setting came outs
  pub statuses : ((s'.stat_sn ≡ s.stat_sn) × (status_numbers outs ≡ []))
      ⊎ ((s'.stat_sn ≡ wrap (s.stat_sn + 1)) × (status_numbers outs ≡ s.stat_sn ∷ []))
  pub tags : ((s'.standing.transfer_tag ≡ s.standing.transfer_tag) × (r2ts_of outs ≡ []))
      ⊎ ((s'.standing.transfer_tag ≡ (s.standing.transfer_tag + 1) % 4294967295) × (r : R2tHeader) × (r2ts_of outs ≡ r ∷ []))

-- what goes out for the command that is answered, if one is
pub record TaskFacts (l : Lengths) (by : Option Answered) (outs : List Out) : Type 0 where
  pub answered : IsAnsweredTask by outs
  pub tiled : IsTiledTask l by outs
  pub counted : IsCountedTask by
  pub residual : HasResiduals by
  pub told : IsToldTask by

-- what is judged of one turn
pub record TurnFacts (s s' : Counters) (came : Incoming) (v : Verdict) (call : Option Asking)
    (outs : List Out) : Type 0 where
  pub judged : IsJudged s.setting s.standing came v
  pub called : IsCalled s.setting s.standing v came call
  pub kinds : IsSentFor v came outs
  pub requests : IsRequestAnswered s.setting s.standing v came call outs
  pub setting_is : s'.setting ≡ s.setting
  pub commands : ((s'.standing.exp_cmd_sn ≡ s.standing.exp_cmd_sn) × (takes_number v came ≡ false))
      ⊎ ((s'.standing.exp_cmd_sn ≡ wrap (s.standing.exp_cmd_sn + 1)) × (takes_number v came ≡ true))
  pub sends : OutFacts s s' came outs
  pub task : TaskFacts s.setting.start.lengths (answered_in s.standing came v call outs) outs

-- nothing goes out
pub silent : {s s' : Counters} {came : Incoming} → s'.stat_sn ≡ s.stat_sn
    → s'.standing.transfer_tag ≡ s.standing.transfer_tag → OutFacts s s' came []
silent status tag = record {
  windows = tt;
  transfers = tt;
  carried = tt;
  statuses = inl (status, refl);
  tags = inl (tag, refl);
}

-- one PDU goes out, which uses up a StatSN and is no R2T
pub one_out : {s s' : Counters} {came : Incoming} {o : Out} → IsWindow s'.standing (numbers_of o.header)
    → status_number o.header ≡ Some s.stat_sn → r2t_with o.header ≡ None → HasItsData s.setting came o.header o.bytes
    → s'.stat_sn ≡ wrap (s.stat_sn + 1) → s'.standing.transfer_tag ≡ s.standing.transfer_tag
    → OutFacts s s' came (o ∷ [])
one_out window status no_r2t its_data next tag = record {
  windows = (window, tt);
  transfers = rw no_r2t tt;
  carried = (its_data, tt);
  statuses = inr (next, rw status refl);
  tags = inl (tag, rw no_r2t refl);
}

-- no command is answered
pub nobody : {l : Lengths} {by : Option Answered} {outs : List Out} → by ≡ None → responses outs ≡ [] → data_ins outs ≡ []
    → TaskFacts l by outs
nobody e no_response no_data = rw e (record {
  answered = no_response;
  tiled = no_data;
  counted = tt;
  residual = tt;
  told = tt;
})

pub commands_of : (i : Bool) (e : ℕ)
    → (((if i then e else wrap (e + 1)) ≡ e) × (not i ≡ false))
    ⊎ (((if i then e else wrap (e + 1)) ≡ wrap (e + 1)) × (not i ≡ true))
commands_of true e = inl (refl, refl)
commands_of false e = inr (refl, refl)

pub moved : {s s1 s2 : Counters} {came : Incoming} {v : Verdict} {call call' : Option Asking} {outs outs' : List Out}
    → call' ≡ call → outs' ≡ outs → s2 ≡ s1 → TurnFacts s s1 came v call outs → TurnFacts s s2 came v call' outs'
moved e f g k = rw (e, f, g) k

-- ---- another request that was accepted: it is answered by no PDU, or by one that uses up a StatSN and is neither a
-- SCSI Response nor a Data-In

module _ (s : Counters) (cs : List Collecting) (came : Incoming) (immediate : Bool) (call : Option Asking)
    (judged : IsJudged s.setting s.standing came Accepted) (called : IsCalled s.setting s.standing Accepted came call)
    (no_task : (own : List Out) → answered_in s.standing came Accepted call own ≡ None)
    (numbered : takes_number Accepted came ≡ not immediate)
    (of_accepted : (outs : List Out) → IsSentFor Accepted came outs) where
  abbrev behind : Counters
  behind = after_collecting cs (after_number immediate s)

  facts : (outs : List Out) (s' : Counters) → IsRequestAnswered s.setting s.standing Accepted came call outs
      → responses outs ≡ [] → data_ins outs ≡ [] → s'.setting ≡ s.setting
      → s'.standing.exp_cmd_sn ≡ exp_cmd_sn_behind immediate s.standing.exp_cmd_sn → OutFacts s s' came outs
      → TurnFacts s s' came Accepted call outs
  facts outs s' answer no_response no_data setting cmd sends = record {
    judged = judged;
    called = called;
    kinds = of_accepted outs;
    requests = answer;
    setting_is = setting;
    commands = rw (cmd, numbered) (commands_of immediate s.standing.exp_cmd_sn);
    sends = sends;
    task = nobody (no_task outs) no_response no_data;
  }

  silent_facts : IsRequestAnswered s.setting s.standing Accepted came call [] → TurnFacts s behind came Accepted call []
  silent_facts answer = facts [] behind answer refl refl refl refl (silent refl refl)

  module _ (o : Out) (window : IsWindow behind.standing (numbers_of o.header))
      (status : status_number o.header ≡ Some s.stat_sn) (no_response : response_with o.header o.bytes ≡ None)
      (no_data : data_in_with o.header o.bytes ≡ None) (no_r2t : r2t_with o.header ≡ None)
      (its_data : HasItsData s.setting came o.header o.bytes) where
    pub one_facts : IsRequestAnswered s.setting s.standing Accepted came call (o ∷ [])
        → TurnFacts s (after_status behind) came Accepted call (o ∷ [])
    one_facts answer =
        facts (o ∷ []) (after_status behind) answer (rw no_response refl) (rw no_data refl) refl refl
        (one_out window status no_r2t its_data refl refl)

    pub some_or_none : (none : Bool) → IsRequestAnswered s.setting s.standing Accepted came call (if none then [] else o ∷ [])
        → TurnFacts s (after_answer (if none then [] else o ∷ []) behind) came Accepted call (if none then [] else o ∷ [])
    some_or_none true answer = silent_facts answer
    some_or_none false answer = one_facts answer

pub no_command : (w : Option Outcome) (own : List Out) → answered_by w None own ≡ None
no_command None own = refl
no_command (Some outcome) own = refl

module _ (s : Counters) (b : List ℕ) (p : ManagementHeader) (d : List ℕ) (call : Option Asking)
    (judged : IsJudged s.setting s.standing (pdu b (Initiator (TaskManagementRequest p)) d) Accepted)
    (kept : List Collecting) where
  abbrev mid : Counters
  mid = after_collecting kept (after_number p.immediate s)

  abbrev told_by : Option ℕ → List Out
  told_by response = management_answer (next_numbers mid) p response

  pub management_facts : (response : Option ℕ) → IsManaged s.setting.units s.standing.collecting p call response kept
      → TurnFacts s (after_answer (told_by response) mid)
      (pdu b (Initiator (TaskManagementRequest p)) d) Accepted call (told_by response)
  management_facts None k =
      silent_facts s kept (pdu b (Initiator (TaskManagementRequest p)) d) p.immediate call judged (None, kept, k)
      (λ own. no_command _ own) refl (λ own. tt)
      (next_numbers mid, None, kept, k, refl)
  management_facts (Some response) k =
      one_facts s kept (pdu b (Initiator (TaskManagementRequest p)) d) p.immediate call judged
      (Some response, kept, k) (λ own. no_command _ own) refl (λ own. tt) _
      (record { expects = refl; reaches = refl }) refl refl refl refl refl (next_numbers mid, Some response, kept, k, refl)
