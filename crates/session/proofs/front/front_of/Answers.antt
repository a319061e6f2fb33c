use Rattle.std.proofs.Common.{length, ap, ◌∙◌, length-take-le}
use Rattle.session_rules.specs.Words.{BHS_LENGTH}
use Rattle.session.proofs.front.front_of.Goals as goal

pub returns-in-Ok-Some : goal.returns-in-Ok-Some
returns-in-Ok-Some c =
    let found = rw c.in-Ok-Some.field-0-is at c.in-Ok-Some.ensures.found in
    record { bhs_is = c.in-Some.ensures.cases.same; within = found.0; spelled = found.1 }

pub returns-in-Ok-None : goal.returns-in-Ok-None
returns-in-Ok-None c = (
  record {
    no_pdu = rw c.in-Ok-None.field-0-is at c.in-Ok-None.ensures.found;
    no_fault = λ f stands. absurd (c.in-Ok-None.ensures.sound f stands);
  },
  rw c.in-Ok-None.field-0-is at c.in-Ok-None.ensures.short,
)

pub returns-in-Err : goal.returns-in-Err
returns-in-Err c =
    let whole = c.in-Some.ensures.cases in
    record {
      bhs_is = whole.same;
      long = ap length whole.same ∙ length-take-le BHS_LENGTH c.args.bytes.now whole.enough;
      stands = c.in-Err.ensures.fault;
    }
