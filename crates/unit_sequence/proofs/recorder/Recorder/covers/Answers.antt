use Rattle.std.proofs.Common.{sym, ◌∙◌, ap}
use Rattle.unit_sequence.proofs.Numbering.{looks_moves}
use Rattle.unit_sequence.proofs.recorder.Recorder.covers.Goals as goal

pub load-count-requires : goal.load-count-requires
load-count-requires g c =
    let h = c.word.invariant in
    let offer = c.offer-offer.ensures in
    let both = c.learn.ensures in
    let again = c.again-both.ensures in (
      ap (λ w. w.tracked) h,
      both.0 ∙ ap (λ s. s.book) again ∙ c.self.invariant.1 ∙ sym (ap (λ w. w.book) h),
      offer.0 ∙ sym (both.1 ∙ ap (λ s. s.names) again),
      rw (ap (λ w. w.key) h, offer.1, offer.3) (looks_moves c.learn.new.self.log (g.M.Plain.ask c.args.any.now)),
    )
