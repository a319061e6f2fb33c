use Rattle.std.proofs.Common.{◌&&◌, length, refl}
use Rattle.std.specs.Prelude.{slice_get}
use Rattle.world.specs.Traffic.{begun, collected, flush_ended, handed_in, in_hand, submitted}
use Rattle.world.specs.declared.event.Event.TheVariants as events
use Rattle.world.proofs.Standing.{again_goes, back_step, counted_goes, on_done, quiet_goes}
use Rattle.world.proofs.world.World.step.Goals as goal

pub returns-in-Detach-clause-done : goal.returns-in-Detach-clause-done
returns-in-Detach-clause-done g c = rw c.in-Detach.is c.detach.ensures

pub returns-in-Reset-clause-done : goal.returns-in-Reset-clause-done
returns-in-Reset-clause-done g c = rw c.in-Reset.is c.reset.ensures

pub returns-in-Move-clause-done : goal.returns-in-Move-clause-done
returns-in-Move-clause-done g c = rw c.in-Move.is c.move_to.ensures

pub returns-in-Serve-clause-done : goal.returns-in-Serve-clause-done
returns-in-Serve-clause-done g c = rw c.in-Serve.is c.serve.ensures

pub returns-in-Attach-clause-done : goal.returns-in-Attach-clause-done
returns-in-Attach-clause-done g c = rw c.in-Attach.is c.attach.ensures.done

pub returns-in-Take-clause-done : goal.returns-in-Take-clause-done
returns-in-Take-clause-done g c =
    rw c.in-Take.is
    (quiet_goes (g.O.Opener.claims && g.B.Blocks.claims) g.B.Blocks.contents g.B.Blocks.failures g.O.Opener.opens_failed
    g.F.Blocks.failures
    (events.Take c.in-Take.group) c.args.self.now _ _ c.take.ensures.units c.take.ensures.traffic
    (λ opening past stands. refl))

pub returns-in-Post-clause-done : goal.returns-in-Post-clause-done
returns-in-Post-clause-done g c =
    rw c.in-Post.is
    (quiet_goes (g.O.Opener.claims && g.B.Blocks.claims) g.B.Blocks.contents g.B.Blocks.failures g.O.Opener.opens_failed
    g.F.Blocks.failures
    (events.Post c.in-Post.session) c.args.self.now _ _ c.post.ensures.units c.post.ensures.traffic
    (λ opening past stands. refl))

pub returns-in-Submit-clause-done : goal.returns-in-Submit-clause-done
returns-in-Submit-clause-done g c =
    let t = c.args.self.now.traffic in
    rw c.in-Submit.is
    (on_done c.submit.result c.submit.ensures.traffic
    (λ did. counted_goes (g.O.Opener.claims && g.B.Blocks.claims) g.B.Blocks.contents g.B.Blocks.failures g.O.Opener.opens_failed
    g.F.Blocks.failures
    (events.Submit c.in-Submit.session c.in-Submit.by_group c.in-Submit.asked c.in-Submit.bytes c.in-Submit.is_late) c.args.self.now
    c.submit.new.self c.in-Submit.session did.0 (λ count x. submitted count t c.in-Submit.session x c.in_ok-job-in-Submit.job)
    did.1 c.submit.ensures.units did.2 (λ opening past. (c.in_ok-job-in-Submit.job, c.in_ok-job-in-Submit.ensures, refl))))

pub returns-in-SubmitAgain-clause-done : goal.returns-in-SubmitAgain-clause-done
returns-in-SubmitAgain-clause-done g c =
    rw c.in-SubmitAgain.is
    (on_done c.submit_again.result c.submit_again.ensures.traffic
    (λ did. again_goes (g.O.Opener.claims && g.B.Blocks.claims) g.B.Blocks.contents g.B.Blocks.failures g.O.Opener.opens_failed
    g.F.Blocks.failures
    (events.SubmitAgain c.in-SubmitAgain.session c.in-SubmitAgain.is_late) c.args.self.now c.submit_again.new.self c.in-SubmitAgain.session did.0 c.in-SubmitAgain.is_late
    handed_in did.1 c.submit_again.ensures.units did.2 (λ opening past is. is)))

pub returns-in-Collect-clause-done : goal.returns-in-Collect-clause-done
returns-in-Collect-clause-done g c =
    let t = c.args.self.now.traffic in
    rw c.in-Collect.is
    (on_done c.collect.result c.collect.ensures.traffic
    (λ did. counted_goes (g.O.Opener.claims && g.B.Blocks.claims) g.B.Blocks.contents g.B.Blocks.failures g.O.Opener.opens_failed
    g.F.Blocks.failures
    (events.Collect c.in-Collect.session) c.args.self.now
    c.collect.new.self c.in-Collect.session did.0 (λ count x. collected count t c.in-Collect.session x)
    did.1 c.collect.ensures.units did.2 (λ opening past. refl)))

pub returns-in-Begin-clause-done : goal.returns-in-Begin-clause-done
returns-in-Begin-clause-done g c =
    let t = c.args.self.now.traffic in
    rw c.in-Begin.is
    (on_done c.submit-in-Begin.result c.submit-in-Begin.ensures.traffic
    (λ did. counted_goes (g.O.Opener.claims && g.B.Blocks.claims) g.B.Blocks.contents g.B.Blocks.failures g.O.Opener.opens_failed
    g.F.Blocks.failures
    (events.Begin c.in-Begin.session c.in-Begin.by_group c.in-Begin.asked c.in-Begin.bytes c.in-Begin.is_late) c.args.self.now
    c.submit-in-Begin.new.self c.in-Begin.session did.0 (λ count x. begun count t c.in-Begin.session x c.in_ok-job-in-Begin.job)
    did.1 c.submit-in-Begin.ensures.units did.2 (λ opening past. (c.in_ok-job-in-Begin.job, c.in_ok-job-in-Begin.ensures, refl))))

pub returns-in-BeginAgain-clause-done : goal.returns-in-BeginAgain-clause-done
returns-in-BeginAgain-clause-done g c =
    rw c.in-BeginAgain.is
    (on_done c.submit_again-in-BeginAgain.result c.submit_again-in-BeginAgain.ensures.traffic
    (λ did. again_goes (g.O.Opener.claims && g.B.Blocks.claims) g.B.Blocks.contents g.B.Blocks.failures g.O.Opener.opens_failed
    g.F.Blocks.failures
    (events.BeginAgain c.in-BeginAgain.session c.in-BeginAgain.is_late) c.args.self.now c.submit_again-in-BeginAgain.new.self c.in-BeginAgain.session did.0 c.in-BeginAgain.is_late
    in_hand did.1 c.submit_again-in-BeginAgain.ensures.units did.2 (λ opening past is. is)))

pub returns-in-EndFlush-clause-done : goal.returns-in-EndFlush-clause-done
returns-in-EndFlush-clause-done g c =
    let t = c.args.self.now.traffic in
    rw c.in-EndFlush.is
    (on_done c.end_flush.result c.end_flush.ensures.traffic
    (λ did. counted_goes (g.O.Opener.claims && g.B.Blocks.claims) g.B.Blocks.contents g.B.Blocks.failures g.O.Opener.opens_failed
    g.F.Blocks.failures
    (events.EndFlush c.in-EndFlush.session c.in-EndFlush.is_done) c.args.self.now
    c.end_flush.new.self c.in-EndFlush.session did.0
    (λ count x. flush_ended count t c.in-EndFlush.session x c.in-EndFlush.is_done)
    did.1 c.end_flush.ensures.units did.2 (λ opening past. refl)))

pub returns-in-Close-clause-done : goal.returns-in-Close-clause-done
returns-in-Close-clause-done g c =
    rw c.in-Close.is
    (quiet_goes (g.O.Opener.claims && g.B.Blocks.claims) g.B.Blocks.contents g.B.Blocks.failures g.O.Opener.opens_failed
    g.F.Blocks.failures
    (events.Close c.in-Close.group) c.args.self.now _ _ c.close.ensures.units c.close.ensures.traffic
    (λ opening past stands. refl))

pub returns-in-TakeBack-clause-done : goal.returns-in-TakeBack-clause-done
returns-in-TakeBack-clause-done g c =
    let claims = g.O.Opener.claims && g.B.Blocks.claims in
    let old = c.args.self.now in
    rw c.in-TakeBack.is
    (quiet_goes claims g.B.Blocks.contents g.B.Blocks.failures g.O.Opener.opens_failed
    g.F.Blocks.failures
    (events.TakeBack c.in-TakeBack.session) old _ c.take_back.new.self.traffic c.take_back.ensures.units refl
    (λ opening past stands. back_step claims (length old.units) opening past old.traffic c.in-TakeBack.session
    c.take_back.new.self.traffic (slice_get old.traffic.sessions c.in-TakeBack.session) c.take_back.ensures.traffic))
