use Rattle.std.proofs.Common.{inl, inr, ◌≡◌, ◌≤◌, ◌+◌, ◌++◌, ◌∷◌, [], ℕ, length, Option, Some, sym, ◌∙◌, subst, rules}
use Rattle.mn_base.specs.declared.gate.StopAt.{StopAt}
use Rattle.mn_base.specs.declared.gate.StopAt.TheVariants.{Before, Half, After}
use Rattle.mn_io.specs.Faults.{Rose}
use Rattle.mn_redo.specs.Appender.{IsLogOf}
use Rattle.mn_redo.specs.Redo.{StandsFor}
use Rattle.mn_redo.specs.declared.redo.Phase.TheVariants.{Started}
use Rattle.mn_node.specs.Node.{IsHalfWritten, StopLeaves}
use Rattle.mn_node.proofs.Steps.{ok_both, stopped_after, when_ok}
use Rattle.mn_node.proofs.Resting.{stays_same}
use Rattle.mn_redo.specs.Grammar.{IsBeforeOrAfter, IsStagedAt, Stands}
use Rattle.mn_io.specs.DiskModel.{IsStable}
use Rattle.mn_io.proofs.Moments.{LeavesOnly-weaker}
use Rattle.mn_node.proofs.logging.append_or_stop.Goals as goal

pub returns-in-None-clause-appended : goal.returns-in-None-clause-appended
returns-in-None-clause-appended g c is bodies log =
    let state = g.D.Disk.state in
    let old = c.args.redo.now in
    let new = c.append.new.self in
    let done = c.append.ensures in
    let r = c.append.result in
    let ok = sym c.is_ok.ensures.value ∙ is in
    let more = bodies ++ c.args.body.now ∷ [] in record {
      started = when_ok r (new.phase ≡ Started) ok done.started;
      log = record {
        log = when_ok r (IsLogOf state new more) ok (done.list bodies log.log);
        stands = λ h.
            let told = when_ok r (StandsFor (state new.disk) old.node old.nodes more) ok (done.stable bodies log.log (done.no_better h)) in
            subst (λ (n : ℕ). StandsFor (state new.disk) n new.nodes more) (sym done.node) (subst (λ (n : ℕ). StandsFor (state new.disk) old.node n more) (sym done.nodes) told);
      };
      spare_bodies = when_ok r (old.spare_bodies ≤ new.spare_bodies + 1) ok done.bodies;
      spare_bytes = when_ok r (old.spare_bytes ≤ new.spare_bytes + length c.args.body.now) ok done.bytes;
    }

pub returns-in-Some-Before-clause-stopped : goal.returns-in-Some-Before-clause-stopped
returns-in-Some-Before-clause-stopped g c _ bodies log =
    let old = c.args.redo.now in
    let before : c.args.stop ≡ Some Before = search rules in
    subst (λ (o : Option StopAt). StopLeaves g.D.Disk.state g.D.Disk.faults old.disk old.disk old.node old.nodes bodies c.args.body.now o) (sym before)
    (λ h. (log.stands h, stays_same (g.D.Disk.state old.disk) h))

pub returns-in-Some-Half-clause-stopped : goal.returns-in-Some-Half-clause-stopped
returns-in-Some-Half-clause-stopped g c _ bodies log =
    let old = c.args.redo.now in
    let new = c.write_half-half.new.self in
    let done = c.write_half-half.ensures in
    let half : c.args.stop ≡ Some Half = search rules in
    let staged = IsStagedAt old.node old.nodes bodies c.args.body.now (g.D.Disk.state new.disk).content in
    let told = stopped_after c.write_half-half.result (Rose (g.D.Disk.faults old.disk) (g.D.Disk.faults new.disk)) (g.D.Disk.state old.disk).honest
    (IsHalfWritten (g.D.Disk.state new.disk) old.node old.nodes bodies c.args.body.now) done.cause.failed
    (λ h. ok_both c.write_half-half.result staged (IsStable (g.D.Disk.state new.disk)) (IsHalfWritten (g.D.Disk.state new.disk) old.node old.nodes bodies c.args.body.now)
    (λ s t. record { staged = s; stable = t }) (done.half bodies log.log h) (done.stable h)) in
    subst (λ (o : Option StopAt). StopLeaves g.D.Disk.state g.D.Disk.faults old.disk new.disk old.node old.nodes bodies c.args.body.now o) (sym half)
    (done.stands bodies log.log, told)

pub returns-in-Some-After-clause-stopped : goal.returns-in-Some-After-clause-stopped
returns-in-Some-After-clause-stopped g c _ bodies log =
    let old = c.args.redo.now in
    let new = c.append-whole.new.self in
    let after : c.args.stop ≡ Some After = search rules in
    let told = stopped_after c.append-whole.result (Rose (g.D.Disk.faults old.disk) (g.D.Disk.faults new.disk)) (g.D.Disk.state old.disk).honest
    (StandsFor (g.D.Disk.state new.disk) old.node old.nodes (bodies ++ c.args.body.now ∷ [])) c.append-whole.ensures.cause.failed (c.append-whole.ensures.stable bodies log.log) in
    subst (λ (o : Option StopAt). StopLeaves g.D.Disk.state g.D.Disk.faults old.disk new.disk old.node old.nodes bodies c.args.body.now o) (sym after) told

pub returns-in-Some-Half-clause-moments : goal.returns-in-Some-Half-clause-moments
returns-in-Some-Half-clause-moments g c bodies log =
    let old = c.args.redo.now in
    inr (λ h. LeavesOnly-weaker (g.D.Disk.state old.disk) (g.D.Disk.state c.write_half-half.new.self.disk) (λ l. Stands old.node old.nodes l bodies) (IsBeforeOrAfter old.node old.nodes bodies c.args.body.now) (λ l told. inl told) (c.write_half-half.ensures.any_moment bodies log.log h))
