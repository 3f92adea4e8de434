use Rattle.std.proofs.Common.{◌≡◌, ℕ, [], Some, arith, refl, subst, sym, ◌∙◌}
use Rattle.mn_base.specs.declared.answer.Busy.TheVariants.{Path}
use Rattle.mn_work.specs.declared.get.Descent.{Descent}
use Rattle.mn_work.specs.Firsts.{HasGoneDown, IsKeptFault, PassesBy}
use Rattle.mn_work.specs.Paths.{PathPasses}
use Rattle.mn_work.proofs.Cached.{none_used, then_used}
use Rattle.mn_work.proofs.Firsts.{goes_down, still_down}
use Rattle.mn_work.proofs.Paths.{HasGone, all_gone, gone_none, gone_on}
use Rattle.mn_work.proofs.get.Descent.go_down.Goals as goal

pub loop-level-init : goal.loop-level-init
loop-level-init c = record {
  kept = (refl, refl, λ are. are);
  cache = none_used c.args.known.now.cache;
  above = c.requires.above;
  version = refl;
  path = λ leaf leads. leads;
  low = gone_none c.args.self.now.above;
  down = λ entries catalog. ([], refl);
}

pub loop-level-preserved : goal.loop-level-preserved
loop-level-preserved c =
    let so_far = c.loop-level.invariant in
    record {
      kept = (
        c.pass_kept.ensures.kept.0 ∙ so_far.kept.0,
        c.pass_kept.ensures.kept.1 ∙ so_far.kept.1,
        λ are. c.pass_kept.ensures.kept.2 (so_far.kept.2 are),
      );
      cache = then_used c.args.known.now.cache c.loop-level.known.cache c.pass_kept.new.known.cache so_far.cache c.pass_kept.ensures.cache;
      above = c.pass_kept.ensures.above so_far.above;
      version = c.pass_kept.ensures.version ∙ so_far.version;
      path = λ leaf leads.
          let led = so_far.path leaf leads in
          (subst (PathPasses c.pass_kept.new.known c.args.key.now c.loop-level.self c.pass_kept.new.self leaf) c.in-On.is (c.pass_kept.ensures.path leaf led)).0;
      low = gone_on c.loop-level._level c.loop-level.self.above c.pass_kept.new.self.above so_far.low (c.pass_kept.ensures.lower c.in-On.is);
      down = λ entries catalog.
          goes_down entries c.loop-level.known.cache c.pass_kept.new.known.cache c.args.key.now c.args.self.now c.loop-level.self c.pass_kept.new.self c.pass_kept.ensures.cache (so_far.down entries catalog)
          (subst (PassesBy entries c.pass_kept.new.known.cache c.args.key.now c.loop-level.self c.pass_kept.new.self) c.in-On.is
          (c.pass_kept.ensures.passes entries (c.pass_kept.ensures.kept.1 ∙ so_far.kept.1 ∙ catalog)));
    }

pub returns-in-Missing-clause-path : goal.returns-in-Missing-clause-path
returns-in-Missing-clause-path c = λ leaf leads.
    let led = c.loop-level.invariant.path leaf leads in
    let at = subst (PathPasses c.pass_kept.new.known c.args.key.now c.loop-level.self c.pass_kept.new.self leaf) c.in-Missing.is (c.pass_kept.ensures.path leaf led) in
    (sym at.1, refl)

pub returns-in-Fault-clause-path : goal.returns-in-Fault-clause-path
returns-in-Fault-clause-path c = λ leaf leads.
    let led = c.loop-level.invariant.path leaf leads in
    absurd (subst (PathPasses c.pass_kept.new.known c.args.key.now c.loop-level.self c.pass_kept.new.self leaf) c.in-Fault.is (c.pass_kept.ensures.path leaf led))

-- it stands where it stood, which it has come to by kept pages
pub returns-in-Missing-clause-goes : goal.returns-in-Missing-clause-goes
returns-in-Missing-clause-goes c = λ entries catalog.
    let stays : c.pass_kept.new.self ≡ c.loop-level.self = c.pass_kept.ensures.stays (λ on. (let missing = c.in-Missing.is in cc)) in (
      subst (HasGoneDown entries c.pass_kept.new.known.cache c.args.key.now c.args.self.now) (sym stays)
          (still_down entries c.loop-level.known.cache c.pass_kept.new.known.cache c.args.key.now c.args.self.now c.loop-level.self c.pass_kept.ensures.cache
          (c.loop-level.invariant.down entries (sym c.loop-level.invariant.kept.1 ∙ (sym c.pass_kept.ensures.kept.1 ∙ catalog)))),
      tt,
    )

pub returns-in-Fault-clause-goes : goal.returns-in-Fault-clause-goes
returns-in-Fault-clause-goes c = λ entries catalog.
    let stays : c.pass_kept.new.self ≡ c.loop-level.self = c.pass_kept.ensures.stays (λ on. (let fault = c.in-Fault.is in cc)) in
    let met = subst (PassesBy entries c.pass_kept.new.known.cache c.args.key.now c.loop-level.self c.pass_kept.new.self) c.in-Fault.is (c.pass_kept.ensures.passes entries catalog) in (
      subst (HasGoneDown entries c.pass_kept.new.known.cache c.args.key.now c.args.self.now) (sym stays)
          (still_down entries c.loop-level.known.cache c.pass_kept.new.known.cache c.args.key.now c.args.self.now c.loop-level.self c.pass_kept.ensures.cache
          (c.loop-level.invariant.down entries (sym c.loop-level.invariant.kept.1 ∙ (sym c.pass_kept.ensures.kept.1 ∙ catalog)))),
      subst (λ (d : Descent). IsKeptFault entries c.pass_kept.new.known.cache c.args.key.now d (Some (Path d.addr c.in-Fault.seq))) (sym stays) met,
    )

-- a path has no more pages
pub unreachable-requires : goal.unreachable-requires
unreachable-requires c =
    let all : c.loop-level._level ≡ 15 = omega arith in
    all_gone c.loop-level.self.above (subst (λ (n : ℕ). HasGone n c.loop-level.self.above) all c.loop-level.invariant.low) c.loop-level.invariant.above

pub returns-in-Missing-clause-cache : goal.returns-in-Missing-clause-cache
returns-in-Missing-clause-cache c =
    then_used c.args.known.now.cache c.loop-level.known.cache c.pass_kept.new.known.cache c.loop-level.invariant.cache c.pass_kept.ensures.cache

pub returns-in-Fault-clause-cache : goal.returns-in-Fault-clause-cache
returns-in-Fault-clause-cache c =
    then_used c.args.known.now.cache c.loop-level.known.cache c.pass_kept.new.known.cache c.loop-level.invariant.cache c.pass_kept.ensures.cache
