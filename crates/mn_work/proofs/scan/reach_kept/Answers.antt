-- None of the cached pages has left.
use Rattle.std.proofs.Common.{◌≡◌, ◌≤◌, ◌∙◌, ℕ, [], Some, arith, inl, inr, refl, rules, subst, sym}
use Rattle.std.proofs.lemmas.Bool.{ltb-false}
use Rattle.mn_base.specs.declared.ids.Addr.{Addr}
use Rattle.mn_base.specs.declared.answer.Busy.TheVariants.{Path}
use Rattle.mn_work.specs.Firsts.{IsKeptScanFault, ScanPasses}
use Rattle.mn_work.proofs.Cached.{none_used, then_used}
use Rattle.mn_work.proofs.Firsts.{scan_goes_down, scan_still_down}
use Rattle.mn_work.proofs.Scans.{needs_at}
use Rattle.mn_work.proofs.Paths.{HasGone, all_gone, gone_none, gone_on}
use Rattle.mn_work.proofs.scan.reach_kept.Goals as goal

pub returns-in_err-pass_kept-clause-cache : goal.returns-in_err-pass_kept-clause-cache
returns-in_err-pass_kept-clause-cache c =
    then_used c.args.known.now.cache c.loop-level.known.cache c.pass_kept.new.known.cache c.loop-level.invariant.1 c.pass_kept.ensures.cache

pub returns-in-Missing-clause-cache : goal.returns-in-Missing-clause-cache
returns-in-Missing-clause-cache c =
    then_used c.args.known.now.cache c.loop-level.known.cache c.pass_kept.new.known.cache c.loop-level.invariant.1 c.pass_kept.ensures.cache

pub returns-in-Fails-clause-cache : goal.returns-in-Fails-clause-cache
returns-in-Fails-clause-cache c =
    then_used c.args.known.now.cache c.loop-level.known.cache c.pass_kept.new.known.cache c.loop-level.invariant.1 c.pass_kept.ensures.cache

pub loop-level-init : goal.loop-level-init
loop-level-init c = (
  (refl, refl, λ are. are),
  none_used c.args.known.now.cache,
  c.requires.above,
  refl,
  gone_none c.args.scan.now.above,
  ([], refl),
)

pub loop-level-preserved : goal.loop-level-preserved
loop-level-preserved c = (
  search rules,
  then_used c.args.known.now.cache c.loop-level.known.cache c.pass_kept.new.known.cache c.loop-level.invariant.1 c.pass_kept.ensures.cache,
  search rules,
  search rules,
  gone_on c.loop-level._level c.loop-level.scan.above c.pass_kept.new.scan.above c.loop-level.invariant.4 (c.in_ok-pass_kept.ensures.lower c.in-On.is),
  scan_goes_down c.loop-level.known c.pass_kept.new.known c.args.name.now c.args.scan.now c.loop-level.scan c.pass_kept.ensures.kept.1 c.pass_kept.ensures.cache c.loop-level.invariant.5 c.pass_kept.new.scan c.in-Need.addr (needs_at c.loop-level.scan c.in-Need.addr c.in-Need.leaf c.in-Need.ensures).1
      (subst (ScanPasses c.pass_kept.new.known c.args.name.now c.loop-level.scan c.in-Need.addr c.pass_kept.new.scan) c.in-On.is c.in_ok-pass_kept.ensures.passes),
)

-- a path has no more pages
pub unreachable-requires : goal.unreachable-requires
unreachable-requires c =
    let all : c.loop-level._level ≡ 15 = omega arith in
    all_gone c.loop-level.scan.above (subst (λ (n : ℕ). HasGone n c.loop-level.scan.above) all c.loop-level.invariant.4) c.loop-level.invariant.2

pub returns-then-not-has_node-clause-first : goal.returns-then-not-has_node-clause-first
returns-then-not-has_node-clause-first c =
    let needs = needs_at c.loop-level.scan c.in-Need.addr c.in-Need.leaf c.in-Need.ensures in (
      c.loop-level.scan,
      c.loop-level.invariant.5,
      needs.0,
      inl (
        subst (λ (a : Addr). c.loop-level.known.nodes ≤ a.node.0) (sym needs.1) (ltb-false c.in-Need.addr.node.0 c.loop-level.known.nodes (sym c.has_node.ensures ∙ c.if-not-has_node.true)),
        subst (λ (a : Addr). c.fault_at.result ≡ Some (Path a 0)) (sym needs.1) c.fault_at.ensures,
      ),
    )

pub returns-in-Fails-clause-first : goal.returns-in-Fails-clause-first
returns-in-Fails-clause-first c =
    let needs = needs_at c.loop-level.scan c.in-Need.addr c.in-Need.leaf c.in-Need.ensures in (
      c.loop-level.scan,
      scan_still_down c.loop-level.known c.pass_kept.new.known c.args.name.now c.args.scan.now c.loop-level.scan c.pass_kept.ensures.kept.1 c.pass_kept.ensures.cache c.loop-level.invariant.5,
      needs.0,
      inr (subst (λ (a : Addr). IsKeptScanFault c.pass_kept.new.known c.args.name.now c.loop-level.scan a c.in-Fails.cause) (sym needs.1)
          (subst (ScanPasses c.pass_kept.new.known c.args.name.now c.loop-level.scan c.in-Need.addr c.pass_kept.new.scan) c.in-Fails.is c.in_ok-pass_kept.ensures.passes)),
    )
