use Rattle.std.proofs.Common.{◌∙◌, inr, refl, subst}
use Rattle.mn_work.specs.Attempts.{ComesIn}
use Rattle.mn_work.proofs.Cached.{found}
use Rattle.mn_work.proofs.Firsts.{came_none, came_one}
use Rattle.mn_work.proofs.Paths.{used_keep}
use Rattle.mn_work.proofs.Attempts.{by_kept, comes_last, comes_on, is_unfit, unfit_may}
use Rattle.mn_work.proofs.attempt.Attempt.reach_kept.Goals as goal

pub returns-then-branch-clause-reached : goal.returns-then-branch-clause-reached
returns-then-branch-clause-reached c = (
  refl,
  by_kept c.args.known.now c.kept_page.new.self c.args.steps.now c.in_ok-kept.ensures.kept c.args.self.now c.keep.new.self
      (λ entries is way.
      comes_on c.args.known.now.nodes entries c.args.steps.now c.args.self.now c.keep.new.self way c.args.addr c.requires.asks c.requires.node c.in-Some.kept.page
      (rw c.in-Some.is at c.in_ok-kept.ensures.page)
      c.pages_are_known.ensures.pages c.pages_are_known.ensures.slots c.pages_are_known.ensures.come c.in_ok-keep.ensures.stays
      (subst (ComesIn c.args.self.now c.args.addr c.in-Some.kept.page c.keep.new.self) c.if-branch.true c.in_ok-keep.ensures.comes))
      c.requires.way,
)

pub returns-else-branch-clause-reached : goal.returns-else-branch-clause-reached
returns-else-branch-clause-reached c =
    unfit_may c.args.known.now c.kept_page.new.self c.args.steps.now c.args.self.now c.keep.new.self c.in_ok-kept.ensures.kept c.requires.way
    (is_unfit c.args.steps.now c.args.self.now c.keep.new.self c.args.addr c.in-Some.kept.page c.requires.asks c.in_ok-keep.ensures.stays
    (subst (ComesIn c.args.self.now c.args.addr c.in-Some.kept.page c.keep.new.self) c.if-branch.false c.in_ok-keep.ensures.comes))

pub returns-then-branch-clause-inner : goal.returns-then-branch-clause-inner
returns-then-branch-clause-inner c =
    let comes = subst (ComesIn c.args.self.now c.args.addr c.in-Some.kept.page c.keep.new.self) c.if-branch.true c.in_ok-keep.ensures.comes in (
      c.in-Some.kept.page,
      (found c.args.addr c.args.known.now.cache c.in-Some.kept.page c.requires.pages (rw c.in-Some.is at c.in_ok-kept.ensures.found)).1,
      comes.1,
      comes.2 refl,
    )

pub returns-then-branch-clause-last : goal.returns-then-branch-clause-last
returns-then-branch-clause-last c =
    comes_last c.args.known.now.cache c.args.self.now c.keep.new.self c.args.addr c.in-Some.kept.page _ (rw c.in-Some.is at c.in_ok-kept.ensures.found) c.in_ok-keep.ensures.comes

pub returns-else-branch-clause-last : goal.returns-else-branch-clause-last
returns-else-branch-clause-last c =
    comes_last c.args.known.now.cache c.args.self.now c.keep.new.self c.args.addr c.in-Some.kept.page _ (rw c.in-Some.is at c.in_ok-kept.ensures.found) c.in_ok-keep.ensures.comes

pub returns-then-branch-clause-came : goal.returns-then-branch-clause-came
returns-then-branch-clause-came c =
    came_one c.kept_page.new.self.cache c.args.self.now c.keep.new.self c.args.addr c.in-Some.kept.page _
    (used_keep c.args.addr c.args.known.now.cache c.kept_page.new.self.cache c.in_ok-kept.ensures.used ∙ (rw c.in-Some.is at c.in_ok-kept.ensures.found)) c.in_ok-keep.ensures.comes

pub returns-else-branch-clause-came : goal.returns-else-branch-clause-came
returns-else-branch-clause-came c =
    came_one c.kept_page.new.self.cache c.args.self.now c.keep.new.self c.args.addr c.in-Some.kept.page _
    (used_keep c.args.addr c.args.known.now.cache c.kept_page.new.self.cache c.in_ok-kept.ensures.used ∙ (rw c.in-Some.is at c.in_ok-kept.ensures.found)) c.in_ok-keep.ensures.comes

pub returns-else-branch-clause-first : goal.returns-else-branch-clause-first
returns-else-branch-clause-first c =
    inr (record {
      before = c.args.self.now;
      way = by_kept c.args.known.now c.kept_page.new.self c.args.steps.now c.in_ok-kept.ensures.kept c.args.self.now c.args.self.now (λ entries is way. way) c.requires.way;
      addr = c.args.addr;
      asks = c.requires.asks;
      page = c.in-Some.kept.page;
      kept = used_keep c.args.addr c.args.known.now.cache c.kept_page.new.self.cache c.in_ok-kept.ensures.used ∙ (rw c.in-Some.is at c.in_ok-kept.ensures.found);
      keeps = c.in_ok-keep.ensures.stays;
      comes = subst (ComesIn c.args.self.now c.args.addr c.in-Some.kept.page c.keep.new.self) c.if-branch.false c.in_ok-keep.ensures.comes;
    })

pub returns-in_default-clause-came : goal.returns-in_default-clause-came
returns-in_default-clause-came c = came_none c.kept_page.new.self.cache c.args.self.now c.args.self.now refl
