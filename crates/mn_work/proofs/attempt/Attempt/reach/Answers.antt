use Rattle.std.proofs.Common.{◌∙◌, Bool, not, Some, false, inl, inr, refl, sym, subst}
use Rattle.std.proofs.lemmas.Bool.{ltb-false}
use Rattle.mn_work.specs.declared.next.Next.TheVariants as next_is
use Rattle.mn_work.specs.Cached.{Walks}
use Rattle.mn_work.specs.Knows.{ArePages}
use Rattle.mn_work.proofs.Attempts.{stuck_may}
use Rattle.mn_work.proofs.Firsts.{came_none}
use Rattle.mn_work.proofs.Cached.{drops, stays, uses, without}
use Rattle.mn_work.proofs.attempt.Attempt.reach.Goals as goal

pub returns-then-not-has_node-clause-reached : goal.returns-then-not-has_node-clause-reached
returns-then-not-has_node-clause-reached c =
    let asks = c.requires.asks in
    stuck_may c.args.known.now c.args.later c.args.steps.now c.args.self.now c.requires.way
    (record { step = asks.step; next = asks.next; addr = c.args.addr; met = inr (asks.answer, ltb-false c.args.addr.node.0 c.args.known.now.nodes (sym c.has_node.ensures ∙ c.if-not-has_node.true)) })

pub returns-clause-kept : goal.returns-clause-kept
returns-clause-kept c =
    (refl, refl, λ are. subst ArePages (sym c.drop_page.ensures.pages) (without c.args.addr c.args.known.now.cache are))

pub returns-then-not-has_node-clause-cache : goal.returns-then-not-has_node-clause-cache
returns-then-not-has_node-clause-cache c = stays c.args.later _ c.args.known.now.cache c.args.known.now.cache refl

pub returns-then-not-later-clause-cache : goal.returns-then-not-later-clause-cache
returns-then-not-later-clause-cache c = uses c.args.later _ c.args.known.now.cache c.reach_kept.new.known.cache c.reach_kept.ensures.cache

pub returns-clause-cache : goal.returns-clause-cache
returns-clause-cache c =
    let next = Some (next_is.Page c.args.addr false) in
    subst (λ (b : Bool). Walks b (Some (next_is.Page c.args.addr (not b))) c.args.known.now.cache c.drop_page.new.self) (sym c.if-not-later.false)
    (drops next c.args.known.now.cache c.drop_page.new.self c.drop_page.ensures.pages)

pub returns-then-not-has_node-clause-came : goal.returns-then-not-has_node-clause-came
returns-then-not-has_node-clause-came c = came_none c.args.known.now.cache c.args.self.now c.args.self.now refl

pub returns-then-not-has_node-clause-first : goal.returns-then-not-has_node-clause-first
returns-then-not-has_node-clause-first c = λ first. inl c.requires.way

pub returns-clause-came : goal.returns-clause-came
returns-clause-came c = came_none c.drop_page.new.self c.args.self.now c.args.self.now refl
