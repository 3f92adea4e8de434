use Rattle.std.proofs.Common.{Option, inl, inr, refl, subst}
use Rattle.std.proofs.lemmas.Result.{IfOk-weaker}
use Rattle.mn_work.specs.declared.next.Next.{Next}
use Rattle.mn_work.specs.Children.{StaysLast, WantsRoot}
use Rattle.mn_work.specs.Firsts.{EndsFirst, ReachesRoot}
use Rattle.mn_work.proofs.Children.{unless, way_on}
use Rattle.mn_work.proofs.Firsts.{behind_first, none_there, root_first}
use Rattle.mn_work.proofs.Cached.{stays}
use Rattle.mn_work.proofs.Last.{on_any}
use Rattle.mn_work.proofs.child.Child.advance.Goals as goal

pub go_on-requires-in-None-clause-way : goal.go_on-requires-in-None-clause-way
go_on-requires-in-None-clause-way c =
    let wants = subst (λ (o : Option Next). WantsRoot c.args.known.now c.args.later c.args.self.now c.reach.new.self o) c.in-None.is c.in_ok-next.ensures.wants in
    way_on c.args.known.now c.reach.new.known c.args.op.now c.args.self.now c.reach.new.self c.in_ok-next.ensures.kept.0 c.in_ok-next.ensures.kept.1 c.in_ok-next.ensures.stays c.args.later c.requires.way wants

pub returns-in-None-clause-way : goal.returns-in-None-clause-way
returns-in-None-clause-way c =
    let wants = subst (λ (o : Option Next). WantsRoot c.args.known.now c.args.later c.args.self.now c.reach.new.self o) c.in-None.is c.in_ok-next.ensures.wants in
    let way = way_on c.args.known.now c.reach.new.known c.args.op.now c.args.self.now c.reach.new.self c.in_ok-next.ensures.kept.0 c.in_ok-next.ensures.kept.1 c.in_ok-next.ensures.stays c.args.later c.requires.way wants in
    IfOk-weaker c.go_on-in-None.result _ _ (λ next told. unless next _ way) c.go_on-in-None.ensures.wants

pub returns-then-is_some-clause-cache : goal.returns-then-is_some-clause-cache
returns-then-is_some-clause-cache c = stays c.args.later _ c.args.known.now.cache c.args.known.now.cache refl

pub returns-then-is_some-clause-last : goal.returns-then-is_some-clause-last
returns-then-is_some-clause-last c =
    on_any c.go_on.result (StaysLast c.args.known.now.cache c.args.self.now c.args.self.now) (λ es cached last. last)

pub returns-in-None-clause-last : goal.returns-in-None-clause-last
returns-in-None-clause-last c =
    on_any c.go_on-in-None.result (StaysLast c.args.known.now.cache c.args.self.now c.reach.new.self) c.in_ok-next.ensures.last

pub returns-then-is_some-clause-first : goal.returns-then-is_some-clause-first
returns-then-is_some-clause-first c = λ first.
    IfOk-weaker c.go_on.result (EndsFirst c.args.known.now c.args.op.now c.args.self.now) _
    (λ next ends. behind_first c.args.known.now c.args.op.now c.args.self.now c.args.self.now next (inl refl) ends) (c.go_on.ensures.first first)

pub returns-in-Some-clause-first : goal.returns-in-Some-clause-first
returns-in-Some-clause-first c = λ first.
    root_first c.reach.new.known c.args.op.now c.args.self.now c.reach.new.self c.in-Some.next (none_there c.args.self.now.page c.is_some.result c.is_some.ensures c.if-is_some.false)
    (subst (ReachesRoot c.reach.new.known c.args.self.now c.reach.new.self) c.in-Some.is (c.in_ok-next.ensures.first first))

pub returns-in-None-clause-first : goal.returns-in-None-clause-first
returns-in-None-clause-first c = λ first.
    let root = subst (ReachesRoot c.reach.new.known c.args.self.now c.reach.new.self) c.in-None.is (c.in_ok-next.ensures.first first) in
    IfOk-weaker c.go_on-in-None.result (EndsFirst c.reach.new.known c.args.op.now c.reach.new.self) _
    (λ next ends. behind_first c.reach.new.known c.args.op.now c.args.self.now c.reach.new.self next (inr (none_there c.args.self.now.page c.is_some.result c.is_some.ensures c.if-is_some.false, root)) ends) (c.go_on-in-None.ensures.first first)
