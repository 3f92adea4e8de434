use Rattle.std.proofs.Common.{◌≡◌, ◌∙◌, ap, false, refl, subst, sym, true}
use Rattle.std.proofs.lemmas.Result.{IfOk-weaker, on_ok_weaker}
use Rattle.mn_work.specs.declared.work.Work.{Work}
use Rattle.mn_work.specs.Paths.{GetsAt, at_root}
use Rattle.mn_work.specs.Walks.{is_later}
use Rattle.mn_work.specs.Works.{GoesOnBy, JobIsLast, StaysLast, lacks_catalog}
use Rattle.mn_work.proofs.Getting.{begins_there, has_catalog}
use Rattle.mn_work.proofs.Cached.{stays}
use Rattle.mn_work.proofs.Works.{goes_so, starts_last, wants_begun, wants_on}
use Rattle.mn_work.proofs.work.Work.advance.Goals as goal
use Rattle.mn_work.proofs.work.Work.advance.Goals.{in-Start+in_ok-begin, in_default}

pub returns-clause-wants : goal.returns-clause-wants
returns-clause-wants c =
    let known = c.args.known.now in
    let new = c.go_on.new.known in
    let before = c.args.self.now in
    let from = c.match-self.self in
    let after = c.go_on.new.self in
    elim c.match-self.branch [
      | in-Start+in_ok-begin w ↦
          IfOk-weaker c.go_on.result (GoesOnBy new from after) _
          (λ next goes. wants_begun known new before after next c.go_on.ensures.kept w.begin.new.self from w.in-Start.is w.self-is (sym c.lacks_catalog.ensures ∙ c.if-lacks_catalog.false) w.in_ok-begin.ensures.starts w.in_ok-begin.ensures.op w.in_ok-begin.ensures.right goes)
          (goes_so new from after c.go_on.result c.go_on.ensures.wants c.go_on.ensures.first)
      | in_default w ↦
          IfOk-weaker c.go_on.result (GoesOnBy new from after) _
          (λ next goes. wants_on known new before after next c.go_on.ensures.kept from w.in_default.not-Start (sym c.lacks_catalog.ensures ∙ c.if-lacks_catalog.false) w.self-is goes)
          (goes_so new from after c.go_on.result c.go_on.ensures.wants c.go_on.ensures.first)
    ]

pub returns-then-lacks_catalog-clause-cache : goal.returns-then-lacks_catalog-clause-cache
returns-then-lacks_catalog-clause-cache c = stays (is_later c.args.self.now.failed) _ c.args.known.now.cache c.args.known.now.cache refl

pub returns-then-lacks_catalog-clause-path : goal.returns-then-lacks_catalog-clause-path
returns-then-lacks_catalog-clause-path c = λ op leaf new path.
    let lacks = ap (λ (w : Work). lacks_catalog c.args.known.now.catalog w) new in
    let both : true ≡ false = sym c.if-lacks_catalog.true ∙ (c.lacks_catalog.ensures ∙ (lacks ∙ has_catalog c.args.known.now op leaf path)) in
    absurd cc

pub returns-in_err-begin-clause-cache : goal.returns-in_err-begin-clause-cache
returns-in_err-begin-clause-cache c = stays (is_later c.args.self.now.failed) _ c.args.known.now.cache c.args.known.now.cache refl

pub returns-clause-path : goal.returns-clause-path
returns-clause-path c = λ op leaf new path.
    elim c.match-self.branch [
      | in-Start+in_ok-begin w ↦
          let starts = begins_there c.args.known.now op leaf c.args.self.now w.begin.new.self new path w.in_ok-begin.ensures.starts w.in_ok-begin.ensures.op in
          let is = sym w.self-is in
          c.go_on.ensures.path path.key (at_root path.version path.root) leaf
          (subst (λ (x : Work). x.failed ≡ 0) is starts.1)
          (subst (λ (x : Work). GetsAt x path.key (at_root path.version path.root)) is starts.0) path.leads
      | in_default w ↦ absurd (w.in_default.not-Start (ap (λ (x : Work). x.job) new))
    ]

pub returns-clause-last : goal.returns-clause-last
returns-clause-last c =
    let pages = c.args.known.now.cache in
    let before = c.args.self.now in
    let from = c.match-self.self in
    let after = c.go_on.new.self in
    elim c.match-self.branch [
      | in-Start+in_ok-begin w ↦
          on_ok_weaker {P = StaysLast pages from.job after.job} c.go_on.result
          (λ on es cached last.
          on es cached (subst (λ (x : Work). JobIsLast es x.job) (sym w.self-is) (starts_last es c.args.known.now before w.begin.new.self w.in-Start.is w.in_ok-begin.ensures.starts)))
          c.go_on.ensures.last
      | in_default w ↦
          on_ok_weaker {P = StaysLast pages from.job after.job} c.go_on.result
          (λ on es cached last. on es cached (subst (λ (x : Work). JobIsLast es x.job) (sym w.self-is) last))
          c.go_on.ensures.last
    ]

pub returns-then-lacks_catalog-clause-last : goal.returns-then-lacks_catalog-clause-last
returns-then-lacks_catalog-clause-last c = λ es cached last. last
