-- What a try wants goes on by the callee's own clause.
use Rattle.mn_proxy.proofs.Ended.{ends_when}
use Rattle.mn_proxy.specs.declared.step.ProxyStep.TheVariants as steps
use Rattle.mn_proxy.specs.Turn.{turn_of, turned}
use Rattle.std.proofs.Common.{◌<◌, ℕ, sym, ap, subst, Result, Ok, Err}
use Rattle.std.specs.Prelude.{OnErr}
use Rattle.mn_work.specs.declared.next.Next.{Next}
use Rattle.mn_work.specs.Places.{place_of}
use Rattle.mn_proxy.specs.Turns.{TurnAgrees}
use Rattle.mn_work.specs.Works.{WantsNext}
use Rattle.mn_runs.specs.Seen.{Place as Range}
use Rattle.mn_proxy.proofs.Wanting.{answers_so, asks_catalog, asks_count, asks_page, counts_place}
use Rattle.mn_proxy.proofs.Wanting.{answers_self, has_failed, kept_idle, kept_self, makes_plan, own_self, own_self_last}
use Rattle.mn_work.proofs.Works.{catalog_asked, count_asked, page_asked, plan_asked, plan_made_by, retry_after_wants, starts_right}
use Rattle.mn_proxy.specs.Measure.{GoesBelow, left_after}
use Rattle.mn_proxy.proofs.Measure.{known_goes}
use Rattle.std.proofs.Common.{None, Some, refl, ◌∙◌}
use Rattle.mn_base.specs.declared.error.NoMemory.{NoMemory}
use Rattle.mn_work.specs.declared.known.Known.{Known}
use Rattle.mn_proxy.specs.Turn.{Turn}
use Rattle.mn_work.specs.declared.work.Work.{Work}
use Rattle.mn_work.specs.Cached.{Walks}
use Rattle.mn_proxy.specs.LeafReads.{ReadsLeaf}
use Rattle.mn_work.specs.Walks.{is_later}
use Rattle.mn_proxy.proofs.LeafReads.{reads_leaf}
use Rattle.mn_work.proofs.Cached.{walks_first, walks_none}
use Rattle.mn_proxy.proofs.Kept.{catalog_stays, catalog_then, err_then, no_page_turns, page_turns, used_turns}
use Rattle.mn_proxy.proofs.Taking.{none_made}
use Rattle.mn_proxy.specs.Firsts.{FailsAsKept, IsSecond}
use Rattle.mn_proxy.proofs.Firsts.{issues_first, ok_any, reads_first}
use Rattle.mn_proxy.proofs.proxy.Proxy.advance.Goals as goal

any_err : {T E : Type 0} (r : Result T E) (A : Type 0) → A → OnErr r A
any_err (Ok x) A a = tt
any_err (Err e) A a = a

pub returns-in_err-want-clause-left : goal.returns-in_err-want-clause-left
returns-in_err-want-clause-left c = λ es own.
    any_err c.from_residual.result _
    (own_self_last es c.args.self.now c.want.new.self (is_later c.args.work.failed) None c.want.ensures.same c.want.ensures.kept c.in_err-want.ensures.cache own)

-- The catalog

pub read_catalog-requires-clause-job : goal.read_catalog-requires-clause-job
read_catalog-requires-clause-job c =
    starts_right c.want.new.self.known c.want.new.work
    (catalog_asked c.args.self.now.known c.want.new.self.known c.args.work c.want.new.work c.want.ensures.kept c.requires.job c.want.ensures.op
    (subst (λ (n : Next). WantsNext c.want.new.self.known c.args.work c.want.new.work n) c.in-Catalog.is c.in_ok-want.ensures.wants)).1

pub read_catalog-requires-clause-startable : goal.read_catalog-requires-clause-startable
read_catalog-requires-clause-startable c =
    (catalog_asked c.args.self.now.known c.want.new.self.known c.args.work c.want.new.work c.want.ensures.kept c.requires.job c.want.ensures.op
    (subst (λ (n : Next). WantsNext c.want.new.self.known c.args.work c.want.new.work n) c.in-Catalog.is c.in_ok-want.ensures.wants)).1

pub read_catalog-requires-clause-asks : goal.read_catalog-requires-clause-asks
read_catalog-requires-clause-asks c =
    (catalog_asked c.args.self.now.known c.want.new.self.known c.args.work c.want.new.work c.want.ensures.kept c.requires.job c.want.ensures.op
    (subst (λ (n : Next). WantsNext c.want.new.self.known c.args.work c.want.new.work n) c.in-Catalog.is c.in_ok-want.ensures.wants)).2

pub returns-in-Catalog-clause-turns : goal.returns-in-Catalog-clause-turns
returns-in-Catalog-clause-turns c = λ es own rest.
    c.read_catalog.ensures.turns es (own_self es c.args.self.now c.want.new.self c.want.ensures.same c.want.ensures.kept own)
    (asks_catalog es c.args.self.now c.want.new.self.known c.args.work c.want.new.work c.in_ok-want.field-0 c.want.ensures.kept c.requires.job c.want.ensures.op c.in_ok-want.ensures.wants c.in_ok-want.ensures.cache c.in_ok-want.ensures.last c.causes_are_shown.ensures.causes c.causes_are_shown.ensures.worns c.causes_are_shown.ensures.left own rest c.in-Catalog.is)

pub returns-in-Catalog-clause-left : goal.returns-in-Catalog-clause-left
returns-in-Catalog-clause-left c = λ es own.
    c.read_catalog.ensures.left es (own_self_last es c.args.self.now c.want.new.self (is_later c.args.work.failed) (Some c.in_ok-want.field-0) c.want.ensures.same c.want.ensures.kept c.in_ok-want.ensures.cache own)

pub returns-in-Catalog-clause-kept : goal.returns-in-Catalog-clause-kept
returns-in-Catalog-clause-kept c =
    kept_self c.args.self.now c.want.new.self c.read_catalog.new.self c.want.ensures.same c.want.ensures.kept c.read_catalog.ensures.kept

-- A page

pub read-requires-clause-waits : goal.read-requires-clause-waits
read-requires-clause-waits c =
    let t = page_asked c.args.self.now.known c.want.new.self.known c.args.work c.want.new.work c.want.ensures.kept c.requires.job c.want.ensures.op c.in-Page.addr c.in-Page.peek
    (subst (λ (n : Next). WantsNext c.want.new.self.known c.args.work c.want.new.work n) c.in-Page.is c.in_ok-want.ensures.wants) in
    (t.0, (t.1, t.2))

pub read-requires-clause-node : goal.read-requires-clause-node
read-requires-clause-node c =
    let t = page_asked c.args.self.now.known c.want.new.self.known c.args.work c.want.new.work c.want.ensures.kept c.requires.job c.want.ensures.op c.in-Page.addr c.in-Page.peek
    (subst (λ (n : Next). WantsNext c.want.new.self.known c.args.work c.want.new.work n) c.in-Page.is c.in_ok-want.ensures.wants) in
    subst (λ (k : ℕ). k < c.want.new.self.known.nodes) (sym (ap (λ (r : Range). r.node.0) c.of_page-place.ensures)) t.2

pub returns-in-Page-clause-turns : goal.returns-in-Page-clause-turns
returns-in-Page-clause-turns c = λ es own rest.
    let t = asks_page es c.args.self.now c.want.new.self.known c.args.work c.want.new.work c.in_ok-want.field-0 c.want.ensures.kept c.requires.job c.want.ensures.op c.in_ok-want.ensures.wants c.in_ok-want.ensures.cache c.in_ok-want.ensures.last c.causes_are_shown.ensures.causes c.causes_are_shown.ensures.worns c.causes_are_shown.ensures.left own rest c.in-Page.addr c.in-Page.peek c.in-Page.is in
    c.read.ensures.turns es (own_self es c.args.self.now c.want.new.self c.want.ensures.same c.want.ensures.kept own) t.0 c.of_page-place.ensures t.1

pub returns-in-Page-clause-left : goal.returns-in-Page-clause-left
returns-in-Page-clause-left c = λ es own.
    c.read.ensures.left es (own_self_last es c.args.self.now c.want.new.self (is_later c.args.work.failed) (Some c.in_ok-want.field-0) c.want.ensures.same c.want.ensures.kept c.in_ok-want.ensures.cache own)

pub returns-in-Page-clause-kept : goal.returns-in-Page-clause-kept
returns-in-Page-clause-kept c =
    kept_self c.args.self.now c.want.new.self c.read.new.self c.want.ensures.same c.want.ensures.kept c.read.ensures.kept

-- A count

pub read-requires-in-Count-clause-waits : goal.read-requires-in-Count-clause-waits
read-requires-in-Count-clause-waits c =
    let t = count_asked c.args.self.now.known c.want.new.self.known c.args.work c.want.new.work c.want.ensures.kept c.requires.job c.want.ensures.op c.in-Count.node c.in-Count.peek c.want.ensures.few
    (subst (λ (n : Next). WantsNext c.want.new.self.known c.args.work c.want.new.work n) c.in-Count.is c.in_ok-want.ensures.wants) in
    (t.0, (t.1, subst (λ (n : ℕ). n < c.want.new.self.known.nodes) t.3 t.2))

pub read-requires-in-Count-clause-node : goal.read-requires-in-Count-clause-node
read-requires-in-Count-clause-node c =
    let t = count_asked c.args.self.now.known c.want.new.self.known c.args.work c.want.new.work c.want.ensures.kept c.requires.job c.want.ensures.op c.in-Count.node c.in-Count.peek c.want.ensures.few
    (subst (λ (n : Next). WantsNext c.want.new.self.known c.args.work c.want.new.work n) c.in-Count.is c.in_ok-want.ensures.wants) in
    subst (λ (k : ℕ). k < c.want.new.self.known.nodes) (sym (ap (λ (r : Range). r.node.0) c.of_count.ensures)) t.2

pub returns-in-Count-clause-turns : goal.returns-in-Count-clause-turns
returns-in-Count-clause-turns c = λ es own rest.
    let asked = asks_count es c.args.self.now c.want.new.self.known c.args.work c.want.new.work c.in_ok-want.field-0 c.want.ensures.kept c.requires.job c.want.ensures.op c.in_ok-want.ensures.wants c.in_ok-want.ensures.cache c.in_ok-want.ensures.last c.causes_are_shown.ensures.causes c.causes_are_shown.ensures.worns c.causes_are_shown.ensures.left own rest c.in-Count.node c.in-Count.peek c.in-Count.is in
    let t = count_asked c.args.self.now.known c.want.new.self.known c.args.work c.want.new.work c.want.ensures.kept c.requires.job c.want.ensures.op c.in-Count.node c.in-Count.peek c.want.ensures.few
    (subst (λ (n : Next). WantsNext c.want.new.self.known c.args.work c.want.new.work n) c.in-Count.is c.in_ok-want.ensures.wants) in
    c.read-in-Count.ensures.turns es (own_self es c.args.self.now c.want.new.self c.want.ensures.same c.want.ensures.kept own) asked.0
    (counts_place c.want.new.work.op c.want.new.work.job c.in-Count.node (place_of c.of_count.result) t.1 t.3 c.of_count.ensures)
    asked.1

pub returns-in-Count-clause-left : goal.returns-in-Count-clause-left
returns-in-Count-clause-left c = λ es own.
    c.read-in-Count.ensures.left es (own_self_last es c.args.self.now c.want.new.self (is_later c.args.work.failed) (Some c.in_ok-want.field-0) c.want.ensures.same c.want.ensures.kept c.in_ok-want.ensures.cache own)

pub returns-in-Count-clause-kept : goal.returns-in-Count-clause-kept
returns-in-Count-clause-kept c =
    kept_self c.args.self.now c.want.new.self c.read-in-Count.new.self c.want.ensures.same c.want.ensures.kept c.read-in-Count.ensures.kept

-- A plan

pub issue-requires-clause-waits : goal.issue-requires-clause-waits
issue-requires-clause-waits c = (
  retry_after_wants c.args.self.now.known c.want.new.self.known c.args.work c.want.new.work c.in_ok-want.field-0 c.want.ensures.kept c.requires.job c.want.ensures.op c.in_ok-want.ensures.wants,
  (plan_asked c.args.self.now.known c.want.new.self.known c.args.work c.want.new.work c.want.ensures.kept c.requires.job c.want.ensures.op c.in-Plan.mini c.in-Plan.reply
      (subst (λ (n : Next). WantsNext c.want.new.self.known c.args.work c.want.new.work n) c.in-Plan.is c.in_ok-want.ensures.wants)).2,
)

pub issue-requires-clause-nodes : goal.issue-requires-clause-nodes
issue-requires-clause-nodes c =
    (plan_asked c.args.self.now.known c.want.new.self.known c.args.work c.want.new.work c.want.ensures.kept c.requires.job c.want.ensures.op c.in-Plan.mini c.in-Plan.reply
    (subst (λ (n : Next). WantsNext c.want.new.self.known c.args.work c.want.new.work n) c.in-Plan.is c.in_ok-want.ensures.wants)).0

pub returns-in-Plan-clause-turns : goal.returns-in-Plan-clause-turns
returns-in-Plan-clause-turns c = λ es own rest.
    c.issue.ensures.turns es (own_self es c.args.self.now c.want.new.self c.want.ensures.same c.want.ensures.kept own)
    (makes_plan es c.args.self.now c.want.new.self.known c.args.work c.want.new.work c.in_ok-want.field-0 c.want.ensures.kept c.requires.job c.want.ensures.op c.in_ok-want.ensures.wants c.in_ok-want.ensures.cache c.in_ok-want.ensures.last c.causes_are_shown.ensures.causes c.causes_are_shown.ensures.worns c.causes_are_shown.ensures.left own rest c.in-Plan.mini c.in-Plan.reply c.in-Plan.is)

pub returns-in-Plan-clause-left : goal.returns-in-Plan-clause-left
returns-in-Plan-clause-left c = λ es own.
    c.issue.ensures.left es (own_self_last es c.args.self.now c.want.new.self (is_later c.args.work.failed) (Some c.in_ok-want.field-0) c.want.ensures.same c.want.ensures.kept c.in_ok-want.ensures.cache own)

pub returns-in-Plan-clause-kept : goal.returns-in-Plan-clause-kept
returns-in-Plan-clause-kept c =
    kept_self c.args.self.now c.want.new.self c.issue.new.self c.want.ensures.same c.want.ensures.kept c.issue.ensures.kept

-- A try that failed

pub fail-requires-clause-startable : goal.fail-requires-clause-startable
fail-requires-clause-startable c =
    retry_after_wants c.args.self.now.known c.want.new.self.known c.args.work c.want.new.work c.in_ok-want.field-0 c.want.ensures.kept c.requires.job c.want.ensures.op c.in_ok-want.ensures.wants

pub returns-in-Fails-clause-turns : goal.returns-in-Fails-clause-turns
returns-in-Fails-clause-turns c = λ es own rest.
    c.fail.ensures.turns es (own_self_last es c.args.self.now c.want.new.self (is_later c.args.work.failed) (Some c.in_ok-want.field-0) c.want.ensures.same c.want.ensures.kept c.in_ok-want.ensures.cache (own, rest.0.last.0))
    (has_failed es c.args.self.now c.want.new.self.known c.args.work c.want.new.work c.in_ok-want.field-0 c.want.ensures.kept c.requires.job c.want.ensures.op c.in_ok-want.ensures.wants c.in_ok-want.ensures.cache c.in_ok-want.ensures.last c.causes_are_shown.ensures.causes c.causes_are_shown.ensures.worns c.causes_are_shown.ensures.left own rest c.in-Fails.cause c.in-Fails.is)

pub returns-in-Fails-clause-left : goal.returns-in-Fails-clause-left
returns-in-Fails-clause-left c = λ es own.
    c.fail.ensures.left es (own_self_last es c.args.self.now c.want.new.self (is_later c.args.work.failed) (Some c.in_ok-want.field-0) c.want.ensures.same c.want.ensures.kept c.in_ok-want.ensures.cache own)

pub returns-in-Fails-clause-kept : goal.returns-in-Fails-clause-kept
returns-in-Fails-clause-kept c =
    kept_self c.args.self.now c.want.new.self c.fail.new.self c.want.ensures.same c.want.ensures.kept c.fail.ensures.kept

-- An answer

pub returns-in-Answers-clause-turns : goal.returns-in-Answers-clause-turns
returns-in-Answers-clause-turns c = λ es own rest.
    subst (TurnAgrees es c.want.new.self) (ends_when c.want.new.self.work c.in-Answers.answer (kept_idle c.args.self.now c.want.new.self c.want.ensures.same c.want.ensures.kept c.requires.idle).1)
    (answers_self es c.args.self.now c.want.new.self c.in-Answers.answer c.want.ensures.same
    (own_self_last es c.args.self.now c.want.new.self (is_later c.args.work.failed) (Some c.in_ok-want.field-0) c.want.ensures.same c.want.ensures.kept c.in_ok-want.ensures.cache (own, rest.0.last.0))
    (answers_so es c.args.self.now c.want.new.self.known c.args.work c.want.new.work c.in_ok-want.field-0 c.want.ensures.kept c.requires.job c.want.ensures.op c.in_ok-want.ensures.wants c.in_ok-want.ensures.cache c.in_ok-want.ensures.last c.causes_are_shown.ensures.causes c.causes_are_shown.ensures.worns c.causes_are_shown.ensures.left own rest c.in-Answers.answer c.in-Answers.is))

pub returns-in-Answers-clause-kept : goal.returns-in-Answers-clause-kept
returns-in-Answers-clause-kept c =
    ((kept_idle c.args.self.now c.want.new.self c.want.ensures.same c.want.ensures.kept c.requires.idle).0, tt)

-- Fewer steps are left

pub returns-in-Catalog-clause-falls : goal.returns-in-Catalog-clause-falls
returns-in-Catalog-clause-falls c =
    known_goes c.args.self.now c.want.new.self c.read_catalog.new.self (turned c.read_catalog.new.self.work c.read_catalog.result) c.want.ensures.same c.read_catalog.ensures.falls

pub returns-in-Page-clause-falls : goal.returns-in-Page-clause-falls
returns-in-Page-clause-falls c =
    known_goes c.args.self.now c.want.new.self c.read.new.self (turned c.read.new.self.work c.read.result) c.want.ensures.same c.read.ensures.falls

pub returns-in-Count-clause-falls : goal.returns-in-Count-clause-falls
returns-in-Count-clause-falls c =
    known_goes c.args.self.now c.want.new.self c.read-in-Count.new.self (turned c.read-in-Count.new.self.work c.read-in-Count.result) c.want.ensures.same c.read-in-Count.ensures.falls

pub returns-in-Plan-clause-falls : goal.returns-in-Plan-clause-falls
returns-in-Plan-clause-falls c =
    known_goes c.args.self.now c.want.new.self c.issue.new.self (turned c.issue.new.self.work c.issue.result) c.want.ensures.same c.issue.ensures.falls

pub returns-in-Fails-clause-falls : goal.returns-in-Fails-clause-falls
returns-in-Fails-clause-falls c =
    known_goes c.args.self.now c.want.new.self c.fail.new.self (turned c.fail.new.self.work c.fail.result) c.want.ensures.same c.fail.ensures.falls

pub returns-in-Answers-clause-falls : goal.returns-in-Answers-clause-falls
returns-in-Answers-clause-falls c = subst (GoesBelow (left_after c.args.self.now) c.want.new.self) (ends_when c.want.new.self.work c.in-Answers.answer (kept_idle c.args.self.now c.want.new.self c.want.ensures.same c.want.ensures.kept c.requires.idle).1) tt

-- What is kept

pub returns-in_err-want-clause-cache : goal.returns-in_err-want-clause-cache
returns-in_err-want-clause-cache c =
    used_turns (is_later c.args.work.failed) c.args.self.now.known.cache c.want.new.self.known.cache (turned c.want.new.self.work c.from_residual.result)
    (walks_none (is_later c.args.work.failed) c.args.self.now.known.cache c.want.new.self.known.cache c.in_err-want.ensures.cache)

pub returns-in_err-want-clause-catalog : goal.returns-in_err-want-clause-catalog
returns-in_err-want-clause-catalog c =
    catalog_stays c.args.self.now.known.catalog c.want.new.self.known.catalog (turned c.want.new.self.work c.from_residual.result) c.want.ensures.kept.1

pub returns-in-Catalog-clause-cache : goal.returns-in-Catalog-clause-cache
returns-in-Catalog-clause-cache c =
    no_page_turns (is_later c.args.work.failed) _ c.args.self.now.known.cache c.want.new.self.known.cache c.read_catalog.new.self.known.cache (turned c.read_catalog.new.self.work c.read_catalog.result) (λ pages. refl)
    (subst (λ (n : Next). Walks (is_later c.args.work.failed) (Some n) c.args.self.now.known.cache c.want.new.self.known.cache) c.in-Catalog.is c.in_ok-want.ensures.cache)
    (ap (λ (k : Known). k.cache) c.read_catalog.ensures.known)

pub returns-in-Count-clause-cache : goal.returns-in-Count-clause-cache
returns-in-Count-clause-cache c =
    no_page_turns (is_later c.args.work.failed) _ c.args.self.now.known.cache c.want.new.self.known.cache c.read-in-Count.new.self.known.cache (turned c.read-in-Count.new.self.work c.read-in-Count.result) (λ pages. refl)
    (subst (λ (n : Next). Walks (is_later c.args.work.failed) (Some n) c.args.self.now.known.cache c.want.new.self.known.cache) c.in-Count.is c.in_ok-want.ensures.cache)
    (ap (λ (k : Known). k.cache) c.read-in-Count.ensures.known)

pub returns-in-Plan-clause-cache : goal.returns-in-Plan-clause-cache
returns-in-Plan-clause-cache c =
    no_page_turns (is_later c.args.work.failed) _ c.args.self.now.known.cache c.want.new.self.known.cache c.issue.new.self.known.cache (turned c.issue.new.self.work c.issue.result) (λ pages. refl)
    (subst (λ (n : Next). Walks (is_later c.args.work.failed) (Some n) c.args.self.now.known.cache c.want.new.self.known.cache) c.in-Plan.is c.in_ok-want.ensures.cache)
    (ap (λ (k : Known). k.cache) c.issue.ensures.known)

pub returns-in-Fails-clause-cache : goal.returns-in-Fails-clause-cache
returns-in-Fails-clause-cache c =
    no_page_turns (is_later c.args.work.failed) _ c.args.self.now.known.cache c.want.new.self.known.cache c.fail.new.self.known.cache (turned c.fail.new.self.work c.fail.result) (λ pages. refl)
    (subst (λ (n : Next). Walks (is_later c.args.work.failed) (Some n) c.args.self.now.known.cache c.want.new.self.known.cache) c.in-Fails.is c.in_ok-want.ensures.cache)
    (c.fail.ensures.cache)

pub returns-in-Page-clause-cache : goal.returns-in-Page-clause-cache
returns-in-Page-clause-cache c =
    page_turns (is_later c.args.work.failed) c.in-Page.addr c.in-Page.peek c.args.self.now.known.cache c.want.new.self.known.cache c.read.new.self.known.cache c.want.new.work _ (turned c.read.new.self.work c.read.result)
    (subst (λ (n : Next). Walks (is_later c.args.work.failed) (Some n) c.args.self.now.known.cache c.want.new.self.known.cache) c.in-Page.is c.in_ok-want.ensures.cache)
    (ap (λ (k : Known). k.cache) c.read.ensures.known) (ap is_later c.want.ensures.op.1) c.read.ensures.reads

pub returns-in-Answers-clause-cache : goal.returns-in-Answers-clause-cache
returns-in-Answers-clause-cache c =
    no_page_turns (is_later c.args.work.failed) _ c.args.self.now.known.cache c.want.new.self.known.cache c.want.new.self.known.cache (Ok (turn_of c.want.new.self.work (steps.Done c.in-Answers.answer))) (λ pages. refl)
    (subst (λ (n : Next). Walks (is_later c.args.work.failed) (Some n) c.args.self.now.known.cache c.want.new.self.known.cache) c.in-Answers.is c.in_ok-want.ensures.cache) refl

pub returns-in-Catalog-clause-catalog : goal.returns-in-Catalog-clause-catalog
returns-in-Catalog-clause-catalog c =
    catalog_stays c.args.self.now.known.catalog c.read_catalog.new.self.known.catalog (turned c.read_catalog.new.self.work c.read_catalog.result)
    (ap (λ (k : Known). k.catalog) c.read_catalog.ensures.known ∙ c.want.ensures.kept.1)

pub returns-in-Page-clause-catalog : goal.returns-in-Page-clause-catalog
returns-in-Page-clause-catalog c =
    catalog_stays c.args.self.now.known.catalog c.read.new.self.known.catalog (turned c.read.new.self.work c.read.result)
    (ap (λ (k : Known). k.catalog) c.read.ensures.known ∙ c.want.ensures.kept.1)

pub returns-in-Count-clause-catalog : goal.returns-in-Count-clause-catalog
returns-in-Count-clause-catalog c =
    catalog_stays c.args.self.now.known.catalog c.read-in-Count.new.self.known.catalog (turned c.read-in-Count.new.self.work c.read-in-Count.result)
    (ap (λ (k : Known). k.catalog) c.read-in-Count.ensures.known ∙ c.want.ensures.kept.1)

pub returns-in-Plan-clause-catalog : goal.returns-in-Plan-clause-catalog
returns-in-Plan-clause-catalog c =
    catalog_stays c.args.self.now.known.catalog c.issue.new.self.known.catalog (turned c.issue.new.self.work c.issue.result)
    (ap (λ (k : Known). k.catalog) c.issue.ensures.known ∙ c.want.ensures.kept.1)

pub returns-in-Fails-clause-catalog : goal.returns-in-Fails-clause-catalog
returns-in-Fails-clause-catalog c =
    catalog_then None c.args.self.now.known.catalog c.want.new.self.known.catalog c.fail.new.self.known.catalog (turned c.fail.new.self.work c.fail.result) c.want.ensures.kept.1 c.fail.ensures.catalog

pub returns-in-Answers-clause-catalog : goal.returns-in-Answers-clause-catalog
returns-in-Answers-clause-catalog c =
    let result : Result Turn NoMemory = Ok (turn_of c.want.new.self.work (steps.Done c.in-Answers.answer)) in
    catalog_stays c.args.self.now.known.catalog c.want.new.self.known.catalog result c.want.ensures.kept.1

-- A leaf alone

pub returns-in_err-want-clause-path : goal.returns-in_err-want-clause-path
returns-in_err-want-clause-path c = λ op leaf new path.
    none_made _ c.from_residual.result (ReadsLeaf c.args.self.now.known.nodes op leaf) c.from_residual.ensures.0

pub returns-in-Catalog-clause-path : goal.returns-in-Catalog-clause-path
returns-in-Catalog-clause-path c = λ op leaf new path.
    let wants = c.in_ok-want.ensures.path op leaf new path in
    let both = sym wants.next_is ∙ c.in-Catalog.is in
    absurd cc

pub returns-in-Count-clause-path : goal.returns-in-Count-clause-path
returns-in-Count-clause-path c = λ op leaf new path.
    let wants = c.in_ok-want.ensures.path op leaf new path in
    let both = sym wants.next_is ∙ c.in-Count.is in
    absurd cc

pub returns-in-Plan-clause-path : goal.returns-in-Plan-clause-path
returns-in-Plan-clause-path c = λ op leaf new path.
    let wants = c.in_ok-want.ensures.path op leaf new path in
    let both = sym wants.next_is ∙ c.in-Plan.is in
    absurd cc

pub returns-in-Fails-clause-path : goal.returns-in-Fails-clause-path
returns-in-Fails-clause-path c = λ op leaf new path.
    let wants = c.in_ok-want.ensures.path op leaf new path in
    let both = sym wants.next_is ∙ c.in-Fails.is in
    absurd cc

pub returns-in-Answers-clause-path : goal.returns-in-Answers-clause-path
returns-in-Answers-clause-path c = λ op leaf new path.
    let wants = c.in_ok-want.ensures.path op leaf new path in
    let both = sym wants.next_is ∙ c.in-Answers.is in
    absurd cc

pub returns-in-Page-clause-path : goal.returns-in-Page-clause-path
returns-in-Page-clause-path c = λ op leaf new path.
    let wants = c.in_ok-want.ensures.path op leaf new path in
    reads_leaf (turned c.read.new.self.work c.read.result) c.args.self.now.known.nodes c.want.new.self.known.nodes op leaf c.want.new.work c.in-Page.addr c.in-Page.peek (place_of c.of_page-place.result)
    (c.want.ensures.op.0 ∙ ap (λ (w : Work). w.op) new) wants.job_is (sym c.in-Page.is ∙ wants.next_is) c.of_page-place.ensures c.want.ensures.kept.0 c.read.ensures.reads

-- Want of memory

pub returns-in_err-want-clause-left_catalog : goal.returns-in_err-want-clause-left_catalog
returns-in_err-want-clause-left_catalog c = any_err c.from_residual.result _ c.want.ensures.kept.1

pub returns-in-Catalog-clause-left_catalog : goal.returns-in-Catalog-clause-left_catalog
returns-in-Catalog-clause-left_catalog c =
    any_err c.read_catalog.result _ (ap (λ (k : Known). k.catalog) c.read_catalog.ensures.known ∙ c.want.ensures.kept.1)

pub returns-in-Page-clause-left_catalog : goal.returns-in-Page-clause-left_catalog
returns-in-Page-clause-left_catalog c =
    any_err c.read.result _ (ap (λ (k : Known). k.catalog) c.read.ensures.known ∙ c.want.ensures.kept.1)

pub returns-in-Count-clause-left_catalog : goal.returns-in-Count-clause-left_catalog
returns-in-Count-clause-left_catalog c =
    any_err c.read-in-Count.result _ (ap (λ (k : Known). k.catalog) c.read-in-Count.ensures.known ∙ c.want.ensures.kept.1)

pub returns-in-Plan-clause-left_catalog : goal.returns-in-Plan-clause-left_catalog
returns-in-Plan-clause-left_catalog c =
    any_err c.issue.result _ (ap (λ (k : Known). k.catalog) c.issue.ensures.known ∙ c.want.ensures.kept.1)

pub returns-in-Fails-clause-left_catalog : goal.returns-in-Fails-clause-left_catalog
returns-in-Fails-clause-left_catalog c =
    err_then c.fail.result _ _ (λ same. same ∙ c.want.ensures.kept.1) c.fail.ensures.left_catalog

-- The plan is as its job asks for it

pub issue-requires-clause-asked : goal.issue-requires-clause-asked
issue-requires-clause-asked c =
    plan_made_by c.args.self.now.known c.want.new.self.known c.args.work c.want.new.work c.want.ensures.kept c.requires.job c.want.ensures.op c.in-Plan.mini c.in-Plan.reply
    (subst (λ (n : Next). WantsNext c.want.new.self.known c.args.work c.want.new.work n) c.in-Plan.is c.in_ok-want.ensures.wants)

-- A first try that failed

pub returns-in_err-want-clause-first : goal.returns-in_err-want-clause-first
returns-in_err-want-clause-first c = λ zero.
    none_made _ c.from_residual.result (λ turn. IsSecond turn → FailsAsKept c.args.self.now.known c.args.work) c.from_residual.ensures.0

pub returns-in-Catalog-clause-first : goal.returns-in-Catalog-clause-first
returns-in-Catalog-clause-first c = λ zero.
    issues_first c.want.new.work _ _ (turned c.read_catalog.new.self.work c.read_catalog.result) _ (c.want.ensures.op.1 ∙ zero) c.read_catalog.ensures.reads

pub returns-in-Page-clause-first : goal.returns-in-Page-clause-first
returns-in-Page-clause-first c = λ zero.
    reads_first c.in-Page.peek c.want.new.work _ _ (turned c.read.new.self.work c.read.result) _ (c.want.ensures.op.1 ∙ zero) c.read.ensures.reads

pub returns-in-Count-clause-first : goal.returns-in-Count-clause-first
returns-in-Count-clause-first c = λ zero.
    reads_first c.in-Count.peek c.want.new.work _ _ (turned c.read-in-Count.new.self.work c.read-in-Count.result) _ (c.want.ensures.op.1 ∙ zero) c.read-in-Count.ensures.reads

pub returns-in-Plan-clause-first : goal.returns-in-Plan-clause-first
returns-in-Plan-clause-first c = λ zero.
    issues_first c.want.new.work _ _ (turned c.issue.new.self.work c.issue.result) _ (c.want.ensures.op.1 ∙ zero) c.issue.ensures.issues

pub returns-in-Fails-clause-first : goal.returns-in-Fails-clause-first
returns-in-Fails-clause-first c = λ zero.
    ok_any (turned c.fail.new.self.work c.fail.result) _ (λ turn second. (
      c.want.new.self.known,
      c.want.new.work,
      c.in-Fails.cause,
      c.want.ensures.kept,
      walks_first (is_later c.args.work.failed) _ c.args.self.now.known.cache c.want.new.self.known.cache (ap is_later zero) c.in_ok-want.ensures.cache,
      subst (λ (n : Next). WantsNext c.want.new.self.known c.args.work c.want.new.work n) c.in-Fails.is c.in_ok-want.ensures.wants,
    ))

pub returns-in-Answers-clause-first : goal.returns-in-Answers-clause-first
returns-in-Answers-clause-first c = λ zero.
    subst (λ (t : Turn). IsSecond t → FailsAsKept c.args.self.now.known c.args.work)
    (ends_when c.want.new.self.work c.in-Answers.answer (kept_idle c.args.self.now c.want.new.self c.want.ensures.same c.want.ensures.kept c.requires.idle).1)
    (λ second. absurd second)
