use Rattle.std.proofs.Common.{◌≡◌, ◌∙◌, false, true, sym, ap, subst, length, List}
use Rattle.std.proofs.lemmas.Option.{slice_get_within}
use Rattle.mn_tree.specs.State.{TreeState}
use Rattle.mn_txn.specs.declared.seen.SeenPage.{SeenPage}
use Rattle.mn_txn.specs.AttemptPlan.{RefusesDone}
use Rattle.mn_base.specs.declared.reply.Reply.TheVariants.{Values}
use Rattle.mn_work.specs.declared.next.Next.TheVariants as next
use Rattle.mn_work.specs.Attempts.{IsOnItsWay, IsTold, IsUnderWay, StaysOnItsWay, WantsBy, WantsNext, IsPlanWanted, was_read, with_overlay}
use Rattle.mn_work.specs.Answers.{worn_by}
use Rattle.mn_work.proofs.Attempts.{done_may, of_kept, plan_wanted, slots_are_many, to_kept, wanted_kept, slot_fails, worn_page, worn_wants, worn_way}
use Rattle.mn_work.proofs.Firsts.{on_way}
use Rattle.mn_work.proofs.attempt.Attempt.end.Goals as goal

pub place-requires : goal.place-requires
place-requires c = ap length c.requires.slots ∙ slots_are_many c.args.self.now.overlay.draft.overlay.fresh c.args.self.now.counts.items

pub entry-entry-requires : goal.entry-entry-requires
entry-entry-requires c =
    let way = of_kept c.args.known.now.catalog c.in-Some.kept (λ es. IsUnderWay c.args.known.now.nodes es c.args.steps.now c.args.self.now) c.in-Some.is c.requires.way in
    slice_get_within c.in-Some.kept c.args.self.now.version.0 way.admits.entry way.admits.there

pub done_plan-requires : goal.done_plan-requires
done_plan-requires c =
    let way = of_kept c.args.known.now.catalog c.in-Some.kept (λ es. IsUnderWay c.args.known.now.nodes es c.args.steps.now c.args.self.now) c.in-Some.is c.requires.way in
    let unread = subst (λ (l : List SeenPage). was_read l c.args.slots.now ≡ false) c.as_slice.ensures.value (sym c.was_read.ensures ∙ c.if-was_read.false) in
    let told = subst (λ (s : TreeState). IsTold c.args.known.now.nodes c.entry-entry.result c.args.steps.now (with_overlay c.args.self.now s) c.tried.result) c.in_ok-pages.ensures.unchanged c.tried.ensures in
    record { may = done_may c.args.known.now c.args.steps.now c.args.self.now c.entry-entry.result c.tried.result _ c.moves_are_met.ensures c.new_slots_are_next.ensures c.requires.done c.requires.nodes.1 c.requires.slots c.requires.counts unread c.in_ok-pages.ensures.placed c.in-Some.kept way c.entry-entry.ensures told }

pub returns-in-Ok-clause-wants : goal.returns-in-Ok-clause-wants
returns-in-Ok-clause-wants c =
    let way = of_kept c.args.known.now.catalog c.in-Some.kept (λ es. IsUnderWay c.args.known.now.nodes es c.args.steps.now c.args.self.now) c.in-Some.is c.requires.way in
    let unread = subst (λ (l : List SeenPage). was_read l c.args.slots.now ≡ false) c.as_slice.ensures.value (sym c.was_read.ensures ∙ c.if-was_read.false) in
    let told = subst (λ (s : TreeState). IsTold c.args.known.now.nodes c.entry-entry.result c.args.steps.now (with_overlay c.args.self.now s) c.tried.result) c.in_ok-pages.ensures.unchanged c.tried.ensures in
    to_kept c.args.known.now.catalog c.in-Some.kept (λ es. WantsBy c.args.known.now.nodes es c.args.later c.args.steps.now c.values.new.self (next.Plan c.in-Ok.mini c.values.result)) c.in-Some.is
    (wanted_kept c.args.known.now.nodes c.in-Some.kept c.args.steps.now (with_overlay c.args.self.now c.place.new.self) c.values.new.self c.values.result c.in-Ok.mini c.values.ensures.same
    (subst (λ reply. IsPlanWanted c.args.known.now.nodes c.in-Some.kept c.args.steps.now (with_overlay c.args.self.now c.place.new.self) reply c.in-Ok.mini) (sym c.values.ensures.reply)
    (subst (λ (s : TreeState). IsPlanWanted c.args.known.now.nodes c.in-Some.kept c.args.steps.now (with_overlay c.args.self.now s) (Values c.args.self.now.found.items) c.in-Ok.mini) (sym c.in_ok-pages.ensures.unchanged)
    (plan_wanted c.args.known.now c.args.steps.now c.args.self.now c.entry-entry.result c.tried.result _ c.moves_are_met.ensures c.new_slots_are_next.ensures c.requires.done c.requires.nodes.1 c.requires.slots c.requires.counts unread c.in_ok-pages.ensures.placed c.in-Some.kept way c.entry-entry.ensures told c.in-Ok.mini c.in-Ok.ensures.planned c.in-Ok.ensures.made))))

pub returns-in-Err-Worn-clause-way : goal.returns-in-Err-Worn-clause-way
returns-in-Err-Worn-clause-way c =
    subst (StaysOnItsWay c.args.known.now c.args.steps.now _) (sym (rw c.in-Err-Worn.start-is at (rw c.in-Err-Worn.node-is at c.worn.ensures)))
    (worn_way c.args.known.now c.args.steps.now _ c.args.later c.in-Err-Worn.node c.in-Err-Worn.start
    (subst (λ (s : TreeState). IsOnItsWay c.args.known.now c.args.steps.now (with_overlay c.args.self.now s)) (sym c.in_ok-pages.ensures.unchanged) c.requires.way))

pub returns-in-Err-Worn-clause-wants : goal.returns-in-Err-Worn-clause-wants
returns-in-Err-Worn-clause-wants c =
    let way = of_kept c.args.known.now.catalog c.in-Some.kept (λ es. IsUnderWay c.args.known.now.nodes es c.args.steps.now c.args.self.now) c.in-Some.is c.requires.way in
    let unread = subst (λ (l : List SeenPage). was_read l c.args.slots.now ≡ false) c.as_slice.ensures.value (sym c.was_read.ensures ∙ c.if-was_read.false) in
    let told = subst (λ (s : TreeState). IsTold c.args.known.now.nodes c.entry-entry.result c.args.steps.now (with_overlay c.args.self.now s) c.tried.result) c.in_ok-pages.ensures.unchanged c.tried.ensures in
    subst (WantsNext c.args.known.now c.args.later c.args.steps.now _) (sym (rw c.in-Err-Worn.start-is at (rw c.in-Err-Worn.node-is at c.worn.ensures)))
    (subst (λ (s : TreeState). WantsNext c.args.known.now c.args.later c.args.steps.now (with_overlay c.args.self.now s) (worn_by c.args.later c.in-Err-Worn.node c.in-Err-Worn.start)) (sym c.in_ok-pages.ensures.unchanged)
    (worn_wants c.args.known.now c.args.steps.now c.args.self.now c.args.counts.now c.args.slots.now c.args.later c.in-Err-Worn.node c.in-Err-Worn.start c.in-Some.kept c.in-Some.is c.requires.way c.requires.done c.requires.counts
    (λ way'. worn_page c.args.known.now c.args.steps.now c.args.self.now c.entry-entry.result c.tried.result _ c.moves_are_met.ensures c.new_slots_are_next.ensures c.requires.done c.requires.nodes.1 c.requires.slots c.requires.counts unread c.in_ok-pages.ensures.placed c.in-Some.kept way' c.entry-entry.ensures told c.in-Err-Worn.node c.in-Err-Worn.start (subst (RefusesDone c.tried.result _) c.in-Err-Worn.field-0-is c.in-Err-Worn.ensures.refused))))

pub returns-then-was_read-clause-wants : goal.returns-then-was_read-clause-wants
returns-then-was_read-clause-wants c =
    slot_fails c.args.known.now c.args.steps.now c.args.self.now c.args.later c.args.counts.now c.args.slots.now c.requires.way c.requires.done c.requires.counts c.requires.slots
    (subst (λ (l : List SeenPage). was_read l c.args.slots.now ≡ true) c.as_slice.ensures.value (sym c.was_read.ensures ∙ c.if-was_read.true))

pub returns-in-Err-Worn-clause-fails : goal.returns-in-Err-Worn-clause-fails
returns-in-Err-Worn-clause-fails c =
    on_way c.args.known.now c.args.steps.now _ c.worn.result
    (subst (λ (s : TreeState). IsOnItsWay c.args.known.now c.args.steps.now (with_overlay c.args.self.now s)) (sym c.in_ok-pages.ensures.unchanged) c.requires.way)
