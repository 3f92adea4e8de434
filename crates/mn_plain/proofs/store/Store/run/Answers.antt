use Rattle.std.proofs.Common.{sym, ◌∙◌, ◌≡◌, ◌&&◌, not, ap, subst, Option, List, Bool, true, false, IsSomeAnd, length, arith}
use Rattle.std.specs.List.{list_any}
use Rattle.mn_base.specs.declared.op.Step.{Step}
use Rattle.mn_base.specs.declared.reply.Pair.{Pair}
use Rattle.mn_base.specs.declared.reply.Reply.{Reply}
use Rattle.mn_base.specs.Store.{Store, StoreVersion, is_change, ran}
use Rattle.mn_base.specs.Stores.{IsStore}
use Rattle.mn_base.specs.declared.op.Op.TheVariants.{Tx}
use Rattle.mn_plain.specs.Kept.{SetsPairs}
use Rattle.mn_plain.specs.Run.{pairs_after, pairs_left, is_unmet_reply}
use Rattle.mn_plain.specs.Table.{shown}
use Rattle.mn_plain.proofs.ApplyLemmas.{named_within, store_left, tx_with_effect, tx_without_effect}
use Rattle.mn_plain.proofs.store.Store.run.Goals as goal

abbrev RanIs : List Pair → List Step → Reply → Type 0
RanIs ps steps reply = ran ps steps ≡ record { pairs = pairs_left ps steps reply; reply = reply }

pub returns-then-is_without_effect : goal.returns-then-is_without_effect
returns-then-is_without_effect c =
    let place = c.in-Some.ensures in
    let v = place.0 in
    let steps = c.args.steps.now in
    let reply = c.in_ok-reply.reply in
    let kept = subst (λ (o : Option StoreVersion). IsSomeAnd o (λ k. shown c.table_at.result.now.entries ≡ k.pairs)) place.1.there c.table_at.ensures in
    let ran_there = subst (λ (ps : List Pair). RanIs ps c.as_slice.result.now reply) kept c.in_ok-reply.ensures in
    let ran_is = subst (λ (ss : List Step). RanIs v.pairs ss reply) c.as_slice.ensures.steps ran_there in
    let change : c.has_change-change.result ≡ list_any is_change steps = c.has_change-change.ensures in
    let allows : (v.head.frozen && list_any is_change steps) ≡ false = ap (λ (b : Bool). b && list_any is_change steps) (sym place.2) ∙ ap (λ (b : Bool). c.in-Some.place.frozen && b) (sym change) ∙ sym c.is_shut.ensures ∙ c.if-is_shut.false in
    let without : not (list_any is_change steps && not (is_unmet_reply reply)) ≡ true = ap (λ (b : Bool). not (b && not (is_unmet_reply reply))) (sym change) ∙ sym c.is_without_effect.ensures ∙ c.if-is_without_effect.true in
    tx_without_effect c.args.self.now c.args.version.now steps c.in-Some.place.at v reply place.1 allows ran_is without

pub take-requires : goal.take-requires
take-requires c =
    let place = c.in-Some.ensures in
    let long = ap (λ (s : Store). length s) c.self.view_is in
    omega (arith, long, named_within c.args.self.now c.args.version.now c.in-Some.place.at place.0 place.1)

pub invariant_of-self-2 : goal.invariant_of-self-2
invariant_of-self-2 c =
    let place = c.in-Some.ensures in
    let v = place.0 in
    let old = c.args.self.now in
    let new = c.take.new.self in
    let steps = c.args.steps.now in
    let reply = c.in_ok-reply.reply in
    let kept = subst (λ (o : Option StoreVersion). IsSomeAnd o (λ k. shown c.table_at.result.now.entries ≡ k.pairs)) place.1.there c.table_at.ensures in
    let ran_there = subst (λ (ps : List Pair). RanIs ps c.as_slice.result.now reply) kept c.in_ok-reply.ensures in
    let ran_is = subst (λ (ss : List Step). RanIs v.pairs ss reply) c.as_slice.ensures.steps ran_there in
    let change : c.has_change-change.result ≡ list_any is_change steps = c.has_change-change.ensures in
    let allows : (v.head.frozen && list_any is_change steps) ≡ false = ap (λ (b : Bool). b && list_any is_change steps) (sym place.2) ∙ ap (λ (b : Bool). c.in-Some.place.frozen && b) (sym change) ∙ sym c.is_shut.ensures ∙ c.if-is_shut.false in
    let effect : not (list_any is_change steps && not (is_unmet_reply reply)) ≡ false = ap (λ (b : Bool). not (b && not (is_unmet_reply reply))) (sym change) ∙ sym c.is_without_effect.ensures ∙ c.if-is_without_effect.false in
    let taken = subst (λ (s : Store). SetsPairs (λ ps. pairs_after ps steps) s c.in-Some.place.at new) c.self.view_is c.in_ok-take.ensures.taken in
    let does = tx_with_effect old new c.args.version.now steps c.in-Some.place.at v reply place.1 allows ran_is effect (taken v place.1.there) in
    store_left (Tx c.args.version.now steps) old new reply (subst IsStore c.self.view_is c.self.invariant) does
