use Rattle.std.proofs.Common.{◌≡◌, ◌≤◌, subst, sym, ◌∙◌}
use Rattle.mn_proxy.specs.Agrees.{Agrees, HasOut, HasOutIn}
use Rattle.mn_proxy.specs.Measure.{steps_left}
use Rattle.mn_proxy.specs.State.{IsOut, ProxyState}
use Rattle.mn_proxy.specs.contracts.proxy.Proxy.{the_view}
use Rattle.mn_proxy.specs.Turns.{OwesNoDecide, with_work}
use Rattle.mn_proxy.proofs.Feeding.{fed_in, fed_work, feed_agrees, feed_unanswered, sound_of}
use Rattle.mn_proxy.proofs.Measure.{feed_falls}
use Rattle.std.proofs.Common.{Option, Some, ap}
use Rattle.mn_proxy.proofs.Lacking.{feed_lacks}
use Rattle.mn_coord.specs.Coordination.{Coordination}
use Rattle.mn_proxy.specs.declared.errand.Errand.{Errand}
use Rattle.mn_proxy.specs.declared.errand.Errand.TheVariants as out
use Rattle.mn_work.specs.declared.work.Work.{Work}
use Rattle.mn_proxy.specs.Turns.{IsFed}
use Rattle.mn_proxy.proofs.LeafReads.{under_as}
use Rattle.mn_proxy.proofs.proxy.Proxy.feed.Goals as goal

pub invariant_of-self-2 : goal.invariant_of-self-2
invariant_of-self-2 c = record {
  client = c.self.invariant.client;
  run = c.self.invariant.run;
  nodes = c.self.invariant.nodes;
  pages = c.self.invariant.pages;
  work = fed_work c.self.inside.known c.in-Some.field-0-0 c.in-Some.errand c.feed.new.self c.args.reply
      (λ node request has. c.requires.fits node request
      (subst (λ (o : Option (Work × Errand)). HasOutIn o node request) (sym c.in-Some.is ∙ ap (λ (p : ProxyState). p.work) c.self.view_is) has))
      (sound_of c.self.inside.known c.self.inside.work c.in-Some.field-0-0 c.in-Some.errand c.in-Some.is c.self.invariant.work) c.feed.ensures;
}

pub returns-clause-ready : goal.returns-clause-ready
returns-clause-ready c = (λ none. absurd cc, fed_in c.in-Some.field-0-0 c.in-Some.errand c.feed.new.self c.args.reply c.feed.ensures)

pub returns-clause-agrees : goal.returns-clause-agrees
returns-clause-agrees c = λ es e node request a has fits is.
    let p : ProxyState = record {
      client = c.self.inside.client;
      run = c.self.inside.run;
      issued = c.self.inside.issued;
      peeks = c.self.inside.peeks;
      known = c.self.inside.known;
      work = c.self.inside.work;
    } in
    let same : c.args.self.now ≡ p = sym c.self.view_is in
    feed_agrees p c.in-Some.field-0-0 c.in-Some.errand c.feed.new.self c.args.reply c.in-Some.is c.self.invariant.work c.feed.ensures es e node request
    (subst (Agrees es) same a) (subst (λ (q : ProxyState). HasOut q node request) same has) fits is

pub returns-clause-no_entry : goal.returns-clause-no_entry
returns-clause-no_entry c = λ es a none owes.
    let p : ProxyState = record {
      client = c.self.inside.client;
      run = c.self.inside.run;
      issued = c.self.inside.issued;
      peeks = c.self.inside.peeks;
      known = c.self.inside.known;
      work = c.self.inside.work;
    } in
    let same : c.args.self.now ≡ p = sym c.self.view_is in
    feed_unanswered p c.in-Some.field-0-0 c.in-Some.errand c.feed.new.self c.args.reply c.in-Some.is c.self.invariant.work c.feed.ensures es
    (subst (Agrees es) same a) none (subst OwesNoDecide same owes)

pub returns-clause-falls : goal.returns-clause-falls
returns-clause-falls c =
    subst (λ (q : ProxyState). steps_left (with_work (the_view c.self.inside) c.in-Some.field-0-0 c.feed.new.self) ≤ steps_left q) c.self.view_is
    (feed_falls (the_view c.self.inside) c.in-Some.field-0-0 c.in-Some.errand c.feed.new.self c.args.reply
    c.in-Some.is (subst IsOut (sym c.self.view_is) c.requires.out) c.feed.ensures)

-- What is on its way

pub returns-clause-known : goal.returns-clause-known
returns-clause-known c = ap (λ (p : ProxyState). p.known) c.self.view_is

pub returns-clause-fed : goal.returns-clause-fed
returns-clause-fed c = λ work tid x purpose under.
    let begun = under_as (the_view c.self.inside) c.args.self.now c.self.view_is c.in-Some.field-0-0 c.in-Some.errand c.in-Some.is work (out.Mini tid x purpose) under in
    let d = subst (λ (e : Errand). IsFed e c.args.reply c.feed.new.self) begun.1 c.feed.ensures in
    ap (λ (w : Work). Some (w, c.feed.new.self)) begun.0
    ∙ (ap (λ (e : Errand). Some (work, e)) d.1
    ∙ ap (λ (y : Coordination). Some (work, out.Mini tid y purpose)) d.2.fed_is)

-- Want of memory

pub returns-clause-lacks : goal.returns-clause-lacks
returns-clause-lacks c = λ es a none owes.
    feed_lacks (the_view c.self.inside) c.in-Some.field-0-0 c.in-Some.errand c.feed.new.self c.args.reply c.in-Some.is c.feed.ensures es
    (subst (Agrees es) (sym c.self.view_is) a) none (subst OwesNoDecide (sym c.self.view_is) owes)
