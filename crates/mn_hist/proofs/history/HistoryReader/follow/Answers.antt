use Rattle.std.proofs.Common.{◌≡◌, ◌∷◌, List, length, ap, subst, sym, ◌∙◌, arith}
use Rattle.std.proofs.lemmas.List.{with_items_is}
use Rattle.mn_hist.specs.History.{AreCallerStates, CallerState}
use Rattle.mn_hist.proofs.Putting.{on_both, on_ok}
use Rattle.mn_hist.proofs.Telling.{told_more}
use Rattle.mn_hist.proofs.history.HistoryReader.follow.Goals as goal

pub returns-clause-reads : goal.returns-clause-reads
returns-clause-reads c = λ past r.
    let new = c.take_entry.ensures.long in
    let old = r.long in
    let ok = c.args.self.now.callers.ok.0 in
    let long : length c.take_entry.new.callers ≡ c.args.self.now.callers.len = omega (arith, new, old, ok) in
    on_ok c.take_entry.result c.take_entry.ensures.said (λ said. record { commits = c.in_ok-committed.ensures.read past r.commits; long = ap length (with_items_is c.args.self.now.callers c.take_entry.new.callers long) ∙ new; said = said past r.said })

pub returns-clause-tells : goal.returns-clause-tells
returns-clause-tells c =
    let takes = on_both _ _ c.take_entry.result (on_both _ _ c.take_entry.result c.take_entry.ensures.callers c.take_entry.ensures.plans) (on_both _ _ c.take_entry.result c.take_entry.ensures.said c.take_entry.ensures.answers) in
    on_ok c.take_entry.result takes (λ all start past placed run place up has told.
    let new = c.take_entry.ensures.long in
    let old = told.reading.long in
    let ok = c.args.self.now.callers.ok.0 in
    let long : length c.take_entry.new.callers ≡ c.args.self.now.callers.len = omega (arith, new, old, ok) in
    let same = with_items_is c.args.self.now.callers c.take_entry.new.callers long in
    let before = subst (λ (l : List CallerState). AreCallerStates l past) (sym c.deref_mut.ensures.value) told.callers in
    let is = c.in_ok-committed.ensures.commits past told.reading.commits in
    let taken = c.in_ok-take_committed.ensures start past c.args.entry.now placed run told.plans is place told.stands told.acts in
    told_more c.args.self.now _ past placed c.args.entry.now told
    (record { commits = c.in_ok-committed.ensures.read past told.reading.commits; long = ap length same ∙ new; said = all.1.0 past told.reading.said })
    (subst (λ (l : List CallerState). AreCallerStates l (c.args.entry.now ∷ past)) (sym same) (all.0.0 past place before))
    (all.0.1 past before told.plans)
    (all.1.1 past c.in_ok-committed.committed placed before is up has taken))
