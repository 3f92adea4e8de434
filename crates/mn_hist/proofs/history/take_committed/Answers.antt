use Rattle.std.proofs.Common.{◌≡◌, Option, Some, ap, subst, sym, ◌∙◌}
use Rattle.std.specs.Option.{option_map}
use Rattle.mn_commits.specs.declared.commit_reader.CommittedMini.{CommittedMini}
use Rattle.mn_commits.specs.CommitReader.{issued_of}
use Rattle.mn_runs.specs.Commits.{committed_by}
use Rattle.mn_hist.specs.History.{CommitsAreInHistory}
use Rattle.mn_hist.proofs.Joining.{named_here}
use Rattle.mn_hist.proofs.Putting.{on_ok}
use Rattle.mn_hist.proofs.history.take_committed.Goals as goal

pub returns-in-Some : goal.returns-in-Some
returns-in-Some c = on_ok c.take_commit.result c.take_commit.ensures (λ commits start past e placed run knows is place st are.
    let here : Some (issued_of c.in-Some.committed) ≡ committed_by past e = sym (ap (option_map issued_of) c.in-Some.is) ∙ is in
    subst (λ (o : Option CommittedMini). CommitsAreInHistory past o placed c.take_commit.new.standing c.take_commit.new.acts.items) (sym c.in-Some.is)
    (commits start past placed run knows (named_here past e c.in-Some.committed here) place st are))

pub returns-in-None : goal.returns-in-None
returns-in-None c = λ start past e placed run knows is place st are.
    subst (λ (o : Option CommittedMini). CommitsAreInHistory past o placed c.args.standing.now c.args.acts.now.items) (sym c.in-None.is) (st, are)
