use Rattle.std.proofs.Common.{◌≡◌, ℕ, [], ◌∷◌, ◌++◌, ◌&&◌, ◌||◌, nat_eq, length, ap, subst, sym, ◌∙◌}
use Rattle.mn_base.specs.Ids.{client_same}
use Rattle.mn_base.specs.declared.ids.ClientNo.{ClientNo}
use Rattle.mn_commits.specs.CommitReader.{issued_of}
use Rattle.mn_serial.specs.History.{Placed}
use Rattle.mn_hist.specs.Acts.{Act}
use Rattle.mn_hist.specs.History.{stands}
use Rattle.mn_hist.proofs.Joining.{acts_last}
use Rattle.mn_hist.proofs.Planning.{keeps_act, plan_of, plan_puts, read_puts, past_last}
use Rattle.mn_hist.proofs.history.take_commit.Goals as goal

pub returns-then-is_read : goal.returns-then-is_read
returns-then-is_read c = λ start past placed run knows named place st acts. record {
  next = placed;
  puts = λ e. read_puts past e (issued_of c.args.committed) placed (sym c.is_read.ensures ∙ c.if-is_read.true);
  stands = st;
  are = acts;
}

pub returns-in_default : goal.returns-in_default
returns-in_default c = λ start past placed run knows named place st acts.
    let tid = c.args.committed.tid in
    let mini = c.args.committed.mini.now in
    let other = sym c.is_read.ensures ∙ c.if-is_read.false in
    let kept = keeps_act start tid mini past run other named in
    absurd (c.in_default.ensures kept.0 (knows tid mini (named, other) ∙ kept.1))

pub returns : goal.returns
returns c = λ start past placed run knows named place st acts.
    let other = sym c.is_read.ensures ∙ c.if-is_read.false in
    let plan = plan_of start c.args.committed.tid c.args.committed.mini.now c.in-Some.act past run other (sym (knows c.args.committed.tid c.args.committed.mini.now (named, other)) ∙ c.in-Some.ensures) named in
    let more = subst (λ (a : Act). (d : ClientNo) (n : ℕ) → stands c.note_standing.new.standing d n ≡ ((client_same a.client d && nat_eq a.number n) || stands c.args.standing.now d n)) c.act.view_is c.in_ok-note_standing.ensures in
    let here : Placed = record { place = length past; past = record { client = c.in-Some.act.client; number = c.in-Some.act.number; op = c.in-Some.act.op; reply = plan.0 } } in
    record {
      next = placed ++ here ∷ [];
      puts = λ e. plan_puts past e (issued_of c.args.committed) placed here.past other plan.1;
      stands = λ d n. more d n ∙ (ap (λ t. (client_same c.in-Some.act.client d && nat_eq c.in-Some.act.number n) || t) (st d n) ∙ sym (past_last d n here placed));
      are = acts_last c.args.acts.now.items c.push.new.self.items placed here acts (c.in_ok-push.ensures.items ∙ ap (λ (k : ℕ). c.args.acts.now.items ++ record { place = k; act = c.in-Some.act } ∷ []) place);
    }
