-- Answers of the operation under way, in its client's own list.
use Rattle.std.proofs.Common.{◌≡◌, ℕ, ◌++◌, List, [], ◌∷◌, Option, Some, None, subst, sym, ap, ◌∙◌}
use Rattle.mn_base.specs.declared.answer.Answer.{Answer}
use Rattle.mn_base.specs.declared.answer.Answer.TheVariants as answers
use Rattle.mn_base.specs.declared.op.Op.{Op}
use Rattle.mn_runs.specs.declared.entry.Entry.{Entry}
use Rattle.mn_runs.specs.declared.entry.What.{What}
use Rattle.mn_runs.specs.declared.entry.What.TheVariants.{Abandoned, Answered, Begin, Called, Issue, Restarted, Stopped}
use Rattle.mn_law.specs.Answers.{IsSettled, IsShownFor, ShowsAnswer}
use Rattle.mn_runs.specs.Calls.{Begun, begun_in, begun_of, issue_in, since_begin, under_way, under_way_after}
use Rattle.mn_runs.specs.Clients.{last_number}
use Rattle.mn_proxy.specs.declared.step.ProxyStep.TheVariants as steps
use Rattle.mn_proxy.specs.Agrees.{Enters, IsOwnLast, IsUnderWay, MayStep, MayWant}
use Rattle.mn_proxy.specs.State.{ProxyState}
use Rattle.mn_proxy.specs.Turns.{IsOver}
use Rattle.mn_proxy.proofs.Issues.{fresh_answered, own_recovers_none}
use Rattle.mn_proxy.proofs.Last.{kept_still_last, own_gives_none}
use Rattle.mn_proxy.proofs.Opens.{own_on}

-- the operation under way is the last one that was begun
number_after : (what : What) (before : Option Begun) (begun : List Begun) (b : Begun)
    → (before ≡ Some b → b.number ≡ last_number begun) → under_way_after what before ≡ Some b
    → b.number ≡ last_number (begun_in what ++ begun)
number_after (Begin number op) before begun b rest is =
    let same : b ≡ record { number = number; op = op } = cc in ap (λ (x : Begun). x.number) same
number_after (Issue tid mini) before begun b rest is = rest is
number_after (Called request reply) before begun b rest is = rest is
number_after (Stopped request asked) before begun b rest is = rest is
number_after (Restarted kept) before begun b rest is = rest is
number_after (Abandoned tid) before begun b rest is = rest is
number_after (Answered number answer) before begun b rest is = absurd cc

pub number_is : (es : List Entry) (b : Begun) → under_way es ≡ Some b
    → b.number ≡ last_number (begun_of es)
number_is [] b is = absurd cc
number_is (e ∷ es) b is = number_after e.what (under_way es) (begun_of es) b (number_is es b) is

-- where all plans are over the operation may be answered for want of memory
pub may_want : (es : List Entry) (op : Op) → IsOver es op → MayWant es
may_want es op over = (
  over.settled,
  subst (λ (o : Option Begun). IsShownFor es o answers.NoMemory) (sym (over.of).1) over.given_up,
)

-- it may be answered so, where the list shows it
pub may_answer : (es : List Entry) (p : ProxyState) (op : Op) (answer : Answer) → IsUnderWay es op
    → IsSettled (since_begin es) answer → ShowsAnswer es (since_begin es) op answer
    → MayStep es p (steps.Done answer)
may_answer es p op answer (number, of) settled shown = (
  (
    op,
    of ∙ ap (λ (n : ℕ). Some (record { number = n; op = op }))
        (number_is es (record { number = number; op = op }) of),
  ),
  (settled, subst (λ (o : Option Begun). IsShownFor es o answer) (sym of) shown),
)

-- with the answer in the list what the proxy keeps stays
pub answered_own : (es new : List Entry) (p : ProxyState) (answer : Answer) → IsOwnLast es p
    → Enters es p (steps.Done answer) new → IsOwnLast new p
answered_own es new p answer (own, last) (e, entry, is) =
    subst (λ (l : List Entry). IsOwnLast l p) (sym is) (
      own_on e es p own (ap issue_in entry.what_is)
          (fresh_answered p.client p.run e es (last_number (begun_of es)) answer own.fresh entry.node entry.what_is)
          (own_recovers_none e es entry.node own.recovers),
      kept_still_last e es p.known (own_gives_none e entry.node) last,
    )

-- and no operation is under way
pub answered_idle : (es new : List Entry) (p : ProxyState) (answer : Answer)
    → Enters es p (steps.Done answer) new → under_way new ≡ None
answered_idle es new p answer (e, entry, is) =
    ap under_way is ∙ ap (λ (what : What). under_way_after what (under_way es)) entry.what_is
