-- The call that an operation which was busy was refused with.
use Rattle.std.proofs.Common.{◌≡◌, ℕ, inl, inr, Bool, true, false, ◌&&◌, List, [], ◌∷◌, length, Option, Some, None, refl, subst, sym, ap, ◌∙◌}
use Rattle.mn_base.specs.declared.ids.NodeNo.{NodeNo}
use Rattle.mn_base.specs.declared.ids.ClientNo.{ClientNo}
use Rattle.mn_base.specs.declared.op.Op.{Op}
use Rattle.mn_base.specs.declared.answer.Busy.{Busy}
use Rattle.mn_mini.specs.declared.request.Request.{Request}
use Rattle.mn_mini.specs.declared.request.Request.TheVariants as Ask
use Rattle.mn_mini.specs.declared.reply.NodeReply.{NodeReply}
use Rattle.mn_mini.specs.declared.reply.NodeReply.TheVariants as Say
use Rattle.mn_runs.specs.declared.entry.Entry.{Entry}
use Rattle.mn_runs.specs.declared.entry.What.{What}
use Rattle.mn_runs.specs.declared.entry.What.TheVariants.{Begin, Issue, Called, Stopped, Restarted, Abandoned, Answered}
use Rattle.mn_runs.specs.Calls.{Call, call_in, issues_of, since_begin, client_entries}
use Rattle.mn_law.specs.Answers.{RefusedAs, MeetsFault, FailsAs, IsKeyOf, none_refused, is_one_try, nodes_of}
use Rattle.mn_runs.specs.Seen.{Seen, seen_in}
use Rattle.mn_causes.specs.Causes.{BusyTries, IsCallInLast}
use Rattle.mn_causes.proofs.LastTry.{InLast, in_last, as_in_last}

-- a list of one call
call_is : (at : Option NodeNo) (what : What) (call : Call) → call_in at what ≡ call ∷ []
    → (call.reply ≡ Say.Stopped → ⊥)
    → (at ≡ Some call.node) × (what ≡ Called call.request call.reply)
call_is None what call is other = absurd cc
call_is (Some k) (Called request reply) call is other =
    let same : record { node = k; request = request; reply = reply } ≡ call = head _ call is in
    (ap (λ (d : Call). Some d.node) same, ap (λ (d : Call). Called d.request d.reply) same)
  where
    head : (a b : Call) → a ∷ [] ≡ b ∷ [] → a ≡ b
    head a b e = cc
call_is (Some k) (Stopped (Some request) asked) call is other = absurd (other (ap (λ (d : Call). d.reply) (sym (head _ call is))))
  where
    head : (a b : Call) → a ∷ [] ≡ b ∷ [] → a ≡ b
    head a b e = cc
call_is (Some k) (Stopped None asked) call is other = absurd cc
call_is (Some k) (Begin number op) call is other = absurd cc
call_is (Some k) (Issue tid mini) call is other = absurd cc
call_is (Some k) (Restarted kept) call is other = absurd cc
call_is (Some k) (Abandoned tid) call is other = absurd cc
call_is (Some k) (Answered number answer) call is other = absurd cc

-- a stop is no refusal
not_stopped : (seens : List Seen) (n : NodeNo) (request : Request) (busy : Busy)
    → RefusedAs seens n request Say.Stopped busy → ⊥
not_stopped seens n (Ask.Prepare tid ps part) busy r = r
not_stopped seens n (Ask.Exec tid part) busy r = r
not_stopped seens n (Ask.Decide tid verdict) busy r = r
not_stopped seens n (Ask.Force tid) busy r = r
not_stopped seens n Ask.List busy r = r
not_stopped seens n (Ask.Peek at size) busy r = r

-- the refused call of the last try, in the log, and the rest of that try
pub record LastRefused {past : List Entry} {c : ClientNo} {number place : ℕ} {busy : Busy} (t : BusyTries past c number place busy) : Type 0 where
  pub entry : Entry
  pub try : List Entry
  pub there : InLast t [] entry try
  pub node : NodeNo
  pub request : Request
  pub reply : NodeReply
  pub at_node : entry.node ≡ Some node
  pub what : entry.what ≡ Called request reply
  pub one_try : none_refused try ≡ true
  pub refused : RefusedAs (seen_in try) node request reply busy

-- the last try failed by a refusal, not by a fault of path
abbrev IsRefusal : Busy → Type 0
IsRefusal busy =
    (nodes : ℕ) (seens : List Seen) (op : Op) (taken : List Entry)
    → MeetsFault nodes seens op (IsKeyOf op taken) busy → ⊥

pub last_refused : {past : List Entry} {c : ClientNo} {number place : ℕ} {busy : Busy} (t : BusyTries past c number place busy) → IsRefusal busy → LastRefused t
last_refused {past} {c} {number} {place} {busy} t refusal = at_last t.failed.last refl
  where
    and_left : (a b : Bool) → (a && b) ≡ true → a ≡ true
    and_left true b h = refl
    and_left false b h = absurd cc

    by_call : (x : Entry) (try : List Entry) → t.failed.last ≡ x ∷ try → (call : Call)
        → call_in x.node x.what ≡ call ∷ []
        → RefusedAs (seen_in try) call.node call.request call.reply busy → LastRefused t
    by_call x try is call here refused =
        let parts = call_is x.node x.what call here (λ stop. not_stopped (seen_in try) call.node call.request busy (subst (λ (r : NodeReply). RefusedAs (seen_in try) call.node call.request r busy) stop refused)) in
        record {
          entry = x;
          try = try;
          there = in_last t [] x try is;
          node = call.node;
          request = call.request;
          reply = call.reply;
          at_node = parts.0;
          what = parts.1;
          one_try = and_left (none_refused try) _ (subst (λ (l : List Entry). is_one_try l ≡ true) is (and_left (is_one_try t.failed.last) _ t.failed.tries));
          refused = refused;
        }

    at_last : (last : List Entry) → t.failed.last ≡ last → LastRefused t
    at_last [] is = absurd (subst (λ (l : List Entry). FailsAs (nodes_of (issues_of (since_begin (client_entries c t.before)))) t.op t.failed.taken l busy) is t.failed.last_fails)
    at_last (x ∷ try) is = by (subst (λ (l : List Entry). FailsAs (nodes_of (issues_of (since_begin (client_entries c t.before)))) t.op t.failed.taken l busy) is t.failed.last_fails)
      where
        by : FailsAs (nodes_of (issues_of (since_begin (client_entries c t.before)))) t.op t.failed.taken (x ∷ try) busy → LastRefused t
        by (inl (call, here, refused)) = by_call x try is call here refused
        by (inr fault) = absurd (refusal (nodes_of (issues_of (since_begin (client_entries c t.before)))) (seen_in (x ∷ try)) t.op t.failed.taken fault)

-- the call of it
abbrev pub call_in_last : {past : List Entry} {c : ClientNo} {number place : ℕ} {busy : Busy} (t : BusyTries past c number place busy) (r : LastRefused t) (n : NodeNo) (request : Request) (reply : NodeReply)
    → r.node ≡ n → r.request ≡ request → r.reply ≡ reply
    → IsCallInLast t (length r.there.before) n request reply
call_in_last t r n request reply node asked said = record {
  entry = r.entry;
  there = as_in_last t [] r.entry r.try r.there;
  node = r.at_node ∙ ap (λ (m : NodeNo). Some m) node;
  what = r.what ∙ (λ i. Called (asked i) (said i));
}
