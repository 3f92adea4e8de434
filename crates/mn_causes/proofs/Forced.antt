-- An id that was forced is so at every later place, and some actor forced it.
use Rattle.std.proofs.Common.{◌≡◌, ℕ, ◌<◌, ◌≤◌, ◌⊎◌, inl, inr, Bool, true, false, List, [], ◌∷◌, ◌++◌, length, Option, Some, None, refl, subst, sym, ap, ◌∙◌, if◌then◌else◌}
use Rattle.std.specs.List.{list_any}
use Rattle.std.proofs.lemmas.List.{append_assoc}
use Rattle.mn_base.specs.Ids.{tid_same}
use Rattle.mn_base.specs.declared.ids.NodeNo.{NodeNo}
use Rattle.mn_base.specs.declared.ids.ClientNo.{ClientNo}
use Rattle.mn_base.specs.declared.ids.Tid.{Tid}
use Rattle.mn_base.specs.declared.answer.Busy.TheVariants.{Forced}
use Rattle.mn_base.proofs.Booleans.{or_left}
use Rattle.mn_mini.specs.declared.part.PartItem.{PartItem}
use Rattle.mn_mini.specs.declared.record.Record.{Record}
use Rattle.mn_mini.specs.declared.record.Record.TheVariants as Rec
use Rattle.mn_mini.specs.declared.request.Request.{Request}
use Rattle.mn_mini.specs.declared.request.Request.TheVariants as Ask
use Rattle.mn_mini.specs.declared.reply.NodeReply.{NodeReply}
use Rattle.mn_mini.specs.declared.reply.NodeReply.TheVariants as Say
use Rattle.mn_mini.specs.Flat.{Mismatched, part_mismatch_from}
use Rattle.mn_mini.specs.Node.{held_parts, has_forced, is_force_of, Clash, clash_of, only_reply, after_compares, after_locks, tested, answer, space_of}
use Rattle.mn_runs.specs.declared.entry.Entry.{Entry}
use Rattle.mn_runs.specs.declared.entry.What.{What}
use Rattle.mn_runs.specs.declared.entry.What.TheVariants.{Called}
use Rattle.mn_runs.specs.Calls.{Call, is_force, client_entries}
use Rattle.mn_runs.specs.Clients.{AllowsPrepare}
use Rattle.mn_runs.specs.Seen.{Seen, seen_in}
use Rattle.mn_law.specs.Answers.{RefusedAs}
use Rattle.mn_runs.specs.Protocol.{Start, start_nodes, start_records, base_at, records_of, FollowsProtocol, AllowedAt, AllowedBy}
use Rattle.mn_causes.specs.Causes.{BusyTries, WasForcedBy, IsForcedAt, ForcedStands, ForcedByOther}
use Rattle.mn_law.proofs.MakeRun.{runs_follow_protocol}
use Rattle.mn_runs.proofs.Same.{tid_same-refl}
use Rattle.mn_votes.proofs.Unchanged.{record_stays, current_issue}
use Rattle.mn_votes.proofs.Preserved.{new_not_old, kept_run}
use Rattle.mn_serial.proofs.Meaning.Splits.{Front, front}
use Rattle.mn_runs.proofs.Prefixes.{follows_before}
use Rattle.mn_serial.proofs.Meaning.Prefixes.{keeps_there}
use Rattle.mn_causes.proofs.LastTry.{as_in_last, busy_tries, in_log}
use Rattle.mn_causes.proofs.Refused.{LastRefused, last_refused, call_in_last}
use Rattle.mn_causes.proofs.Held.{call_answer}
use Rattle.mn_causes.proofs.Forces.{forced_from, call_there, sends_none}
use Rattle.mn_commits.proofs.Commits.Stays.{forced_recorded}

forced_refused : (seens : List Seen) (m : NodeNo) (request : Request) (reply : NodeReply) (tid : Tid) → RefusedAs seens m request reply (Forced tid) → (ps : List NodeNo) × (part : List PartItem) × (request ≡ Ask.Prepare tid ps part) × (reply ≡ Say.BadForced)
forced_refused seens m request (Say.BadLock b s h) tid is = absurd cc
forced_refused seens m (Ask.Prepare t ps part) (Say.BadCompare item found) tid (at, expected, has, shows, is) = absurd cc
forced_refused seens m (Ask.Exec t part) (Say.BadCompare item found) tid (at, expected, has, shows, is) = absurd cc
forced_refused seens m (Ask.Prepare t ps part) Say.BadForced tid is = (ps, part, ap (λ (x : Tid). Ask.Prepare x ps part) (sym (same tid t is)), refl)
  where
    same : (a b : Tid) → Forced a ≡ Forced b → a ≡ b
    same a b e = cc
forced_refused seens m request reply tid is = absurd is

forced_by : (base : List ℕ) (records : List Record) (tid : Tid) (ps : List NodeNo) (part : List PartItem) → (answer base records (Ask.Prepare tid ps part)).reply ≡ Say.BadForced → has_forced records tid ≡ true
forced_by base records tid ps part is = by (has_forced records tid) refl is
  where
    compares : (o : Option Mismatched)
        → (after_compares (space_of base records) part (Some (Rec.Voted tid ps part)) o).reply ≡ Say.BadForced → ⊥
    compares (Some at) e = cc
    compares None e = cc

    locks : (o : Option Clash)
        → (after_locks (space_of base records) part (Some (Rec.Voted tid ps part)) o).reply ≡ Say.BadForced → ⊥
    locks (Some at) e = cc
    locks None e = compares (part_mismatch_from (space_of base records) 0 part) e

    by : (b : Bool) → has_forced records tid ≡ b
        → (if b then only_reply Say.BadForced else tested base records tid part (Some (Rec.Voted tid ps part))).reply ≡ Say.BadForced → has_forced records tid ≡ true
    by true e f = e
    by false e f = absurd (locks (clash_of (held_parts records) tid part) f)

-- a record of Forced stays
forced_on : (start : Start) (later before : List Entry) (n : NodeNo) (tid : Tid)
    → has_forced (records_of start before n) tid ≡ true
    → has_forced (records_of start (later ++ before) n) tid ≡ true
forced_on start [] before n tid forced = forced
forced_on start (e ∷ later) before n tid forced = record_stays start (later ++ before) e n (is_force_of tid) (forced_on start later before n tid forced)

pub forced_stands : ForcedStands
forced_stands start store past place e c number tid h stands answers = record {
  tries = t;
  at = length r.there.before;
  node = r.node;
  participants = is.0;
  part = is.1;
  call = call_in_last t r r.node (Ask.Prepare tid is.0 is.1) Say.BadForced refl is.2 is.3;
  forced = later;
  sender = sent.0;
  sent = sent.1;
}
  where
    t : BusyTries past c number place (Forced tid)
    t = busy_tries start past h.run c number place (Forced tid) e stands answers

    r : LastRefused t
    r = last_refused t (λ nodes seens op taken f. f)

    is : (ps : List NodeNo) × (part : List PartItem) × (r.request ≡ Ask.Prepare tid ps part)
        × (r.reply ≡ Say.BadForced)
    is = forced_refused (seen_in r.try) r.node r.request r.reply tid r.refused

    not_down : Say.BadForced ≡ Say.Down → ⊥
    not_down e = cc

    split : past ≡ (t.later ++ (t.answer ∷ r.there.later)) ++ r.entry ∷ r.there.before
    split = in_log t (as_in_last t [] r.entry r.try r.there)

    said : (answer (base_at start r.node) (records_of start r.there.before r.node) (Ask.Prepare tid is.0 is.1)).reply ≡ Say.BadForced
    said =
        call_answer start r.there.before r.entry r.node (Ask.Prepare tid is.0 is.1) Say.BadForced
        (keeps_there start past (t.later ++ (t.answer ∷ r.there.later)) r.entry r.there.before split (runs_follow_protocol start past h.run)) r.at_node
        (r.what ∙ (λ i. Called (is.2 i) (is.3 i))) not_down

    here : has_forced (records_of start r.there.before r.node) tid ≡ true
    here = forced_by (base_at start r.node) (records_of start r.there.before r.node) tid is.0 is.1 said

    -- it is no id of the start, since it is issued in this run
    sent : (sender : ClientNo) × WasForcedBy r.there.before r.node tid sender
    sent = by (forced_from start r.there.before r.node tid to_call.0 here)
      where
        to_call : FollowsProtocol start (r.entry ∷ r.there.before)
        to_call = follows_before start past (t.later ++ (t.answer ∷ r.there.later)) (r.entry ∷ r.there.before) split (runs_follow_protocol start past h.run)

        asked : AllowsPrepare (client_entries c r.there.before) r.node tid is.0 is.1
        asked =
            let by : AllowedBy r.there.before r.entry.client r.entry.node r.entry.what = to_call.1.by_client in
            let own : AllowedBy r.there.before (Some c) r.entry.node r.entry.what = subst (λ (o : Option ClientNo). AllowedBy r.there.before o r.entry.node r.entry.what) r.there.client by in
            let there : AllowedBy r.there.before (Some c) (Some r.node) r.entry.what = subst (λ (o : Option NodeNo). AllowedBy r.there.before (Some c) o r.entry.what) r.at_node own in
            subst (λ (x : What). AllowedBy r.there.before (Some c) (Some r.node) x) (r.what ∙ (λ i. Called (is.2 i) (is.3 i))) there

        low : r.node.0 < start_nodes start
        low = (subst (λ (o : Option NodeNo). AllowedAt start r.there.before o r.entry.what) r.at_node to_call.1.at_node).0

        by : (has_forced (start_records start r.node) tid ≡ true)
            ⊎ ((sender : ClientNo) × WasForcedBy r.there.before r.node tid sender)
            → (sender : ClientNo) × WasForcedBy r.there.before r.node tid sender
        by (inl old) =
            absurd (new_not_old start r.there.before c tid asked.mini (kept_run start r.there.before h.opened.sound to_call.0)
            (current_issue (client_entries c r.there.before) tid asked.mini asked.issued) (r.node, low, forced_recorded (start_records start r.node) tid old))
        by (inr f) = f

    later : (newer older : List Entry) → past ≡ newer ++ older
        → length r.there.before ≤ length older
        → has_forced (records_of start older r.node) tid ≡ true
    later newer older whole low =
        let f : Front older r.there.before =
        front newer ((t.later ++ (t.answer ∷ r.there.later)) ++ r.entry ∷ []) older r.there.before
        (sym whole ∙ (split ∙ sym (append_assoc (t.later ++ (t.answer ∷ r.there.later)) (r.entry ∷ []) r.there.before))) low in
        subst (λ (es : List Entry). has_forced (records_of start es r.node) tid ≡ true) (sym f.is)
        (forced_on start f.span r.there.before r.node tid here)

-- a client that makes no request of a recovery has not sent it
pub forced_by_other : ForcedByOther
forced_by_other start store past place e c number tid h stands answers recovers = (f, other)
  where
    f : IsForcedAt start past c number place tid
    f = forced_stands start store past place e c number tid h stands answers

    other : f.sender ≡ c → ⊥
    other own =
        sends_none past c tid recovers
        (call_there past ((f.tries.later ++ (f.tries.answer ∷ f.call.there.later)) ++ (f.call.entry ∷ f.sent.later)) f.sent.entry f.sent.older c (λ (d : Call). is_force tid d.request) split
        (f.sent.client ∙ ap (λ (d : ClientNo). Some d) own)
        (ap (λ (cs : List Call). list_any (λ (d : Call). is_force tid d.request) cs) f.sent.call ∙ or_left (tid_same tid tid) false (tid_same-refl tid)))
      where
        split : past ≡ ((f.tries.later ++ (f.tries.answer ∷ f.call.there.later)) ++ (f.call.entry ∷ f.sent.later)) ++ f.sent.entry ∷ f.sent.older
        split =
            in_log f.tries f.call.there
            ∙ (ap (λ (l : List Entry). (f.tries.later ++ (f.tries.answer ∷ f.call.there.later)) ++ f.call.entry ∷ l) f.sent.split
            ∙ sym (append_assoc (f.tries.later ++ (f.tries.answer ∷ f.call.there.later)) (f.call.entry ∷ f.sent.later) (f.sent.entry ∷ f.sent.older)))
