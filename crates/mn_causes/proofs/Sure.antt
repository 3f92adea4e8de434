-- An undisturbed operation meets no moved bytes and no fault of path.
use Rattle.std.proofs.Common.{◌≡◌, ℕ, ◌<◌, ◌≤◌, ◌⊎◌, inl, inr, List, [], ◌∷◌, ◌++◌, length, Some, refl, subst, sym, ap, ◌∙◌, arith}
use Rattle.std.proofs.lemmas.List.{append_assoc}
use Rattle.mn_base.specs.declared.ids.NodeNo.{NodeNo}
use Rattle.mn_base.specs.declared.ids.ClientNo.{ClientNo}
use Rattle.mn_base.specs.declared.ids.Addr.{Addr}
use Rattle.mn_base.specs.declared.op.Op.{Op}
use Rattle.mn_base.specs.declared.answer.Answer.{Answer}
use Rattle.mn_base.specs.declared.answer.Answer.TheVariants.{Replied, Busy as GaveUp, Down, InDoubt, Full, Worn, NoMemory}
use Rattle.mn_base.specs.declared.answer.Busy.{Busy}
use Rattle.mn_base.specs.declared.answer.Busy.TheVariants.{Lock, Moved, Forced, Path}
use Rattle.mn_base.specs.Store.{Store}
use Rattle.mn_runs.specs.declared.entry.Entry.{Entry}
use Rattle.mn_runs.specs.Calls.{Begun, client_entries, under_way}
use Rattle.mn_runs.specs.Protocol.{Start, FollowsProtocol}
use Rattle.mn_serial.specs.Meaning.{OpenedRun}
use Rattle.mn_causes.specs.Causes.{BusyTries, IsInLast, CommitsOther}
use Rattle.mn_runs.specs.declared.entry.What.{What}
use Rattle.mn_runs.specs.declared.entry.What.TheVariants.{Begin}
use Rattle.mn_runs.specs.Clients.{ClientAllows}
use Rattle.mn_causes.specs.Undisturbed.{IsOfUpNodes, IsUndisturbed, IsUndisturbedAnswer, UndisturbedIsSure}
use Rattle.mn_law.proofs.MakeRun.{runs_follow_protocol}
use Rattle.mn_serial.proofs.Meaning.Clients.{Allowed, begin_higher}
use Rattle.mn_serial.proofs.Meaning.Positions.{BeginAt, allowed_at, client_append}
use Rattle.mn_serial.proofs.Meaning.Splits.{Front, front}
use Rattle.mn_causes.proofs.LastTry.{in_log, before_answer}
use Rattle.mn_causes.proofs.Moved.{moved_by_other}
use Rattle.mn_causes.proofs.Paths.{path_by_other}
use Rattle.mn_causes.proofs.Undisturbed.{up_is_sure}
use Rattle.mn_causes.proofs.OwnCommits.{only_own_commits}

-- an operation is under way behind its Begin alone
pub under_behind : (start : Start) (past : List Entry) (c : ClientNo) (number : ℕ) (op : Op) (f : BeginAt past c number op) → FollowsProtocol start past → (later older : List Entry) → past ≡ later ++ older → (b : Begun) → under_way (client_entries c older) ≡ Some b → b.number ≡ number
    → length f.at.before < length older
under_behind start past c number op f run later older split b now same = by (low_or_high (length f.at.before) (length older))
  where
    low_or_high : (m n : ℕ) → (m < n) ⊎ (n ≤ m)
    low_or_high m n = grind arith

    never : Front f.at.before older → ⊥
    never g =
        let list : client_entries c f.at.before ≡ client_entries c g.span ++ client_entries c older = ap (client_entries c) g.is ∙ client_append c g.span older in
        let a = allowed_at start past c f.at run in
        let begins : ClientAllows c (client_entries c g.span ++ client_entries c older) f.at.entry.node (Begin number op) =
        subst (λ (es : List Entry). ClientAllows c es f.at.entry.node (Begin number op)) list (subst (λ (w : What). ClientAllows c (client_entries c f.at.before) f.at.entry.node w) f.begins a.1) in
        let higher : b.number < number = begin_higher c (client_entries c g.span) (client_entries c older) f.at.entry.node number op b (subst (Allowed c) list a.0) now begins in
        absurd (omega arith)

    by : (length f.at.before < length older) ⊎ (length older ≤ length f.at.before)
        → length f.at.before < length older
    by (inl less) = less
    by (inr more) = absurd (never (front (f.at.later ++ f.at.entry ∷ []) later f.at.before older (append_assoc f.at.later (f.at.entry ∷ []) f.at.before ∙ (sym f.at.split ∙ split)) more))

-- nothing of another operation is committed in its tries
none_other : (start : Start) (store : Store) (past : List Entry) (c : ClientNo) (number : ℕ) (answer : Answer) → OpenedRun start store past → (u : IsUndisturbed start past c number answer)
    → {busy : Busy} {from to : ℕ} {x y : Entry} (t : BusyTries past c number (length (u.between ++ u.begins ∷ u.before)) busy) → IsInLast t from x → IsInLast t to y → (commit : ℕ) → CommitsOther past c number commit
    → from ≤ commit → commit < to → ⊥
none_other start store past c number answer h u {busy} {from} {to} {x} {y} t oldest newest commit o low high =
    let f : BeginAt past c number u.op = record {
      at = record {
        entry = u.begins;
        later = u.later ++ (u.answers ∷ u.between);
        before = u.before;
        split = u.split ∙ sym (append_assoc u.later (u.answers ∷ u.between) (u.begins ∷ u.before));
        by = u.begun.0;
      };
      begins = u.begun.1;
    } in
    let behind : length u.before < length oldest.before = under_behind start past c number u.op (record {
      at = record {
        entry = u.begins;
        later = u.later ++ (u.answers ∷ u.between);
        before = u.before;
        split = u.split ∙ sym (append_assoc u.later (u.answers ∷ u.between) (u.begins ∷ u.before));
        by = u.begun.0;
      };
      begins = u.begun.1;
    }) (runs_follow_protocol start past h.run) ((t.later ++ (t.answer ∷ oldest.later)) ++ x ∷ []) oldest.before
    (in_log t oldest ∙ sym (append_assoc (t.later ++ (t.answer ∷ oldest.later)) (x ∷ []) oldest.before)) (record { number = number; op = t.op }) oldest.of refl in
    let place : from ≡ length oldest.before = oldest.is_place in
    let end : to < length (u.between ++ u.begins ∷ u.before) = before_answer t newest in
    let own = only_own_commits start store past u.later u.between u.before u.begins u.answers c number u.op answer h u.split u.begun u.answered u.up u.own commit o.other o.its o.commits (omega arith) (omega arith) in
    o.not_own own.0 own.1

pub undisturbed_is_sure : UndisturbedIsSure
undisturbed_is_sure start store past c number answer h u = by answer u
  where
    up : (a : Answer) (v : IsUndisturbed start past c number a) → IsOfUpNodes a
    up a v = up_is_sure start store past v.later v.between v.before v.begins v.answers c number v.op a h v.split v.begun v.answered v.up

    moved : (n : NodeNo) (begins : ℕ) (expected found : List ℕ)
        → IsUndisturbed start past c number (GaveUp (Moved n begins expected found)) → ⊥
    moved n begins expected found v =
        let m = moved_by_other start store past (length (v.between ++ v.begins ∷ v.before)) v.answers c number n begins expected found h (v.later, v.between ++ v.begins ∷ v.before, v.split, refl) v.answered in
        let inside = m.inside in
        none_other start store past c number (GaveUp (Moved n begins expected found)) h v m.tries m.reads m.call.there m.commit m.other (omega arith) inside.1

    path : (addr : Addr) (seq : ℕ) → IsUndisturbed start past c number (GaveUp (Path addr seq)) → ⊥
    path addr seq v =
        let m = path_by_other start store past (length (v.between ++ v.begins ∷ v.before)) v.answers c number addr seq h (v.later, v.between ++ v.begins ∷ v.before, v.split, refl) v.answered in
        let w = m.moved m.to m.reader m.reads m.meets in
        none_other start store past c number (GaveUp (Path addr seq)) h v m.tries w.begins m.reads w.commit w.other w.inside.0 w.inside.1

    by : (a : Answer) → IsUndisturbed start past c number a → IsUndisturbedAnswer a
    by (Down n) v = up (Down n) v
    by (InDoubt tid n) v = up (InDoubt tid n) v
    by (GaveUp (Moved n begins expected found)) v = moved n begins expected found v
    by (GaveUp (Path addr seq)) v = path addr seq v
    by (GaveUp (Lock n begins size holder)) v = tt
    by (GaveUp (Forced tid)) v = tt
    by (Replied reply) v = tt
    by (Full need free) v = tt
    by (Worn n place) v = tt
    by NoMemory v = tt
