-- What else a client's list holds of a minitransaction: its tries and no others, and its decisions.
use Rattle.std.proofs.Common.{◌≡◌, ◌⊎◌, inl, inr, ℕ, zero, suc, ◌<◌, ◌≤◌, Bool, true, false, ◌&&◌, ◌||◌, List, [], ◌∷◌, ◌++◌, Option, Some, None, refl, sym, ap, subst, ◌∙◌, arith, Contains}
use Rattle.std.specs.List.{list_any}
use Rattle.std.proofs.lemmas.List.Folds.{list_any-append}
use Rattle.std.proofs.lemmas.List.Elements.{Contains-append_cases}
use Rattle.mn_base.specs.declared.ids.NodeNo.{NodeNo}
use Rattle.mn_base.specs.declared.ids.Tid.{Tid}
use Rattle.mn_base.specs.Ids.{node_same}
use Rattle.mn_base.proofs.Booleans.{clash, falsely, or_left, or_right}
use Rattle.mn_mini.specs.declared.reply.NodeReply.{NodeReply}
use Rattle.mn_mini.specs.Mini.{Mini}
use Rattle.mn_runs.specs.declared.entry.Entry.{Entry}
use Rattle.mn_runs.specs.Calls.{Call, call_in, calls_of, is_decide, is_done, is_try, was_decided, since_begin}
use Rattle.mn_runs.proofs.Since.{since_told}
use Rattle.mn_coord.specs.Legal.{IsAnswerOf, TriesAre, names_tid}

-- Tests of calls

-- a call that passes a test
pub any_there : (t : Call → Bool) (cs : List Call) (call : Call) → Contains cs call → t call ≡ true → list_any t cs ≡ true
any_there t [] call (k, in', is) e = absurd (omega arith)
any_there t (c ∷ cs) call (zero, in', is) e = or_left (t c) (list_any t cs) (ap t is ∙ e)
any_there t (c ∷ cs) call (suc k, in', is) e = or_right (t c) (list_any t cs) (any_there t cs call (k, omega arith, is) e)

-- no call passes it
pub none_there : (t : Call → Bool) (cs : List Call) → ((call : Call) → Contains cs call → t call ≡ true → ⊥) → list_any t cs ≡ false
none_there t [] never = refl
none_there t (c ∷ cs) never =
    ap (λ b. b || list_any t cs) (falsely (t c) (never c (0, omega arith, refl)))
    ∙ none_there t cs (λ call there. never call (let k = there.0 in let low = there.1 in (suc k, omega arith, there.2)))

-- none of those since Begin passes it
pub none_since : (t : Call → Bool) (es : List Entry) → ((call : Call) → Contains (calls_of es) call → t call ≡ true → ⊥) → list_any t (calls_of (since_begin es)) ≡ false
none_since t es never = falsely (list_any t (calls_of (since_begin es))) (λ some. clash (list_any t (calls_of es)) (since_told t es some) (none_there t (calls_of es) never))

-- Tries

-- with one more call
pub tries_more : (es : List Entry) (e : Entry) (call : Call) (tid : Tid) (mini : Mini) (done more : ℕ) (old new : Option NodeReply)
    → call_in e.node e.what ≡ call ∷ [] → TriesAre es tid mini done old
    → ((c : Call) → IsAnswerOf tid mini done old c → IsAnswerOf tid mini more new c)
    → (is_try tid call.request ≡ true → IsAnswerOf tid mini more new call)
    → TriesAre (e ∷ es) tid mini more new
tries_more es e call tid mini done more old new is tries keeps own = λ c there t. by c t (Contains-append_cases (call ∷ []) (calls_of es) c (subst (λ (cs : List Call). Contains (cs ++ calls_of es) c) is there))
  where
    single : (c : Call) → Contains (call ∷ []) c → call ≡ c
    single c (zero, in', same) = same
    single c (suc k, in', same) = absurd (omega arith)

    by : (c : Call) → is_try tid c.request ≡ true → Contains (call ∷ []) c ⊎ Contains (calls_of es) c → IsAnswerOf tid mini more new c
    by c t (inl here) =
        let same = single c here in
        subst (IsAnswerOf tid mini more new) same (own (ap (λ (k : Call). is_try tid k.request) same ∙ t))
    by c t (inr there) = keeps c (tries c there t)

-- with no call
pub tries_same : (es : List Entry) (e : Entry) (tid : Tid) (mini : Mini) (done : ℕ) (refused : Option NodeReply) → calls_of (e ∷ es) ≡ calls_of es
    → TriesAre es tid mini done refused → TriesAre (e ∷ es) tid mini done refused
tries_same es e tid mini done refused same tries = λ call there. tries call (subst (λ (cs : List Call). Contains cs call) same there)

-- of an id that is fresh there are none
pub tries_fresh : (es : List Entry) (tid : Tid) (mini : Mini) (done : ℕ) (refused : Option NodeReply) → list_any (names_tid tid) (calls_of es) ≡ false → TriesAre es tid mini done refused
tries_fresh es tid mini done refused fresh = λ call there t. absurd (clash (list_any (names_tid tid) (calls_of es)) (any_there (names_tid tid) (calls_of es) call there t) fresh)

-- what was answered stays so
pub answered_still : (tid : Tid) (mini : Mini) (done : ℕ) (refused : Option NodeReply) → refused ≡ None → (more : ℕ) (new : Option NodeReply) → done ≤ more → (c : Call) → IsAnswerOf tid mini done refused c → IsAnswerOf tid mini more new c
answered_still tid mini done refused none more new up c a = record { number = a.number; is = a.is; said = by a.said }
  where
    by : ((a.number < done) × (is_done c.reply ≡ true)) ⊎ ((refused ≡ Some c.reply) × (is_done c.reply ≡ false)) → ((a.number < more) × (is_done c.reply ≡ true)) ⊎ ((new ≡ Some c.reply) × (is_done c.reply ≡ false))
    by (inl said) = let low = said.0 in inl (omega arith, said.1)
    by (inr said) = absurd (let both : None ≡ Some c.reply = sym none ∙ said.0 in cc)

-- Decisions

-- a decision stays in the list
pub decided_still : (es : List Entry) (e : Entry) (tid : Tid) (n : NodeNo) → since_begin (e ∷ es) ≡ e ∷ since_begin es
    → was_decided tid n (since_begin es) ≡ true → was_decided tid n (since_begin (e ∷ es)) ≡ true
decided_still es e tid n since was =
    ap (was_decided tid n) since
    ∙ (list_any-append (λ (c : Call). node_same c.node n && (is_decide tid c.request && true)) (call_in e.node e.what) (calls_of (since_begin es)) ∙ or_right _ _ was)
