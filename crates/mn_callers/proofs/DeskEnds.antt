-- That the calls of a recovery coordinator come to an end in an act.
use Rattle.std.proofs.Common.{◌≡◌, ℕ, ◌+◌, ◌<◌, ◌≤◌, Bool, true, false, not, ◌&&◌, List, length, Option, Some, None, refl, sym, ap, ◌∙◌, subst, arith, if◌then◌else◌}
use Rattle.std.specs.Prelude.{nat_lt}
use Rattle.std.specs.List.{AllByRecursion, list_all}
use Rattle.std.proofs.lemmas.Bool.{ltb-true}
use Rattle.mn_base.specs.Ids.{tid_same}
use Rattle.mn_base.specs.declared.ids.NodeNo.{NodeNo}
use Rattle.mn_base.specs.declared.ids.Tid.{Tid}
use Rattle.mn_base.proofs.Lists.{weaker}
use Rattle.mn_mini.specs.declared.doubt.Doubt.{Doubt}
use Rattle.mn_mini.specs.declared.request.Request.{Request}
use Rattle.mn_mini.specs.declared.request.Request.TheVariants as Ask
use Rattle.mn_mini.specs.declared.reply.NodeReply.{NodeReply}
use Rattle.mn_mini.specs.declared.reply.NodeReply.TheVariants as Say
use Rattle.mn_mini.specs.Sound.{Fits, IsDoubt}
use Rattle.mn_recov.specs.declared.stage.RecovStage.{RecovStage}
use Rattle.mn_recov.specs.declared.stage.RecovStage.TheVariants.{Looking, Found}
use Rattle.mn_recov.specs.declared.step.RecovStep.TheVariants.{Send, Ended}
use Rattle.mn_recov.specs.Recovery.{Recovery, after_force, after_list, fed, found_or, participant, stage_after, step_at, step_of}
use Rattle.mn_runs.specs.Calls.{lists_doubt}
use Rattle.mn_callers.specs.Closing.{calls_left, calls_of}
use Rattle.mn_callers.specs.Recoveries.{has_to_wait, is_force, is_vote}
use Rattle.mn_callers.proofs.Held.{listed_all}

module _ (nodes : ℕ) (tid : Tid) where
  few : (doubts : List Doubt) (ps : List NodeNo) → AllByRecursion IsDoubt doubts → lists_doubt tid doubts ≡ Some ps → length ps ≤ 8
  few doubts ps sound is = listed_all (λ ps. length ps ≤ 8) tid doubts (weaker IsDoubt (λ d. tid_same d.tid tid ≡ true → length d.participants ≤ 8) (λ d is same. is.1.1) doubts sound) ps is

  found : (k : ℕ) (o : Option (List NodeNo)) → k < nodes → ((ps : List NodeNo) → o ≡ Some ps → length ps ≤ 8) → calls_left nodes (found_or nodes (Looking (k + 1)) o) < calls_left nodes (Looking k)
  found k None low le = omega (arith, low)
  found k (Some ps) low le = there (list_all (λ n. nat_lt n.0 nodes) ps)
    where
      there : (b : Bool) → calls_left nodes (if b then Found ps 0 true 0 else Looking (k + 1)) < calls_left nodes (Looking k)
      there true = let at_most = le ps refl in omega (arith, at_most)
      there false = omega (arith, low)

  -- a node was asked for its list
  looked : (k : ℕ) (reply : NodeReply) → k < nodes → Fits Ask.List reply → calls_left nodes (after_list tid nodes k reply) < calls_left nodes (Looking k)
  looked k (Say.Listed doubts) low fits = found k (lists_doubt tid doubts) low (λ ps is. few doubts ps fits.1 is)
  looked k reply low fits = omega (arith, low)

  -- a participant was forced, and voted
  forced : (ps : List NodeNo) (voted : ℕ) (verdict : Bool) (decided : ℕ) (reply : NodeReply) → voted < length ps → not (is_vote reply) ≡ false → calls_left nodes (after_force ps voted verdict decided reply) < calls_left nodes (Found ps voted verdict decided)
  forced ps voted verdict decided (Say.Vote vote) low votes = omega (arith, low)
  forced ps voted verdict decided reply low votes = absurd cc

  stage_falls : (stage : RecovStage) (node : NodeNo) (request : Request) (reply : NodeReply) → step_at tid nodes stage ≡ Send node request → Fits request reply → has_to_wait request reply ≡ false → calls_left nodes (stage_after tid nodes stage reply) < calls_left nodes stage
  stage_falls (Looking k) node request reply step fits votes = by (nat_lt k nodes) refl step
    where
      by : (b : Bool) → nat_lt k nodes ≡ b → (if b then Send (record { 0 = k }) Ask.List else Ended None) ≡ Send node request → calls_left nodes (after_list tid nodes k reply) < calls_left nodes (Looking k)
      by true low is = let q : request ≡ Ask.List = cc in looked k reply (ltb-true k nodes low) (subst (λ (r : Request). Fits r reply) q fits)
      by false low is = absurd cc
  stage_falls (Found ps voted verdict decided) node request reply step fits votes = voting (nat_lt voted (length ps)) refl step
    where
      deciding : (b : Bool) → nat_lt decided (length ps) ≡ b → (if b then Send (participant ps decided) (Ask.Decide tid verdict) else Ended (Some verdict)) ≡ Send node request
          → calls_left nodes (Found ps voted verdict (decided + 1)) < calls_left nodes (Found ps voted verdict decided)
      deciding true low is = let less = ltb-true decided (length ps) low in omega (arith, less)
      deciding false low is = absurd cc

      voting : (b : Bool) → nat_lt voted (length ps) ≡ b
          → (if b then Send (participant ps voted) (Ask.Force tid) else (if nat_lt decided (length ps) then Send (participant ps decided) (Ask.Decide tid verdict) else Ended (Some verdict))) ≡ Send node request
          → calls_left nodes (if b then after_force ps voted verdict decided reply else Found ps voted verdict (decided + 1)) < calls_left nodes (Found ps voted verdict decided)
      voting true low is = let q : request ≡ Ask.Force tid = cc in
          forced ps voted verdict decided reply (ltb-true voted (length ps) low) (sym (ap (λ (r : Request). has_to_wait r reply) q) ∙ votes)
      voting false low is = deciding (nat_lt decided (length ps)) refl is

no_wait : (waits : Bool) → not waits ≡ true → waits ≡ false
no_wait true is = absurd cc
no_wait false is = refl

-- a call that another may follow
pub call_falls : (o : Option Recovery) (r r' : Recovery) (node : NodeNo) (request : Request) (reply : NodeReply) (force waits : Bool) → Some r ≡ o → Send node request ≡ step_of r → Fits request reply → r' ≡ fed r reply → force ≡ is_force request
    → waits ≡ (force && not (is_vote reply)) → not waits ≡ true → calls_of (Some r') < calls_of o
call_falls o r r' node request reply force waits at step fits is force_is waits_is on =
    let votes : has_to_wait request reply ≡ false = ap (λ b. b && not (is_vote reply)) (sym force_is) ∙ (sym waits_is ∙ no_wait waits on) in
    subst (λ (p : Option Recovery). calls_of (Some r') < calls_of p) at
    (subst (λ (x : Recovery). calls_of (Some x) < calls_of (Some r)) (sym is) (stage_falls r.nodes r.tid r.stage node request reply (sym step) fits votes))
