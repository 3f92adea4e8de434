-- What a recovery hands out is sound.
use Rattle.std.proofs.Common.{◌≡◌, ℕ, zero, suc, ◌+◌, ◌<◌, Bool, true, false, ◌&&◌, List, [], ◌∷◌, length, Option, Some, None, refl, arith, if◌then◌else◌}
use Rattle.std.specs.Prelude.{nat_lt}
use Rattle.std.specs.List.{list_all, AllByRecursion}
use Rattle.mn_base.specs.declared.ids.NodeNo.{NodeNo}
use Rattle.mn_base.specs.declared.ids.Tid.{Tid}
use Rattle.mn_base.proofs.Naturals.{lt_from}
use Rattle.mn_mini.specs.RecordGrammar.{IsTid}
use Rattle.mn_mini.specs.declared.request.Request.TheVariants as Ask
use Rattle.mn_mini.specs.declared.reply.NodeReply.{NodeReply}
use Rattle.mn_mini.specs.declared.reply.NodeReply.TheVariants as Say
use Rattle.mn_runs.specs.Calls.{lists_doubt}
use Rattle.mn_recov.specs.declared.stage.RecovStage.{RecovStage}
use Rattle.mn_recov.specs.declared.stage.RecovStage.TheVariants.{Looking, Found}
use Rattle.mn_recov.specs.declared.step.RecovStep.TheVariants.{Send, Ended}
use Rattle.mn_recov.specs.Recovery.{Recovery, NodesAreBelow, IsSoundRecovery, IsSoundStep, participant, step_at, step_of, found_or, after_list}

at_place : (nodes : ℕ) (ns : List NodeNo) (i : ℕ) → AllByRecursion (λ n. n.0 < nodes) ns → i < length ns → (participant ns i).0 < nodes
at_place nodes [] i all low = absurd (omega arith)
at_place nodes (n ∷ ns) zero all low = all.0
at_place nodes (n ∷ ns) (suc i) all low = at_place nodes ns i all.1 (omega arith)

looking : (nodes node : ℕ) (b : Bool) → nat_lt node nodes ≡ b → IsSoundStep nodes (if b then Send (record { 0 = node }) Ask.List else Ended None)
looking nodes node true e = (lt_from node nodes e, tt)
looking nodes node false e = tt

told : (tid : Tid) (nodes : ℕ) (ns : List NodeNo) (decided : ℕ) (verdict : Bool) → IsTid tid → AllByRecursion (λ n. n.0 < nodes) ns → (b : Bool) → nat_lt decided (length ns) ≡ b
    → IsSoundStep nodes (if b then Send (participant ns decided) (Ask.Decide tid verdict) else Ended (Some verdict))
told tid nodes ns decided verdict id all true e = (at_place nodes ns decided all (lt_from decided (length ns) e), id)
told tid nodes ns decided verdict id all false e = tt

found : (tid : Tid) (nodes : ℕ) (ns : List NodeNo) (voted decided : ℕ) (verdict : Bool) → IsTid tid → AllByRecursion (λ n. n.0 < nodes) ns → (b : Bool) → nat_lt voted (length ns) ≡ b
    → IsSoundStep nodes (if b then Send (participant ns voted) (Ask.Force tid) else (if nat_lt decided (length ns) then Send (participant ns decided) (Ask.Decide tid verdict) else Ended (Some verdict)))
found tid nodes ns voted decided verdict id all true e = (at_place nodes ns voted all (lt_from voted (length ns) e), id)
found tid nodes ns voted decided verdict id all false e = told tid nodes ns decided verdict id all (nat_lt decided (length ns)) refl

at_stage : (tid : Tid) (nodes : ℕ) (stage : RecovStage) → IsTid tid → NodesAreBelow nodes stage → IsSoundStep nodes (step_at tid nodes stage)
at_stage tid nodes (Looking node) id below = looking nodes node (nat_lt node nodes) refl
at_stage tid nodes (Found ns voted verdict decided) id below = found tid nodes ns voted decided verdict id below (nat_lt voted (length ns)) refl

pub step_sound : (r : Recovery) → IsSoundRecovery r → IsSoundStep r.nodes (step_of r)
step_sound r sound = at_stage r.tid r.nodes r.stage sound.id sound.found

-- A list is followed where it gives nodes of the space alone

all_below : (nodes : ℕ) (ns : List NodeNo) → list_all (λ n. nat_lt n.0 nodes) ns ≡ true → AllByRecursion (λ n. n.0 < nodes) ns
all_below nodes [] e = tt
all_below nodes (n ∷ ns) e = (lt_from n.0 nodes (first (nat_lt n.0 nodes) _ e), all_below nodes ns (rest (nat_lt n.0 nodes) _ e))
  where
    first : (a b : Bool) → (a && b) ≡ true → a ≡ true
    first true b f = refl
    first false b f = absurd cc

    rest : (a b : Bool) → (a && b) ≡ true → b ≡ true
    rest true b f = f
    rest false b f = absurd cc

found_below : (nodes node : ℕ) (o : Option (List NodeNo)) → NodesAreBelow nodes (found_or nodes (Looking node) o)
found_below nodes node None = tt
found_below nodes node (Some ns) = by (list_all (λ n. nat_lt n.0 nodes) ns) refl
  where
    by : (b : Bool) → list_all (λ n. nat_lt n.0 nodes) ns ≡ b → NodesAreBelow nodes (if b then Found ns 0 true 0 else Looking node)
    by true e = all_below nodes ns e
    by false e = tt

pub listed_below : (tid : Tid) (nodes node : ℕ) (reply : NodeReply) → NodesAreBelow nodes (after_list tid nodes node reply)
listed_below tid nodes node (Say.Done reads) = tt
listed_below tid nodes node (Say.BadLock start size holder) = tt
listed_below tid nodes node (Say.BadCompare item bytes) = tt
listed_below tid nodes node Say.BadForced = tt
listed_below tid nodes node (Say.Vote verdict) = tt
listed_below tid nodes node Say.Decided = tt
listed_below tid nodes node (Say.Listed doubts) = found_below nodes (node + 1) (lists_doubt tid doubts)
listed_below tid nodes node (Say.Peeked bytes) = tt
listed_below tid nodes node Say.Down = tt
listed_below tid nodes node Say.Stopped = tt
listed_below tid nodes node Say.NoMemory = tt
