-- What a stage says, and which request is the next one.
use Rattle.std.proofs.Common.{◌≡◌, ℕ, zero, suc, ◌+◌, ◌<◌, ◌≤◌, Bool, true, false, ◌&&◌, ◌||◌, not, List, [], ◌∷◌, length, map, drop, Option, Some, None, refl, sym, ap, subst, ◌∙◌, arith, if◌then◌else◌, slice_index_or}
use Rattle.std.specs.Prelude.{nat_lt, nat_eq}
use Rattle.std.specs.List.{list_any}
use Rattle.std.proofs.lemmas.Bool.{lt-ltb, ltb-true, eq-eqb}
use Rattle.std.proofs.lemmas.List.{drop-drop}
use Rattle.mn_base.specs.Ids.{node_same}
use Rattle.mn_base.specs.declared.ids.NodeNo.{NodeNo}
use Rattle.mn_base.specs.declared.ids.Tid.{Tid}
use Rattle.mn_runs.proofs.Alone.{item_below}
use Rattle.mn_mini.specs.declared.item.Item.{Item}
use Rattle.mn_mini.specs.declared.reply.NodeReply.{NodeReply}
use Rattle.mn_mini.specs.declared.reply.NodeReply.TheVariants as Say
use Rattle.mn_mini.specs.declared.request.Request.{Request}
use Rattle.mn_mini.specs.Mini.{Mini, IsSound, IsSoundItem, item_node, participants_of}
use Rattle.mn_mini.proofs.Parts.{named_takes_part}
use Rattle.mn_coord.specs.declared.stage.Stage.{Stage}
use Rattle.mn_coord.specs.declared.stage.Stage.TheVariants as At
use Rattle.mn_coord.specs.declared.step.CoordStep.TheVariants.{Send}
use Rattle.mn_coord.specs.declared.machine.Machine.{Machine}
use Rattle.mn_coord.specs.Coordination.{Coordination, is_stopped_at_last, stage_of, stage_in, try_request, step_at, step_of, fed_at}
use Rattle.mn_coord.specs.Tries.{tries_of}
use Rattle.mn_coord.specs.Inside.{view_of, sent_of, IsSoundInside}

-- Participants

-- each minitransaction has one
pub some_participant : (mini : Mini) → IsSound mini → 1 ≤ length (participants_of mini)
some_participant mini sound = of_items mini.items refl
  where
    not_none : (ps : List NodeNo) (n : NodeNo) → list_any (λ m. node_same m n) ps ≡ true → 1 ≤ length ps
    not_none [] n e = absurd cc
    not_none (p ∷ ps) n e = omega arith

    of_items : (items : List Item) → mini.items ≡ items → 1 ≤ length (participants_of mini)
    of_items [] is = let some : 1 ≤ length mini.items = sound.some in let none : length mini.items ≡ 0 = ap (λ (l : List Item). length l) is in absurd (omega arith)
    of_items (i ∷ rest) is =
        let all = subst (λ (l : List Item). Rattle.std.specs.List.AllByRecursion (IsSoundItem mini.nodes) l) is sound.inside in
        let named : list_any (λ j. node_same (item_node j) (item_node i)) mini.items ≡ true = ap (λ (l : List Item). list_any (λ j. node_same (item_node j) (item_node i)) l) is
        ∙ ap (λ b. b || list_any (λ j. node_same (item_node j) (item_node i)) rest) (eq-eqb (item_node i).0 (item_node i).0 refl) in
        not_none (participants_of mini) (item_node i) (named_takes_part mini (item_node i) (item_below mini.nodes i all.0) named)

-- Stages

pub asking : (n done : ℕ) (refused : Option NodeReply) (told : Bool) (decided : ℕ) → stage_of n done refused told decided ≡ At.Ask → (refused ≡ None) × (done < n)
asking n done None told decided e = (refl, cases (nat_lt done n) refl e)
  where
    tell : (c : Bool) → (if c then At.Commit else At.Committed) ≡ At.Ask → ⊥
    tell true f = absurd cc
    tell false f = absurd cc

    cases : (b : Bool) → nat_lt done n ≡ b → (if b then At.Ask else (if nat_lt 1 n && nat_lt decided n then At.Commit else At.Committed)) ≡ At.Ask → done < n
    cases true f g = ltb-true done n f
    cases false f g = absurd (tell (nat_lt 1 n && nat_lt decided n) g)
asking n done (Some reply) told decided e = absurd (other (is_stopped_at_last n done reply) (nat_eq n 1) (not told) (nat_lt decided done) e)
  where
    other : (a b c d : Bool) → (if a then At.Doubt else (if b then At.Failed else (if c then At.Abandon else (if d then At.Cancel else At.Failed)))) ≡ At.Ask → ⊥
    other true b c d f = absurd cc
    other false true c d f = absurd cc
    other false false true d f = absurd cc
    other false false false true f = absurd cc
    other false false false false f = absurd cc

-- The next request

first_left : (tid : Tid) (mini : Mini) (ps : List NodeNo) (i : ℕ) (request : Request) (rest : List Request) → drop i (map (try_request tid mini) ps) ≡ request ∷ rest → request ≡ try_request tid mini (slice_index_or ps i (record { 0 = 0 }))
first_left tid mini [] zero request rest e = absurd cc
first_left tid mini [] (suc i) request rest e = absurd cc
first_left tid mini (p ∷ ps) zero request rest e = cc
first_left tid mini (p ∷ ps) (suc i) request rest e = first_left tid mini ps i request rest e

-- where none is out, as many were asked as have answered
idle_sent : (c : Machine) → c.asked ≡ false → c.refused ≡ None → sent_of (length (participants_of c.mini)) c.done c.refused c.asked ≡ c.done
idle_sent c idle none =
    ap (λ (r : Option NodeReply). sent_of (length (participants_of c.mini)) c.done r c.asked) none ∙ ap (λ b. sent_of (length (participants_of c.mini)) c.done None b) idle

pub asks : (c : Machine) → IsSoundInside c → c.asked ≡ false → stage_in (view_of c) ≡ At.Ask → (request : Request) (rest : List Request) → c.requests ≡ request ∷ rest
    → (node : NodeNo) → node ≡ slice_index_or (participants_of c.mini) c.done (record { 0 = 0 }) → Send node request ≡ step_of (view_of c)
asks c is idle stage request rest first node at =
    let facts = asking (length (participants_of c.mini)) c.done c.refused c.told c.decided stage in
    let left : drop c.done (tries_of c.tid c.mini) ≡ request ∷ rest = ap (λ k. drop k (tries_of c.tid c.mini)) (sym (idle_sent c idle facts.0)) ∙ (sym is.left ∙ first) in
    let request_is = first_left c.tid c.mini (participants_of c.mini) c.done request rest left in
    ap (λ (m : NodeNo). Send m request) at ∙ (ap (λ (r : Request). Send (slice_index_or (participants_of c.mini) c.done (record { 0 = 0 })) r) request_is ∙ sym (ap (step_at (view_of c)) stage))

-- once the next one is asked, the others are left
pub asked_left : (c : Machine) → IsSoundInside c → c.asked ≡ false → stage_in (view_of c) ≡ At.Ask → (rest : List Request) → rest ≡ drop 1 c.requests → IsSoundInside (record c { requests = rest; asked = true })
asked_left c is idle stage rest next =
    let n = length (participants_of c.mini) in
    let tries = tries_of c.tid c.mini in
    let facts = asking n c.done c.refused c.told c.decided stage in
    let sent : sent_of n c.done c.refused true ≡ c.done + 1 =
    ap (λ (r : Option NodeReply). sent_of n c.done r true) facts.0 ∙ ap (λ (b : Bool). if b then c.done + 1 else c.done) (lt-ltb c.done n facts.1) in
    record {
      id = is.id;
      mini = is.mini;
      some = is.some;
      done = is.done;
      reads = is.reads;
      left = next ∙ ap (λ (l : List Request). drop 1 l) (is.left ∙ ap (λ (k : ℕ). drop k tries) (idle_sent c idle facts.0))
          ∙ (drop-drop 1 c.done tries ∙ ap (λ (k : ℕ). drop k tries) (sym sent));
    }

-- Replies

-- a reply is no longer awaited
pub idle_after : (c : Coordination) (stage : Stage) (reply : NodeReply) → (fed_at c stage reply).asked ≡ false
idle_after c At.Ask (Say.Done reads) = refl
idle_after c At.Ask (Say.BadLock s k h) = refl
idle_after c At.Ask (Say.BadCompare i f) = refl
idle_after c At.Ask Say.BadForced = refl
idle_after c At.Ask (Say.Vote v) = refl
idle_after c At.Ask Say.Decided = refl
idle_after c At.Ask (Say.Listed d) = refl
idle_after c At.Ask (Say.Peeked b) = refl
idle_after c At.Ask Say.Down = refl
idle_after c At.Ask Say.Stopped = refl
idle_after c At.Ask Say.NoMemory = refl
idle_after c At.Commit reply = refl
idle_after c At.Abandon reply = refl
idle_after c At.Cancel reply = refl
idle_after c At.Committed reply = refl
idle_after c At.Failed reply = refl
idle_after c At.Doubt reply = refl
