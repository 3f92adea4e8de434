-- A call of a recovery brings it on, and its id nearer to its end.
use Rattle.std.proofs.Common.{◌≡◌, ℕ, zero, suc, ◌+◌, ◌<◌, ◌≤◌, Bool, true, false, List, [], ◌∷◌, length, slice_get, Option, Some, None, refl, sym, ap, ◌∙◌, subst, inl, inr, ⊎_elim, arith, if◌then◌else◌}
use Rattle.std.specs.Prelude.{Contains, nat_lt}
use Rattle.std.specs.List.{AllByRecursion}
use Rattle.std.proofs.lemmas.Bool.{cases_eq, ltb-true, ltb-false}
use Rattle.mn_base.specs.Ids.{tid_same}
use Rattle.mn_base.specs.declared.ids.NodeNo.{NodeNo}
use Rattle.mn_base.specs.declared.ids.Tid.{Tid}
use Rattle.mn_base.proofs.Lists.{weaker}
use Rattle.mn_mini.specs.declared.doubt.Doubt.{Doubt}
use Rattle.mn_mini.specs.declared.record.Record.{Record}
use Rattle.mn_mini.specs.declared.request.Request.{Request}
use Rattle.mn_mini.specs.declared.request.Request.TheVariants as Ask
use Rattle.mn_mini.specs.declared.reply.NodeReply.{NodeReply}
use Rattle.mn_mini.specs.declared.reply.NodeReply.TheVariants as Say
use Rattle.mn_mini.specs.Node.{answer, doubts_of, held_parts, is_held, with_added}
use Rattle.mn_mini.specs.Sound.{Fits, IsDoubt}
use Rattle.mn_recov.specs.declared.stage.RecovStage.{RecovStage}
use Rattle.mn_recov.specs.declared.stage.RecovStage.TheVariants.{Looking, Found}
use Rattle.mn_recov.specs.declared.step.RecovStep.{RecovStep}
use Rattle.mn_recov.specs.declared.step.RecovStep.TheVariants.{Send, Ended}
use Rattle.mn_recov.specs.Recovery.{Recovery, after_force, after_list, fed, found_or, participant, stage_after, step_at, step_of}
use Rattle.mn_runs.specs.Calls.{is_in_doubt}
use Rattle.mn_runs.specs.Lists.{ClientState}
use Rattle.mn_runs.specs.Protocol.{Start, start_nodes, entries_of}
use Rattle.mn_callers.specs.Desks.{IsWork}
use Rattle.mn_callers.specs.Closing.{Extends, IsDone, IsDoneTo, IsPassedOver, WasPassedOver, are_nodes, calls_left, listed_in}
use Rattle.mn_callers.proofs.Held.{decided_unheld, done_still, force_votes, found_still, listed_all, passed_still, unheld_still}
use Rattle.mn_callers.proofs.Turns.{read_there}

module _ (nodes : ℕ) (tid : Tid) (base : List ℕ) (lists lists' : NodeNo → List Record) (ext : (n : NodeNo) → Extends (lists n) (lists' n)) (node : NodeNo) (request : Request) (reply : NodeReply)
    (says : reply ≡ (answer base (lists node) request).reply) (records : lists' node ≡ with_added (answer base (lists node) request).added (lists node)) (fits : Fits request reply) where
  -- the stage is further on, and has fewer calls left
  abbrev IsFurther : RecovStage → RecovStage → Type 0
  IsFurther old new = IsDoneTo nodes tid lists' new × (calls_left nodes new < calls_left nodes old)

  module _ (k : ℕ) (low : k < nodes) (done : IsDoneTo nodes tid lists (Looking k)) (is_node : node ≡ record { 0 = k }) (is_list : request ≡ Ask.List) where
    passed_on : IsPassedOver nodes (listed_in tid (lists node)) → IsFurther (Looking k) (Looking (k + 1))
    passed_on passed = (
      λ n below among. ⊎_elim
          (λ (is : n.0 ≡ k). let same : node ≡ n = is_node ∙ (λ i. record { 0 = sym is i }) in
          subst (λ (m : NodeNo). WasPassedOver nodes tid (lists' m)) same (record { before = lists node; since = ext node; passed = passed }))
          (λ (off : n.0 ≡ k → ⊥). passed_still nodes tid lists lists' ext n (done n (omega (arith, below, off)) among))
          (cases_eq n.0 k),
      omega (arith, low),
    )

    doubts : List Doubt
    doubts = doubts_of (held_parts (lists node))

    listed : reply ≡ Say.Listed (doubts_of (held_parts (lists node)))
    listed = says ∙ ap (λ (q : Request). (answer base (lists node) q).reply) is_list

    sound : AllByRecursion IsDoubt (doubts_of (held_parts (lists node)))
    sound = (subst (λ (q : Request). Fits q (Say.Listed (doubts_of (held_parts (lists node))))) is_list (subst (λ (r : NodeReply). Fits request r) listed fits)).1

    few : (ps : List NodeNo) → listed_in tid (lists node) ≡ Some ps → length ps ≤ 8
    few = listed_all (λ ps. length ps ≤ 8) tid (doubts_of (held_parts (lists node))) (weaker IsDoubt (λ d. tid_same d.tid tid ≡ true → length d.participants ≤ 8) (λ d is same. is.1.1) (doubts_of (held_parts (lists node))) sound)

    found_on : (o : Option (List NodeNo)) → listed_in tid (lists node) ≡ o → IsFurther (Looking k) (found_or nodes (Looking (k + 1)) o)
    found_on None is = passed_on (subst (λ (p : Option (List NodeNo)). IsPassedOver nodes p) (sym is) tt)
    found_on (Some ps) is = there (are_nodes nodes ps) refl
      where
        there : (b : Bool) → are_nodes nodes ps ≡ b → IsFurther (Looking k) (if b then Found ps 0 true 0 else Looking (k + 1))
        there true all = (
          (record { node = node; among = subst (λ (m : NodeNo). m.0 < nodes) (sym is_node) low; before = lists node; since = ext node; listed = is; there = all }, few ps is, λ i below. absurd (omega (arith, below))),
          (let le = few ps is in omega (arith, le)),
        )
        there false not_all = passed_on (subst (λ (p : Option (List NodeNo)). IsPassedOver nodes p) (sym is) not_all)

    looked : IsFurther (Looking k) (after_list tid nodes k reply)
    looked = subst (λ (r : NodeReply). IsFurther (Looking k) (after_list tid nodes k r)) (sym listed) (found_on (listed_in tid (lists node)) refl)

  looking : (k : ℕ) → IsDoneTo nodes tid lists (Looking k) → step_at tid nodes (Looking k) ≡ Send node request → IsFurther (Looking k) (after_list tid nodes k reply)
  looking k done step = by (nat_lt k nodes) refl step
    where
      by : (b : Bool) → nat_lt k nodes ≡ b → (if b then Send (record { 0 = k }) Ask.List else Ended None) ≡ Send node request → IsFurther (Looking k) (after_list tid nodes k reply)
      by true low is = let n : node ≡ record { 0 = k } = cc in let q : request ≡ Ask.List = cc in looked k (ltb-true k nodes low) done n q
      by false low is = absurd (cc)

  module _ (ps : List NodeNo) (voted : ℕ) (verdict : Bool) (decided : ℕ) (done : IsDoneTo nodes tid lists (Found ps voted verdict decided)) where
    voted_on : voted < length ps → request ≡ Ask.Force tid → IsFurther (Found ps voted verdict decided) (after_force ps voted verdict decided reply)
    voted_on low is =
        let vote = force_votes base (lists node) tid in
        let said : reply ≡ Say.Vote vote.0 = says ∙ (ap (λ (q : Request). (answer base (lists node) q).reply) is ∙ vote.1) in
        subst (λ (r : NodeReply). IsFurther (Found ps voted verdict decided) (after_force ps voted verdict decided r)) (sym said) (
          (found_still nodes tid lists lists' ext ps done.0, done.1, λ i below. unheld_still tid (lists (participant ps i)) (lists' (participant ps i)) (ext (participant ps i)) (done.2 i below)),
          omega (arith, low),
        )

    decided_on : decided < length ps → node ≡ participant ps decided → request ≡ Ask.Decide tid verdict → IsFurther (Found ps voted verdict decided) (Found ps voted verdict (decided + 1))
    decided_on low at is =
        let gone : is_held (lists' node) tid ≡ false = subst (λ (l : List Record). is_held l tid ≡ false) (sym (records ∙ ap (λ (q : Request). with_added (answer base (lists node) q).added (lists node)) is)) (decided_unheld base (lists node) tid verdict) in (
          (
            found_still nodes tid lists lists' ext ps done.0,
            done.1,
            λ i below. ⊎_elim
                (λ (same : i ≡ decided). subst (λ (m : NodeNo). is_held (lists' m) tid ≡ false) (at ∙ ap (λ j. participant ps j) (sym same)) gone)
                (λ (off : i ≡ decided → ⊥). unheld_still tid (lists (participant ps i)) (lists' (participant ps i)) (ext (participant ps i)) (done.2 i (omega (arith, below, off))))
                (cases_eq i decided),
          ),
          omega (arith, low),
        )

    finding : step_at tid nodes (Found ps voted verdict decided) ≡ Send node request → IsFurther (Found ps voted verdict decided) (stage_after tid nodes (Found ps voted verdict decided) reply)
    finding step = voting (nat_lt voted (length ps)) refl step
      where
        deciding : (b : Bool) → nat_lt decided (length ps) ≡ b → (if b then Send (participant ps decided) (Ask.Decide tid verdict) else Ended (Some verdict)) ≡ Send node request
            → IsFurther (Found ps voted verdict decided) (Found ps voted verdict (decided + 1))
        deciding true low is = let n : node ≡ participant ps decided = cc in let q : request ≡ Ask.Decide tid verdict = cc in decided_on (ltb-true decided (length ps) low) n q
        deciding false low is = absurd (cc)

        voting : (b : Bool) → nat_lt voted (length ps) ≡ b
            → (if b then Send (participant ps voted) (Ask.Force tid) else (if nat_lt decided (length ps) then Send (participant ps decided) (Ask.Decide tid verdict) else Ended (Some verdict))) ≡ Send node request
            → IsFurther (Found ps voted verdict decided) (if b then after_force ps voted verdict decided reply else Found ps voted verdict (decided + 1))
        voting true low is = let q : request ≡ Ask.Force tid = cc in voted_on (ltb-true voted (length ps) low) q
        voting false low is = deciding (nat_lt decided (length ps)) refl is

  pub advanced : (stage : RecovStage) → IsDoneTo nodes tid lists stage → step_at tid nodes stage ≡ Send node request → IsDoneTo nodes tid lists' (stage_after tid nodes stage reply) × (calls_left nodes (stage_after tid nodes stage reply) < calls_left nodes stage)
  advanced (Looking k) done step = looking k done step
  advanced (Found ps voted verdict decided) done step = finding ps voted verdict decided done step

-- where nothing more is wanted, the id is done with

each_participant : (P : NodeNo → Type 0) (ps : List NodeNo) → ((i : ℕ) → i < length ps → P (participant ps i)) → AllByRecursion P ps
each_participant P [] each = tt
each_participant P (p ∷ ps) each = (each zero (omega arith), each_participant P ps (λ i low. each (suc i) (omega (arith, low))))

abbrev IsEnd : RecovStep → Type 0
IsEnd (Send node request) = ⊥
IsEnd (Ended verdict) = Unit {0}

over : (b : Bool) (n : NodeNo) (q : Request) (v : Option Bool) → IsEnd (if b then Send n q else Ended v) → b ≡ false
over true n q v is = absurd is
over false n q v is = refl

both_over : (b c : Bool) (n m : NodeNo) (q r : Request) (v : Option Bool) → IsEnd (if b then Send n q else (if c then Send m r else Ended v)) → c ≡ false
both_over true c n m q r v is = absurd is
both_over false c n m q r v is = over c m r v is

ended : (nodes : ℕ) (tid : Tid) (lists : NodeNo → List Record) (stage : RecovStage) → IsDoneTo nodes tid lists stage → IsEnd (step_at tid nodes stage) → IsDone nodes tid lists
ended nodes tid lists (Looking k) done is =
    let le = ltb-false k nodes (over (nat_lt k nodes) _ _ _ is) in
    inl (λ n among. done n (omega (arith, le, among)) among)
ended nodes tid lists (Found ps voted verdict decided) done is =
    let le = ltb-false decided (length ps) (both_over (nat_lt voted (length ps)) (nat_lt decided (length ps)) _ _ _ _ _ is) in
    inr (ps, done.0, each_participant (λ n. is_held (lists n) tid ≡ false) ps (λ i low. done.2 i (omega (arith, le, low))))

-- by the recovery as it was fed
pub fed_on : (nodes : ℕ) (r r' : Recovery) (base : List ℕ) (lists lists' : NodeNo → List Record) → ((n : NodeNo) → Extends (lists n) (lists' n)) → (node : NodeNo) (request : Request) (reply : NodeReply)
    → reply ≡ (answer base (lists node) request).reply → lists' node ≡ with_added (answer base (lists node) request).added (lists node) → Fits request reply
    → r.nodes ≡ nodes → r' ≡ fed r reply → step_of r ≡ Send node request → IsDoneTo nodes r.tid lists r.stage
    → IsDoneTo nodes r'.tid lists' r'.stage × (calls_left nodes r'.stage < calls_left nodes r.stage)
fed_on nodes r r' base lists lists' ext node request reply says records fits nodes_are fed_is step done =
    let step' = subst (λ (n : ℕ). step_at r.tid n r.stage ≡ Send node request) nodes_are step in
    let on = advanced nodes r.tid base lists lists' ext node request reply says records fits r.stage done step' in
    let same : r' ≡ record { tid = r.tid; nodes = r.nodes; stage = stage_after r.tid nodes r.stage reply } = fed_is ∙ ap (λ (n : ℕ). let x : Recovery = record { tid = r.tid; nodes = r.nodes; stage = stage_after r.tid n r.stage reply } in x) nodes_are in
    subst (λ (x : Recovery). IsDoneTo nodes x.tid lists' x.stage × (calls_left nodes x.stage < calls_left nodes r.stage)) (sym same) on

-- a recovery that begins
pub begins : (start : Start) (list : ClientState) (tid : Tid) (nodes : ℕ) (r : Recovery) (lists : NodeNo → List Record) → nodes ≡ start_nodes start → is_in_doubt tid (entries_of list.entries) ≡ false
    → r ≡ record { tid = tid; nodes = nodes; stage = Looking 0 } → (r.tid ≡ tid) × IsWork start list r × IsDoneTo (start_nodes start) r.tid lists r.stage
begins start list tid nodes r lists count free is =
    let first : Recovery = record { tid = tid; nodes = nodes; stage = Looking 0 } in
    subst (λ (x : Recovery). (x.tid ≡ tid) × IsWork start list x × IsDoneTo (start_nodes start) x.tid lists x.stage) (sym is) (
      refl,
      (record { free = free; shown = tt }, count),
      λ n below among. absurd (omega (arith, below)),
    )

-- a recovery that wants nothing more is done with its id
pub over_done : (nodes : ℕ) (r : Recovery) (tid : Tid) (lists : NodeNo → List Record) (v : Option Bool) → r.nodes ≡ nodes → r.tid ≡ tid → Ended v ≡ step_of r → IsDoneTo nodes r.tid lists r.stage → IsDone nodes tid lists
over_done nodes r tid lists v nodes_are tid_is step done =
    let at : IsEnd (step_at r.tid nodes r.stage) = subst (λ (n : ℕ). IsEnd (step_at r.tid n r.stage)) nodes_are (subst IsEnd step tt) in
    subst (λ (t : Tid). IsDone nodes t lists) tid_is (ended nodes r.tid lists r.stage done at)

-- one more id is done with
pub done_next : (nodes : ℕ) (tids : List Tid) (i : ℕ) (x : Tid) (lists lists' : NodeNo → List Record) → ((n : NodeNo) → Extends (lists n) (lists' n)) → slice_get tids i ≡ Some x
    → ((k : ℕ) (t : Tid) → k < i → slice_get tids k ≡ Some t → IsDone nodes t lists) → IsDone nodes x lists' → (k : ℕ) (t : Tid) → k < i + 1 → slice_get tids k ≡ Some t → IsDone nodes t lists'
done_next nodes tids i x lists lists' ext here done now k t low at = ⊎_elim
    (λ (is : k ≡ i). let same : x ≡ t = let e : Some x ≡ Some t = sym here ∙ (ap (λ (j : ℕ). slice_get tids j) (sym is) ∙ at) in cc in subst (λ (u : Tid). IsDone nodes u lists') same now)
    (λ (off : k ≡ i → ⊥). done_still nodes t lists lists' ext (done k t (omega (arith, low, off)) at))
    (cases_eq k i)

-- all of them are
pub all_done : (nodes : ℕ) (tids : List Tid) (end : ℕ) (lists : NodeNo → List Record) → length tids ≤ end → ((k : ℕ) (t : Tid) → k < end → slice_get tids k ≡ Some t → IsDone nodes t lists) → (t : Tid) → Contains tids t → IsDone nodes t lists
all_done nodes tids end lists le done t there =
    let low = there.1 in done there.0 t (omega (arith, le, low)) (read_there tids there.0 t low (sym there.2))
