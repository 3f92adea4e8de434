-- One node takes part in the read of a place.
use Rattle.std.proofs.Common.{◌≡◌, ◌≤◌, ◌<◌, ℕ, Bool, true, false, ◌||◌, List, [], ◌∷◌, None, length, replicate, refl, ap, ◌∙◌, arith}
use Rattle.std.specs.List.{list_any}
use Rattle.std.specs.Prelude.{slice_set}
use Rattle.std.proofs.lemmas.Bool.{eq-eqb}
use Rattle.std.proofs.lemmas.List.{length-replicate}
use Rattle.mn_base.specs.Ids.{node_same}
use Rattle.mn_base.specs.declared.ids.NodeNo.{NodeNo}
use Rattle.mn_base.specs.declared.ids.Tid.{Tid}
use Rattle.mn_coord.specs.Coordination.{Coordination, fed_at, new_coordination, participant, stage_in, stage_of, step_at, step_of, try_request}
use Rattle.mn_coord.specs.declared.stage.Stage.{Stage}
use Rattle.mn_coord.specs.declared.stage.Stage.TheVariants as At
use Rattle.mn_coord.specs.declared.step.CoordStep.TheVariants.{Committed, Send}
use Rattle.mn_mini.specs.declared.item.Item.TheVariants.{Read}
use Rattle.mn_mini.specs.Mini.{Mini, participants_of}
use Rattle.mn_mini.proofs.Parts.{named_takes_part}
use Rattle.mn_mini.specs.declared.reply.NodeReply.TheVariants as Say
use Rattle.mn_runs.specs.Seen.{Place}
use Rattle.mn_proxy.specs.LeafReads.{read_request, with_bytes}
use Rattle.mn_proxy.specs.Turns.{read_mini}
use Rattle.mn_proxy.proofs.Feeding.{asks_read, only_reads, read_few}
use Rattle.mn_proxy.proofs.laws.reads_take_one_call.Goals as goal

not_none : (ps : List NodeNo) (n : NodeNo) → list_any (λ m. node_same m n) ps ≡ true → 1 ≤ length ps
not_none [] n e = absurd cc
not_none (p ∷ ps) n e = omega arith

one_takes_part : (nodes : ℕ) (place : Place) → place.node.0 < nodes → length (participants_of (read_mini nodes place)) ≡ 1
one_takes_part nodes place below =
    let few : length (participants_of (read_mini nodes place)) ≤ 1 = read_few (read_mini nodes place) place refl in
    let itself : node_same place.node place.node ≡ true = eq-eqb place.node.0 place.node.0 refl in
    let some : 1 ≤ length (participants_of (read_mini nodes place)) =
    not_none (participants_of (read_mini nodes place)) place.node
    (named_takes_part (read_mini nodes place) place.node below (ap (λ (b : Bool). b || false) itself)) in
    omega arith

-- its coordinator, of so many participants
module _ (mini : Mini) (place : Place) (tid : Tid) (single : length (participants_of mini) ≡ 1)
    (is : mini.items ≡ Read place.node place.start place.length ∷ []) where
  asks : stage_in (new_coordination tid mini) ≡ At.Ask
  asks = ap (λ (n : ℕ). stage_of n 0 None false 0) single

  calls : step_of (new_coordination tid mini) ≡ Send place.node (read_request tid place)
  calls =
      let some : 0 < length (participants_of mini) = omega arith in
      let read = asks_read (new_coordination tid mini) place is some in
      ap (step_at (new_coordination tid mini)) asks
      ∙ (ap (λ (n : NodeNo). Send n (try_request tid mini (participant (new_coordination tid mini) 0))) read.node
      ∙ ap (Send place.node) read.request)

  -- with the bytes it is done
  abbrev done : List ℕ → Coordination
  done bytes = record (new_coordination tid mini) {
    done = 1;
    reads = slice_set (replicate (length (participants_of mini)) []) 0 (bytes ∷ []);
  }

  fed_is : (bytes : List ℕ) → with_bytes tid place (new_coordination tid mini) bytes ≡ done bytes
  fed_is bytes = ap (λ (s : Stage). fed_at (record (new_coordination tid mini) { asked = true }) s (Say.Done (bytes ∷ []))) asks

  commits : (bytes : List ℕ) → step_of (with_bytes tid place (new_coordination tid mini) bytes) ≡ Committed
  commits bytes =
      ap step_of (fed_is bytes)
      ∙ ap (step_at (done bytes)) (ap (λ (n : ℕ). stage_of n 1 None false 0) single)

  reads : (bytes : List ℕ) → (with_bytes tid place (new_coordination tid mini) bytes).reads ≡ (bytes ∷ []) ∷ []
  reads bytes =
      ap (λ (c : Coordination). c.reads) (fed_is bytes)
      ∙ only_reads (replicate (length (participants_of mini)) []) (bytes ∷ [])
      (length-replicate {A = List (List ℕ)} (length (participants_of mini)) [] ∙ single)

pub returns : goal.returns
returns c = λ nodes place tid below.
    let single = one_takes_part nodes place below in
    record {
      calls = calls (read_mini nodes place) place tid single refl;
      commits = commits (read_mini nodes place) place tid single refl;
      reads = reads (read_mini nodes place) place tid single refl;
    }
