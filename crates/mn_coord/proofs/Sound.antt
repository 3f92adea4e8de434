-- What a coordinator hands out is sound.
use Rattle.std.proofs.Common.{◌≡◌, ℕ, zero, suc, ◌<◌, ◌≤◌, Bool, true, false, ◌&&◌, not, List, [], ◌∷◌, length, Option, Some, None, refl, arith, if◌then◌else◌, slice_index_or}
use Rattle.std.specs.Prelude.{nat_lt, nat_eq, MatchOption}
use Rattle.std.specs.List.{AllByRecursion}
use Rattle.std.proofs.lemmas.Bool.Decides.{nat_tests}
use Rattle.mn_base.specs.declared.ids.NodeNo.{NodeNo}
use Rattle.mn_mini.specs.declared.reply.NodeReply.{NodeReply}
use Rattle.mn_mini.specs.declared.request.Request.TheVariants as Ask
use Rattle.mn_mini.specs.Laws.{TakesPart, PartsAreSound}
use Rattle.mn_mini.specs.Mini.{Mini, participants_of, part_of}
use Rattle.mn_mini.specs.Sound.{IsSoundRequest}
use Rattle.mn_coord.specs.declared.stage.Stage.TheVariants as At
use Rattle.mn_coord.specs.declared.step.CoordStep.TheVariants.{Send}
use Rattle.mn_coord.specs.declared.machine.Machine.{Machine}
use Rattle.mn_coord.specs.Coordination.{Coordination, IsSoundCoordination, IsSoundStep, is_stopped_at_last, participant, stage_of, step_at, step_of}
use Rattle.mn_coord.specs.Inside.{view_of, IsSoundInside}

all_at : (P : NodeNo → Type 0) (ns : List NodeNo) (i : ℕ) (n : NodeNo) → AllByRecursion P ns → i < length ns → P (slice_index_or ns i n)
all_at P [] i n all low = absurd (omega arith)
all_at P (m ∷ ns) zero n all low = all.0
all_at P (m ∷ ns) (suc i) n all low = all_at P ns i n all.1 (omega arith)

all_below : (mini : Mini) (ns : List NodeNo) → AllByRecursion (TakesPart mini) ns → AllByRecursion (λ n. n.0 < 8) ns
all_below mini [] all = tt
all_below mini (n ∷ ns) all = ((all.0.node).1, all_below mini ns all.1)

module _ (c : Coordination) (law : PartsAreSound) (sound : IsSoundCoordination c) where
  abbrev count : ℕ
  count = length (participants_of c.mini)

  takes : (i : ℕ) → i < count → TakesPart c.mini (participant c i)
  takes i low = all_at (TakesPart c.mini) (participants_of c.mini) i (record { 0 = 0 }) (law c.mini sound.mini).0 low

  try_sound : (i : ℕ) → i < count → (b : Bool) → nat_eq count 1 ≡ b
      → IsSoundRequest (if b then Ask.Exec c.tid (part_of c.mini (participant c i)) else Ask.Prepare c.tid (participants_of c.mini) (part_of c.mini (participant c i)))
  try_sound i low true e = (sound.id, (takes i low).part)
  try_sound i low false e = (
    sound.id,
    (law c.mini sound.mini).1 (several count (omega arith) e),
    all_below c.mini (participants_of c.mini) (law c.mini sound.mini).0,
    (takes i low).part,
  )
    where
      several : (n : ℕ) → 1 ≤ n → nat_eq n 1 ≡ false → 2 ≤ n
      several n some e = grind (arith, nat_tests)

  decide_sound : (verdict : Bool) → c.decided < count → IsSoundStep c.mini.nodes (Send (participant c c.decided) (Ask.Decide c.tid verdict))
  decide_sound verdict low = (((takes c.decided low).node).0, sound.id)

  less : (a b : ℕ) → nat_lt a b ≡ true → a < b
  less a b e = grind (arith, nat_tests)

  second : (a b : Bool) → (a && b) ≡ true → b ≡ true
  second true b e = e
  second false b e = absurd cc

  commit_sound : (b : Bool) → (nat_lt 1 count && nat_lt c.decided count) ≡ b → IsSoundStep c.mini.nodes (step_at c (if b then At.Commit else At.Committed))
  commit_sound true e = decide_sound true (less c.decided count (second (nat_lt 1 count) (nat_lt c.decided count) e))
  commit_sound false e = tt

  ask_sound : (b : Bool) → nat_lt c.done count ≡ b
      → IsSoundStep c.mini.nodes (step_at c (if b then At.Ask else (if nat_lt 1 count && nat_lt c.decided count then At.Commit else At.Committed)))
  ask_sound true e = let low = less c.done count e in (((takes c.done low).node).0, try_sound c.done low (nat_eq count 1) refl)
  ask_sound false e = commit_sound (nat_lt 1 count && nat_lt c.decided count) refl

  refused_sound : (stopped one told more : Bool) → nat_lt c.decided c.done ≡ more
      → IsSoundStep c.mini.nodes (step_at c (if stopped then At.Doubt else (if one then At.Failed else (if not told then At.Abandon else (if more then At.Cancel else At.Failed)))))
  refused_sound true one told more e = tt
  refused_sound false true told more e = tt
  refused_sound false false false more e = tt
  refused_sound false false true true e = let low = less c.decided c.done e in let most = sound.done in decide_sound false (omega (arith, low, most))
  refused_sound false false true false e = tt

  stage_sound : (refused : Option NodeReply) → IsSoundStep c.mini.nodes (step_at c (stage_of count c.done refused c.told c.decided))
  stage_sound None = ask_sound (nat_lt c.done count) refl
  stage_sound (Some reply) = refused_sound (is_stopped_at_last count c.done reply) (nat_eq count 1) c.told (nat_lt c.decided c.done) refl

  pub step_sound : IsSoundStep c.mini.nodes (step_of c)
  step_sound = stage_sound c.refused

-- what is so of its fields
pub inside_sound : (c : Machine) → IsSoundInside c → IsSoundCoordination (view_of c)
inside_sound c is = record { id = is.id; mini = is.mini; done = no_more c.refused is.done }
  where
    no_more : (refused : Option NodeReply) → MatchOption refused (c.done ≤ length (participants_of c.mini)) (λ reply. c.done < length (participants_of c.mini)) → c.done ≤ length (participants_of c.mini)
    no_more None le = le
    no_more (Some reply) low = omega (arith, low)
