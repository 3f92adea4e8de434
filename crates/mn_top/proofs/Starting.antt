-- Nodes that are started on logs one after the other, and closed.
use Rattle.std.proofs.Common.{◌≡◌, ◌<◌, ◌+◌, ◌++◌, ◌∙◌, ℕ, zero, suc, List, [], ◌∷◌, length, map, drop, get_or, reverse, refl, ap, sym, subst, arith, false, inl, inr, Some, length-append, length-drop, append_assoc}
use Rattle.std.specs.Prelude.{◌⊎◌, slice_get}
use Rattle.std.specs.List.{AllByRecursion}
use Rattle.std.proofs.lemmas.List.{length-map, map-append, reverse-append}
use Rattle.mn_flat.proofs.Lists.{pushed_at}
use Rattle.mn_io.specs.DiskModel.{DiskState}
use Rattle.mn_io.specs.Faults.{Rose}
use Rattle.mn_mini.specs.declared.record.Record.{Record}
use Rattle.mn_mini.specs.RecordGrammar.{IsRecord, record_bytes}
use Rattle.mn_node.specs.Node.{bodies_of}
use Rattle.mn_node.specs.State.{AreRecords, IsFirstBadBody, NodeState, StandsUpToAll, StandsUpToWithOrWithout}
use Rattle.mn_node.specs.declared.start.StartCause.{StartCause}
use Rattle.mn_node.specs.declared.start.StartCause.TheVariants as starts
use Rattle.mn_redo.specs.Redo.{RedoState, StandsFor}
use Rattle.mn_top.specs.declared.due.Due.TheVariants as dues
use Rattle.mn_top.specs.Logs.{AllCloseSo, AreStarted, ClosesSo, IsDueAtStart, MayAllBeStarted, MayBeStarted, StillStands, WasStarted, WerentStarted, due_of_starting}
use Rattle.mn_top.proofs.Gets.{drop_at, map_at, one_at, seam, split_at, unsome, within}

-- Closing

all_and : {X : Type 0} (P : X → Type 0) (xs : List X) (x : X) → AllByRecursion P xs → P x → AllByRecursion P (xs ++ x ∷ [])
all_and P [] x all p = (p, tt)
all_and P (y ∷ xs) x all p = (all.0, all_and P xs x all.1 p)

pub all_at : {X : Type 0} (P : X → Type 0) (xs : List X) (k : ℕ) (x : X) → AllByRecursion P xs → slice_get xs k ≡ Some x → P x
all_at P [] k x all is = absurd cc
all_at P (y ∷ xs) zero x all is = subst P (unsome y x is) all.0
all_at P (y ∷ xs) (suc k) x all is = all_at P xs k x all.1 is

pub closed_more : {X Y : Type 0} (f : X → Y) (P : X → Type 0) (all done left left' : List X) (x : X) (room disks disks' : List Y) (y : Y) → all ≡ done ++ reverse left → left ≡ left' ++ x ∷ [] → disks ≡ room ++ map f done → disks' ≡ disks ++ y ∷ [] → y ≡ f x
    → AllByRecursion P done → P x → (done' : List X) × (all ≡ done' ++ reverse left') × (disks' ≡ room ++ map f done') × AllByRecursion P done'
closed_more {X} {Y} f P all done left left' x room disks disks' y split popped was pushed is closed p = (
  done ++ x ∷ [],
  split ∙ ap (λ (l : List X). done ++ l) (ap (λ (l : List X). reverse l) popped ∙ reverse-append left' (x ∷ [])) ∙ sym (append_assoc done (x ∷ []) (reverse left')),
  pushed ∙ ap (λ (l : List Y). l ++ y ∷ []) was ∙ append_assoc room (map f done) (y ∷ []) ∙ ap (λ (z : Y). room ++ (map f done ++ z ∷ [])) is ∙ ap (λ (l : List Y). room ++ l) (sym (map-append f done (x ∷ []))),
  all_and P done x closed p,
)

pub closes : {D : Type 0} (state : D → DiskState) (n : NodeState D) (disk : D) → disk ≡ n.disk → (n.down ≡ false → StandsUpToAll (state disk) n.node n.nodes n.records)
    → ((state disk).honest → StandsUpToWithOrWithout (state disk) n.node n.nodes n.records n.pending) → ClosesSo state n
closes {D} state n disk is up stands = record {
  up = λ down. subst (λ (d : D). StandsUpToAll (state d) n.node n.nodes n.records) is (up down);
  stands = λ h. subst (λ (d : D). StandsUpToWithOrWithout (state d) n.node n.nodes n.records n.pending) is (stands (subst (λ (d : D). (state d).honest) (sym is) h));
}

map-turned : {X Y : Type 0} (f : X → Y) (xs : List X) → reverse (map f (reverse xs)) ≡ map f xs
map-turned f [] = refl
map-turned {X} {Y} f (x ∷ xs) =
    ap (λ (l : List X). reverse (map f l)) (reverse-append (x ∷ []) xs) ∙ ap (λ (l : List Y). reverse l) (map-append f (reverse xs) (x ∷ []))
    ∙ reverse-append (map f (reverse xs)) (f x ∷ []) ∙ ap (λ (l : List Y). f x ∷ l) (map-turned f xs)

pub turned_disks : {D : Type 0} (redos left : List (RedoState D)) (n : ℕ) → left ≡ reverse (drop n redos) → reverse (map (λ (r : RedoState D). r.disk) left) ≡ map (λ (r : RedoState D). r.disk) (drop n redos)
turned_disks {D} redos left n is = ap (λ (l : List (RedoState D)). reverse (map (λ (r : RedoState D). r.disk) l)) is ∙ map-turned (λ (r : RedoState D). r.disk) (drop n redos)

-- Bodies that are records

body_at : (records : List Record) (number : ℕ) → AllByRecursion IsRecord records → number < length (bodies_of records) → (r : Record) × IsRecord r × (get_or (bodies_of records) number [] ≡ record_bytes r)
body_at [] number sound within = absurd (omega arith)
body_at (r ∷ records) zero sound within = (r, sound.0, refl)
body_at (r ∷ records) (suc number) sound within = body_at records number sound.1 (omega arith)

none_bad : (start : ℕ) (bodies : List (List ℕ)) (records : List Record) (at : ℕ) → AreRecords bodies records → IsFirstBadBody start bodies at → ⊥
none_bad start bodies records at are bad =
    let there = body_at records bad.number are.sound (subst (λ (l : List (List ℕ)). bad.number < length l) are.bodies_are bad.within) in
    bad.bad there.0 (record { may = there.1; spelled = ap (λ (l : List (List ℕ)). get_or l bad.number []) are.bodies_are ∙ there.2 })

-- Starting

module _ {D : Type 0} (state : D → DiskState) (faults : D → ℕ) (redos : List (RedoState D)) where
  -- one node more
  started_at : (nodes : List (NodeState D)) (redo : RedoState D) (n : NodeState D) → AreStarted state faults redos nodes → slice_get redos (length nodes) ≡ Some redo → WasStarted state faults redo n
      → (k : ℕ) (r : RedoState D) (m : NodeState D) → slice_get redos k ≡ Some r → (slice_get nodes k ≡ Some m) ⊎ ((k ≡ length nodes) × (m ≡ n)) → WasStarted state faults r m
  started_at nodes redo n are at was k r m is (inl there) = are.each k r m is there
  started_at nodes redo n are at was k r m is (inr there) =
      let same = one_at redos (length nodes) redo r at (subst (λ (j : ℕ). slice_get redos j ≡ Some r) there.0 is) in
      subst (λ (x : RedoState D). WasStarted state faults x m) same (subst (λ (x : NodeState D). WasStarted state faults redo x) (sym there.1) was)

  pub started_more : (nodes nodes' : List (NodeState D)) (redo : RedoState D) (n : NodeState D) → nodes' ≡ nodes ++ n ∷ [] → AreStarted state faults redos nodes → slice_get redos (length nodes) ≡ Some redo → WasStarted state faults redo n
      → AreStarted state faults redos nodes'
  started_more nodes nodes' redo n more are at was = subst (λ (l : List (NodeState D)). AreStarted state faults redos l) (sym more) (record {
    within = let low = within redos (length nodes) redo at in omega (arith, low, length-append nodes (n ∷ []));
    each = λ k r m is there. started_at nodes redo n are at was k r m is (pushed_at nodes n m k there);
  })

  -- a log whose node wasn't started
  same_stands : (redo : RedoState D) → MayBeStarted state redo → StillStands state faults redo redo.disk
  same_stands redo may = record { honest = λ h. h; later = omega arith; stands = may.stands }

  closed_rest : MayAllBeStarted state redos → (k : ℕ) (redo : RedoState D) (disk : D) → slice_get redos k ≡ Some redo → (r : RedoState D) → slice_get redos k ≡ Some r → r.disk ≡ disk → StillStands state faults redo disk
  closed_rest may k redo disk was r also is =
      subst (λ (d : D). StillStands state faults redo d) (ap (λ (x : RedoState D). x.disk) (one_at redos k redo r was also) ∙ is) (same_stands redo (may k redo was))

  pub none_started : (disks : List D) → MayAllBeStarted state redos → disks ≡ map (λ (r : RedoState D). r.disk) redos → WerentStarted state faults redos disks dues.NoMemory
  none_started disks may is = record {
    count = ap (λ (l : List D). length l) is ∙ length-map redos (λ (r : RedoState D). r.disk);
    each = λ k redo disk was at.
        let there = map_at (λ (r : RedoState D). r.disk) redos k disk (subst (λ (l : List D). slice_get l k ≡ Some disk) is at) in
        closed_rest may k redo disk was there.0 there.1 there.2;
    due_is = tt;
  }

  -- one whose node was
  node_stands : (redo : RedoState D) (n : NodeState D) → WasStarted state faults redo n → StillStands state faults redo n.disk
  node_stands redo n was = record {
    honest = was.honest;
    later = was.later;
    stands = λ h.
        subst (λ (l : List (List ℕ)). StandsFor (state n.disk) redo.node redo.nodes l) (sym was.records.bodies_are)
        (subst (λ (k : ℕ). StandsFor (state n.disk) redo.node k (bodies_of n.records)) was.nodes_are
        (subst (λ (k : ℕ). StandsFor (state n.disk) k n.nodes (bodies_of n.records)) was.node (was.stands (was.honest h))));
  }

  module _ (nodes : List (NodeState D)) (redo : RedoState D) (failed : D) (disks : List D) (cause : StartCause) (may : MayAllBeStarted state redos) (are : AreStarted state faults redos nodes) (close : AllCloseSo state nodes)
      (at : slice_get redos (length nodes) ≡ Some redo) (is : disks ≡ map (λ (n : NodeState D). n.disk) nodes ++ failed ∷ map (λ (r : RedoState D). r.disk) (drop (length nodes + 1) redos)) (still : StillStands state faults redo failed) where
    count : length (map (λ (n : NodeState D). n.disk) nodes) ≡ length nodes
    count = length-map nodes (λ (n : NodeState D). n.disk)

    still_at : (k : ℕ) (r : RedoState D) (d : D) → slice_get redos k ≡ Some r
        → ((k < length (map (λ (n : NodeState D). n.disk) nodes)) × (slice_get (map (λ (n : NodeState D). n.disk) nodes) k ≡ Some d))
        ⊎ ((j : ℕ) × (k ≡ length (map (λ (n : NodeState D). n.disk) nodes) + j) × (slice_get (failed ∷ map (λ (x : RedoState D). x.disk) (drop (length nodes + 1) redos)) j ≡ Some d)) → StillStands state faults r d
    still_at k r d was (inl front) =
        let there = map_at (λ (n : NodeState D). n.disk) nodes k d front.1 in
        subst (λ (x : D). StillStands state faults r x) there.2 (node_stands r there.0 (are.each k r there.0 was there.1))
    still_at k r d was (inr (zero, place, there)) =
        let here : k ≡ length nodes = omega (arith, place, count) in
        let same = one_at redos (length nodes) redo r at (subst (λ (j : ℕ). slice_get redos j ≡ Some r) here was) in
        subst (λ (x : RedoState D). StillStands state faults x d) same (subst (λ (x : D). StillStands state faults redo x) (unsome failed d there) still)
    still_at k r d was (inr (suc j, place, there)) =
        let here : length nodes + 1 + j ≡ k = omega (arith, place, count) in
        let left = map_at (λ (x : RedoState D). x.disk) (drop (length nodes + 1) redos) j d there in
        closed_rest may k r d was left.0 (subst (λ (n : ℕ). slice_get redos n ≡ Some left.0) here (sym (drop_at redos (length nodes + 1) j) ∙ left.1)) left.2

    failed_at : slice_get disks (length nodes) ≡ Some failed
    failed_at = ap (λ (l : List D). slice_get l (length nodes)) is
        ∙ ap (λ (n : ℕ). slice_get (map (λ (n : NodeState D). n.disk) nodes ++ failed ∷ map (λ (r : RedoState D). r.disk) (drop (length nodes + 1) redos)) n) (sym count)
        ∙ seam (map (λ (n : NodeState D). n.disk) nodes) failed (map (λ (r : RedoState D). r.disk) (drop (length nodes + 1) redos))

    due_at : (cause' : StartCause) → (cause' ≡ starts.Fault → Rose (faults redo.disk) (faults failed)) → ((place : ℕ) → cause' ≡ starts.Damaged place → IsFirstBadBody redo.start redo.bodies place) → IsDueAtStart faults redos disks (due_of_starting (length nodes) cause')
    due_at starts.Fault rose bad = record { redo = redo; disk = failed; was = at; is = failed_at; rose = rose refl }
    due_at (starts.Damaged place) rose bad = absurd (none_bad redo.start redo.bodies (may (length nodes) redo at).list place (may (length nodes) redo at).records (bad place refl))
    due_at starts.NoMemory rose bad = tt

    pub werent_started : (cause ≡ starts.Fault → Rose (faults redo.disk) (faults failed)) → ((place : ℕ) → cause ≡ starts.Damaged place → IsFirstBadBody redo.start redo.bodies place) → WerentStarted state faults redos disks (due_of_starting (length nodes) cause)
    werent_started rose bad = record {
      count =
          let low = within redos (length nodes) redo at in
          omega (
            arith,
            ap (λ (l : List D). length l) is,
            length-append (map (λ (n : NodeState D). n.disk) nodes) (failed ∷ map (λ (r : RedoState D). r.disk) (drop (length nodes + 1) redos)),
            count,
            length-map (drop (length nodes + 1) redos) (λ (r : RedoState D). r.disk),
            low,
            length-drop (length nodes + 1) redos,
          );
      each = λ k r d was there. still_at k r d was (split_at (map (λ (n : NodeState D). n.disk) nodes) (failed ∷ map (λ (x : RedoState D). x.disk) (drop (length nodes + 1) redos)) k d (subst (λ (l : List D). slice_get l k ≡ Some d) is there));
      due_is = due_at cause rose bad;
    }
