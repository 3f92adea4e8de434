-- For the test of two threads: passes that are parted, used and put together again, and the lists
-- that they have.
use Rattle.std.proofs.Common.{◌≡◌, ◌≢◌, ℕ, zero, suc, ◌<◌, ◌≤◌, false, Option, Some, None, List, [], ◌∷◌, ◌++◌, length, map, reverse, refl, sym, ap, ◌∙◌, subst, ⊎_elim, arith, ne_eqb}
use Rattle.std.specs.List.{AllByRecursion}
use Rattle.std.proofs.lemmas.Bool.{cases_eq, eqb-false}
use Rattle.std.proofs.lemmas.List.{map-append, reverse-append}
use Rattle.std.proofs.lemmas.Option.{same_Some}
use Rattle.mn_base.specs.declared.ids.NodeNo.{NodeNo}
use Rattle.mn_base.specs.declared.ids.ClientNo.{ClientNo}
use Rattle.mn_base.specs.declared.gate.StopAt.{StopAt}
use Rattle.mn_mini.specs.declared.request.Request.TheVariants as Ask
use Rattle.mn_mini.specs.declared.reply.NodeReply.{NodeReply}
use Rattle.mn_mini.specs.declared.reply.NodeReply.TheVariants as Say
use Rattle.mn_actors.specs.declared.actor.Actor.{Actor}
use Rattle.mn_actors.specs.declared.actor.Actor.TheVariants.{Node, Client}
use Rattle.mn_actors.specs.declared.clock.View.{View}
use Rattle.mn_actors.specs.Lines.{node_at, client_at, same_actor, IsActor}
use Rattle.mn_actors.specs.Lists.{held, or_else, Owns, OwnsAll, IsJoined, IsSplit, IsSameLists}
use Rattle.mn_actors.specs.Log.{IsOneLog}
use Rattle.mn_runs.specs.declared.entry.Entry.{Entry}
use Rattle.mn_runs.specs.Protocol.{NodeListAllowed, Start, start_nodes, entries_of}
use Rattle.mn_runs.specs.Lists.{ClientState}
use Rattle.mn_law.specs.Run.{IsLogOfRun}
use Rattle.mn_cell.specs.Calls.{EndsList, IsLegalLine, MaySend, entry_at, what_said}
use Rattle.mn_cell.specs.Passes.{OwnsJust}
use Rattle.mn_cell.specs.Runs.{ArePartsOfRun, IsIssueOf, PartsMakeRun, placed_from}
use Rattle.mn_cell.specs.Station.{HasCaller}
use Rattle.mn_hist.specs.Merging.{AreOneLog, HaveCallers, actor_list}

-- Peeks

pub peek_legal : (n : NodeNo) (c : ClientNo) (list : List (ℕ × Entry)) (start size : ℕ) (stop : Option StopAt) → c.0 ≤ 20 → MaySend n c list (Ask.Peek start size) stop
peek_legal n c list start size stop known Say.Stopped = record { actor = known; node = tt; step = (tt, tt) }
peek_legal n c list start size stop known (Say.Done reads) = record { actor = known; node = tt; step = (tt, tt) }
peek_legal n c list start size stop known (Say.BadLock from long holder) = record { actor = known; node = tt; step = (tt, tt) }
peek_legal n c list start size stop known (Say.BadCompare item found) = record { actor = known; node = tt; step = (tt, tt) }
peek_legal n c list start size stop known Say.BadForced = record { actor = known; node = tt; step = (tt, tt) }
peek_legal n c list start size stop known (Say.Vote verdict) = record { actor = known; node = tt; step = (tt, tt) }
peek_legal n c list start size stop known Say.Decided = record { actor = known; node = tt; step = (tt, tt) }
peek_legal n c list start size stop known (Say.Listed doubts) = record { actor = known; node = tt; step = (tt, tt) }
peek_legal n c list start size stop known (Say.Peeked bytes) = record { actor = known; node = tt; step = (tt, tt) }
peek_legal n c list start size stop known Say.Down = record { actor = known; node = tt; step = (tt, tt) }
peek_legal n c list start size stop known Say.NoMemory = record { actor = known; node = tt; step = (tt, tt) }

-- what Peeks leave in a list of a client
pub peeks_more : (start : Start) (n : NodeNo) (c : ClientNo) (from size known after : ℕ) (stop : Option StopAt) (reply : NodeReply) (old new : List (ℕ × Entry))
    → (reply ≢ Say.NoMemory → EndsList known after (entry_at n c (what_said (Ask.Peek from size) stop reply)) old new) → (reply ≡ Say.NoMemory → new ≡ old)
    → AllByRecursion (IsIssueOf start) (entries_of old) → AllByRecursion (IsIssueOf start) (entries_of new)
peeks_more start n c from size known after stop reply old new said kept all = by reply said kept
  where
    newest : (p : ℕ) (e : Entry) → entries_of (old ++ (p, e) ∷ []) ≡ e ∷ entries_of old
    newest p e = ap (λ (m : List Entry). reverse m) (map-append (λ (x : ℕ × Entry). x.1) old ((p, e) ∷ [])) ∙ reverse-append (map (λ (x : ℕ × Entry). x.1) old) (e ∷ [])

    longer : (e : Entry) → EndsList known after e old new → IsIssueOf start e → AllByRecursion (IsIssueOf start) (entries_of new)
    longer e ends one = subst (AllByRecursion (IsIssueOf start)) (sym (ap (λ (l : List (ℕ × Entry)). entries_of l) ends.ends ∙ newest ends.place e)) (one, all)

    by : (r : NodeReply) → (r ≢ Say.NoMemory → EndsList known after (entry_at n c (what_said (Ask.Peek from size) stop r)) old new) → (r ≡ Say.NoMemory → new ≡ old) → AllByRecursion (IsIssueOf start) (entries_of new)
    by Say.NoMemory said kept = subst (λ (l : List (ℕ × Entry)). AllByRecursion (IsIssueOf start) (entries_of l)) (sym (kept refl)) all
    by Say.Stopped said kept = longer _ (said (λ e. cc)) tt
    by (Say.Done reads) said kept = longer _ (said (λ e. cc)) tt
    by (Say.BadLock start' long holder) said kept = longer _ (said (λ e. cc)) tt
    by (Say.BadCompare item found) said kept = longer _ (said (λ e. cc)) tt
    by Say.BadForced said kept = longer _ (said (λ e. cc)) tt
    by (Say.Vote verdict) said kept = longer _ (said (λ e. cc)) tt
    by Say.Decided said kept = longer _ (said (λ e. cc)) tt
    by (Say.Listed doubts) said kept = longer _ (said (λ e. cc)) tt
    by (Say.Peeked bytes) said kept = longer _ (said (λ e. cc)) tt
    by Say.Down said kept = longer _ (said (λ e. cc)) tt

-- Passes

module _ {E : Type 0} where
  -- what a split gives away
  pub given_alone : (v w u : View E) (a : Actor) (l : List (ℕ × E)) → IsSplit v a w u → held v a ≡ Some l → OwnsJust u a × (held u a ≡ Some l)
  given_alone v w u a l split is = let here = split.given.0 ∙ is in (((l, here), λ b not. (split.others b not).1), here)

  -- the first view, after both nodes and client 1 were given away
  module _ (v w u x y z t : View E) (first : (a : Actor) → IsActor 2 2 a → held v a ≡ Some []) (others : (a : Actor) → ¬ IsActor 2 2 a → held v a ≡ None)
      (one : IsSplit v (node_at 0) w u) (two : IsSplit w (node_at 1) x y) (three : IsSplit x (client_at 1) z t) where
    pub node0_first : held v (node_at 0) ≡ Some []
    node0_first = first (node_at 0) (omega arith)

    pub node1_first : held w (node_at 1) ≡ Some []
    node1_first = (one.others (node_at 1) refl).0 ∙ first (node_at 1) (omega arith)

    pub client1_first : held x (client_at 1) ≡ Some []
    client1_first = (two.others (client_at 1) refl).0 ∙ ((one.others (client_at 1) refl).0 ∙ first (client_at 1) (omega arith))

    kept_client : held z (client_at 0) ≡ Some []
    kept_client = (three.others (client_at 0) refl).0 ∙ ((two.others (client_at 0) refl).0 ∙ ((one.others (client_at 0) refl).0 ∙ first (client_at 0) (omega arith)))

    nothing_else : (b : Actor) → same_actor b (client_at 0) ≡ false → held z b ≡ None
    nothing_else (Node k) not = (three.others (Node k) refl).0 ∙ ⊎_elim
        (λ (is : k.0 ≡ 1). subst (λ (m : NodeNo). held x (Node m) ≡ None) (λ i. record { 0 = sym is i }) two.given.1)
        (λ (ne : k.0 ≡ 1 → ⊥). (two.others (Node k) (ne_eqb k.0 1 ne)).0 ∙ ⊎_elim
        (λ (is : k.0 ≡ 0). subst (λ (m : NodeNo). held w (Node m) ≡ None) (λ i. record { 0 = sym is i }) one.given.1)
        (λ (ze : k.0 ≡ 0 → ⊥). (one.others (Node k) (ne_eqb k.0 0 ze)).0 ∙ others (Node k) (λ (lt : k.0 < 2). neither k.0 ze ne lt))
        (cases_eq k.0 0))
        (cases_eq k.0 1)
      where
        neither : (k : ℕ) → (k ≡ 0 → ⊥) → (k ≡ 1 → ⊥) → k < 2 → ⊥
        neither k a b h = omega arith
    nothing_else (Client k) not = ⊎_elim
        (λ (is : k.0 ≡ 1). subst (λ (m : ClientNo). held z (Client m) ≡ None) (λ i. record { 0 = sym is i }) three.given.1)
        (λ (ne : k.0 ≡ 1 → ⊥). (three.others (Client k) (ne_eqb k.0 1 ne)).0 ∙ ((two.others (Client k) refl).0 ∙ ((one.others (Client k) refl).0 ∙ others (Client k) (λ (lt : k.0 < 2). neither k.0 (eqb-false k.0 0 not) ne lt))))
        (cases_eq k.0 1)
      where
        neither : (k : ℕ) → (k ≡ 0 → ⊥) → (k ≡ 1 → ⊥) → k < 2 → ⊥
        neither k a b h = omega arith

    pub rest_alone : OwnsJust z (client_at 0) × (held z (client_at 0) ≡ Some [])
    rest_alone = ((([], kept_client), nothing_else), kept_client)

  or_none : (o p : Option (List (ℕ × E))) → o ≡ None → or_else o p ≡ p
  or_none o p is = ap (λ (q : Option (List (ℕ × E))). or_else q p) is

  or_some : (o p : Option (List (ℕ × E))) (l : List (ℕ × E)) → o ≡ Some l → or_else o p ≡ Some l
  or_some o p l is = ap (λ (q : Option (List (ℕ × E))). or_else q p) is

  -- four passes of one actor each, put together
  module _ (c0 c1 n0 n1 s1 s2 s3 : View E) (lc0 lc1 ln0 ln1 : List (ℕ × E)) (a0 : OwnsJust c0 (client_at 0)) (a1 : OwnsJust c1 (client_at 1)) (b0 : OwnsJust n0 (node_at 0)) (b1 : OwnsJust n1 (node_at 1))
      (l0 : held c0 (client_at 0) ≡ Some lc0) (l1 : held c1 (client_at 1) ≡ Some lc1) (m0 : held n0 (node_at 0) ≡ Some ln0) (m1 : held n1 (node_at 1) ≡ Some ln1)
      (one : IsJoined c0 c1 s1) (two : IsJoined s1 n0 s2) (three : IsJoined s2 n1 s3) where
    at_all : (a : Actor) → held s3 a ≡ or_else (or_else (or_else (held c0 a) (held c1 a)) (held n0 a)) (held n1 a)
    at_all a = three.lists a ∙ (ap (λ (o : Option (List (ℕ × E))). or_else o (held n1 a)) (two.lists a)
        ∙ ap (λ (o : Option (List (ℕ × E))). or_else (or_else o (held n0 a)) (held n1 a)) (one.lists a))

    pub at_client0 : held s3 (client_at 0) ≡ Some lc0
    at_client0 = at_all (client_at 0) ∙ (rw l0 refl)

    pub at_client1 : held s3 (client_at 1) ≡ Some lc1
    at_client1 = at_all (client_at 1) ∙ (rw (a0.1 (client_at 1) refl, l1) refl)

    pub at_node0 : held s3 (node_at 0) ≡ Some ln0
    at_node0 = at_all (node_at 0) ∙ (rw (a0.1 (node_at 0) refl, a1.1 (node_at 0) refl, m0) refl)

    pub at_node1 : held s3 (node_at 1) ≡ Some ln1
    at_node1 = at_all (node_at 1) ∙ (rw (a0.1 (node_at 1) refl, a1.1 (node_at 1) refl, b0.1 (node_at 1) refl, m1) refl)

    -- of two, the one or the other
    of_two : (k : ℕ) (P : ℕ → Type 0) → k < 2 → P 0 → P 1 → P k
    of_two zero P lt p q = p
    of_two (suc zero) P lt p q = q
    of_two (suc (suc k)) P lt p q = absurd (omega (arith, lt))

    pub all_owned : OwnsAll 2 2 s3
    all_owned (Node k) on = of_two k.0 (λ (n : ℕ). Owns s3 (node_at n)) on (ln0, at_node0) (ln1, at_node1)
    all_owned (Client k) on = of_two k.0 (λ (n : ℕ). Owns s3 (client_at n)) on (lc0, at_client0) (lc1, at_client1)

-- after two looks
pub still_at : {E : Type 0} (v w u : View E) (a : Actor) (l : List (ℕ × E)) → IsSameLists v w → IsSameLists w u → held v a ≡ Some l → held u a ≡ Some l
still_at v w u a l same same' is = same' a ∙ (same a ∙ is)

pub still_all : {E : Type 0} (v w u : View E) → IsSameLists v w → IsSameLists w u → OwnsAll 2 2 v → OwnsAll 2 2 u
still_all v w u same same' all a on = let o = all a on in (o.0, still_at v w u a o.0 same same' o.1)

-- The lists, as a log has them

one_of : (clock : ℕ) (owned owned' : Actor → Option (List (ℕ × Entry))) → ((a : Actor) → IsActor 2 2 a → owned' a ≡ owned a) → IsOneLog IsLegalLine 2 2 owned clock → IsOneLog IsLegalLine 2 2 owned' clock
one_of clock owned owned' same one = record {
  log = one.log;
  clock_is = one.clock_is;
  lists = λ a on. same a on ∙ one.lists a on;
  ascending = one.ascending;
  manned = one.manned;
  legal_then = one.legal_then;
  once = one.once;
}

either : (k : ℕ) (P : ℕ → Type 0) → k < 2 → P 0 → P 1 → P k
either zero P lt p q = p
either (suc zero) P lt p q = q
either (suc (suc k)) P lt p q = absurd (omega (arith, lt))

-- lists of two nodes and two clients are a run's
pub parts_of_two : (start : Start) (owned : Actor → Option (List (ℕ × Entry))) (l0 l1 m0 m1 : List (ℕ × Entry)) → 2 ≡ start_nodes start
    → owned (node_at 0) ≡ Some l0 → owned (node_at 1) ≡ Some l1 → owned (client_at 0) ≡ Some m0 → owned (client_at 1) ≡ Some m1
    → NodeListAllowed start (record { 0 = 0 }) (entries_of l0) → NodeListAllowed start (record { 0 = 1 }) (entries_of l1)
    → AllByRecursion (IsIssueOf start) (entries_of m0) → AllByRecursion (IsIssueOf start) (entries_of m1) → ArePartsOfRun start 2 2 owned
parts_of_two start owned l0 l1 m0 m1 two n0 n1 c0 c1 a0 a1 i0 i1 = record {
  all = two;
  allowed = λ n list on is.
      either n.0 (λ (k : ℕ). owned (node_at k) ≡ Some list → NodeListAllowed start (record { 0 = k }) (entries_of list)) on
      (λ e. subst (λ (l : List (ℕ × Entry)). NodeListAllowed start (record { 0 = 0 }) (entries_of l)) (same_Some _ _ (sym n0 ∙ e)) a0)
      (λ e. subst (λ (l : List (ℕ × Entry)). NodeListAllowed start (record { 0 = 1 }) (entries_of l)) (same_Some _ _ (sym n1 ∙ e)) a1) is;
  of_run = λ c list on is.
      either c.0 (λ (k : ℕ). owned (client_at k) ≡ Some list → AllByRecursion (IsIssueOf start) (entries_of list)) on
      (λ e. subst (λ (l : List (ℕ × Entry)). AllByRecursion (IsIssueOf start) (entries_of l)) (same_Some _ _ (sym c0 ∙ e)) i0)
      (λ e. subst (λ (l : List (ℕ × Entry)). AllByRecursion (IsIssueOf start) (entries_of l)) (same_Some _ _ (sym c1 ∙ e)) i1) is;
}

pub same_parts : (start : Start) (owned owned' : Actor → Option (List (ℕ × Entry))) → ((a : Actor) → IsActor 2 2 a → owned' a ≡ owned a) → ArePartsOfRun start 2 2 owned → ArePartsOfRun start 2 2 owned'
same_parts start owned owned' same parts = record {
  all = parts.all;
  allowed = λ n list on is. parts.allowed n list on (sym (same (Node n) on) ∙ is);
  of_run = λ c list on is. parts.of_run c list on (sym (same (Client c) on) ∙ is);
}

module _ (ln0 ln1 : List (ℕ × Entry)) (k0 k1 : ClientState) (owned : Actor → Option (List (ℕ × Entry))) (n0 : owned (node_at 0) ≡ Some ln0) (n1 : owned (node_at 1) ≡ Some ln1) (c0 : owned (client_at 0) ≡ Some k0.entries)
    (c1 : owned (client_at 1) ≡ Some k1.entries) where
  as_listed : (a : Actor) → IsActor 2 2 a → actor_list (ln0 ∷ ln1 ∷ []) (k0 ∷ k1 ∷ []) a ≡ owned a
  as_listed (Node k) on = either k.0 (λ (n : ℕ). actor_list (ln0 ∷ ln1 ∷ []) (k0 ∷ k1 ∷ []) (node_at n) ≡ owned (node_at n)) on (sym n0) (sym n1)
  as_listed (Client k) on = either k.0 (λ (n : ℕ). actor_list (ln0 ∷ ln1 ∷ []) (k0 ∷ k1 ∷ []) (client_at n) ≡ owned (client_at n)) on (sym c0) (sym c1)

  one_log : (cs : List ClientState) (nodes clients clock : ℕ) → cs ≡ k0 ∷ k1 ∷ [] → nodes ≡ 2 → clients ≡ 2 → IsOneLog IsLegalLine nodes clients owned clock → AreOneLog (ln0 ∷ ln1 ∷ []) cs clock
  one_log cs nodes clients clock clients_are two two' one =
      let here = subst (λ (n : ℕ × ℕ). IsOneLog IsLegalLine n.0 n.1 owned clock) (λ i. (two i, two' i)) one in
      subst (λ (l : List ClientState). AreOneLog (ln0 ∷ ln1 ∷ []) l clock) (sym clients_are) (one_of clock owned (actor_list (ln0 ∷ ln1 ∷ []) (k0 ∷ k1 ∷ [])) as_listed here)

  -- so the clients' lists can be merged
  pub can_merge : (cs : List ClientState) (nodes clients clock : ℕ) → cs ≡ k0 ∷ k1 ∷ [] → nodes ≡ 2 → clients ≡ 2 → AllByRecursion HasCaller (entries_of ln0) → AllByRecursion HasCaller (entries_of ln1) → IsOneLog IsLegalLine nodes clients owned clock
      → (ns : List (List (ℕ × Entry))) × (clock : ℕ) × AreOneLog ns cs clock × HaveCallers ns
  can_merge cs nodes clients clock clients_are two two' called called' one = (ln0 ∷ ln1 ∷ [], clock, one_log cs nodes clients clock clients_are two two' one, (called, (called', tt)))

  listed_parts : (start : Start) (cs : List ClientState) → cs ≡ k0 ∷ k1 ∷ [] → ArePartsOfRun start 2 2 owned → ArePartsOfRun start 2 (length cs) (actor_list (ln0 ∷ ln1 ∷ []) cs)
  listed_parts start cs clients_are parts =
      subst (λ (l : List ClientState). ArePartsOfRun start 2 (length l) (actor_list (ln0 ∷ ln1 ∷ []) l)) (sym clients_are)
      (same_parts start owned (actor_list (ln0 ∷ ln1 ∷ []) (k0 ∷ k1 ∷ [])) as_listed parts)

  -- and the log that is put together is a run
  pub ended_run : (start : Start) (cs : List ClientState) (nodes clients clock : ℕ) (log : List (ℕ × Entry)) → cs ≡ k0 ∷ k1 ∷ [] → nodes ≡ 2 → clients ≡ 2 → PartsMakeRun
      → ((ns : List (List (ℕ × Entry))) (clock : ℕ) (one : AreOneLog ns cs clock) → HaveCallers ns → log ≡ placed_from 0 one.log) → AllByRecursion HasCaller (entries_of ln0) → AllByRecursion HasCaller (entries_of ln1)
      → IsOneLog IsLegalLine nodes clients owned clock → ArePartsOfRun start 2 2 owned → IsLogOfRun start log
  ended_run start cs nodes clients clock log clients_are two two' law merged called called' one parts =
      let all = one_log cs nodes clients clock clients_are two two' one in
      subst (IsLogOfRun start) (sym (merged (ln0 ∷ ln1 ∷ []) clock all (called, (called', tt)))) (law start 2 (length cs) clock (actor_list (ln0 ∷ ln1 ∷ []) cs) all (listed_parts start cs clients_are parts))
