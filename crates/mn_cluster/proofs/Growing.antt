-- What the lists of workers grew by.
use Rattle.std.proofs.Common.{◌≡◌, ℕ, ◌+◌, ◌-◌, ◌≤◌, ◌⊎◌, inl, inr, Bool, true, false, Some, List, [], ◌∷◌, ◌++◌, reverse, refl, sym, ap, ◌∙◌, subst, arith, if◌then◌else◌, MatchBool}
use Rattle.std.specs.Prelude.{⊤, nat_le}
use Rattle.std.specs.List.{AllByRecursion}
use Rattle.std.proofs.lemmas.Bool.Decides.{nat_tests}
use Rattle.std.proofs.lemmas.List.{append-nil, append_cancel_right, reverse-append}
use Rattle.atomic_table.specs.Seated.{TableId}
use Rattle.mn_actors.specs.Sight.{view_of}
use Rattle.mn_base.specs.Ids.{client_same}
use Rattle.mn_base.specs.declared.ids.ClientNo.{ClientNo}
use Rattle.mn_base.proofs.Lists.{all_append, weaker}
use Rattle.mn_script.specs.Script.{Script}
use Rattle.mn_script.specs.declared.elements.Mark.TheVariants.{Plain}
use Rattle.mn_runs.specs.declared.entry.Entry.{Entry}
use Rattle.mn_runs.specs.Protocol.{Start, entries_of}
use Rattle.mn_runs.proofs.Same.{client_same-true}
use Rattle.mn_callers.specs.Desks.{IsRecoveryStep, RecoversOn, recoverer}
use Rattle.mn_callers.specs.Plays.{caller_at}
use Rattle.mn_callers.specs.Turn.{past_in}
use Rattle.mn_callers.proofs.Trails.{entries_back, entries_both}
use Rattle.mn_cluster.specs.declared.worker.Role.{Role}
use Rattle.mn_cluster.specs.declared.worker.Role.TheVariants.{Client, Recoverer}
use Rattle.mn_cluster.specs.declared.worker.Worker.{Worker}
use Rattle.mn_cluster.specs.Follows.{IsOfPlain, IsOfRecoverer}
use Rattle.mn_cluster.specs.Hired.{AreHired, list_in, roles_of}
use Rattle.mn_cluster.specs.Marks.{is_marked}
use Rattle.mn_cluster.specs.Workers.{DidWork, HasWorked, is_of_script, list_of}
use Rattle.mn_cluster.proofs.Worked.{Both, Pairs}

all_so : {X : Type 0} (P : X → Type 0) → ((x : X) → P x) → (xs : List X) → AllByRecursion P xs
all_so P f [] = tt
all_so P f (x ∷ xs) = (f x, all_so P f xs)

all_turned : {X : Type 0} (P : X → Type 0) (xs : List X) → AllByRecursion P xs → AllByRecursion P (reverse xs)
all_turned P [] all = tt
all_turned {X} P (x ∷ xs) all = subst (AllByRecursion P) (sym (reverse-append (x ∷ []) xs)) (all_append P (reverse xs) (x ∷ []) (all_turned P xs all.1) (all.0, tt))

of_past : (P : Entry → Type 0) (own : List (ℕ × Entry)) → AllByRecursion P (past_in own) → AllByRecursion (λ (x : ℕ × Entry). P x.1) own
of_past P [] all = tt
of_past P (x ∷ own) all = (all.0, of_past P own all.1)

module _ (script : Script) (known : ℕ) where
  -- an entry of whom may act beside others
  abbrev pub MayBe : Entry → Type 0
  MayBe e = IsOfPlain script e ⊎ IsOfRecoverer script e

  -- an actor's list grew by entries of its own, from the place that was known on
  pub record Growth (c : ClientNo) (l new : List (ℕ × Entry)) : Type 0 where
    pub own : List (ℕ × Entry)
    pub is : new ≡ l ++ own
    pub later : AllByRecursion (λ x. known ≤ x.0) own
    pub whose : AllByRecursion (λ x. x.1.client ≡ Some c → MayBe x.1) own

  pub no_growth : (c : ClientNo) (l new : List (ℕ × Entry)) → new ≡ l → Growth c l new
  no_growth c l new is = record { own = []; is = is ∙ sym (append-nil l); later = tt; whose = tt }

  -- recovery coordinators have these numbers
  abbrev pub IsAbove : Role → Type 0
  IsAbove (Client c done) = ⊤
  IsAbove (Recoverer d) = 17 ≤ d.list.client.0

  recovered : (c : ClientNo) (l new o : List (ℕ × Entry)) → 17 ≤ c.0 → is_of_script script c ≡ true → new ≡ l ++ reverse o → RecoversOn (entries_of l) (entries_of new) → AllByRecursion (λ (x : ℕ × Entry). x.1.client ≡ Some c → MayBe x.1) (reverse o)
  recovered c l new o above of is recovers =
      let both : entries_of new ≡ past_in o ++ entries_of l = ap entries_of is ∙ (entries_both l (reverse o) ∙ ap (λ (es : List Entry). es ++ entries_of l) (entries_back o)) in
      let same : recovers.own ≡ past_in o = append_cancel_right recovers.own (past_in o) (entries_of l) (sym recovers.new_is ∙ both) in
      let steps : AllByRecursion (λ (e : Entry). IsRecoveryStep e.what) (past_in o) = subst (AllByRecursion (λ (e : Entry). IsRecoveryStep e.what)) same recovers.steps in
      all_turned (λ (x : ℕ × Entry). x.1.client ≡ Some c → MayBe x.1) o
      (weaker (λ (x : ℕ × Entry). IsRecoveryStep x.1.what) (λ (x : ℕ × Entry). x.1.client ≡ Some c → MayBe x.1) (λ x step by. inr (number, first, last, by ∙ ap (λ (k : ClientNo). Some k) actor, step)) o (of_past (λ (e : Entry). IsRecoveryStep e.what) o steps))
    where
      number : ℕ
      number = c.0 - 16

      first : 1 ≤ number
      first = omega (arith, above)

      within : c.0 ≤ 16 + script.recoverers
      within = grind (arith, nat_tests, of)

      last : number ≤ script.recoverers
      last = let le = within in omega (arith, le, above)

      actor : c ≡ recoverer number
      actor = let there : c.0 ≡ 16 + number = omega (arith, above) in ap caller_at there

  module _ (board : TableId) (start : Start) where
    -- one worker's list
    grew : (w v : Worker) → IsAbove w.role → (view_of w.pass).known ≡ known → HasWorked board start script w v → Growth (list_of w.role).client (list_of w.role).entries (list_of v.role).entries
    grew w v above knew worked = by w.role v.role refl refl worked.did
      where
        later : AllByRecursion (λ (x : ℕ × Entry). known ≤ x.0) (reverse worked.moves.own)
        later = all_turned (λ (x : ℕ × Entry). known ≤ x.0) worked.moves.own (subst (λ (k : ℕ). AllByRecursion (λ (x : ℕ × Entry). k ≤ x.0) worked.moves.own) knew worked.moves.later)

        by : (r s : Role) → w.role ≡ r → v.role ≡ s → DidWork start script r s → Growth (list_of w.role).client (list_of w.role).entries (list_of v.role).entries
        by (Client c was) (Client d is) from to did = client (is_marked Plain script c.list.client) refl did.2
          where
            client : (b : Bool) → is_marked Plain script c.list.client ≡ b → MatchBool b (Rattle.std.specs.Prelude.OnOk is (Rattle.mn_callers.specs.Acts.DoesAll (Rattle.mn_callers.specs.Acts.role_of script c.list.client) (Rattle.mn_callers.specs.Clients.past_of c) (Rattle.mn_callers.specs.Clients.past_of d))) ((d ≡ c) × (is ≡ was))
                → Growth (list_of w.role).client (list_of w.role).entries (list_of v.role).entries
            client true plain so = record {
              own = reverse worked.moves.own;
              is = worked.moves.list_is;
              later = later;
              whose = all_so (λ (x : ℕ × Entry). x.1.client ≡ Some (list_of w.role).client → MayBe x.1)
                  (λ x by. inl (c.list.client, plain, by ∙ ap (λ (r : Role). Some (list_of r).client) from)) (reverse worked.moves.own);
            }
            client false plain so = no_growth (list_of w.role).client (list_of w.role).entries (list_of v.role).entries
                (ap (λ (r : Role). (list_of r).entries) to ∙ (ap (λ k. k.list.entries) so.0 ∙ sym (ap (λ (r : Role). (list_of r).entries) from)))
        by (Recoverer c) (Recoverer d) from to did = desk (is_of_script script c.list.client) refl did.1
          where
            low : 17 ≤ c.list.client.0
            low = subst IsAbove from above

            actor : (list_of w.role).client ≡ c.list.client
            actor = ap (λ (r : Role). (list_of r).client) from

            old : (list_of w.role).entries ≡ c.list.entries
            old = ap (λ (r : Role). (list_of r).entries) from

            new : (list_of v.role).entries ≡ d.list.entries
            new = ap (λ (r : Role). (list_of r).entries) to

            desk : (b : Bool) → is_of_script script c.list.client ≡ b → MatchBool b (RecoversOn (entries_of c.list.entries) (entries_of d.list.entries)) (d ≡ c) → Growth (list_of w.role).client (list_of w.role).entries (list_of v.role).entries
            desk true of so = record {
              own = reverse worked.moves.own;
              is = worked.moves.list_is;
              later = later;
              whose = subst (λ (k : ClientNo). AllByRecursion (λ (x : ℕ × Entry). x.1.client ≡ Some k → MayBe x.1) (reverse worked.moves.own)) (sym actor)
                  (recovered c.list.client c.list.entries d.list.entries worked.moves.own low of (sym new ∙ (worked.moves.list_is ∙ ap (λ (l : List (ℕ × Entry)). l ++ reverse worked.moves.own) old)) so);
            }
            desk false of so = no_growth (list_of w.role).client (list_of w.role).entries (list_of v.role).entries (new ∙ (ap (λ k. k.list.entries) so ∙ sym old))
        by (Client c was) (Recoverer d) from to did = absurd did
        by (Recoverer c) (Client d is) from to did = absurd did

    -- all of them
    pub grown_lists : (before after : List Worker) → AllByRecursion (λ w. IsAbove w.role) before → AreHired board known before → Pairs board start script known before after
        → (c : ClientNo) → Both (Growth c) (list_in (roles_of before) c) (list_in (roles_of after) c)
    grown_lists [] [] above hired each c = tt
    grown_lists [] (v ∷ after) above hired each c = absurd each
    grown_lists (w ∷ before) [] above hired each c = absurd each
    grown_lists (w ∷ before) (v ∷ after) above hired each c =
        by (client_same c (list_of w.role).client) (client_same c (list_of v.role).client) refl (ap (client_same c) each.0.moves.client) (grown_lists before after above.1 hired.1 each.1 c)
      where
        by : (a b : Bool) → client_same c (list_of w.role).client ≡ a → b ≡ client_same c (list_of w.role).client → Both (Growth c) (list_in (roles_of before) c) (list_in (roles_of after) c)
            → Both (Growth c) (if a then Some (list_of w.role).entries else list_in (roles_of before) c) (if b then Some (list_of v.role).entries else list_in (roles_of after) c)
        by true true mine same rest = subst (λ (k : ClientNo). Growth k (list_of w.role).entries (list_of v.role).entries) (sym (client_same-true c (list_of w.role).client mine)) (grew w v above.0 hired.0.1 each.0)
        by true false mine same rest = absurd cc
        by false true mine same rest = absurd cc
        by false false mine same rest = rest
