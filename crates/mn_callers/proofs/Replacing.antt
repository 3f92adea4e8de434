-- A caller that had its turn stands among the callers again.
use Rattle.std.proofs.Common.{◌≡◌, ℕ, ◌+◌, ◌-◌, ◌<◌, ◌≤◌, Bool, true, false, Option, Some, List, [], length, refl, sym, ap, ◌∙◌, subst, if◌then◌else◌, arith, nat_eq, nat_lt}
use Rattle.std.specs.Prelude.{slice_get, slice_set}
use Rattle.std.specs.Option.{option_map_or}
use Rattle.std.proofs.lemmas.Bool.{eqb-false, eqb-true, le-ltb, lt-ltb, ltb-false, ne_eqb}
use Rattle.std.proofs.lemmas.List.{length-set}
use Rattle.std.proofs.lemmas.Option.{slice_get_within}
use Rattle.mn_base.specs.Ids.{client_same}
use Rattle.mn_base.specs.declared.ids.ClientNo.{ClientNo}
use Rattle.mn_base.proofs.Lists.{set_at, set_beside}
use Rattle.mn_script.specs.Script.{Script}
use Rattle.mn_runs.specs.declared.entry.Entry.{Entry}
use Rattle.mn_runs.specs.Lists.{ClientState}
use Rattle.mn_runs.specs.Protocol.{Start}
use Rattle.mn_callers.specs.declared.client.Client.{Client}
use Rattle.mn_callers.specs.declared.desk.Desk.{Desk}
use Rattle.mn_callers.specs.declared.callers.Callers.{Callers}
use Rattle.mn_callers.specs.Acts.{BeginsFirst, ops_by}
use Rattle.mn_callers.specs.Clients.{IsClient, IsOfRun, past_of}
use Rattle.mn_callers.specs.Desks.{IsDesk, IsOfRecovery}
use Rattle.mn_callers.specs.Failed.{closer}
use Rattle.mn_callers.specs.Plays.{AreCallers, AreReady, HaveNumbers, caller_at}
use Rattle.mn_callers.proofs.Resting.{Replaces}

-- The list of a caller, by what tells it

abbrev pub list_of : Bool → Bool → Option Client → List (ℕ × Entry) → Option Desk → List (ℕ × Entry)
list_of is_client is_closer client closing desk =
    if is_client then option_map_or (λ k. k.list.entries) client []
    else (if is_closer then closing else option_map_or (λ d. d.list.entries) desk [])

same_list : (x y : Bool) (k l : Option Client) (a b : List (ℕ × Entry)) (d e : Option Desk) → (x ≡ true → k ≡ l) → (x ≡ false → y ≡ true → a ≡ b) → (x ≡ false → y ≡ false → d ≡ e)
    → list_of x y k a d ≡ list_of x y l b e
same_list true y k l a b d e clients closing desks = ap (λ (o : Option Client). option_map_or (λ k. k.list.entries) o []) (clients refl)
same_list false true k l a b d e clients closing desks = closing refl refl
same_list false false k l a b d e clients closing desks = ap (λ (o : Option Desk). option_map_or (λ d. d.list.entries) o []) (desks refl refl)

-- An element that was replaced

-- the element at a place of a list in which one was replaced
replaced : {X : Type 0} (xs ys : List X) (k : ℕ) (x x' : X) → slice_get xs k ≡ Some x → ys ≡ slice_set xs k x' → (P : ℕ → X → Type 0) → P k x'
    → ((j : ℕ) (y : X) → slice_get xs j ≡ Some y → P j y) → (j : ℕ) (y : X) → slice_get ys j ≡ Some y → P j y
replaced {X} xs ys k x x' there is P new old j y at = by (nat_eq j k) refl
  where
    by : (b : Bool) → nat_eq j k ≡ b → P j y
    by true same =
        let here : j ≡ k = eqb-true j k same in
        let some : Some y ≡ Some x' = sym at ∙ (ap (λ (l : List X). slice_get l j) is ∙ (ap (slice_get (slice_set xs k x')) here ∙ set_at xs k x x' there)) in
        let value : y ≡ x' = cc in
        subst (λ (i : ℕ). P i y) (sym here) (subst (P k) (sym value) new)
    by false other =
        old j y (sym (set_beside xs k x' j (eqb-false j k other)) ∙ (ap (λ (l : List X). slice_get l j) (sym is) ∙ at))

beside : {X : Type 0} (xs ys : List X) (k : ℕ) (x' : X) (j : ℕ) → (j ≡ k → ⊥) → ys ≡ slice_set xs k x' → slice_get ys j ≡ slice_get xs j
beside {X} xs ys k x' j other is = ap (λ (l : List X). slice_get l j) is ∙ set_beside xs k x' j other

-- A client

pub client_replaced : (old new : Callers) (k : ℕ) (c c' : Client) → length old.clients.items ≤ 16 → HaveNumbers old → slice_get old.clients.items k ≡ Some c
    → new.clients.items ≡ slice_set old.clients.items k c' → new.desks.items ≡ old.desks.items → new.closer.list ≡ old.closer.list → c'.list.client ≡ c.list.client
    → Replaces (caller_at k) c'.list old new
client_replaced old new k c c' few numbers there clients desks closing client =
    record {
      here = ap (λ (b : Bool). list_of b (nat_eq k 16) (slice_get new.clients.items k) new.closer.list.entries (slice_get new.desks.items (k - 17))) (lt-ltb k 16 below)
          ∙ ap (λ (o : Option Client). option_map_or (λ k. k.list.entries) o []) (ap (λ (l : List Client). slice_get l k) clients ∙ set_at old.clients.items k c c' there);
      others = λ d among other. same_list (nat_lt d.0 16) (nat_eq d.0 16) (slice_get new.clients.items d.0) (slice_get old.clients.items d.0) new.closer.list.entries old.closer.list.entries (slice_get new.desks.items (d.0 - 17)) (slice_get old.desks.items (d.0 - 17))
          (λ _. beside old.clients.items new.clients.items k c' d.0 (eqb-false d.0 k other) clients)
          (λ _ _. ap (λ (l : ClientState). l.entries) closing)
          (λ _ _. ap (λ (l : List Desk). slice_get l (d.0 - 17)) desks);
      clients = ap length clients ∙ length-set old.clients.items k c';
      desks = ap length desks;
      numbers = record {
        clients = replaced old.clients.items new.clients.items k c c' there clients (λ j y. y.list.client ≡ caller_at j) (client ∙ numbers.clients k c there) numbers.clients;
        closer_is = ap (λ (l : ClientState). l.client) closing ∙ numbers.closer_is;
        desks = λ j d at. numbers.desks j d (sym (ap (λ (l : List Desk). slice_get l j) desks) ∙ at);
      };
    }
  where
    below : k < 16
    below = let within = slice_get_within old.clients.items k c there in omega arith

pub client_among : (start : Start) (script : Script) (old new : Callers) (k : ℕ) (c c' : Client) → AreCallers start script old → slice_get old.clients.items k ≡ Some c
    → new.clients.items ≡ slice_set old.clients.items k c' → new.desks.items ≡ old.desks.items → new.closer.list ≡ old.closer.list → IsOfRun start script.points c'
    → BeginsFirst (ops_by script.clients (caller_at k)) (past_of c') → AreCallers start script new
client_among start script old new k c c' are there clients desks closing of_run first =
    record {
      count = ap length clients ∙ (length-set old.clients.items k c' ∙ are.count);
      clients = replaced old.clients.items new.clients.items k c c' there clients (λ j y. IsOfRun start script.points y) of_run are.clients;
      begins = replaced old.clients.items new.clients.items k c c' there clients (λ j y. BeginsFirst (ops_by script.clients (caller_at j)) (past_of y)) first are.begins;
      desks = λ j d at. are.desks j d (sym (ap (λ (l : List Desk). slice_get l j) desks) ∙ at);
      closer_list = subst (IsOfRecovery start) (sym closing) are.closer_list;
    }

pub client_ready : (start : Start) (script : Script) (old new : Callers) (k : ℕ) (c c' : Client) → AreReady start script old → slice_get old.clients.items k ≡ Some c
    → new.clients.items ≡ slice_set old.clients.items k c' → IsClient start script.points c' → AreReady start script new
client_ready start script old new k c c' ready there clients client = replaced old.clients.items new.clients.items k c c' there clients (λ j y. IsClient start script.points y) client ready

-- A recovery coordinator

pub desk_replaced : (old new : Callers) (k : ℕ) (d d' : Desk) → HaveNumbers old → slice_get old.desks.items k ≡ Some d
    → new.desks.items ≡ slice_set old.desks.items k d' → new.clients.items ≡ old.clients.items → new.closer.list ≡ old.closer.list → d'.list.client ≡ d.list.client
    → Replaces (caller_at (17 + k)) d'.list old new
desk_replaced old new k d d' numbers there desks clients closing client =
    record {
      here = ap (λ (b : Bool). list_of b (nat_eq (17 + k) 16) (slice_get new.clients.items (17 + k)) new.closer.list.entries (slice_get new.desks.items ((17 + k) - 17))) (le-ltb (17 + k) 16 (omega arith))
          ∙ (ap (λ (b : Bool). list_of false b (slice_get new.clients.items (17 + k)) new.closer.list.entries (slice_get new.desks.items ((17 + k) - 17))) (ne_eqb (17 + k) 16 (λ is. absurd (omega arith)))
          ∙ (ap (λ (j : ℕ). option_map_or (λ d. d.list.entries) (slice_get new.desks.items j) []) place
          ∙ ap (λ (o : Option Desk). option_map_or (λ d. d.list.entries) o []) (ap (λ (l : List Desk). slice_get l k) desks ∙ set_at old.desks.items k d d' there)));
      others = λ e among other. same_list (nat_lt e.0 16) (nat_eq e.0 16) (slice_get new.clients.items e.0) (slice_get old.clients.items e.0) new.closer.list.entries old.closer.list.entries (slice_get new.desks.items (e.0 - 17)) (slice_get old.desks.items (e.0 - 17))
          (λ _. ap (λ (l : List Client). slice_get l e.0) clients)
          (λ _ _. ap (λ (l : ClientState). l.entries) closing)
          (λ above beyond. beside old.desks.items new.desks.items k d' (e.0 - 17) (apart e.0 above beyond (eqb-false e.0 (17 + k) other)) desks);
      clients = ap length clients;
      desks = ap length desks ∙ length-set old.desks.items k d';
      numbers = record {
        clients = λ j c at. numbers.clients j c (sym (ap (λ (l : List Client). slice_get l j) clients) ∙ at);
        closer_is = ap (λ (l : ClientState). l.client) closing ∙ numbers.closer_is;
        desks = replaced old.desks.items new.desks.items k d d' there desks (λ j y. y.list.client ≡ caller_at (17 + j)) (client ∙ numbers.desks k d there) numbers.desks;
      };
    }
  where
    place : (17 + k) - 17 ≡ k
    place = omega arith

    apart : (n : ℕ) → nat_lt n 16 ≡ false → nat_eq n 16 ≡ false → (n ≡ 17 + k → ⊥) → n - 17 ≡ k → ⊥
    apart n above beyond other is = let high : 16 ≤ n = ltb-false n 16 above in let more = eqb-false n 16 beyond in other (omega arith)

pub desk_among : (start : Start) (script : Script) (old new : Callers) (k : ℕ) (d d' : Desk) → AreCallers start script old → slice_get old.desks.items k ≡ Some d
    → new.desks.items ≡ slice_set old.desks.items k d' → new.clients.items ≡ old.clients.items → new.closer.list ≡ old.closer.list → IsDesk start d'
    → AreCallers start script new
desk_among start script old new k d d' are there desks clients closing desk =
    record {
      count = ap length clients ∙ are.count;
      clients = λ j c at. are.clients j c (sym (ap (λ (l : List Client). slice_get l j) clients) ∙ at);
      begins = λ j c at. are.begins j c (sym (ap (λ (l : List Client). slice_get l j) clients) ∙ at);
      desks = replaced old.desks.items new.desks.items k d d' there desks (λ j y. IsDesk start y) desk are.desks;
      closer_list = subst (IsOfRecovery start) (sym closing) are.closer_list;
    }

-- The coordinator that opens and closes

pub closer_replaced : (old new : Callers) → HaveNumbers old → new.clients.items ≡ old.clients.items → new.desks.items ≡ old.desks.items → new.closer.list.client ≡ old.closer.list.client
    → Replaces closer new.closer.list old new
closer_replaced old new numbers clients desks client =
    record {
      here = refl;
      others = λ e among other. same_list (nat_lt e.0 16) (nat_eq e.0 16) (slice_get new.clients.items e.0) (slice_get old.clients.items e.0) new.closer.list.entries old.closer.list.entries (slice_get new.desks.items (e.0 - 17)) (slice_get old.desks.items (e.0 - 17))
          (λ _. ap (λ (l : List Client). slice_get l e.0) clients)
          (λ _ same. absurd (closer_not e other same))
          (λ _ _. ap (λ (l : List Desk). slice_get l (e.0 - 17)) desks);
      clients = ap length clients;
      desks = ap length desks;
      numbers = record {
        clients = λ j c at. numbers.clients j c (sym (ap (λ (l : List Client). slice_get l j) clients) ∙ at);
        closer_is = client ∙ numbers.closer_is;
        desks = λ j d at. numbers.desks j d (sym (ap (λ (l : List Desk). slice_get l j) desks) ∙ at);
      };
    }
  where
    closer_not : (e : ClientNo) → client_same e closer ≡ false → nat_eq e.0 16 ≡ true → ⊥
    closer_not e other same = let both : true ≡ false = sym same ∙ other in absurd cc

pub closer_among : (start : Start) (script : Script) (old new : Callers) → AreCallers start script old → new.clients.items ≡ old.clients.items → new.desks.items ≡ old.desks.items → IsOfRecovery start new.closer.list
    → AreCallers start script new
closer_among start script old new are clients desks list =
    record {
      count = ap length clients ∙ are.count;
      clients = λ j c at. are.clients j c (sym (ap (λ (l : List Client). slice_get l j) clients) ∙ at);
      begins = λ j c at. are.begins j c (sym (ap (λ (l : List Client). slice_get l j) clients) ∙ at);
      desks = λ j d at. are.desks j d (sym (ap (λ (l : List Desk). slice_get l j) desks) ∙ at);
      closer_list = list;
    }

pub same_ready : (start : Start) (script : Script) (old new : Callers) → new.clients.items ≡ old.clients.items → AreReady start script old → AreReady start script new
same_ready start script old new clients ready = λ j c at. ready j c (sym (ap (λ (l : List Client). slice_get l j) clients) ∙ at)
