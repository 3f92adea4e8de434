-- What the callers of a script leave is a log of the script.
use Rattle.std.proofs.Common.{◌≡◌, ℕ, ◌+◌, ◌-◌, ◌<◌, ◌≤◌, Bool, true, false, Option, Some, None, List, [], ◌∷◌, map, refl, sym, ap, ◌∙◌, subst, arith, if◌then◌else◌, ltb, nat_eq, nat_lt}
use Rattle.std.specs.Prelude.{IsTrue, filter, slice_get}
use Rattle.std.specs.List.{AllByRecursion}
use Rattle.std.specs.Option.{option_map_or}
use Rattle.std.proofs.lemmas.Bool.{lt-ltb, ltb-false, ltb-true}
use Rattle.mn_actors.specs.declared.actor.Actor.TheVariants.{Client as Calls}
use Rattle.mn_actors.specs.Lines.{Line, is_client, stands_in}
use Rattle.mn_actors.specs.Log.{IsManned, entries_from}
use Rattle.mn_base.specs.Ids.{client_same}
use Rattle.mn_base.specs.declared.ids.ClientNo.{ClientNo}
use Rattle.mn_cell.specs.Runs.{placed_from}
use Rattle.mn_script.specs.Script.{Script}
use Rattle.mn_runs.specs.declared.entry.Entry.{Entry}
use Rattle.mn_runs.specs.Calls.{begun_of, client_entries, is_by}
use Rattle.mn_runs.specs.Clients.{recovers_nothing}
use Rattle.mn_runs.specs.Protocol.{Start, entries_of}
use Rattle.mn_callers.specs.declared.client.Client.{Client}
use Rattle.mn_callers.specs.declared.desk.Desk.{Desk}
use Rattle.mn_callers.specs.declared.callers.Callers.{Callers}
use Rattle.mn_callers.specs.Acts.{BeginsFirst, ops_by}
use Rattle.mn_callers.specs.Plays.{AreCallers, list_by}
use Rattle.mn_callers.specs.Trace.{IsOfScript}
use Rattle.mn_callers.specs.Turn.{callers_count}
use Rattle.mn_callers.proofs.Orders.{first_none}
use Rattle.mn_callers.proofs.Replacing.{list_of}

-- where nothing was done
pub nothing_of : (script : Script) → IsOfScript script []
nothing_of script = record { plain = λ c below. refl; begins = λ c. refl }

-- A client's entries

abbrev entry_in : ℕ × Entry → Entry
entry_in p = p.1

pub client_from : (c : ClientNo) (p : ℕ) (log : List (Line Entry)) → AllByRecursion (λ x. x.entry.client ≡ x.client) log
    → filter (is_by c) (map entry_in (placed_from p log)) ≡ map entry_in (entries_from p (Calls c) log)
client_from c p [] named = refl
client_from c p (x ∷ log) named = by (is_by c x.entry) (stands_in (Calls c) x) same _ _ (client_from c (p + 1) log named.1)
  where
    told : (o : Option ClientNo) → option_map_or (client_same c) o false ≡ is_client o c
    told None = refl
    told (Some d) = refl

    same : is_by c x.entry ≡ stands_in (Calls c) x
    same = ap (λ (o : Option ClientNo). option_map_or (client_same c) o false) named.0 ∙ told x.client

    by : (a b : Bool) → a ≡ b → (es : List Entry) (l : List (ℕ × Entry)) → es ≡ map entry_in l → (if a then x.entry ∷ es else es) ≡ map entry_in (if b then (p, x.entry) ∷ l else l)
    by true true e es l is = ap (λ (k : List Entry). x.entry ∷ k) is
    by false false e es l is = is
    by true false e es l is = absurd cc
    by false true e es l is = absurd cc

-- no line is of an actor that the board lacks
pub none_from : (nodes clients p : ℕ) (c : ClientNo) (log : List (Line Entry)) → clients ≤ c.0 → AllByRecursion (IsManned nodes clients) log → entries_from p (Calls c) log ≡ []
none_from nodes clients p c [] beyond manned = refl
none_from nodes clients p c (x ∷ log) beyond manned = by (stands_in (Calls c) x) refl (none_from nodes clients (p + 1) c log beyond manned.1)
  where
    by : (b : Bool) → stands_in (Calls c) x ≡ b → entries_from (p + 1) (Calls c) log ≡ [] → (if b then (p, x.entry) ∷ entries_from (p + 1) (Calls c) log else entries_from (p + 1) (Calls c) log) ≡ []
    by true stands none = let below : c.0 < clients = manned.0.on_board (Calls c) stands in absurd (omega (arith, below, beyond))
    by false stands none = none

-- What each caller's list says

module _ (start : Start) (script : Script) (callers : Callers) (are : AreCallers start script callers) where
  by_client : (c : ClientNo) (o : Option Client) → slice_get callers.clients.items c.0 ≡ o
      → BeginsFirst (ops_by script.clients c) (entries_of (option_map_or (λ (k : Client). k.list.entries) o [])) × IsTrue (recovers_nothing (entries_of (option_map_or (λ (k : Client). k.list.entries) o [])))
  by_client c None at = (refl, refl)
  by_client c (Some k) at = (are.begins c.0 k at, (are.clients c.0 k at).plain)

  by_desk : (c : ClientNo) (j : ℕ) (o : Option Desk) → slice_get callers.desks.items j ≡ o → BeginsFirst (ops_by script.clients c) (entries_of (option_map_or (λ (d : Desk). d.list.entries) o []))
  by_desk c j None at = refl
  by_desk c j (Some d) at = first_none (ops_by script.clients c) (entries_of d.list.entries) (are.desks j d at).list.begins_none

  list_begins : (c : ClientNo) → BeginsFirst (ops_by script.clients c) (entries_of (list_by callers c))
  list_begins c = by (nat_lt c.0 16) (nat_eq c.0 16)
    where
      by : (x y : Bool) → BeginsFirst (ops_by script.clients c) (entries_of (list_of x y (slice_get callers.clients.items c.0) callers.closer.list.entries (slice_get callers.desks.items (c.0 - 17))))
      by true y = (by_client c (slice_get callers.clients.items c.0) refl).0
      by false true = first_none (ops_by script.clients c) (entries_of callers.closer.list.entries) are.closer_list.begins_none
      by false false = by_desk c (c.0 - 17) (slice_get callers.desks.items (c.0 - 17)) refl

  list_plain : (c : ClientNo) → c.0 < 16 → IsTrue (recovers_nothing (entries_of (list_by callers c)))
  list_plain c below =
      subst (λ (b : Bool). IsTrue (recovers_nothing (entries_of (list_of b (nat_eq c.0 16) (slice_get callers.clients.items c.0) callers.closer.list.entries (slice_get callers.desks.items (c.0 - 17))))))
      (sym (lt-ltb c.0 16 below)) (by_client c (slice_get callers.clients.items c.0) refl).1

  -- a log of these lists is of the script
  pub log_of_script : (past : List Entry) → ((c : ClientNo) → c.0 < callers_count → client_entries c past ≡ entries_of (list_by callers c)) → ((c : ClientNo) → callers_count ≤ c.0 → client_entries c past ≡ [])
      → IsOfScript script past
  log_of_script past own none = record {
    plain = λ c below. subst (λ (es : List Entry). IsTrue (recovers_nothing es)) (sym (own c (omega arith))) (list_plain c below);
    begins = λ c. by c (ltb c.0 callers_count) refl;
  }
    where
      by : (c : ClientNo) (b : Bool) → ltb c.0 callers_count ≡ b → BeginsFirst (ops_by script.clients c) (client_entries c past)
      by c true is = subst (BeginsFirst (ops_by script.clients c)) (sym (own c (ltb-true c.0 callers_count is))) (list_begins c)
      by c false is = first_none (ops_by script.clients c) (client_entries c past) (ap begun_of (none c (ltb-false c.0 callers_count is)))
