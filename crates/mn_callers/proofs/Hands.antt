-- What an actor has in hand goes on: by nothing, by one step after another, and by one entry.
use Rattle.std.proofs.Common.{◌≡◌, ℕ, ◌+◌, ◌≤◌, List, [], ◌∷◌, ◌++◌, reverse, Some, refl, sym, ap, ◌∙◌, subst, arith}
use Rattle.std.proofs.lemmas.List.{append-nil, append_assoc, reverse-append}
use Rattle.std.specs.List.{AllByRecursion}
use Rattle.atomic_table.specs.Seated.{TableId}
use Rattle.mn_actors.specs.declared.actor.Actor.TheVariants.{Client}
use Rattle.mn_actors.specs.Lists.{held}
use Rattle.mn_base.specs.declared.ids.ClientNo.{ClientNo}
use Rattle.mn_base.proofs.Lists.{all_append, weaker}
use Rattle.mn_cell.specs.Passes.{OwnsJust}
use Rattle.mn_runs.specs.declared.entry.Entry.{Entry}
use Rattle.mn_runs.specs.Lists.{ClientState}
use Rattle.mn_callers.specs.Hands.{Fall, Hand, HasTurn, MovesOn}

-- Places

-- places that fall from below one place fall from below any later one
pub falls_from : (known known' : ℕ) (trail : List (ℕ × Entry)) → known ≤ known' → Fall known trail → Fall known' trail
falls_from known known' [] le falls = tt
falls_from known known' (p ∷ trail) le falls = (omega (arith, le, falls.0), falls.1)

-- places from `mid` on fall before those from below it
pub falls_on : (known mid : ℕ) (later own : List (ℕ × Entry)) → Fall known later → AllByRecursion (λ p. mid ≤ p.0) later → mid ≤ known → Fall mid own → Fall known (later ++ own)
falls_on known mid [] own falls above le rest = falls_from mid known own le rest
falls_on known mid (p ∷ later) own falls above le rest = (falls.0, falls_on p.0 mid later own falls.1 above.1 above.0 rest)

-- Lists of other room

abbrev pub with_list : Hand → ClientState → Hand
with_list h list = record { board = h.board; view = h.view; list = list }

pub turn_same : {board : TableId} {ready : Type 0} (h : Hand) → HasTurn board ready h → (list : ClientState) → list.client ≡ h.list.client → list.entries ≡ h.list.entries → HasTurn board ready (with_list h list)
turn_same h turn list client entries = record {
  ready = turn.ready;
  passes = turn.passes;
  owns = subst (λ (c : ClientNo). OwnsJust h.view (Client c)) (sym client) turn.owns;
  list = subst (λ (c : ClientNo). held h.view (Client c) ≡ Some list.entries) (sym client) (turn.list ∙ ap (λ (l : List (ℕ × Entry)). Some l) (sym entries));
}

-- Nothing, one entry, and one after another

module _ {S : Type 0} (went : S → S → List (ℕ × Entry) → Type 0) where
  pub moves_same : ((s : S) → went s s []) → (s : S) (h : Hand) (list : ClientState) → list.client ≡ h.list.client → list.entries ≡ h.list.entries → MovesOn (went s s) h (with_list h list)
  moves_same stays s h list client entries = record {
    own = [];
    client = client;
    list_is = entries ∙ sym (append-nil h.list.entries);
    by = tt;
    later = tt;
    falling = tt;
    known = omega arith;
    went = stays s;
  }

  pub moves_nowhere : ((s : S) → went s s []) → (s : S) (h : Hand) → MovesOn (went s s) h h
  moves_nowhere stays s h = moves_same stays s h h.list refl refl

  pub moves_further : ((a b c : S) (own later : List (ℕ × Entry)) → went a b own → went b c later → went a c (later ++ own)) → (r s t : S) (a b c : Hand)
      → MovesOn (went r s) a b → MovesOn (went s t) b c → MovesOn (went r t) a c
  moves_further goes_on r s t a b c one two = record {
    own = two.own ++ one.own;
    client = two.client ∙ one.client;
    list_is = two.list_is ∙ (ap (λ (l : List (ℕ × Entry)). l ++ reverse two.own) one.list_is ∙ (append_assoc a.list.entries (reverse one.own) (reverse two.own) ∙ ap (λ (l : List (ℕ × Entry)). a.list.entries ++ l) (sym (reverse-append two.own one.own))));
    by = all_append (λ (p : ℕ × Entry). p.1.client ≡ Some a.list.client) two.own one.own (weaker (λ (p : ℕ × Entry). p.1.client ≡ Some b.list.client) (λ (p : ℕ × Entry). p.1.client ≡ Some a.list.client) (λ p is. is ∙ ap (λ (k : ClientNo). Some k) one.client) two.own two.by) one.by;
    later = all_append (λ (p : ℕ × Entry). a.view.known ≤ p.0) two.own one.own (weaker (λ (p : ℕ × Entry). b.view.known ≤ p.0) (λ (p : ℕ × Entry). a.view.known ≤ p.0) (λ p le. omega (arith, le, one.known)) two.own two.later) one.later;
    falling = falls_on c.view.known b.view.known two.own one.own two.falling two.later two.known one.falling;
    known = omega (arith, one.known, two.known);
    went = goes_on r s t one.own two.own one.went two.went;
  }

-- one entry ends the list, at a place from the one that was known, and the place after it is known
pub moves_by_one : (went : List (ℕ × Entry) → Type 0) (old new : Hand) (place : ℕ) (e : Entry) → new.list.client ≡ old.list.client → e.client ≡ Some old.list.client
    → new.list.entries ≡ old.list.entries ++ (place, e) ∷ [] → old.view.known ≤ place → new.view.known ≡ place + 1 → went ((place, e) ∷ []) → MovesOn went old new
moves_by_one went old new place e client by ends later next so = record {
  own = (place, e) ∷ [];
  client = client;
  list_is = ends;
  by = (by, tt);
  later = (later, tt);
  falling = (omega (arith, next), tt);
  known = omega (arith, later, next);
  went = so;
}

-- what the entries did is all that may be said of it
pub as_went : (went other : List (ℕ × Entry) → Type 0) (old new : Hand) → ((own : List (ℕ × Entry)) → went own → other own) → MovesOn went old new → MovesOn other old new
as_went went other old new so moves = record {
  own = moves.own;
  client = moves.client;
  list_is = moves.list_is;
  by = moves.by;
  later = moves.later;
  falling = moves.falling;
  known = moves.known;
  went = so moves.own moves.went;
}

-- nothing was added, and the same place is known
pub moves_still : (went : List (ℕ × Entry) → Type 0) (old new : Hand) → went [] → new.list.client ≡ old.list.client → new.list.entries ≡ old.list.entries → new.view.known ≡ old.view.known → MovesOn went old new
moves_still went old new none client entries known = record {
  own = [];
  client = client;
  list_is = entries ∙ sym (append-nil old.list.entries);
  by = tt;
  later = tt;
  falling = tt;
  known = omega (arith, known);
  went = none;
}

-- the turn stays one, on the same board and through something that is ready
pub with_ready : {board board' : TableId} {ready ready' : Type 0} (h : Hand) → board' ≡ board → HasTurn board ready h → ready' → HasTurn board' ready' h
with_ready h is turn ready = record { ready = ready; passes = turn.passes ∙ sym is; owns = turn.owns; list = turn.list }

pub turn_moved : {board : TableId} {ready : Type 0} (old new : Hand) → ready → new.board ≡ board → new.list.client ≡ old.list.client → OwnsJust new.view (Client old.list.client)
    → held new.view (Client old.list.client) ≡ Some new.list.entries → HasTurn board ready new
turn_moved old new ready passes client owns list = record {
  ready = ready;
  passes = passes;
  owns = subst (λ (c : ClientNo). OwnsJust new.view (Client c)) (sym client) owns;
  list = subst (λ (c : ClientNo). held new.view (Client c) ≡ Some new.list.entries) (sym client) list;
}
