-- One entry of a node and a client: the node's view joins the client's, grows, and splits off.
use Rattle.std.proofs.Common.{◌≡◌, ℕ, false, Option, Some, None, List, [], ◌∷◌, ◌++◌, eqb, refl, sym, ap, ◌∙◌, subst, ⊎_elim, ne_eqb}
use Rattle.std.proofs.lemmas.Bool.{cases_eq}
use Rattle.mn_base.specs.declared.ids.NodeNo.{NodeNo}
use Rattle.mn_base.specs.declared.ids.ClientNo.{ClientNo}
use Rattle.mn_actors.specs.declared.actor.Actor.{Actor}
use Rattle.mn_actors.specs.declared.actor.Actor.TheVariants.{Node, Client}
use Rattle.mn_actors.specs.declared.clock.View.{View}
use Rattle.mn_actors.specs.Lines.{Line, line, same_actor}
use Rattle.mn_actors.specs.Lists.{held, grow, or_else, or_empty, Owns, HasRoom, MayAppend, IsJoined, IsAppended, IsSameLists, IsSplit}
use Rattle.mn_actors.specs.Look.{IsOfLog}
use Rattle.mn_actors.specs.Rule.{list_of}
use Rattle.mn_cell.specs.Passes.{AreOfOneLog, ListHasGrown, OwnsJust}

module _ {E : Type 0} (n : NodeNo) (c : ClientNo) (own v j : View E) (owns : OwnsJust own (Node n)) (owns' : OwnsJust v (Client c)) (join : IsJoined v own j) where
  node_joined : held j (Node n) ≡ held own (Node n)
  node_joined = join.lists (Node n) ∙ ap (λ (o : Option (List (ℕ × E))). or_else o (held own (Node n))) (owns'.1 (Node n) refl)

  client_joined : held j (Client c) ≡ held v (Client c)
  client_joined = let o = owns'.0 in join.lists (Client c) ∙ (rw o.1 refl)

  pub may : (legal : List (ℕ × E) → List (ℕ × E) → Line E → Type 0) (e : E) → HasRoom own (Node n) → HasRoom v (Client c)
      → legal (or_empty (held own (Node n))) (or_empty (held v (Client c))) (line (Some n) (Some c) e) → MayAppend legal j (line (Some n) (Some c) e)
  may legal e room room' is_legal = record {
    some_actor = tt;
    node_room = (room.0, node_joined ∙ room.1, room.2);
    client_room = (room'.0, client_joined ∙ room'.1, room'.2);
    is_legal = subst (λ (p : List (ℕ × E) × List (ℕ × E)). legal p.0 p.1 (line (Some n) (Some c) e)) (λ i. (ap or_empty (sym node_joined) i, ap or_empty (sym client_joined) i)) is_legal;
  }

  module _ (p : ℕ) (e : E) (w : View E) (app : IsAppended j p (line (Some n) (Some c) e) w) where
    node_grown : held w (Node n) ≡ grow (held own (Node n)) (p, e)
    node_grown = app.node_list ∙ ap (λ (o : Option (List (ℕ × E))). grow o (p, e)) node_joined

    client_grown : held w (Client c) ≡ grow (held v (Client c)) (p, e)
    client_grown = app.client_list ∙ ap (λ (o : Option (List (ℕ × E))). grow o (p, e)) client_joined

    owns_grown : (u : View E) (a : Actor) (o : Option (List (ℕ × E))) → (l : List (ℕ × E)) × (o ≡ Some l) → held u a ≡ grow o (p, e) → Owns u a
    owns_grown u a o l is = (l.0 ++ (p, e) ∷ [], is ∙ ap (λ (h : Option (List (ℕ × E))). grow h (p, e)) l.1)

    pub owns_node : Owns w (Node n)
    owns_node = owns_grown w (Node n) (held own (Node n)) owns.0 node_grown

  module _ (p : ℕ) (e : E) (w rest part : View E) (app : IsAppended j p (line (Some n) (Some c) e) w) (split : IsSplit w (Node n) rest part) where
    part_node : held part (Node n) ≡ grow (held own (Node n)) (p, e)
    part_node = split.given.0 ∙ node_grown p e w app

    pub node_longer : ListHasGrown own (Node n) (p, e) part
    node_longer = (part_node, (owns_grown p e w app part (Node n) (held own (Node n)) owns.0 part_node, λ b not. (split.others b not).1), split.known.1 ∙ app.known)

    rest_client : held rest (Client c) ≡ grow (held v (Client c)) (p, e)
    rest_client = (split.others (Client c) refl).0 ∙ client_grown p e w app

    none_joined : (b : Actor) → held v b ≡ None → held own b ≡ None → held j b ≡ None
    none_joined b x y = join.lists b ∙ (rw (x, y) refl)

    nothing_else : (b : Actor) → same_actor b (Client c) ≡ false → held rest b ≡ None
    nothing_else (Node k) not = ⊎_elim
        (λ (is : k.0 ≡ n.0). subst (λ (i : NodeNo). held rest (Node i) ≡ None) (λ i. record { 0 = sym is i }) split.given.1)
        (λ (ne : k.0 ≡ n.0 → ⊥). let apart : eqb k.0 n.0 ≡ false = ne_eqb k.0 n.0 ne in
        (split.others (Node k) apart).0 ∙ (app.others (Node k) apart ∙ none_joined (Node k) (owns'.1 (Node k) refl) (owns.1 (Node k) apart)))
        (cases_eq k.0 n.0)
    nothing_else (Client k) not = (split.others (Client k) refl).0 ∙ (app.others (Client k) not ∙ none_joined (Client k) (owns'.1 (Client k) not) (owns.1 (Client k) refl))

    pub client_longer : ListHasGrown v (Client c) (p, e) rest
    client_longer = (rest_client, (owns_grown p e w app rest (Client c) (held v (Client c)) owns'.0 rest_client, nothing_else), split.known.0 ∙ app.known)

-- Two passes are joined, looked at and split again: they are as before, and their lists are of one
-- log

module _ {E : Type 0} (n : NodeNo) (c : ClientNo) (own v j : View E) (owns : OwnsJust own (Node n)) (owns' : OwnsJust v (Client c)) (join : IsJoined v own j) where
  pub joined_one_log : (legal : List (ℕ × E) → List (ℕ × E) → Line E → Type 0) → IsOfLog legal j → AreOfOneLog legal n c (or_empty (held own (Node n))) (or_empty (held v (Client c)))
  joined_one_log legal of_log = record {
    log = of_log.log;
    legal_log = of_log.legal_log;
    at_node = list_is (Node n) (held own (Node n)) owns.0 (node_joined n c own v j owns owns' join);
    by_client = list_is (Client c) (held v (Client c)) owns'.0 (client_joined n c own v j owns owns' join);
  }
    where
      list_is : (a : Actor) (o : Option (List (ℕ × E))) → (l : List (ℕ × E)) × (o ≡ Some l) → held j a ≡ o → or_empty o ≡ list_of a of_log.log
      list_is a o l is = ap or_empty l.1 ∙ of_log.lists a l.0 (is ∙ l.1)

  pub looked_owns : (looked : View E) → IsSameLists j looked → Owns looked (Node n)
  looked_owns looked same = (owns.0.0, same (Node n) ∙ (node_joined n c own v j owns owns' join ∙ owns.0.1))

  module _ (looked rest part : View E) (same : IsSameLists j looked) (split : IsSplit looked (Node n) rest part) where
    part_is : held part (Node n) ≡ held own (Node n)
    part_is = split.given.0 ∙ (same (Node n) ∙ node_joined n c own v j owns owns' join)

    pub part_lists : IsSameLists own part
    part_lists (Node k) = ⊎_elim
        (λ (is : k.0 ≡ n.0). subst (λ (i : NodeNo). held part (Node i) ≡ held own (Node i)) (λ i. record { 0 = sym is i }) part_is)
        (λ (ne : k.0 ≡ n.0 → ⊥). let apart : eqb k.0 n.0 ≡ false = ne_eqb k.0 n.0 ne in
        (split.others (Node k) apart).1 ∙ sym (owns.1 (Node k) apart))
        (cases_eq k.0 n.0)
    part_lists (Client k) = (split.others (Client k) refl).1 ∙ sym (owns.1 (Client k) refl)

    none_else : (b : Actor) → held v b ≡ None → held own b ≡ None → held j b ≡ None
    none_else b x y = join.lists b ∙ (rw (x, y) refl)

    rest_node : (k : NodeNo) → held rest (Node k) ≡ None
    rest_node k = ⊎_elim
        (λ (is : k.0 ≡ n.0). subst (λ (i : NodeNo). held rest (Node i) ≡ None) (λ i. record { 0 = sym is i }) split.given.1)
        (λ (ne : k.0 ≡ n.0 → ⊥). let apart : eqb k.0 n.0 ≡ false = ne_eqb k.0 n.0 ne in
        (split.others (Node k) apart).0 ∙ (same (Node k) ∙ none_else (Node k) (owns'.1 (Node k) refl) (owns.1 (Node k) apart)))
        (cases_eq k.0 n.0)

    keeps_client : (o : Option (List (ℕ × E))) → or_else o None ≡ o
    keeps_client None = refl
    keeps_client (Some l) = refl

    pub rest_lists : IsSameLists v rest
    rest_lists (Node k) = rest_node k ∙ sym (owns'.1 (Node k) refl)
    rest_lists (Client k) = (split.others (Client k) refl).0 ∙ (same (Client k) ∙ (join.lists (Client k) ∙ (ap (λ (o : Option (List (ℕ × E))). or_else (held v (Client k)) o) (owns.1 (Client k) refl) ∙ keeps_client (held v (Client k)))))

-- a pass with the same lists owns the same actor alone
pub same_owns : {E : Type 0} (v w : View E) (a : Actor) → IsSameLists v w → OwnsJust v a → OwnsJust w a
same_owns v w a same owns = ((owns.0.0, same a ∙ owns.0.1), λ b not. same b ∙ owns.1 b not)

pub same_lists : {E : Type 0} (v w u : View E) → IsSameLists v w → IsSameLists w u → IsSameLists v u
same_lists v w u one two a = two a ∙ one a
