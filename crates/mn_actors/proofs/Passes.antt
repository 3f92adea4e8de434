-- What a pass owns after a step.
use Rattle.std.proofs.Common.{◌≡◌, ◌⊎◌, ℕ, Bool, true, false, Option, Some, None, List, [], ◌∷◌, ◌++◌, refl, sym, ap, ◌∙◌, subst, inl, inr}
use Rattle.mn_base.specs.declared.ids.NodeNo.{NodeNo}
use Rattle.mn_base.specs.declared.ids.ClientNo.{ClientNo}
use Rattle.mn_actors.specs.declared.actor.Actor.{Actor}
use Rattle.mn_actors.specs.declared.clock.View.{View}
use Rattle.mn_actors.specs.Lines.{Line, stands_in, same_actor}
use Rattle.mn_actors.specs.Lists.{held, grow, or_else, Owns, NodeGrows, ClientGrows, IsAppended, IsJoined, IsSplit}
use Rattle.mn_actors.proofs.Growing.{at_actors, same_true}

module _ {E : Type 0} where
  grows_at : (v w : View E) (p : ℕ) (x : Line E) → IsAppended v p x w → (a : Actor) → stands_in a x ≡ true → held w a ≡ grow (held v a) (p, x.entry)
  grows_at v w p x app = at_actors (λ a. held w a ≡ grow (held v a) (p, x.entry)) x
      (λ n is. subst (λ (o : Option NodeNo). NodeGrows v w o (p, x.entry)) is app.node_list)
      (λ c is. subst (λ (o : Option ClientNo). ClientGrows v w o (p, x.entry)) is app.client_list)

  owns_grown : (v w : View E) (p : ℕ) (x : Line E) → IsAppended v p x w → (a : Actor) → Owns v a → (b : Bool) → stands_in a x ≡ b → Owns w a
  owns_grown v w p x app a o true is = (o.0 ++ (p, x.entry) ∷ [], grows_at v w p x app a is ∙ ap (λ (h : Option (List (ℕ × E))). grow h (p, x.entry)) o.1)
  owns_grown v w p x app a o false is = (o.0, app.others a is ∙ o.1)

  pub append_keeps : (v w : View E) (p : ℕ) (x : Line E) → IsAppended v p x w → (a : Actor) → Owns v a → Owns w a
  append_keeps v w p x app a o = owns_grown v w p x app a o (stands_in a x) refl

  split_at : (v w u : View E) (a b : Actor) → IsSplit v a w u → Owns v b → (t : Bool) → same_actor b a ≡ t → Owns w b ⊎ Owns u b
  split_at v w u a b split o true is =
      let same : b ≡ a = same_true b a is in
      inr (subst (Owns u) (sym same) (o.0, split.given.0 ∙ (ap (held v) (sym same) ∙ o.1)))
  split_at v w u a b split o false is = inl (o.0, (split.others b is).0 ∙ o.1)

  pub split_keeps : (v w u : View E) (a : Actor) → IsSplit v a w u → (b : Actor) → Owns v b → Owns w b ⊎ Owns u b
  split_keeps v w u a split b o = split_at v w u a b split o (same_actor b a) refl

  pub join_keeps : (v w u : View E) → IsJoined v w u → (a : Actor) → Owns v a → Owns u a
  join_keeps v w u join a o = (o.0, join.lists a ∙ (rw o.1 refl))

  owns_either : (h k : Option (List (ℕ × E))) → (l : List (ℕ × E)) × (k ≡ Some l) → (l : List (ℕ × E)) × (or_else h k ≡ Some l)
  owns_either None k o = o
  owns_either (Some l) k o = (l, refl)

  pub join_takes : (v w u : View E) → IsJoined v w u → (a : Actor) → Owns w a → Owns u a
  join_takes v w u join a o = let e = owns_either (held v a) (held w a) o in (e.0, join.lists a ∙ e.1)
