-- One change more.
use Rattle.std.proofs.Common.{◌≡◌, ◌≤◌, ◌⊎◌, inl, inr, ℕ, zero, suc, ◌+◌, List, [], ◌∷◌, ◌++◌, length, drop, reverse, refl, sym, ◌∙◌, ap, subst, arith}
use Rattle.std.proofs.lemmas.List.{reverse-append}
use Rattle.mn_io.specs.DiskModel.{Elapses}
use Rattle.mn_memdisk.specs.Laws.{content_image}
use Rattle.mn_memdisk.specs.Events.{IsKept, events_of, first_of}
use Rattle.mn_memdisk.specs.Held.{Held, Follows, IsBounded, event_of, shown, undone}
use Rattle.mn_memdisk.specs.History.{Event, after, content_of, EventShows, IsImage, IsWithin, IsSound, disk_after}
use Rattle.mn_memdisk.specs.declared.changes.Change.{Change}

pub bounded_of : (changes : List Change) (held : Held) → IsKept changes held → IsBounded held
bounded_of [] held kept = kept
bounded_of (x ∷ older) held kept = kept.0.bounded

-- what a read gives is what the events make of the first bytes
pub shown_of : (changes : List Change) (held : Held) → IsKept changes held → shown held ≡ content_of (first_of changes held) (events_of changes held)
shown_of [] held kept = refl
shown_of (x ∷ older) held kept = kept.0.done ∙ ap (λ (l : List ℕ). after (event_of held x) l) (shown_of older (undone x held) kept.1)

pub sound_of : (changes : List Change) (held : Held) → IsKept changes held → IsSound (first_of changes held) (events_of changes held)
sound_of [] held kept = tt
sound_of (x ∷ older) held kept = (subst (λ (l : List ℕ). IsWithin (event_of held x) l) (shown_of older (undone x held) kept.1) kept.0.within, sound_of older (undone x held) kept.1)

pub honest_of : (changes : List Change) (held : Held) → IsKept changes held → IsSound (first_of changes held) (events_of changes held) × (shown held ≡ content_of (first_of changes held) (events_of changes held))
honest_of changes held kept = (sound_of changes held kept, shown_of changes held kept)

-- what a read gives is an image
pub shown_image : (changes : List Change) (held : Held) → IsKept changes held → (c : List ℕ) → c ≡ shown held → IsImage (first_of changes held) (events_of changes held) c
shown_image changes held kept c is =
    subst (λ (l : List ℕ). IsImage (first_of changes held) (events_of changes held) l) (sym (is ∙ shown_of changes held kept)) (content_image (first_of changes held) (events_of changes held) (sound_of changes held kept))

elapses_step : (first : List ℕ) (older : List Event) (e : Event) (content content2 : List ℕ) → IsSound first (e ∷ older) × (content2 ≡ content_of first (e ∷ older)) → Elapses (disk_after first older content) (disk_after first (e ∷ older) content2)
elapses_step first older e content content2 honest = record {
  honest = honest;
  later = omega arith;
  nothing_else = λ t c le left. newer t c le left.0 left.1 left.2;
  keeps = λ t c le left. (suc left.0, omega (arith, left.1), left.2);
}
  where
    newer : (t : ℕ) (c : List ℕ) → t ≤ length older → (j : ℕ) → j + t ≤ length (e ∷ older) → IsImage first (drop j (e ∷ older)) c → (disk_after first older content).since t c ⊎ (disk_after first (e ∷ older) content2).images c
    newer t c le zero within image = inr image
    newer t c le (suc j) within image = inl (j, omega (arith, within), image)

-- a change that follows, behind the others
module _ (old new : Held) (xs ys : List Change) (x : Change) (e : Event) (are : ys ≡ xs ++ x ∷ []) (follows : Follows x e old new) (kept : IsKept (reverse xs) old) where
  newest : reverse ys ≡ x ∷ reverse xs
  newest = ap reverse are ∙ reverse-append xs (x ∷ [])

  first_is : first_of (reverse ys) new ≡ first_of (reverse xs) old
  first_is = ap (λ (l : List Change). first_of l new) newest ∙ ap (λ (h : Held). first_of (reverse xs) h) follows.back

  events_are : events_of (reverse ys) new ≡ e ∷ events_of (reverse xs) old
  events_are = ap (λ (l : List Change). events_of l new) newest ∙ (λ k. follows.stands_for k ∷ events_of (reverse xs) (follows.back k))

  pub kept_push : IsKept (reverse ys) new
  kept_push =
      let own : Follows x (event_of new x) old new = subst (λ (v : Event). Follows x v old new) (sym follows.stands_for) follows in
      subst (λ (l : List Change). IsKept l new) (sym newest) (subst (λ (h : Held). Follows x (event_of new x) h new × IsKept (reverse xs) h) (sym follows.back) (own, kept))

  pub elapses_push : Elapses (disk_after (first_of (reverse xs) old) (events_of (reverse xs) old) (shown old)) (disk_after (first_of (reverse ys) new) (events_of (reverse ys) new) (shown new))
  elapses_push =
      let before = disk_after (first_of (reverse xs) old) (events_of (reverse xs) old) (shown old) in
      let P : List ℕ → List Event → Type 0 = λ f l. (IsSound f l × (shown new ≡ content_of f l)) → Elapses before (disk_after f l (shown new)) in
      let step : P (first_of (reverse xs) old) (e ∷ events_of (reverse xs) old) = elapses_step (first_of (reverse xs) old) (events_of (reverse xs) old) e (shown old) (shown new) in
      subst (λ (f : List ℕ). P f (events_of (reverse ys) new)) (sym first_is) (subst (λ (l : List Event). P (first_of (reverse xs) old) l) (sym events_are) step)
      (honest_of (reverse ys) new kept_push)

  pub image_push : (c : List ℕ) → IsImage (first_of (reverse ys) new) (events_of (reverse ys) new) c → (d : List ℕ) × IsImage (first_of (reverse xs) old) (events_of (reverse xs) old) d × EventShows e (shown old) d c
  image_push c image =
      let left = subst (λ (l : List Event). IsImage (first_of (reverse xs) old) l c) events_are (subst (λ (f : List ℕ). IsImage f (events_of (reverse ys) new) c) first_is image) in
      (left.0, left.1, subst (λ (l : List ℕ). EventShows e l left.0 c) (sym (shown_of (reverse xs) old kept)) left.2)
