-- Over the changes one by one, back to the last sync and on again.
use Rattle.std.proofs.Common.{◌≡◌, ◌≤◌, ◌<◌, get_or, ℕ, zero, suc, ◌+◌, ◌-◌, List, [], ◌∷◌, ◌++◌, length, take, drop, reverse, refl, sym, ◌∙◌, ap, subst, arith, append_assoc, length-append, length-take, length-drop}
use Rattle.std.proofs.lemmas.List.{drop_more, reverse-append, take_more}
use Rattle.mn_memdisk.specs.Crash.{IsLeft, crashed, left, outcome_of, unsynced}
use Rattle.mn_memdisk.specs.Events.{HavePieces, IsBack, IsKept, events_of, first_of, events_with}
use Rattle.mn_memdisk.specs.Held.{Held, Fits, IsBounded, but_last, event_of, event_with, last, piece_of, shown, size_of, undone}
use Rattle.mn_memdisk.specs.History.{Event}
use Rattle.mn_memdisk.specs.declared.changes.Change.{Change}
use Rattle.mn_memdisk.specs.declared.outcome.Outcome.{Outcome}
use Rattle.mn_memdisk.specs.declared.changes.Change.TheVariants.{Wrote, LostWrite, Shortened, LostCut, Synced}
use Rattle.mn_memdisk.proofs.Growth.{bounded_of, shown_of}
use Rattle.mn_memdisk.proofs.Writing.{but_last_of, last_of}

length-piece : (held : Held) (x : Change) → Fits x held → size_of x ≡ length (piece_of held x)
length-piece held (Wrote at count grown before) fits = omega (arith, fits.0, length-take count (drop at held.bytes), length-drop at held.bytes)
length-piece held (LostWrite at count) fits = omega (arith, length-drop (length held.saved - count) held.saved)
length-piece held (Shortened n before) fits = refl
length-piece held (LostCut n) fits = refl
length-piece held Synced fits = refl

-- the change of a number is the newest of those up to it
reversed : (xs : List Change) (number i : ℕ) (d : Change) → number ≡ i + 1 → i < length xs → reverse (take number xs) ≡ get_or xs i d ∷ reverse (take i xs)
reversed xs number i d is lt = ap (λ n. reverse (take n xs)) is ∙ ap reverse (take_more xs i d lt) ∙ reverse-append (take i xs) (get_or xs i d ∷ [])

-- the newest change that isn't undone yet, and those before it
pub newest_kept : (xs : List Change) (number : ℕ) (d : Change) (held : Held) → 0 < number → number ≤ length xs → IsKept (reverse (take number xs)) held → IsKept (get_or xs (number - 1) d ∷ reverse (take (number - 1) xs)) held
newest_kept xs number d held some within kept = subst (λ (l : List Change). IsKept l held) (reversed xs number (number - 1) d (omega arith) (omega arith)) kept

pub bounded_before : (x : Change) (older : List Change) (held : Held) → IsKept (x ∷ older) held → IsBounded (undone x held)
bounded_before x older held kept = bounded_of older (undone x held) kept.1

-- one change more is undone
pub back_next : (xs : List Change) (number : ℕ) (d : Change) (pieces pieces2 : List ℕ) (old held held2 : Held) → 0 < number → number ≤ length xs → IsBack number xs pieces old held
    → pieces2 ≡ pieces ++ piece_of held (get_or xs (number - 1) d) → held2 ≡ undone (get_or xs (number - 1) d) held → IsBack (number - 1) xs pieces2 old held2
back_next xs number d pieces pieces2 old held held2 some within back pieces_are held_is =
    let i = number - 1 in
    let is : number ≡ i + 1 = omega arith in
    let x = get_or xs i d in
    let older = reverse (take i xs) in
    let newer = drop number xs in
    let kept : IsKept (x ∷ older) held = newest_kept xs number d held some within back.kept in
    let piece = piece_of held x in
    let size = length-piece held x kept.0.fits in
    let front : but_last (size_of x) pieces2 ≡ pieces = ap (λ (l : List ℕ). but_last (size_of x) l) pieces_are ∙ but_last_of (size_of x) pieces piece size in
    let end : last (size_of x) pieces2 ≡ piece = ap (λ (l : List ℕ). last (size_of x) l) pieces_are ∙ last_of (size_of x) pieces piece size in
    let dropped : drop i xs ≡ x ∷ newer = drop_more xs i d (omega arith) ∙ ap (λ n. x ∷ drop n xs) (sym is) in
    let turned : reverse (take number xs) ≡ x ∷ older = reversed xs number i d is (omega arith) in
    let told_is : events_with (drop i xs) pieces2 ≡ events_with newer pieces ++ event_of held x ∷ [] =
    ap (λ (l : List Change). events_with l pieces2) dropped ∙ (λ k. events_with newer (front k) ++ event_with x (end k) ∷ []) in
    record {
      kept = subst (λ (h : Held). IsKept older h) (sym held_is) kept.1;
      first = back.first ∙ ap (λ (l : List Change). first_of l held) turned ∙ ap (λ (h : Held). first_of older h) (sym held_is);
      events =
          back.events ∙ ap (λ (l : List Change). events_with newer pieces ++ events_of l held) turned ∙ sym (append_assoc (events_with newer pieces) (event_of held x ∷ []) (events_of older (undone x held)))
          ∙ (λ k. sym told_is k ++ events_of older (sym held_is k));
      there = subst (λ (l : List Change). HavePieces l pieces2) (sym dropped)
          (omega (arith, size, ap length pieces_are, length-append pieces piece), subst (λ (l : List ℕ). HavePieces newer l) (sym front) back.there);
    }

-- what a crash leaves, over one change more that is no sync
left_step : (choice : ℕ) (first piece : List ℕ) (x : Change) (older : List Event) → (x ≡ Synced → ⊥) → crashed choice first (event_with x piece ∷ older) ≡ left (outcome_of choice (unsynced older)) (event_with x piece) (crashed choice first older)
left_step choice first piece (Wrote at count grown before) older h = refl
left_step choice first piece (LostWrite at count) older h = refl
left_step choice first piece (Shortened n before) older h = refl
left_step choice first piece (LostCut n) older h = refl
left_step choice first piece Synced older h = absurd (h refl)

since_step : (piece : List ℕ) (x : Change) (older : List Event) → (x ≡ Synced → ⊥) → unsynced (event_with x piece ∷ older) ≡ suc (unsynced older)
since_step piece (Wrote at count grown before) older h = refl
since_step piece (LostWrite at count) older h = refl
since_step piece (Shortened n before) older h = refl
since_step piece (LostCut n) older h = refl
since_step piece Synced older h = absurd (h refl)

-- the oldest of the changes that are to be shown, with its bytes
pub there_next : (xs : List Change) (i : ℕ) (d : Change) (pieces : List ℕ) → i < length xs → HavePieces (drop i xs) pieces → HavePieces (get_or xs i d ∷ drop (i + 1) xs) pieces
there_next xs i d pieces lt there = subst (λ (l : List Change). HavePieces l pieces) (drop_more xs i d lt) there

pub told_next : (xs : List Change) (i : ℕ) (d : Change) (pieces : List ℕ) (older : List Event) → i < length xs
    → events_with (drop i xs) pieces ++ older ≡ events_with (drop (i + 1) xs) (but_last (size_of (get_or xs i d)) pieces) ++ event_with (get_or xs i d) (last (size_of (get_or xs i d)) pieces) ∷ older
told_next xs i d pieces older lt =
    let x = get_or xs i d in
    ap (λ (l : List Change). events_with l pieces ++ older) (drop_more xs i d lt) ∙ append_assoc (events_with (drop (i + 1) xs) (but_last (size_of x) pieces)) (event_with x (last (size_of x) pieces) ∷ []) older

pub left_next : (choice count : ℕ) (first piece image image2 : List ℕ) (x : Change) (older : List Event) (outcome : Outcome) → (x ≡ Synced → ⊥) → IsLeft choice first count older image
    → outcome ≡ outcome_of choice count → image2 ≡ left outcome (event_with x piece) image → IsLeft choice first (count + 1) (event_with x piece ∷ older) image2
left_next choice count first piece image image2 x older outcome other so_far picked done = record {
  bytes = done ∙ (λ k. left (picked k) (event_with x piece) (so_far.bytes k)) ∙ ap (λ (n : ℕ). left (outcome_of choice n) (event_with x piece) (crashed choice first older)) (sym so_far.since) ∙ sym (left_step choice first piece x older other);
  since = since_step piece x older other ∙ omega (arith, so_far.since);
}

-- at the last sync, or before any, a crash leaves the content
pub left_at : (choice number : ℕ) (xs : List Change) (held : Held) → number ≤ length xs → (0 < number → (d : Change) → get_or xs (number - 1) d ≡ Synced) → IsKept (reverse (take number xs)) held
    → IsLeft choice (first_of (reverse (take number xs)) held) 0 (events_of (reverse (take number xs)) held) (shown held)
left_at choice zero xs held within last kept = record { bytes = refl; since = refl }
left_at choice (suc i) xs held within last kept =
    let one : suc i - 1 ≡ i = omega arith in
    let is : get_or xs i Synced ≡ Synced = ap (λ (k : ℕ). get_or xs k Synced) (sym one) ∙ last (omega arith) Synced in
    let older = reverse (take i xs) in
    let turned : reverse (take (suc i) xs) ≡ Synced ∷ older = reversed xs (suc i) i Synced (omega arith) (omega arith) ∙ ap (λ (x : Change). x ∷ older) is in
    let P : List Change → Type 0 = λ l. IsKept l held → IsLeft choice (first_of l held) 0 (events_of l held) (shown held) in
    subst P (sym turned) (λ k. record { bytes = shown_of older held k.1; since = refl }) kept
