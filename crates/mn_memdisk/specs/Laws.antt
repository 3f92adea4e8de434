-- The history of a disk in memory is that of a disk.
use Rattle.std.specs.Prelude.{◌≤◌, ◌≡◌, ℕ, zero, suc, ◌+◌, List, [], ◌∷◌, ◌++◌, length, take, drop}
use Rattle.std.proofs.Common.{refl, sym, ◌∙◌, ap, subst, arith, append_assoc, length-append}
use Rattle.std.proofs.Common.{length-take, length-drop}
use Rattle.std.proofs.lemmas.List.{take_at, drop_at, take_all, length-take-le}
use Rattle.mn_io.specs.DiskModel.{IsDisk, Torn, Cut, written_at}
use Rattle.mn_memdisk.specs.History.{Event, write, lost_write, shorten, lost_cut, synced, after}
use Rattle.mn_memdisk.specs.History.{content_of, EventShows, IsImage, IsWithin, IsSound, disk_after}

pub torn_same : (at n : ℕ) (d : List ℕ) → Torn at n d d
torn_same at n d =
    record { before = refl; after = refl; no_shorter = omega arith; no_longer = omega arith }

pub cut_same : (n : ℕ) (d : List ℕ) → Cut n d d
cut_same n d = record { no_shorter = omega arith; front = take_all (length d) d (omega arith) }

pub cut_part : (n m : ℕ) (d : List ℕ) → n ≤ m → Cut n d (take m d)
cut_part n m d h = record { no_shorter = omega (arith, length-take m d); front = taken m d }
  where
    taken : (n : ℕ) (d : List ℕ) → take (length (take n d)) d ≡ take n d
    taken zero d = refl
    taken (suc n) [] = refl
    taken (suc n) (x ∷ d) = ap (λ (l : List ℕ). x ∷ l) (taken n d)

pub torn_done : (at : ℕ) (d piece : List ℕ) → at ≤ length d
    → Torn at (length piece) d (written_at d at piece)
torn_done at d piece within =
    let front : length (take at d) ≡ at = length-take-le at d within in
    let behind = drop (at + length piece) d in
    let all = length-append (take at d) (piece ++ behind) in
    let rest = length-append piece behind in
    let tail = length-drop (at + length piece) d in
    record {
      before = take_at (take at d) (piece ++ behind) at front;
      after =
          ap (λ (l : List ℕ). drop (at + length piece) l)
          (sym (append_assoc (take at d) piece behind))
          ∙ drop_at (take at d ++ piece) behind (at + length piece)
          (omega (arith, front, length-append (take at d) piece));
      no_shorter = omega (arith, front, all, rest, tail);
      no_longer = omega (arith, front, all, rest, tail);
    }

-- what an event does to the content, a crash may show of it
shows_after : (event : Event) (content : List ℕ) → IsWithin event content
    → EventShows event content content (after event content)
shows_after (write at piece) content within = torn_done at content piece within
shows_after (lost_write at piece) content within = torn_same at (length piece) content
shows_after (shorten n) content within = cut_part n n content (omega arith)
shows_after (lost_cut n) content within = cut_same n content
shows_after synced content within = refl

-- what a read gives is an image
pub content_image : (first : List ℕ) (events : List Event) → IsSound first events
    → IsImage first events (content_of first events)
content_image first [] sound = refl
content_image first (event ∷ older) sound = (
  content_of first older,
  content_image first older sound.1,
  shows_after event
      (content_of first older) sound.0,
)

pub is_disk_of : (first : List ℕ) (events : List Event) (content : List ℕ)
    → (IsSound first events × (content ≡ content_of first events))
    → IsDisk (disk_after first events content)
is_disk_of first events content honest = record {
  read = subst (IsImage first events) (sym honest.1) (content_image first events honest.0);
  counts_now = λ t c le now. (0, omega (arith, le), now);
  only_now =
      λ c left. let none : left.0 ≡ 0 =
      omega (arith, left.1) in subst (λ (j : ℕ). IsImage first (drop j events) c) none left.2;
}
