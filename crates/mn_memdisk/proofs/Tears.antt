-- What a choice leaves of a disk is one of its images.
use Rattle.std.proofs.Common.{◌≡◌, ◌≤◌, ◌/◌, ℕ, zero, suc, ◌+◌, ◌-◌, take-take, Bool, true, false, nat_le, if◌then◌else◌, List, [], ◌∷◌, ◌++◌, length, take, drop, replicate, refl, sym, ◌∙◌, ap, arith, length-append, length-take, length-drop}
use Rattle.std.proofs.lemmas.Bool.{leb-true}
use Rattle.std.proofs.lemmas.List.{drop-drop, drop_all, take-append-le, append-nil, length-replicate}
use Rattle.mn_io.specs.DiskModel.{Torn, Cut, written_at}
use Rattle.mn_memdisk.specs.Crash.{filled, part, written, shortened, outcome_of, unsynced, crashed}
use Rattle.mn_memdisk.specs.History.{Event, write, lost_write, shorten, lost_cut, synced, IsImage, IsSound, content_of}
use Rattle.mn_memdisk.specs.Laws.{torn_same, torn_done, cut_same, cut_part, content_image}
use Rattle.mn_memdisk.specs.declared.outcome.Outcome.{Outcome}
use Rattle.mn_memdisk.specs.declared.outcome.Outcome.TheVariants.{Nothing, Whole, Front, Back}

dropped : (n m k : ℕ) (c d : List ℕ) → drop n c ≡ drop n d → n + k ≡ m → drop m c ≡ drop m d
dropped n m k c d e is = let f = λ (l : List ℕ). drop k l in ap (λ (j : ℕ). drop j c) (sym is) ∙ sym (drop-drop k n c) ∙ ap f e ∙ drop-drop k n d ∙ ap (λ (j : ℕ). drop j d) is

-- what a shorter range at the same place allows, the longer one does
torn_wider : (at n m : ℕ) (d c : List ℕ) → n ≤ m → Torn at n d c → Torn at m d c
torn_wider at n m d c le torn = record {
  before = torn.before;
  after = dropped (at + n) (at + m) (m - n) c d torn.after (omega arith);
  no_shorter = torn.no_shorter;
  no_longer = omega (arith, torn.no_longer);
}

taken : (n m : ℕ) (c d : List ℕ) → take m c ≡ take m d → n ≤ m → take n c ≡ take n d
taken n m c d e le = let f = λ (l : List ℕ). take n l in sym (take-take n m c le) ∙ ap f e ∙ take-take n m d le

-- a range that lies in the longer one
torn_inside : (at n at2 n2 : ℕ) (d c : List ℕ) → at ≤ at2 → at2 + n2 ≤ at + n → Torn at2 n2 d c → Torn at n d c
torn_inside at n at2 n2 d c le end torn = record {
  before = taken at at2 c d torn.before le;
  after = dropped (at2 + n2) (at + n) (at + n - (at2 + n2)) c d torn.after (omega arith);
  no_shorter = torn.no_shorter;
  no_longer = omega (arith, torn.no_longer);
}

torn_trans : (at n : ℕ) (d e c : List ℕ) → Torn at n d e → Torn at n e c → Torn at n d c
torn_trans at n d e c first second = record {
  before = second.before ∙ first.before;
  after = second.after ∙ first.after;
  no_shorter = omega (arith, first.no_shorter, second.no_shorter);
  no_longer = omega (arith, first.no_longer, second.no_longer);
}

length-filled : (n : ℕ) (d : List ℕ) → length (filled n d) ≡ length d + (n - length d)
length-filled n d = length-append d (replicate (n - length d) 0) ∙ ap (λ (k : ℕ). length d + k) (length-replicate {A = ℕ} (n - length d) 0)

torn_filled : (at n m : ℕ) (d : List ℕ) → at ≤ length d → m ≤ at + n → Torn at n d (filled m d)
torn_filled at n m d within le = record {
  before = take-append-le at d (replicate (m - length d) 0) within;
  after = behind (m - length d) refl;
  no_shorter = omega (arith, length-filled m d);
  no_longer = omega (arith, length-filled m d);
}
  where
    behind : (k : ℕ) → k ≡ m - length d → drop (at + n) (d ++ replicate k 0) ≡ drop (at + n) d
    behind zero e = ap (λ (l : List ℕ). drop (at + n) l) (append-nil d)
    behind (suc k) e =
        drop_all (at + n) (d ++ replicate (suc k) 0) (omega (arith, e, length-append d (replicate (suc k) 0), length-replicate {A = ℕ} (suc k) 0)) ∙ sym (drop_all (at + n) d (omega (arith, e)))

part_torn : (outcome : Outcome) (at : ℕ) (piece d : List ℕ) → at ≤ length d → Torn at (length piece) d (part outcome at piece d)
part_torn Nothing at piece d within = torn_same at (length piece) d
part_torn Whole at piece d within = torn_done at d piece within
part_torn Front at piece d within =
    let half = take (length piece / 2) piece in
    torn_wider at (length half) (length piece) d (written_at d at half) (omega (arith, length-take (length piece / 2) piece)) (torn_done at d half within)
part_torn Back at piece d within =
    let half = length piece / 2 in
    let rest = drop half piece in
    let full = filled (at + half) d in
    torn_trans at (length piece) d full (written_at full (at + half) rest)
    (torn_filled at (length piece) (at + half) d within (omega arith))
    (torn_inside at (length piece) (at + half) (length rest) full (written_at full (at + half) rest) (omega arith) (omega (arith, length-drop half piece)) (torn_done (at + half) full rest (omega (arith, length-filled (at + half) d))))

written_by : (reaches : Bool) (outcome : Outcome) (at : ℕ) (piece d : List ℕ) → nat_le at (length d) ≡ reaches → Torn at (length piece) d (if reaches then part outcome at piece d else d)
written_by true outcome at piece d e = part_torn outcome at piece d (leb-true at (length d) e)
written_by false outcome at piece d e = torn_same at (length piece) d

written_torn : (outcome : Outcome) (at : ℕ) (piece d : List ℕ) → Torn at (length piece) d (written outcome at piece d)
written_torn outcome at piece d = written_by (nat_le at (length d)) outcome at piece d refl

shortened_cut : (outcome : Outcome) (n : ℕ) (d : List ℕ) → Cut n d (shortened outcome n d)
shortened_cut Nothing n d = cut_same n d
shortened_cut Whole n d = cut_part n n d (omega arith)
shortened_cut Front n d = cut_part n (n + (length d - n) / 2) d (omega arith)
shortened_cut Back n d = cut_part n (n + (length d - n) / 2) d (omega arith)

pub crashed_image : (choice : ℕ) (first : List ℕ) (events : List Event) → IsSound first events → IsImage first events (crashed choice first events)
crashed_image choice first [] sound = refl
crashed_image choice first (synced ∷ older) sound = (content_of first older, content_image first older sound.1, refl)
crashed_image choice first (write at piece ∷ older) sound = (crashed choice first older, crashed_image choice first older sound.1, written_torn (outcome_of choice (unsynced older)) at piece (crashed choice first older))
crashed_image choice first (lost_write at piece ∷ older) sound = (crashed choice first older, crashed_image choice first older sound.1, written_torn (outcome_of choice (unsynced older)) at piece (crashed choice first older))
crashed_image choice first (shorten n ∷ older) sound = (crashed choice first older, crashed_image choice first older sound.1, shortened_cut (outcome_of choice (unsynced older)) n (crashed choice first older))
crashed_image choice first (lost_cut n ∷ older) sound = (crashed choice first older, crashed_image choice first older sound.1, shortened_cut (outcome_of choice (unsynced older)) n (crashed choice first older))
