-- A write, and how it is undone.
use Rattle.std.proofs.Common.{rules, ◌≡◌, ◌≤◌, ℕ, ◌+◌, ◌-◌, min, max, List, ◌++◌, length, take, drop, ◌∙◌, ap, arith, length-append, length-take, length-drop}
use Rattle.std.proofs.lemmas.List.{same_lists, places}
use Rattle.mn_io.specs.DiskModel.{written_at}
use Rattle.mn_memdisk.specs.Held.{Follows, last, but_last}
use Rattle.mn_memdisk.specs.History.{write}
use Rattle.mn_memdisk.specs.declared.changes.Change.TheVariants.{Wrote}

-- of bytes behind one another, the last and those in front
pub last_of : (n : ℕ) (front back : List ℕ) → n ≡ length back → last n (front ++ back) ≡ back
last_of n front back is = same_lists _ _ (search (rules, places)) (λ k d h. grind (arith, places))

pub but_last_of : (n : ℕ) (front back : List ℕ) → n ≡ length back → but_last n (front ++ back) ≡ front
but_last_of n front back is = same_lists _ _ (search (rules, places)) (λ k d h. grind (arith, places))

module _ (at over : ℕ) (bytes piece : List ℕ) (within : at ≤ length bytes) where
  -- how many bytes are written over are just those that stand there
  over_all : over ≡ min (length piece) (length bytes - at) → take (at + over - at) (drop at bytes) ≡ take (length piece) (drop at bytes)
  over_all is = same_lists _ _ (search (rules, places)) (λ k d h. grind (arith, places))

  -- what stood there is put back, and what was added is taken off
  put_back : (stood : List ℕ) → stood ≡ take (length piece) (drop at bytes) → take (length bytes) (written_at (written_at bytes at piece) at stood) ≡ bytes
  put_back stood are = same_lists _ _ (search (rules, places)) (λ k d h. grind (arith, places))

  length-written : length (written_at bytes at piece) ≡ max (length bytes) (at + length piece)
  length-written = search (rules, places)

  piece_stands : take (length piece) (drop at (written_at bytes at piece)) ≡ piece
  piece_stands = same_lists _ _ (search (rules, places)) (λ k d h. grind (arith, places))

-- a write of the bytes that a read gives
shown_written : (at size : ℕ) (bytes piece : List ℕ) → at ≤ size → size ≤ length bytes → take (max size (at + length piece)) (written_at bytes at piece) ≡ written_at (take size bytes) at piece
shown_written at size bytes piece within bounded = same_lists _ _ (search (rules, places)) (λ k d h. grind (arith, places))

-- bytes were written, and those that they were written over were saved
pub wrote : (at size over size2 : ℕ) (bytes piece saved bytes2 saved2 : List ℕ) → at ≤ length (take size bytes) → size ≤ length bytes → over ≡ min (length piece) (length bytes - at)
    → saved2 ≡ saved ++ take (at + over - at) (drop at bytes) → bytes2 ≡ written_at bytes at piece → size2 ≡ max size (at + length piece)
    → Follows (Wrote at (length piece) (length piece - over) size) (write at piece) (record { bytes = bytes; size = size; saved = saved }) (record { bytes = bytes2; size = size2; saved = saved2 })
wrote at size over size2 bytes piece saved bytes2 saved2 within bounded over_is saved_are bytes_are size_is =
    let reaches : at ≤ size = omega (arith, length-take size bytes) in
    let inside : at ≤ length bytes = omega arith in
    let stood = take (at + over - at) (drop at bytes) in
    let long : length stood ≡ over = omega (arith, length-take (at + over - at) (drop at bytes), length-drop at bytes) in
    let long2 : length bytes2 ≡ max (length bytes) (at + length piece) = ap length bytes_are ∙ length-written at over bytes piece inside in
    let count = length piece - (length piece - over) in
    let again : count ≡ length stood = omega arith in
    let back : last count saved2 ≡ stood = ap (λ (l : List ℕ). last count l) saved_are ∙ last_of count saved stood again in
    let front : but_last count saved2 ≡ saved = ap (λ (l : List ℕ). but_last count l) saved_are ∙ but_last_of count saved stood again in
    let left : length bytes2 - (length piece - over) ≡ length bytes = omega arith in
    let all : take (length bytes2 - (length piece - over)) (written_at bytes2 at (last count saved2)) ≡ bytes =
    (λ k. take (left k) (written_at (bytes_are k) at (back k))) ∙ put_back at over bytes piece inside stood (over_all at over bytes piece inside over_is) in
    record {
      fits = (omega arith, omega arith, omega (arith, ap length saved_are, length-append saved stood));
      back = λ k. record { bytes = all k; size = size; saved = front k };
      stands_for = ap (λ (l : List ℕ). write at l) (ap (λ (l : List ℕ). take (length piece) (drop at l)) bytes_are ∙ piece_stands at over bytes piece inside);
      within = within;
      done = (λ k. take (size_is k) (bytes_are k)) ∙ shown_written at size bytes piece reaches bounded;
      bounded = omega arith;
    }
