use Rattle.std.proofs.Common.{◌≡◌, ◌≤◌, ◌+◌, ◌++◌, drop, length, vec_capacity, vec_len}
use Rattle.std.specs.Vec.Iter.{into_iter_items}
use Rattle.mn_cell.specs.Calls.{lengths_of}
use Rattle.mn_cell.proofs.copies.fill_in.Given as goal

-- what was copied so far, and room of the right lengths for the rest
abbrev pub invariant-loop-blank : goal.invariant-loop-blank
invariant-loop-blank l = record {
  can : (goal.iterator-loop-blank).can_next l.blank-iterator;
  finite : (goal.iterator-loop-blank).is_finite l.blank-iterator;
  done : l.copies.items ++ drop (vec_len l.copies) l.reads ≡ l.reads;
  lengths : lengths_of (into_iter_items l.blank-iterator) ≡ lengths_of (drop (vec_len l.copies) l.reads);
  room : vec_len l.copies + length (into_iter_items l.blank-iterator) ≤ vec_capacity l.copies;
}
