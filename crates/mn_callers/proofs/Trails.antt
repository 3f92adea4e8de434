-- The entries of a trail.
use Rattle.std.proofs.Common.{◌≡◌, ℕ, Bool, true, false, List, [], ◌∷◌, ◌++◌, filter, reverse, refl, sym, ap, ◌∙◌, if◌then◌else◌}
use Rattle.std.proofs.lemmas.List.{map-append, reverse-append, reverse-reverse}
use Rattle.mn_base.specs.declared.ids.ClientNo.{ClientNo}
use Rattle.mn_runs.specs.declared.entry.Entry.{Entry}
use Rattle.mn_runs.specs.Calls.{client_entries, is_at, is_by, node_entries}
use Rattle.mn_runs.specs.Protocol.{entries_of}
use Rattle.mn_cell.specs.Calls.{numbered}
use Rattle.mn_callers.specs.Turn.{past_in, trail_at, trail_by}

map_back : (l : List (ℕ × Entry)) → past_in (reverse l) ≡ reverse (past_in l)
map_back [] = refl
map_back (p ∷ l) =
    ap past_in (reverse-append (p ∷ []) l)
    ∙ (map-append (λ (q : ℕ × Entry). q.1) (reverse l) (p ∷ [])
    ∙ (ap (λ (k : List Entry). k ++ p.1 ∷ []) (map_back l) ∙ sym (reverse-append (p.1 ∷ []) (past_in l))))

pub entries_back : (l : List (ℕ × Entry)) → entries_of (reverse l) ≡ past_in l
entries_back l = ap reverse (map_back l) ∙ reverse-reverse (past_in l)

pub entries_both : (a b : List (ℕ × Entry)) → entries_of (a ++ b) ≡ entries_of b ++ entries_of a
entries_both a b = ap reverse (map-append (λ (p : ℕ × Entry). p.1) a b) ∙ reverse-append (past_in a) (past_in b)

filter_past : (f : Entry → Bool) (t : List (ℕ × Entry)) → past_in (filter (λ (p : ℕ × Entry). f p.1) t) ≡ filter f (past_in t)
filter_past f [] = refl
filter_past f (p ∷ t) = by (f p.1) (filter_past f t)
  where
    by : (b : Bool) → past_in (filter (λ (q : ℕ × Entry). f q.1) t) ≡ filter f (past_in t) → past_in (if b then p ∷ filter (λ (q : ℕ × Entry). f q.1) t else filter (λ (q : ℕ × Entry). f q.1) t) ≡ (if b then p.1 ∷ filter f (past_in t) else filter f (past_in t))
    by true e = ap (λ (k : List Entry). p.1 ∷ k) e
    by false e = e

pub list_of_client : (c : ClientNo) (t : List (ℕ × Entry)) → entries_of (trail_by c t) ≡ client_entries c (past_in t)
list_of_client c t = entries_back (filter (λ (p : ℕ × Entry). is_by c p.1) t) ∙ filter_past (is_by c) t

pub list_of_node : (k : ℕ) (t : List (ℕ × Entry)) → entries_of (trail_at k t) ≡ node_entries (numbered k) (past_in t)
list_of_node k t = entries_back (filter (λ (p : ℕ × Entry). is_at (numbered k) p.1) t) ∙ filter_past (is_at (numbered k)) t
