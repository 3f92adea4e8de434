-- What a summary tells of a run after which no node holds anything.
use Rattle.std.proofs.Common.{◌≡◌, ◌<◌, ◌+◌, ◌∙◌, ℕ, zero, suc, List, map, length, arith, refl, sym, ap₂}
use Rattle.std.specs.List.{range_with_len, sum_by}
use Rattle.std.proofs.lemmas.List.Sums.{sum_by-cons}
use Rattle.mn_base.specs.History.{store_after}
use Rattle.mn_base.specs.Store.{Store}
use Rattle.mn_base.specs.declared.history.Past.{Past}
use Rattle.mn_base.specs.declared.ids.NodeNo.{NodeNo}
use Rattle.mn_cell.specs.Calls.{numbered}
use Rattle.mn_gen.specs.Summary.{summary_text, sums_of}
use Rattle.mn_mini.specs.Node.{held_parts}
use Rattle.mn_runs.specs.declared.entry.Entry.{Entry}
use Rattle.mn_runs.specs.Protocol.{AreFree, Start, records_of, start_nodes}
use Rattle.mn_script.specs.Script.{Script, all_ops}
use Rattle.mn_serial.specs.History.{IsHistory, Placed, pasts_of}
use Rattle.mn_serial.specs.OneHistory.{IsOneHistory}
use Rattle.mn_top.specs.Telling.{Summarizes, listed_ids}

none_from : (f : NodeNo → ℕ) (k m : ℕ) → ((n : NodeNo) → n.0 < k + m → f n ≡ 0) → sum_by f (map numbered (range_with_len k m)) ≡ 0
none_from f k zero none = refl
none_from f k (suc m) none =
    let first : f (numbered k) ≡ 0 = none (numbered k) (omega arith) in
    let rest : sum_by f (map numbered (range_with_len (k + 1) m)) ≡ 0 = none_from f (k + 1) m (λ n low. none n (omega (arith, low))) in
    sum_by-cons f (numbered k) (map numbered (range_with_len (k + 1) m)) ∙ omega (arith, first, rest)

-- then none lists an id
none_listed : (start : Start) (past : List Entry) → AreFree start past → listed_ids start past ≡ 0
none_listed start past free = none_from (λ n. length (held_parts (records_of start past n))) 0 (start_nodes start) (λ n low. rw (free n (omega (arith, low))) refl)

pub summarizes : (from : Start) (store : Store) (script : Script) (past : List Entry) (history : List Past) (placed : List Placed) (text : List ℕ)
    → IsHistory past placed → IsOneHistory from store past placed → history ≡ pasts_of placed → AreFree from past
    → text ≡ summary_text (length script.clients) (all_ops script.clients) (sums_of (store_after store history)) 0 → Summarizes from store script past text
summarizes from store script past history placed text is one same free told = record {
  placed = placed;
  history = is;
  one = one;
  printed = told ∙ ap₂ (λ (h : List Past) (n : ℕ). summary_text (length script.clients) (all_ops script.clients) (sums_of (store_after store h)) n) same (sym (none_listed from past free));
}
