-- Writes of pages, of entries on each node and of counts leave the memory of the forest with these
-- pages and entries.
use Rattle.std.proofs.Common.{◌≡◌, ℕ, ◌+◌, ◌<◌, ◌≤◌, List, ◌++◌, length, map, refl, Option, Some, None, subst, sym, ap, ◌∙◌, arith, slice_index_or}
use Rattle.std.specs.Prelude.{nat_eq, not}
use Rattle.std.specs.List.{AllByRecursion}
use Rattle.std.specs.Option.{option_or}
use Rattle.std.proofs.lemmas.List.{length-map, append_assoc}
use Rattle.mn_base.specs.declared.ids.Addr.{Addr}
use Rattle.mn_base.proofs.Lists.{weaker}
use Rattle.mn_mini.specs.Flat.{memory_after}
use Rattle.mn_page.specs.declared.page.Page.{Page}
use Rattle.mn_page.specs.Grammar.{IsPage}
use Rattle.mn_page.specs.Forest.{Forest, memory_laid, memory_of, laid_of, node_count, page_at}
use Rattle.mn_page.specs.Holds.{PagesAt, IsTree, ShowsStore}
use Rattle.mn_page.specs.Overlay.{Held, held_at}
use Rattle.mn_page.proofs.Counted.{counted}
use Rattle.mn_page.proofs.Grid.{get_in, all_split}
use Rattle.mn_page.proofs.Spelled.{page_length}
use Rattle.mn_plans.specs.Growth.{taken_on, AreCounts, addrs_of, giving_nodes, count_writes, over, write_held, Numbered, write_entries, entries_after, AreNextEntries, WritesLeaveVersions}
use Rattle.mn_plans.proofs.Laying.{HasSlots, on_each, on_each_fits, on_as_many, forest_laid, with_pages}
use Rattle.mn_law.proofs.Pieces.{entry_sizes}
use Rattle.mn_plans.proofs.NextSlots.{slots_free, slots_differ}
use Rattle.mn_plans.proofs.Grown.{all_mapped, held_known, Stands, over_in, over_in_nodes, over_in_sizes, over_in_lengths, AreFirst, are_first, added_in_nodes, added_in_sizes, added_in_lengths, grown_at}
use Rattle.mn_plans.proofs.Written.{FillsSlot, changed_written, changed_slots, new_written, new_slots, counts_written, range_below, grown_counts, grown_pages}
use Rattle.mn_plans.proofs.Entries.{HasEntries, entries_fit, with_catalogs, entries_written, after_has, after_all}

-- the grown forest with these entries
abbrev pub forest_after : Forest → List Held → List Held → List Numbered → Forest
forest_after f changed new entries = record { entries = entries_after f.entries entries; pages = grown_pages f.pages changed new }

pub memory_grown : (f : Forest) → HasSlots (laid_of f) → HasEntries f.entries → (changed new : List Held) (entries : List Numbered) (counts : List ℕ) → AllByRecursion (Stands f.pages) changed → AllByRecursion FillsSlot changed
    → AllByRecursion FillsSlot new → AreFirst (over_in f.pages changed) new → AreNextEntries f.entries entries → AreCounts f counts (addrs_of new)
    → memory_after (memory_of f) (map write_held changed ++ map write_held new ++ write_entries (node_count f) entries ++ count_writes counts (addrs_of new)) ≡ memory_of (forest_after f changed new entries)
memory_grown f is has changed new entries counts stand long_changed long_new first next are =
    ap (memory_after (memory_of f))
    (append_assoc (map write_held changed ++ map write_held new) (write_entries (node_count f) entries) (count_writes counts (addrs_of new))
    ∙ append_assoc (map write_held changed) (map write_held new) (write_entries (node_count f) entries ++ count_writes counts (addrs_of new)))
    ∙ (changed_written (laid_of f) is changed stand long_changed (map write_held new ++ (write_entries (node_count f) entries ++ count_writes counts (addrs_of new)))
    ∙ (new_written (with_pages (laid_of f) (over_in f.pages changed)) (changed_slots (laid_of f) is changed long_changed) new first long_new (write_entries (node_count f) entries ++ count_writes counts (addrs_of new))
    ∙ (ap (λ k. memory_after (memory_laid (with_pages (laid_of f) (grown_pages f.pages changed new))) (write_entries k entries ++ count_writes counts (addrs_of new))) (sym nodes)
    ∙ (entries_written (with_pages (laid_of f) (grown_pages f.pages changed new)) f.entries has (on_as_many f.pages (grown_pages f.pages changed new) f.entries (sym nodes)) entries next (count_writes counts (addrs_of new))
    ∙ (counts_written (with_catalogs (with_pages (laid_of f) (grown_pages f.pages changed new)) (on_each (grown_pages f.pages changed new) (entries_after f.entries entries))) slots
    (length-map f.pages (λ ps. length ps) ∙ sym nodes) (λ n. slice_index_or counts n 0 + taken_on (addrs_of new) n) (giving_nodes counts (addrs_of new))
    (range_below (λ n. not (nat_eq (taken_on (addrs_of new) n) 0)) 0 (length counts) (length (grown_pages f.pages changed new)) (in_range (length counts) (length (grown_pages f.pages changed new)) (are.0 ∙ sym nodes)))
    ∙ ap (λ (ks : List ℕ). memory_laid (record { catalogs = on_each (grown_pages f.pages changed new) (entries_after f.entries entries); counts = ks; pages = grown_pages f.pages changed new }))
    (grown_counts f.pages (grown_pages f.pages changed new) counts (addrs_of new) are.0 nodes are.1
    (λ n. added_in_sizes (over_in f.pages changed) new first n ∙ ap (λ k. k + taken_on (addrs_of new) n) (over_in_sizes f.pages changed n))))))))
  where
    in_range : (a b : ℕ) → a ≡ b → 0 + a ≤ b
    in_range a b e = omega arith

    nodes : length (grown_pages f.pages changed new) ≡ length f.pages
    nodes = added_in_nodes (over_in f.pages changed) new ∙ over_in_nodes f.pages changed

    grown : HasSlots (with_pages (laid_of f) (grown_pages f.pages changed new))
    grown = new_slots (with_pages (laid_of f) (over_in f.pages changed)) (changed_slots (laid_of f) is changed long_changed) new long_new

    slots : HasSlots (with_catalogs (with_pages (laid_of f) (grown_pages f.pages changed new)) (on_each (grown_pages f.pages changed new) (entries_after f.entries entries)))
    slots = record { fits = on_each_fits (grown_pages f.pages changed new) (entries_after f.entries entries) (entries_fit (entries_after f.entries entries) (after_has f.entries entries has next)); slots = grown.slots }

pub writes_leave_versions : WritesLeaveVersions
writes_leave_versions memory store after holds changed new entries counts stand apart spelled are next are_next tree shown = record {
  forest = forest_after holds.forest changed new entries;
  spelled = ap (λ (m : List (List ℕ)). memory_after m (map write_held changed ++ map write_held new ++ write_entries (node_count holds.forest) entries ++ count_writes counts (addrs_of new))) holds.spelled
      ∙ memory_grown holds.forest (forest_laid holds.forest (counted holds.forest holds.sound)) has changed new entries counts stand (filled changed parts.0) (filled new parts.1) first are_next are;
  sound = record {
    laid = record {
      nodes = subst (λ k. (1 ≤ k) × (k ≤ 8)) (sym nodes) holds.sound.laid.nodes;
      counts = added_in_lengths (over_in holds.forest.pages changed) new first (over_in_lengths (λ k. k ≤ 4096) holds.forest.pages changed holds.sound.laid.counts);
      entries = after_all holds.forest.entries entries holds.sound.laid.entries are_next;
      pages = λ addr p there. page_of addr p (held_at (changed ++ new) addr) refl (sym (at addr) ∙ there);
    };
    tree = subst (IsTree (entries_after holds.forest.entries entries)) same tree;
  };
  shown = subst (λ (pages : PagesAt). ShowsStore (entries_after holds.forest.entries entries) pages after) same shown;
}
  where
    has : HasEntries holds.forest.entries
    has = record {
      sizes = entry_sizes holds.forest.entries holds.sound.laid.entries;
      few = subst (λ k. k ≤ 64) (length-map holds.forest.entries _) holds.sound.tree.versions.count;
    }

    parts : AllByRecursion (λ (h : Held). IsPage h.page) changed × AllByRecursion (λ (h : Held). IsPage h.page) new
    parts = all_split (λ (h : Held). IsPage h.page) changed new spelled

    filled : (hs : List Held) → AllByRecursion (λ (h : Held). IsPage h.page) hs → AllByRecursion FillsSlot hs
    filled hs all = weaker (λ (h : Held). IsPage h.page) FillsSlot (λ h is. page_length h.page is) hs all

    nodes : node_count (forest_after holds.forest changed new entries) ≡ node_count holds.forest
    nodes = added_in_nodes (over_in holds.forest.pages changed) new ∙ over_in_nodes holds.forest.pages changed

    first : AreFirst (over_in holds.forest.pages changed) new
    first = are_first counts (over_in holds.forest.pages changed) new (are.0 ∙ sym (over_in_nodes holds.forest.pages changed)) (λ n some. are.1 n some ∙ sym (over_in_sizes holds.forest.pages changed n)) next

    free : AllByRecursion (λ (h : Held). get_in holds.forest.pages h.addr.node.0 h.addr.slot ≡ None) new
    free = all_mapped (λ (s : Addr). page_at holds.forest s ≡ None) (λ (h : Held). h.addr) new
        (weaker (λ (s : Addr). (page_at holds.forest s ≡ None) × (s.node.0 < node_count holds.forest) × (s.node.0 < 8) × (s.slot < 4096)) (λ (s : Addr). page_at holds.forest s ≡ None) (λ s is. is.0) (addrs_of new)
        (slots_free holds.forest holds.sound.laid.nodes.1 counts (addrs_of new) are next))

    at : (addr : Addr) → page_at (forest_after holds.forest changed new entries) addr ≡ over (changed ++ new) (page_at holds.forest) addr
    at addr = grown_at holds.forest.pages changed new stand apart first (slots_differ counts (addrs_of new) next) free addr

    same : over (changed ++ new) (page_at holds.forest) ≡ page_at (forest_after holds.forest changed new entries)
    same = λ i addr. (sym (at addr)) i

    page_of : (addr : Addr) (p : Page) (o : Option Page) → held_at (changed ++ new) addr ≡ o → option_or (held_at (changed ++ new) addr) (page_at holds.forest addr) ≡ Some p → IsPage p
    page_of addr p None e there = holds.sound.laid.pages addr p (sym (ap (λ r. option_or r (page_at holds.forest addr)) e) ∙ there)
    page_of addr p (Some q) e there =
        let known = held_known (λ (h : Held). IsPage h.page) (changed ++ new) spelled addr p (e ∙ (sym (ap (λ r. option_or r (page_at holds.forest addr)) e) ∙ there)) in
        subst IsPage known.3 known.1
