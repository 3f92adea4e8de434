-- Tries of one Put that splits a full leaf, for worked examples: how a later try may end, and eight
-- tries one after another. The catalog and the pages stand behind names.
use Rattle.std.proofs.Common.{◌≡◌, ℕ, ◌+◌, ◌-◌, ◌≤◌, inl, inr, false, List, [], ◌∷◌, ◌++◌, length, Some, None, refl, lit<, lit≤, subst, sym, arith}
use Rattle.std.specs.List.{flat_map}
use Rattle.mn_base.specs.declared.op.Step.TheVariants.{Put}
use Rattle.mn_base.specs.declared.op.Op.{Op}
use Rattle.mn_base.specs.declared.op.Op.TheVariants.{Tx}
use Rattle.mn_mini.specs.declared.item.Item.TheVariants.{Compare, Write}
use Rattle.mn_mini.specs.declared.request.Request.TheVariants as Ask
use Rattle.mn_mini.specs.declared.reply.NodeReply.TheVariants as Say
use Rattle.mn_base.specs.declared.reply.Reply.TheVariants.{Values}
use Rattle.mn_mini.specs.Mini.{Mini, IsSound}
use Rattle.mn_page.specs.Forest.{heads_in}
use Rattle.mn_law.specs.Planned.{IsPlanned}
use Rattle.mn_plans.specs.Plans.{split_items}
use Rattle.mn_plans.proofs.SplitRoot.{split_is_planned}
use Rattle.mn_mini.specs.Flat.{bytes_in}
use Rattle.mn_page.specs.declared.page.Page.{Page}
use Rattle.mn_page.specs.declared.page.Body.TheVariants.{Leaf, Inner}
use Rattle.mn_page.specs.Grammar.{page_bytes, entry_bytes, IsPage, SpellsPage}
use Rattle.mn_page.proofs.Examples.Spelling.{at}
use Rattle.mn_runs.specs.declared.entry.Entry.{Entry}
use Rattle.mn_runs.specs.declared.entry.What.TheVariants as Did
use Rattle.byteorder.specs.Endian.{big_bytes}
use Rattle.mn_base.specs.declared.reply.Pair.{Pair}
use Rattle.mn_law.specs.Places.{page_place, entry_place, catalog_node, catalog_place}
use Rattle.mn_runs.specs.Seen.{Seen}
use Rattle.mn_law.specs.Shown.{SeesCatalog, shown_in, FirstGives}
use Rattle.mn_run_examples.proofs.TwoNodes.{node, id, prepare}
use Rattle.mn_run_examples.proofs.Entries.{begin, own, called, read, seen, catalog_of, version, key, pair, page_tells_no_entry}
use Rattle.mn_run_examples.proofs.Scans.{entries, entry_rules, m2}

-- What a try reads

-- the root of m2, on node 1, is a leaf with eight pairs, and k7 would be the ninth
abbrev eight_pairs : List Pair
eight_pairs = pair 1 ∷ pair 2 ∷ pair 3 ∷ pair 4 ∷ pair 5 ∷ pair 6 ∷ pair 8 ∷ pair 9 ∷ []

abbrev pub leaf : Page
leaf = record { seq = 3; made = version 1; copied = 0; low = []; high = None; body = Leaf eight_pairs }

-- its halves with k7, in two new slots of node 0, and the root over them with the next number
abbrev first_pairs : List Pair
first_pairs = pair 1 ∷ pair 2 ∷ pair 3 ∷ pair 4 ∷ []

abbrev last_pairs : List Pair
last_pairs = pair 6 ∷ record { key = key 7; value = 119 ∷ [] } ∷ pair 8 ∷ pair 9 ∷ []

abbrev left : Page
left = record { seq = 1; made = version 1; copied = 0; low = []; high = Some (key 5); body = Leaf first_pairs }

abbrev right : Page
right = record { seq = 1; made = version 1; copied = 0; low = key 5; high = None; body = Leaf (pair 5 ∷ last_pairs) }

abbrev parent : Page
parent = record { seq = 4; made = version 1; copied = 0; low = []; high = None; body = Inner 1 (at 0 2) (record { separator = key 5; addr = at 0 3 } ∷ []) }

-- the root once it was split, whose second child is still main's
abbrev pub inner : Page
inner = record { seq = 5; made = version 1; copied = 0; low = []; high = None; body = Inner 1 (at 1 2) (record { separator = key 5; addr = at 0 1 } ∷ []) }

-- that child once it was copied for m2: it serves m2 no more
abbrev pub copied_child : Page
copied_child = record { seq = 6; made = version 0; copied = 2; low = key 5; high = None; body = Leaf (pair 7 ∷ []) }

leaf_is_page : IsPage leaf
leaf_is_page = record {
  seq_low = lit≤ tt;
  seq_high = lit< tt;
  made = lit< tt;
  copied = lit< tt;
  copied_above = refl;
  low = (lit≤ tt, refl);
  high = tt;
  fences = refl;
  body = (
    lit≤ tt,
    refl,
    (
      ((lit≤ tt, lit≤ tt, refl), (lit≤ tt, refl), refl),
      (
        ((lit≤ tt, lit≤ tt, refl), (lit≤ tt, refl), refl),
        (
          ((lit≤ tt, lit≤ tt, refl), (lit≤ tt, refl), refl),
          (
            ((lit≤ tt, lit≤ tt, refl), (lit≤ tt, refl), refl),
            (
              ((lit≤ tt, lit≤ tt, refl), (lit≤ tt, refl), refl),
              (
                ((lit≤ tt, lit≤ tt, refl), (lit≤ tt, refl), refl),
                (
                  ((lit≤ tt, lit≤ tt, refl), (lit≤ tt, refl), refl),
                  (((lit≤ tt, lit≤ tt, refl), (lit≤ tt, refl), refl), tt),
                ),
              ),
            ),
          ),
        ),
      ),
    ),
  );
}

inner_is_page : IsPage inner
inner_is_page = record {
  seq_low = lit≤ tt;
  seq_high = lit< tt;
  made = lit< tt;
  copied = lit< tt;
  copied_above = refl;
  low = (lit≤ tt, refl);
  high = tt;
  fences = refl;
  body = (lit≤ tt, lit< tt, lit≤ tt, lit≤ tt, (lit< tt, lit< tt), refl, (((lit≤ tt, lit≤ tt, refl), (lit< tt, lit< tt), refl, refl), tt));
}

child_is_page : IsPage copied_child
child_is_page = record {
  seq_low = lit≤ tt;
  seq_high = lit< tt;
  made = lit< tt;
  copied = lit< tt;
  copied_above = refl;
  low = (lit≤ tt, refl);
  high = tt;
  fences = refl;
  body = (lit≤ tt, refl, (((lit≤ tt, lit≤ tt, refl), (lit≤ tt, refl), refl), tt));
}

pub catalog_bytes : List ℕ
catalog_bytes = catalog_of entries

pub leaf_bytes : List ℕ
leaf_bytes = page_bytes leaf

pub left_bytes : List ℕ
left_bytes = page_bytes left

pub right_bytes : List ℕ
right_bytes = page_bytes right

pub parent_bytes : List ℕ
parent_bytes = page_bytes parent

pub inner_bytes : List ℕ
inner_bytes = page_bytes inner

pub child_bytes : List ℕ
child_bytes = page_bytes copied_child

abbrev pub catalog_seen : Seen
catalog_seen = seen catalog_place catalog_bytes

abbrev pub leaf_seen : Seen
leaf_seen = seen (page_place (at 1 1)) leaf_bytes

abbrev pub inner_seen : Seen
inner_seen = seen (page_place (at 1 1)) inner_bytes

abbrev pub child_seen : Seen
child_seen = seen (page_place (at 0 1)) child_bytes

pub sees_catalog : SeesCatalog catalog_seen entries
unfolding catalog_bytes
sees_catalog = (refl, lit≤ tt, entry_rules, refl)

pub leaf_spelled : SpellsPage leaf_bytes leaf
unfolding leaf_bytes
leaf_spelled = (leaf_is_page, refl)

pub inner_spelled : SpellsPage inner_bytes inner
unfolding inner_bytes
inner_spelled = (inner_is_page, refl)

pub child_spelled : SpellsPage child_bytes copied_child
unfolding child_bytes
child_spelled = (child_is_page, refl)

-- the leaf's number, and m2's entry among the catalog's, with its number
pub leaf_shown : bytes_in leaf_bytes 0 8 ≡ big_bytes 8 3
unfolding leaf_bytes
leaf_shown = refl

pub number_shown : bytes_in catalog_bytes 64 8 ≡ big_bytes 8 m2.seq
unfolding catalog_bytes
number_shown = refl

catalog_length_is : length catalog_bytes ≡ 4096
unfolding catalog_bytes
catalog_length_is = refl

pub entry_shown : bytes_in catalog_bytes 64 64 ≡ entry_bytes m2
unfolding catalog_bytes
entry_shown = refl

-- The plan

abbrev pub put : Op
put = Tx m2.name (Put (key 7) (119 ∷ []) ∷ [])

-- both nodes have a part: the leaf stands on node 1, the new slots, and with them the entry that is
-- compared, on node 0
abbrev pub plan : Mini
plan = record {
  nodes = 2;
  items = Compare (node 1) 21504 (big_bytes 8 3) ∷ Compare (node 0) 128 (big_bytes 8 m2.seq) ∷ Compare (node 0) 16 (big_bytes 8 2)
      ∷ Write (node 1) 21504 parent_bytes ∷ Write (node 0) 22528 left_bytes ∷ Write (node 0) 23552 right_bytes ∷ Write (node 0) 16 (big_bytes 8 4) ∷ [];
}

plan_is : plan ≡ record { nodes = 2; items = split_items 1 m2 leaf (node 0) 2 first_pairs (pair 5) last_pairs }
unfolding parent_bytes left_bytes right_bytes
plan_is = refl

-- the leaf was read, and before it the catalog
leaf_last : (older : List Seen) → FirstGives (leaf_seen ∷ catalog_seen ∷ older) (page_place (at 1 1)) (big_bytes 8 3) (page_bytes leaf)
unfolding leaf_bytes
leaf_last older = inl (inl (record { node = refl; begins = lit≤ tt; ends = lit≤ tt; part = refl }), refl)

entry_last : (older : List Seen) → FirstGives (leaf_seen ∷ catalog_seen ∷ older) (entry_place catalog_node 1) (big_bytes 8 m2.seq) (entry_bytes m2)
entry_last older = inr ((λ other gives. page_tells_no_entry (at 1 1) leaf_bytes catalog_node 1 other (lit< tt) gives.0), inl (inl (record { node = refl; begins = lit≤ tt; ends = catalog_long; part = entry_shown }), refl))
  where
    catalog_long : 128 + 64 ≤ 64 + length catalog_bytes
    catalog_long = let l = catalog_length_is in omega (arith, l)

pub planned_after : (es : List Entry) (older : List Seen) → shown_in es ≡ leaf_seen ∷ catalog_seen ∷ older → IsPlanned es (heads_in entries) put plan (Values [])
planned_after es older shows = subst (λ (m : Mini). IsPlanned es (heads_in entries) put m (Values [])) (sym plan_is)
    (split_is_planned (heads_in entries) 2 m2.name (key 7) (119 ∷ []) 1 m2 leaf eight_pairs (node 0) 2 first_pairs (pair 5) last_pairs (record {
      named = refl;
      few = lit< tt;
      entry = entry_rules.1.0;
      writable = refl;
      node = lit< tt;
      page = leaf_spelled.0;
      leaf = refl;
      is_key = (lit≤ tt, lit≤ tt, refl);
      is_value = (lit≤ tt, refl);
      number = lit< tt;
      parts = refl;
      few_lows = lit≤ tt;
      few_highs = lit≤ tt;
      free_node = lit< tt;
      room = lit≤ tt;
    }) es
    (subst (λ (ss : List Seen). FirstGives ss (page_place (at 1 1)) (big_bytes 8 3) (page_bytes leaf)) (sym shows) (leaf_last older))
    (subst (λ (ss : List Seen). FirstGives ss (entry_place catalog_node 1) (big_bytes 8 m2.seq) (entry_bytes m2)) (sym shows) (entry_last older)))

pub plan_is_sound : IsSound plan
unfolding parent_bytes left_bytes right_bytes
plan_is_sound = record {
  some = lit≤ tt;
  few = lit≤ tt;
  inside = (
    ((lit< tt, lit< tt), (lit≤ tt, lit≤ tt, lit≤ tt)),
    (
      ((lit< tt, lit< tt), (lit≤ tt, lit≤ tt, lit≤ tt)),
      (
        ((lit< tt, lit< tt), (lit≤ tt, lit≤ tt, lit≤ tt)),
        (
          ((lit< tt, lit< tt), (lit≤ tt, lit≤ tt, lit≤ tt)),
          (((lit< tt, lit< tt), (lit≤ tt, lit≤ tt, lit≤ tt)), (((lit< tt, lit< tt), (lit≤ tt, lit≤ tt, lit≤ tt)), (((lit< tt, lit< tt), (lit≤ tt, lit≤ tt, lit≤ tt)), tt))),
        ),
      ),
    ),
  );
}

-- Kinds of tries

-- the entries of a later try by its first serial, and those that follow its failure
pub record Kind : Type 0 where
  pub made : ℕ → List Entry
  pub after : ℕ → List Entry

-- the catalog and the leaf are read, and the plan is issued
abbrev pub planned : ℕ → List Entry
planned s = own (Did.Issue (id 0 (s + 2)) plan) ∷ read (s + 1) (page_place (at 1 1)) leaf_bytes ++ read s catalog_place catalog_bytes

abbrev pub voted : ℕ → Entry
voted s = called 0 (prepare 0 (s + 2) plan 0) (Say.Done [])

abbrev pub abandoned : ℕ → List Entry
abandoned s = own (Did.Abandoned (id 0 (s + 2))) ∷ []

-- the one that had voted yes is told
abbrev pub decided : ℕ → List Entry
decided s = called 0 (Ask.Decide (id 0 (s + 2)) false) Say.Decided ∷ abandoned s

-- m2's entry is held by another id
abbrev pub locked : Kind
locked = record { made = λ s. called 0 (prepare 0 (s + 2) plan 0) (Say.BadLock 128 64 (id 1 1)) ∷ planned s; after = abandoned }

-- the leaf differs from what was read
abbrev pub moved : List ℕ → Kind
moved found = record { made = λ s. called 1 (prepare 0 (s + 2) plan 1) (Say.BadCompare 0 found) ∷ voted s ∷ planned s; after = decided }

-- m2's entry differs
abbrev pub entry_moved : List ℕ → Kind
entry_moved found = record { made = λ s. called 0 (prepare 0 (s + 2) plan 0) (Say.BadCompare 0 found) ∷ planned s; after = abandoned }

-- the id was forced at node 1
abbrev pub forced : Kind
forced = record { made = λ s. called 1 (prepare 0 (s + 2) plan 1) Say.BadForced ∷ voted s ∷ planned s; after = decided }

-- the path meets a page that doesn't serve m2
abbrev pub strayed : Kind
strayed = record { made = λ s. read (s + 2) (page_place (at 0 1)) child_bytes ++ read (s + 1) (page_place (at 1 1)) inner_bytes ++ read s catalog_place catalog_bytes; after = λ s. [] }

-- the path meets a page that was kept at fault: nothing is sent
abbrev pub kept_astray : Kind
kept_astray = record { made = λ s. []; after = λ s. [] }

-- Eight tries

-- the first looks at the leaf, and is refused by a lock
abbrev pub first_try : List Entry
first_try =
    called 0 (prepare 0 2 plan 0) (Say.BadLock 128 64 (id 1 1)) ∷ own (Did.Issue (id 0 2) plan) ∷ called 1 (Ask.Peek 21504 1024) (Say.Peeked leaf_bytes)
    ∷ read 1 catalog_place catalog_bytes

-- a later try, with what followed the one before it
abbrev pub later_try : Kind → Kind → ℕ → List Entry
later_try kind before s = kind.made s ++ before.after (s - 3)

-- the second to the seventh, the newest first, after a first of this kind
abbrev pub six_after : Kind → List (List Entry)
six_after first =
    later_try locked strayed 18 ∷ later_try strayed forced 15 ∷ later_try forced (entry_moved (97 ∷ [])) 12 ∷ later_try (entry_moved (97 ∷ [])) (moved (98 ∷ [])) 9
    ∷ later_try (moved (98 ∷ [])) locked 6 ∷ later_try locked first 3 ∷ []

abbrev pub six_tries : List (List Entry)
six_tries = six_after locked

-- the eighth is of this kind
abbrev pub eight_tries : Kind → List Entry
eight_tries kind = kind.after 21 ++ later_try kind locked 21 ++ flat_map (λ try. try) six_tries ++ first_try ++ begin put ∷ []
