-- The plan of a try with an unmet Check is planned: it only compares.
use Rattle.std.proofs.Common.{◌≡◌, inl, ℕ, ◌<◌, true, false, ◌&&◌, List, [], ◌++◌, map, length, Some, refl, subst, sym, ap, ◌∙◌}
use Rattle.std.specs.List.{list_any}
use Rattle.std.proofs.lemmas.Bool.{and_parts}
use Rattle.std.proofs.lemmas.List.{append-nil}
use Rattle.mn_base.specs.Store.{Store, Head, heads_of, is_change, applied}
use Rattle.mn_base.specs.Tree.{parents_of}
use Rattle.mn_base.specs.declared.ids.Addr.{Addr}
use Rattle.mn_base.specs.declared.ids.NodeNo.{NodeNo}
use Rattle.mn_base.specs.declared.op.Op.TheVariants.{Tx}
use Rattle.mn_mini.specs.Mini.{Mini}
use Rattle.mn_page.specs.declared.page.Page.{Page}
use Rattle.mn_page.specs.Grammar.{IsPage}
use Rattle.mn_page.specs.Forest.{Forest, page_at}
use Rattle.mn_page.specs.Holds.{Holds}
use Rattle.mn_page.proofs.Spelled.{entry_length}
use Rattle.mn_tree.specs.Trees.{is_noted}
use Rattle.mn_tree.specs.Laws.{ReadsAreDraft}
use Rattle.mn_tree.specs.Moves.{came_at, is_leaf_at, leaves_at}
use Rattle.mn_tree.specs.MoveLaws.{AreTold, MovesTell, AreReads, MovesRead, MovesComeOnce}
use Rattle.mn_tree.proofs.Trees.Told.{noted_filter}
use Rattle.mn_runs.specs.declared.entry.Entry.{Entry}
use Rattle.mn_law.specs.Planned.{ContinuesCatalog, PlanActs, ComparesHold}
use Rattle.mn_plans.specs.Growth.{ComparesTell, NumbersGoOn}
use Rattle.mn_txn.specs.declared.image.Image.{Image}
use Rattle.mn_txn.specs.State.{ImagesAreApart}
use Rattle.mn_txn.specs.Order.{in_item_order}
use Rattle.mn_txn.specs.Plan.{plan_of, compare_of, write_of}
use Rattle.mn_txn.specs.Laws.{PlansAreInOrder, ReadsAreShown}
use Rattle.mn_txn.specs.Attempt.{Attempt, IsAttempt, IsUnmet, least_addr, came_images, entry_images, unmet_reads, UnmetIsPlanned}
use Rattle.mn_txn.proofs.Lists.{all_noted}
use Rattle.mn_txn.proofs.Found.{InStore, one_unmet, applied_reply, applied_nothing}
use Rattle.mn_txn.proofs.Known.{least_low, some_node, read_low, number, version, page_of, told, may}
use Rattle.mn_txn.proofs.Plans.{apart_in_order, plan_shown, shown_in_order}
use Rattle.mn_txn.proofs.Attempts.{Facts, acts, compares_pass}

module _ (moves_tell : MovesTell) (moves_read : MovesRead) (moves_come_once : MovesComeOnce) (reads_are_draft : ReadsAreDraft) (compares_tell : ComparesTell) (numbers_go_on : NumbersGoOn) (kept : List Head) (nodes : ℕ) (a : Attempt) (is : IsAttempt kept nodes a) (un : IsUnmet a) (memory : List (List ℕ)) (store : Store)
    (many : length memory ≡ nodes) (holds : Holds memory store) (on : ContinuesCatalog kept (heads_of store)) where
  abbrev f : Forest
  f = holds.forest

  abbrev addrs : List Addr
  addrs = leaves_at a.moves a.draft.read

  abbrev node : NodeNo
  node = least_addr addrs

  abbrev no_count : ℕ → ℕ
  no_count n = 0

  abbrev compared : List Image
  compared = came_images a.moves addrs ++ (entry_images node a ++ [])

  in_f : InStore f store a.name a.version.0
  in_f = version kept nodes a is addrs node [] no_count [] memory store many holds on moves_tell moves_read moves_come_once reads_are_draft compares_tell

  reads : AreReads a.moves a.draft
  reads = moves_read (parents_of kept) a.version a.entry.root a.moves a.draft is.leads

  module _ (es : List Entry) (hold : ComparesHold es memory (map compare_of compared ++ [])) (was_shown : ReadsAreShown es compared) where
    told_all : AreTold f.entries (page_at f) a.version in_f.version.pairs a.moves a.draft a.steps a.reply
    unfolding in_f
    told_all = told kept nodes a is addrs node [] no_count [] memory store many holds on moves_tell moves_read moves_come_once reads_are_draft compares_tell es hold was_shown (λ x noted. noted)

    read_leaf : (x : Addr) → is_noted addrs x ≡ true → is_noted a.draft.read x ≡ true
    read_leaf x noted = (and_parts (is_leaf_at a.moves x) (is_noted a.draft.read x) (sym (noted_filter (is_leaf_at a.moves) a.draft.read x) ∙ noted)).1

    -- the node of the entry
    node_low : node.0 < nodes
    node_low =
        least_low nodes addrs (some_node kept nodes a is addrs node [] no_count [] memory store many holds on moves_tell moves_read moves_come_once reads_are_draft compares_tell)
        (all_noted (λ x. x.node.0 < nodes) addrs (λ x noted. read_low kept nodes a is addrs node [] no_count [] memory store many holds on moves_tell moves_read moves_come_once reads_are_draft compares_tell x (read_leaf x noted)))

    may_run : (in_f.entry.frozen && list_any is_change a.steps) ≡ false
    unfolding in_f
    may_run = may kept nodes a is addrs node [] no_count [] memory store many holds on moves_tell moves_read moves_come_once reads_are_draft compares_tell es hold was_shown (λ x noted. noted) node_low

    facts : Facts f store nodes a in_f.version addrs node [] [] [] no_count no_count
    facts = record {
      pairs = in_f.pairs;
      told = told_all;
      few = is.few;
      entry = entry_length a.entry is.entry;
      least = ap least_addr (sym (append-nil addrs));
      came = all_noted (λ x. (p : Page) × (came_at a.moves x ≡ Some p) × (page_at f x ≡ Some p) × IsPage p) addrs (λ x noted.
          let c = reads.came x (read_leaf x noted) in
          (c.0, c.1, page_of kept nodes a is addrs node [] no_count [] memory store many holds on moves_tell moves_read moves_come_once reads_are_draft compares_tell es hold was_shown x c.0 noted c.1 c.2, c.2));
      sorts = λ x noted. inl noted;
      leaves = λ x noted. noted;
      changes = tt;
      news = tt;
      pages = tt;
      picks = tt;
      ascend = tt;
      gives = tt;
    }

    pub unmet_acts : ImagesAreApart compared → PlanActs memory store holds (Tx a.name a.steps) (record { nodes = nodes; items = map compare_of compared ++ [] }) a.reply
    unmet_acts apart =
        acts f store nodes a in_f.version addrs node [] [] [] no_count no_count facts memory holds refl (numbers_go_on memory store holds)
        (number kept nodes a is addrs node [] no_count [] memory store many holds on moves_tell moves_read moves_come_once reads_are_draft compares_tell)
        (subst (λ (m : List (List ℕ)). Holds m (applied store (Tx a.name a.steps)).store) (sym (compares_pass memory compared []))
        (subst (Holds memory)
        (sym (applied_nothing f store a.name a.version.0 a.steps in_f may_run (one_unmet in_f.version.pairs 1 in_f.version.pairs [] a.steps un.step un.found (sym told_all.replies ∙ un.reply)))) holds))
        (told_all.replies ∙ sym (applied_reply f store a.name a.version.0 a.steps in_f may_run)) apart tt

pub unmet_is_planned : MovesTell → MovesRead → MovesComeOnce → ReadsAreDraft → ComparesTell → NumbersGoOn → PlansAreInOrder → UnmetIsPlanned
unmet_is_planned moves_tell moves_read moves_come_once reads_are_draft compares_tell numbers_go_on in_order kept t a is un apart_reads reads_are no_writes es was_shown = record {
  shown = plan_shown es t was_shown;
  acts = λ memory store many sizes holds on hold.
      subst (λ (m : Mini). PlanActs memory store holds (Tx a.name a.steps) m a.reply) (sym mini_is)
      (unmet_acts moves_tell moves_read moves_come_once reads_are_draft compares_tell numbers_go_on kept t.nodes a is un memory store many holds on es
      (subst (λ (m : Mini). ComparesHold es memory m.items) mini_is hold) (subst (ReadsAreShown es) (reads_are ∙ all_reads) (shown_in_order es t.reads was_shown)) (subst ImagesAreApart (reads_are ∙ all_reads) (apart_in_order t.reads apart_reads)));
  order = in_order t apart_reads (subst ImagesAreApart (sym no_writes) tt);
  kind = tt;
}
  where
    node : NodeNo
    node = least_addr (leaves_at a.moves a.draft.read)

    all_reads : unmet_reads a ≡ came_images a.moves (leaves_at a.moves a.draft.read) ++ (entry_images node a ++ [])
    all_reads = ap (λ (l : List Image). came_images a.moves (leaves_at a.moves a.draft.read) ++ l) (sym (append-nil (entry_images node a)))

    mini_is : plan_of t ≡ record { nodes = t.nodes; items = map compare_of (came_images a.moves (leaves_at a.moves a.draft.read) ++ (entry_images node a ++ [])) ++ [] }
    mini_is =
        ap (λ (rs : List Image). let m : Mini = record { nodes = t.nodes; items = map compare_of rs ++ map write_of (in_item_order t.writes) } in m) (reads_are ∙ all_reads)
        ∙ ap (λ (ws : List Image). let m : Mini = record { nodes = t.nodes; items = map compare_of (came_images a.moves (leaves_at a.moves a.draft.read) ++ (entry_images node a ++ [])) ++ map write_of (in_item_order ws) } in m) no_writes
