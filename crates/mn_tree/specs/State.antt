-- The tree as a transaction changes it, and what each of its calls makes of it.
use Rattle.std.specs.Prelude.{ℕ, ◌≡◌, ◌&&◌, Bool, false, nat_le, List, [], ◌∷◌}
use Rattle.std.specs.Prelude.{◌++◌, length, Option, Some, None, is_some, if◌then◌else◌, ⊤}
use Rattle.std.specs.Option.{option_map, option_map_or, option_to_list}
use Rattle.mn_base.specs.Store.{value_at, is_unmet, step_key}
use Rattle.mn_base.specs.Tree.{serves}
use Rattle.mn_base.specs.declared.ids.Addr.{Addr}
use Rattle.mn_base.specs.declared.ids.VersionNo.{VersionNo}
use Rattle.mn_base.specs.declared.op.Step.{Step}
use Rattle.mn_base.specs.declared.op.Step.TheVariants.{Get, Put, Del, Check}
use Rattle.mn_base.specs.declared.reply.Pair.{Pair}
use Rattle.mn_page.specs.declared.page.Page.{Page}
use Rattle.mn_page.specs.Grammar.{height_of}
use Rattle.mn_page.specs.Holds.{page_covers}
use Rattle.mn_page.specs.Overlay.{Held, Overlay, overlay_of, held_with, step_on, path_pairs}
use Rattle.mn_page.specs.Overlay.{placed_addr}
use Rattle.mn_path.specs.Walk.{is_below, max_height}
use Rattle.mn_tree.specs.declared.error.AddError.{AddError}
use Rattle.mn_tree.specs.declared.error.AddError.TheVariants as refusals
use Rattle.mn_tree.specs.declared.draft.Draft.{Draft}
use Rattle.mn_tree.specs.declared.stepped.Stepped.{Stepped}
use Rattle.mn_tree.specs.declared.stepped.Stepped.TheVariants.{Need, BadPath, Found, Changed, Same}
use Rattle.mn_tree.specs.declared.stepped.Stepped.TheVariants.{Unmet}
use Rattle.mn_tree.specs.declared.write.Write.{Write}
use Rattle.mn_tree.specs.Walk.{Walk, Missing, Wrong, Reached, helds, walk}
use Rattle.mn_tree.specs.Writes.{origins_in, step_writes, joined, all_joined, written}

-- the pages as the steps left them; the old pages of the read set in the order in which they
-- joined, a leaf when it is first touched and another page when it is first changed; and for each
-- new page where the page was read that it was made of
pub record Drafted : Type 0 where
  pub overlay : Overlay
  pub read : List Addr
  pub origins : List Addr

abbrev pub drafted : Draft → Drafted
drafted d =
    record {
      overlay = record {
        pages = helds d.pages.items;
        changed = d.changed.items;
        fresh = length d.origins.items;
      };
      read = d.read.items;
      origins = d.origins.items;
    }

-- a page as a step leaves it
abbrev pub draft_written : Drafted → Write → Drafted
draft_written d w =
    record {
      overlay = written d.overlay w;
      read = joined d.read w.addr;
      origins = d.origins ++ option_to_list w.origin;
    }

-- pages in their turn
abbrev pub all_drafted : Drafted → List Write → Drafted
all_drafted d [] = d
all_drafted d (w ∷ ws) = all_drafted (draft_written d w) ws

-- a leaf that is touched joins the read set
abbrev pub touched : Drafted → Addr → Drafted
touched d leaf = record { overlay = d.overlay; read = joined d.read leaf; origins = d.origins }

-- the page that a step asked for: where it stands, the step's key, and the height of the page that
-- names it, if one does
pub record Wanted : Type 0 where
  pub addr : Addr
  pub key : List ℕ
  pub above : Option ℕ

-- the version tree by its parents, the version that is read and changed, its root, the pages, and
-- what the last step asked for
pub record TreeState : Type 0 where
  pub parents : List (Option ℕ)
  pub version : VersionNo
  pub root : Addr
  pub draft : Drafted
  pub wanted : Option Wanted

abbrev pub no_pages : Drafted
no_pages = record { overlay = overlay_of []; read = []; origins = [] }

-- no page is there yet
abbrev pub new_state : List (Option ℕ) → VersionNo → Addr → TreeState
new_state parents version root =
    record { parents = parents; version = version; root = root; draft = no_pages; wanted = None }

-- Pages that come in

-- it serves the version, covers the key, is one height below the page that names it, and isn't too
-- high
abbrev pub may_come_in : TreeState → Page → Wanted → Bool
may_come_in s p w =
    serves s.parents p.made.0 p.copied s.version.0
    && (page_covers w.key p && (is_below w.above (height_of p.body)
    && nat_le (height_of p.body) max_height))

-- it is what the last step asked for
abbrev pub fits : TreeState → Page → Bool
fits s p = option_map_or (may_come_in s p) s.wanted false

-- a step asked for a page at this address
abbrev pub IsWanted : TreeState → Addr → Type 0
IsWanted s addr = option_map (λ w. w.addr) s.wanted ≡ Some addr

abbrev pub drafted_with : Drafted → Addr → Page → Drafted
drafted_with d addr page =
    record {
      overlay = record {
        pages = held_with d.overlay.pages addr page;
        changed = d.overlay.changed;
        fresh = d.overlay.fresh;
      };
      read = d.read;
      origins = d.origins;
    }

abbrev pub with_draft : TreeState → Drafted → Option Wanted → TreeState
with_draft s d wanted =
    record { parents = s.parents; version = s.version; root = s.root; draft = d; wanted = wanted }

abbrev pub with_page : TreeState → Addr → Page → TreeState
with_page s addr page = with_draft s (drafted_with s.draft addr page) None

-- why a page is refused
abbrev pub RefusesPage : TreeState → Addr → Page → AddError → Type 0
RefusesPage s addr page (refusals.BadPath at) = (at ≡ addr) × (fits s page ≡ false)
RefusesPage s addr page refusals.NoMemory = ⊤

-- Steps

-- the answer of a step, by the pairs of its leaf
abbrev pub told : Step → List Pair → Stepped
told (Get key) ps = Found (value_at ps key)
told (Put key value) ps = Changed
told (Del key) ps = if is_some (value_at ps key) then Changed else Same
told (Check key want) ps = if is_unmet ps (Check key want) then Unmet (value_at ps key) else Same

-- the leaf of a path joins the read set
abbrev pub leaf_joined : List Addr → List Held → List Addr
leaf_joined read [] = read
leaf_joined read (h ∷ above) = joined read h.addr

abbrev pub drafted_after : VersionNo → Drafted → Step → List Held → Drafted
drafted_after v d step path =
    let ws = step_writes v d.overlay.fresh d.origins step path in
    record {
      overlay = step_on v d.overlay step path;
      read = all_joined (leaf_joined d.read path) ws;
      origins = d.origins ++ origins_in ws;
    }

-- the answer of a step, and what it leaves
pub record Stepping : Type 0 where
  pub answer : Stepped
  pub state : TreeState

abbrev pub stepping : TreeState → Step → Walk → Stepping
stepping s step (Missing addr above) =
    record {
      answer = Need addr;
      state = with_draft s s.draft
          (Some (record { addr = addr; key = step_key step; above = above }));
    }
stepping s step (Wrong addr) =
    record {
      answer = BadPath (placed_addr s.draft.origins addr);
      state = with_draft s s.draft None;
    }
stepping s step (Reached path) =
    record {
      answer = told step (path_pairs path);
      state = with_draft s (drafted_after s.version s.draft step path) None;
    }

-- a step goes down from the root to the leaf of its key, by pages that serve the version
abbrev pub stepped : TreeState → Step → Stepping
stepped s step =
    stepping s step (walk s.parents s.version.0 s.draft.overlay.pages s.root (step_key step))

-- what the answer asks for is wanted
abbrev pub AsksFor : TreeState → Stepped → Type 0
AsksFor s (Need addr) = IsWanted s addr
AsksFor s (BadPath addr) = ⊤
AsksFor s (Found value) = ⊤
AsksFor s Changed = ⊤
AsksFor s Same = ⊤
AsksFor s (Unmet found) = ⊤
