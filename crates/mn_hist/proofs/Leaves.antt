-- What the bytes of one read tell is what a client's list shows by it.
use Rattle.std.proofs.Common.{◌≡◌, ℕ, ◌≤◌, inl, inr, Bool, true, false, List, [], ◌∷◌, Option, Some, None, refl, subst, sym, ap, ◌∙◌, arith}
use Rattle.std.specs.Prelude.{Result, Ok, Err, IfOk}
use Rattle.std.proofs.lemmas.List.Elements.{All-from_recursion, recursion_from_All}
use Rattle.mn_base.specs.Store.{number_named, value_at}
use Rattle.mn_base.specs.declared.error.NoMemory.{NoMemory}
use Rattle.mn_base.specs.declared.ids.Addr.{Addr}
use Rattle.mn_base.specs.declared.op.Op.{Op}
use Rattle.mn_base.specs.declared.op.Op.TheVariants.{Tx, Snapshot, Branch, Scan, Versions}
use Rattle.mn_base.specs.declared.op.Step.{Step}
use Rattle.mn_base.specs.declared.op.Step.TheVariants.{Get, Put, Del, Check}
use Rattle.mn_base.specs.declared.reply.Reply.{Reply}
use Rattle.mn_base.specs.declared.reply.Reply.TheVariants as Say
use Rattle.mn_page.specs.declared.page.Body.{Body}
use Rattle.mn_page.specs.declared.page.Body.TheVariants.{Leaf, Inner}
use Rattle.mn_page.specs.declared.page.Page.{Page}
use Rattle.mn_page.specs.declared.entry.CatEntry.{CatEntry}
use Rattle.mn_page.specs.Grammar.{IsEntry, IsBody, height_of}
use Rattle.mn_page.specs.Forest.{heads_in}
use Rattle.mn_page.specs.Holds.{page_covers, page_serves, pairs_in}
use Rattle.mn_base.proofs.Booleans.{clash}
use Rattle.mn_plans.proofs.Catalogs.{catalog_once}
use Rattle.mn_runs.specs.declared.entry.Entry.{Entry}
use Rattle.mn_law.specs.Places.{page_place}
use Rattle.mn_runs.specs.Seen.{Seen}
use Rattle.mn_law.specs.Shown.{LeafShows, ReadShows, ServesNamed, ShowsCatalog}
use Rattle.mn_law.proofs.Shows.{page_is_no_catalog}
use Rattle.mn_hist.specs.Shown.{TestDecides, is_of_catalog, HasCatalog, IsUnshownBy, LastServesAll, TellsShown, CatalogBytesShow, lone_key, found_at, LeafBytesShow, LeafShowsBy, CatalogServes, SpellsTree, IsServedByCatalog}
use Rattle.mn_hist.proofs.Places.{catalog_read, no_catalog_read}

pub if_ok : {P Q : Bool → Type 0} (r : Result Bool NoMemory) → IfOk r P → ((b : Bool) → P b → Q b) → IfOk r Q
if_ok (Ok b) p to = to b p
if_ok (Err e) p to = tt

-- Catalogs

same_tree : (bytes : List ℕ) (entries others : List CatEntry) → SpellsTree bytes entries → SpellsTree bytes others → others ≡ entries
same_tree bytes entries others one other = catalog_once others entries (recursion_from_All IsEntry others other.0.0.1) (recursion_from_All IsEntry entries one.0.0.1) (sym other.0.1 ∙ one.0.1)

-- no version of this name is served
pub none_served : (bytes name : List ℕ) (page : Page) (entries : List CatEntry) → SpellsTree bytes entries → number_named (heads_in entries) name ≡ None → CatalogServes bytes name page → ⊥
none_served bytes name page entries tree none (others, other, (v, named, serves)) =
    let same = same_tree bytes entries others tree other in
    absurd (none_some v (sym none ∙ subst (λ (l : List CatEntry). number_named (heads_in l) name ≡ Some v) same named))
  where
    none_some : (v : ℕ) → ◌≡◌ {A = Option ℕ} None (Some v) → ⊥
    none_some v e = cc

-- whether the version of this number is
pub named_served : (b : Bool) (bytes name : List ℕ) (page : Page) (entries : List CatEntry) (v : ℕ) → SpellsTree bytes entries → number_named (heads_in entries) name ≡ Some v → b ≡ page_serves entries v page → TestDecides b (CatalogServes bytes name page)
named_served true bytes name page entries v tree named is = (entries, tree, (v, named, sym is))
named_served false bytes name page entries v tree named is = λ served. by served
  where
    unsome : (a b : ℕ) → Some a ≡ Some b → a ≡ b
    unsome a b e = cc

    by : CatalogServes bytes name page → ⊥
    by (others, other, (w, named', serves)) =
        let same = same_tree bytes entries others tree other in
        let number : w ≡ v = unsome w v (sym (subst (λ (l : List CatEntry). number_named (heads_in l) name ≡ Some w) same named') ∙ named) in
        let yes : page_serves entries v page ≡ true = subst (λ (k : ℕ). page_serves entries k page ≡ true) number (subst (λ (l : List CatEntry). page_serves l w page ≡ true) same serves) in
        clash (page_serves entries v page) yes (sym is)

-- a leaf stands at a page's place
leaf_place : (es : List Entry) (seen : Seen) (op : Op) (reply : Reply) → LeafShows es seen op reply → (addr : Addr) × (seen.place ≡ page_place addr)
leaf_place es seen (Tx name []) reply shown = absurd shown
leaf_place es seen (Tx name (Put key value ∷ steps)) reply shown = absurd shown
leaf_place es seen (Tx name (Del key ∷ steps)) reply shown = absurd shown
leaf_place es seen (Tx name (Check key want ∷ steps)) reply shown = absurd shown
leaf_place es seen (Tx name (Get key ∷ (step ∷ steps))) reply shown = absurd shown
leaf_place es seen (Tx name (Get key ∷ [])) reply shown = (shown.1, shown.4.0)
leaf_place es seen (Snapshot name child) reply shown = absurd shown
leaf_place es seen (Branch name child) reply shown = absurd shown
leaf_place es seen (Scan name low high limit) reply shown = absurd shown
leaf_place es seen Versions reply shown = absurd shown

pub catalog_tells : (catalog : Option (List ℕ)) (seen : Seen) (op : Op) (reply : Reply) → is_of_catalog seen ≡ true → (b : Bool) → TestDecides b (CatalogBytesShow seen.bytes op reply) → TellsShown b catalog seen op reply
catalog_tells catalog seen op reply is true (entries, spelled, replies) = λ es has. inr (entries, (catalog_read seen is, spelled.0.0, recursion_from_All IsEntry entries spelled.0.1, spelled.1), replies)
catalog_tells catalog seen op reply is false none = λ es serves shows. by es shows
  where
    by : (es : List Entry) → ReadShows es seen op reply → ⊥
    by es (inl leaf) = let at = leaf_place es seen op reply leaf in page_is_no_catalog at.0 (sym (catalog_read seen is) ∙ at.1)
    by es (inr (entries, sees, replies)) = none (entries, ((sees.1, All-from_recursion IsEntry entries sees.2), sees.3), replies)

-- Leaves

pub page_unshown : (catalog : Option (List ℕ)) (seen : Seen) (op : Op) (reply : Reply) → is_of_catalog seen ≡ false → ((addr : Addr) × (seen.place ≡ page_place addr) → ⊥) → IsUnshownBy catalog seen op reply
page_unshown catalog seen op reply other none es serves (inl leaf) = none (leaf_place es seen op reply leaf)
page_unshown catalog seen op reply other none es serves (inr (entries, sees, replies)) = no_catalog_read seen other sees.0

record LeafFacts (page : Page) (key : List ℕ) (value : Option (List ℕ)) : Type 0 where
  leaf : height_of page.body ≡ 0
  covers : page_covers key page ≡ true
  is : value ≡ value_at (pairs_in page.body) key

facts : (covers : Bool) (body : Body) (key : List ℕ) (value : Option (List ℕ)) → found_at covers body key ≡ Some value → (height_of body ≡ 0) × (covers ≡ true) × (value ≡ value_at (pairs_in body) key)
facts true (Leaf pairs) key value e = (refl, refl, same e)
  where
    same : {v : Option (List ℕ)} → Some v ≡ Some value → value ≡ v
    same e = cc
facts true (Inner height first rest) key value e = absurd cc
facts false body key value e = absurd cc

found_back : (covers : Bool) (low : List ℕ) (high : Option (List ℕ)) (body : Body) (key : List ℕ) → IsBody low high body → height_of body ≡ 0 → covers ≡ true → found_at covers body key ≡ Some (value_at (pairs_in body) key)
found_back true low high (Leaf pairs) key is leaf c = refl
found_back true low high (Inner height first rest) key is leaf c = let one : 1 ≤ height = is.0 in let none : height ≡ 0 = leaf in absurd (omega (arith, one, none))
found_back false low high body key is leaf c = absurd cc

pub lone_steps : (steps : List Step) (key : List ℕ) → lone_key steps ≡ Some key → steps ≡ Get key ∷ []
lone_steps [] key e = absurd cc
lone_steps (Get k ∷ []) key e = ap (λ (x : List ℕ). Get x ∷ []) (same k key e)
  where
    same : (a b : List ℕ) → Some a ≡ Some b → a ≡ b
    same a b e = cc
lone_steps (Get k ∷ (step ∷ steps)) key e = absurd cc
lone_steps (Put k value ∷ steps) key e = absurd cc
lone_steps (Del k ∷ steps) key e = absurd cc
lone_steps (Check k want ∷ steps) key e = absurd cc

shows_leaf : (catalog : Option (List ℕ)) (seen : Seen) (name key : List ℕ) (reply : Reply) (addr : Addr) (page : Page) (es : List Entry) → seen.place ≡ page_place addr → LeafBytesShow seen.bytes key reply page → IsServedByCatalog catalog name page → HasCatalog es catalog
    → LeafShows es seen (Tx name (Get key ∷ [])) reply
shows_leaf None seen name key reply addr page es at gives served has = absurd served
shows_leaf (Some bytes) seen name key reply addr page es at gives (entries, (spelled, less), serves) (catalog, there, is, same) =
    let f = facts (page_covers key page) page.body key gives.value gives.found in (
      entries,
      addr,
      page,
      (catalog, there, (is, spelled.0.0, recursion_from_All IsEntry entries spelled.0.1, same ∙ spelled.1)),
      (at, gives.spelled),
      f.0,
      serves,
      f.1,
      gives.is ∙ ap (λ (o : Option (List ℕ)). Say.Values (o ∷ [])) f.2,
    )

-- what is served by a catalog of the list is served by the last one
last_served : (catalog : Option (List ℕ)) (es : List Entry) (entries : List CatEntry) (name : List ℕ) (page : Page) → LastServesAll es catalog → ShowsCatalog es entries → ServesNamed entries name page → IsServedByCatalog catalog name page
last_served None es entries name page none shows serves = none entries shows
last_served (Some bytes) es entries name page (last, tree, all) shows serves = (last, tree, all entries shows name page serves)

lone_tells : (catalog : Option (List ℕ)) (seen : Seen) (name key : List ℕ) (reply : Reply) → (addr : Addr) × (seen.place ≡ page_place addr) → is_of_catalog seen ≡ false
    → (b : Bool) → TestDecides b (LeafShowsBy catalog seen.bytes name key reply) → TellsShown b catalog seen (Tx name (Get key ∷ [])) reply
lone_tells catalog seen name key reply at other true (page, gives, served) = λ es has. inl (shows_leaf catalog seen name key reply at.0 page es at.1 gives served has)
lone_tells catalog seen name key reply at other false none = λ es serve shows. by es serve shows
  where
    by : (es : List Entry) → LastServesAll es catalog → ReadShows es seen (Tx name (Get key ∷ [])) reply → ⊥
    by es serve (inl (entries, addr, page, catalog', sees, leaf, serves, covers, is)) = none (
      page,
      record { spelled = sees.1; value = value_at (pairs_in page.body) key; found = found_back (page_covers key page) page.low page.high page.body key sees.1.0.body leaf covers; is = is },
      last_served catalog es entries name page serve catalog' serves,
    )
    by es serve (inr (entries, sees, replies)) = no_catalog_read seen other sees.0

pub leaf_tells : (catalog : Option (List ℕ)) (seen : Seen) (op : Op) (name : List ℕ) (steps : List Step) (key : List ℕ) (reply : Reply) → op ≡ Tx name steps → Some key ≡ lone_key steps
    → (addr : Addr) × (seen.place ≡ page_place addr) → is_of_catalog seen ≡ false
    → (b : Bool) → TestDecides b (LeafShowsBy catalog seen.bytes name key reply) → TellsShown b catalog seen op reply
leaf_tells catalog seen op name steps key reply is lone at other b tells =
    subst (λ (o : Op). TellsShown b catalog seen o reply) (sym (is ∙ ap (Tx name) (lone_steps steps key (sym lone)))) (lone_tells catalog seen name key reply at other b tells)
