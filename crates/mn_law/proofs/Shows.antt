-- What a list shows of places: what it has seen, what an older list showed, and the entries of a
-- catalog.
use Rattle.std.proofs.Common.{◌≡◌, ℕ, ◌+◌, ◌-◌, ◌*◌, ◌<◌, ◌≤◌, ◌⊎◌, inl, inr, List, [], ◌∷◌, ◌++◌, length, Some, refl, subst, sym, ap, ◌∙◌, arith, lit<, slice_get, Contains}
use Rattle.std.specs.List.{flat_map}
use Rattle.std.proofs.lemmas.Grind.{flat_map-append}
use Rattle.std.proofs.lemmas.List.Elements.{Contains-append_left, Contains-append_right, Contains-append_cases}
use Rattle.std.proofs.lemmas.Option.{slice_get_within}
use Rattle.mn_base.specs.declared.ids.NodeNo.{NodeNo}
use Rattle.mn_mini.specs.declared.part.PartItem.TheVariants as Bare
use Rattle.mn_mini.specs.declared.request.Request.{Request}
use Rattle.mn_mini.specs.declared.request.Request.TheVariants as Ask
use Rattle.mn_mini.specs.declared.reply.NodeReply.{NodeReply}
use Rattle.mn_mini.specs.Flat.{bytes_in}
use Rattle.mn_page.specs.declared.entry.CatEntry.{CatEntry}
use Rattle.mn_page.specs.Grammar.{padded, entry_bytes}
use Rattle.mn_page.proofs.Spelled.{length-padded}
use Rattle.mn_runs.specs.declared.entry.Entry.{Entry}
use Rattle.mn_runs.specs.Calls.{Call, calls_of}
use Rattle.mn_runs.specs.Seen.{Place, Seen, seen_by}
use Rattle.mn_law.specs.Places.{entry_place, catalog_node, page_place, catalog_place}
use Rattle.mn_law.specs.Shown.{shown_by, shown_in, GivesPlace, SeesCatalog, SeenIsShown, ShownStays, EntriesAreShown}
use Rattle.mn_runs.proofs.Seen.{seen_by_is}
use Rattle.mn_law.proofs.Pieces.{bytes_in-padded, length-pieces, read_piece, entry_sizes}
use Rattle.mn_runs.proofs.NewCalls.{calls_append}
use Rattle.mn_base.specs.declared.ids.Addr.{Addr}

-- What a list has seen

given_by : (n : NodeNo) (request : Request) (reply : NodeReply) (seen : Seen) → Contains (seen_by n request reply) seen → Contains (shown_by n request reply) seen
given_by n request reply seen has =
    let (tid, start, k, bytes, asked, said, is) = seen_by_is n request reply seen has in
    subst (λ (q : Request). Contains (shown_by n q reply) seen) (sym asked)
    (subst (λ (r : NodeReply). Contains (shown_by n (Ask.Exec tid (Bare.Read start k ∷ [])) r) seen) (sym said) (0, lit< tt, sym is))

given_in : (cs : List Call) (seen : Seen) → Contains (flat_map (λ (c : Call). seen_by c.node c.request c.reply) cs) seen → Contains (flat_map (λ (c : Call). shown_by c.node c.request c.reply) cs) seen
given_in [] seen has = has
given_in (c ∷ cs) seen has = by (given_in cs seen) (Contains-append_cases (seen_by c.node c.request c.reply) (flat_map (λ (d : Call). seen_by d.node d.request d.reply) cs) seen has)
  where
    by : (Contains (flat_map (λ (d : Call). seen_by d.node d.request d.reply) cs) seen → Contains (flat_map (λ (d : Call). shown_by d.node d.request d.reply) cs) seen)
        → Contains (seen_by c.node c.request c.reply) seen ⊎ Contains (flat_map (λ (d : Call). seen_by d.node d.request d.reply) cs) seen
        → Contains (flat_map (λ (d : Call). shown_by d.node d.request d.reply) (c ∷ cs)) seen
    by later (inl here) = Contains-append_left (shown_by c.node c.request c.reply) (flat_map (λ (d : Call). shown_by d.node d.request d.reply) cs) seen (given_by c.node c.request c.reply seen here)
    by later (inr there) = Contains-append_right (shown_by c.node c.request c.reply) (flat_map (λ (d : Call). shown_by d.node d.request d.reply) cs) seen (later there)

pub seen_is_shown : SeenIsShown
seen_is_shown es seen has = given_in (calls_of es) seen has

-- What an older list showed

pub shown_in-append : (xs ys : List Entry) → shown_in (xs ++ ys) ≡ shown_in xs ++ shown_in ys
shown_in-append xs ys =
    ap (flat_map (λ (c : Call). shown_by c.node c.request c.reply)) (calls_append xs ys) ∙ flat_map-append (λ (c : Call). shown_by c.node c.request c.reply) (calls_of xs) (calls_of ys)

pub shown_stays : ShownStays
shown_stays newer older place bytes (seen, has, gives) =
    (seen, subst (λ (ss : List Seen). Contains ss seen) (sym (shown_in-append newer older)) (Contains-append_right (shown_in newer) (shown_in older) seen has), gives)

-- The entries of a catalog

pub entry_given : (seen : Seen) (entries : List CatEntry) (v : ℕ) (e : CatEntry) → SeesCatalog seen entries → slice_get entries v ≡ Some e → GivesPlace seen (entry_place catalog_node v) (entry_bytes e)
entry_given seen entries v e sees at = record {
  node = ap (λ (p : Place). p.node) sees.0;
  begins = let s = starts in omega arith;
  ends = let s = starts in let l = seen_length in let low = within in omega arith;
  part =
      ap (λ (b : List ℕ). bytes_in b (64 + 64 * v - seen.place.start) 64) sees.3
      ∙ (ap (λ k. bytes_in (padded 4096 (flat_map entry_bytes entries)) k 64) inside
      ∙ (bytes_in-padded 4096 (flat_map entry_bytes entries) (64 * v) 64 fits
      ∙ read_piece entry_bytes 64 entries v (64 * v) e (entry_sizes entries sees.2) at refl));
}
  where
    starts : seen.place.start ≡ 64
    starts = ap (λ (p : Place). p.start) sees.0

    few : length entries ≤ 64
    few = sees.1

    within : v < length entries
    within = slice_get_within entries v e at

    long : length (flat_map entry_bytes entries) ≡ 64 * length entries
    long = length-pieces entry_bytes 64 entries (entry_sizes entries sees.2)

    seen_length : length seen.bytes ≡ 4096
    seen_length = ap (λ (b : List ℕ). length b) sees.3 ∙ length-padded 4096 (flat_map entry_bytes entries) (let n = long in let m = few in omega arith)

    inside : 64 + 64 * v - seen.place.start ≡ 64 * v
    inside = let s = starts in omega arith

    fits : 64 * v + 64 ≤ length (flat_map entry_bytes entries)
    fits = let n = long in let low = within in omega arith

pub entries_are_shown : EntriesAreShown
entries_are_shown es seen entries n v e has sees at = (seen, has, inr ((n, v, few, refl), entry_given seen entries v e sees at))
  where
    few : v < 64
    few = let low = slice_get_within entries v e at in let most = sees.1 in omega arith

-- What a list does not show

-- a page and the catalog have other lengths
pub page_is_no_catalog : (addr : Addr) → catalog_place ≡ page_place addr → ⊥
page_is_no_catalog addr e = sizes_differ (ap (λ (x : Place). x.length) e)
  where
    sizes_differ : ◌≡◌ {A = ℕ} 4096 1024 → ⊥
    sizes_differ e = absurd (omega arith)
