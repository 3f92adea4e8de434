-- Clients by name, in a map.
use Rattle.std.specs.Prelude.{ℕ, ◌≡◌, List, Option}
use Rattle.std.specs.BTreeMap.{BTreeMap, get_by}
use Rattle.std.specs.Cmp.Lexicographic.{slice_cmp}
use Rattle.std.specs.Ordering.{nat_cmp}
use Rattle.mn_script.specs.declared.elements.ScriptClient.{ScriptClient}
use Rattle.mn_script.specs.Lines.{client_named}

module _ {K : Type 0} (bytes : K → List ℕ) where
  -- what a map, whose keys have these bytes, has at a name
  abbrev pub number_in : BTreeMap K ℕ → List ℕ → Option ℕ
  number_in numbers name = get_by (λ k. slice_cmp nat_cmp name (bytes k)) numbers

  -- it has at each name the number of the client of this name, and nothing else
  abbrev pub AreNumbered : BTreeMap K ℕ → List ScriptClient → Type 0
  AreNumbered numbers clients = (name : List ℕ) → number_in numbers name ≡ client_named clients name
