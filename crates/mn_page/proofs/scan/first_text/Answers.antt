use Rattle.std.proofs.Common.{◌≡◌, ℕ, List, true, sym, subst, arith}
use Rattle.std.proofs.lemmas.Grind.{common_steps}
use Rattle.std.specs.Prelude.{nat_lt}
use Rattle.std.specs.List.{list_all}
use Rattle.mn_page.proofs.Scanned.{are_bytes, all_take}
use Rattle.mn_page.proofs.scan.first_text.Goals as goal

pub returns-clause-found : goal.returns-clause-found
returns-clause-found c =
    let all = all_take (λ b. nat_lt b 256) c.args.length c.args.bytes.now (are_bytes c.args.bytes.now (λ i. omega (arith, c.type_inv.bytes i))) in
    let size = c.split_at.ensures.front_len in
    record {
      may = (omega (arith, size), omega (arith, size), subst (λ (l : List ℕ). list_all (λ b. nat_lt b 256) l ≡ true) (sym c.split_at.ensures.front) all);
      spelled = grind (arith, common_steps);
    }
