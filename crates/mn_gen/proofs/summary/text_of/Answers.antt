use Rattle.std.proofs.Common.{◌≡◌, ◌∙◌, ap, ℕ, List, [], ◌++◌}
use Rattle.std.proofs.lemmas.List.{append_assoc}
use Rattle.std.specs.Prelude.{codes}
use Rattle.mn_report.specs.Report.{line}
use Rattle.mn_report.specs.Spelling.{spaced_number}
use Rattle.mn_gen.proofs.summary.text_of.Goals as goal

-- lines that were put one behind the other
joined : (o0 o1 o2 o3 o4 o5 l1 l2 l3 l4 l5 : List ℕ) → o0 ≡ [] → o1 ≡ o0 ++ l1 → o2 ≡ o1 ++ l2 → o3 ≡ o2 ++ l3 → o4 ≡ o3 ++ l4 → o5 ≡ o4 ++ l5 → o5 ≡ l1 ++ (l2 ++ (l3 ++ (l4 ++ l5)))
joined o0 o1 o2 o3 o4 o5 l1 l2 l3 l4 l5 e0 e1 e2 e3 e4 e5 =
    let one : o1 ≡ l1 = e1 ∙ ap (λ o. o ++ l1) e0 in
    e5 ∙ ap (λ o. o ++ l5) (e4 ∙ ap (λ o. o ++ l4) (e3 ∙ ap (λ o. o ++ l3) (e2 ∙ ap (λ o. o ++ l2) one)))
    ∙ append_assoc (l1 ++ l2 ++ l3) l4 l5 ∙ append_assoc (l1 ++ l2) l3 (l4 ++ l5) ∙ append_assoc l1 l2 (l3 ++ (l4 ++ l5))

pub returns : goal.returns
returns c =
    let l1 = line (codes "clients" ++ spaced_number c.args.clients) in
    let l2 = line (codes "operations" ++ spaced_number c.args.operations) in
    let l3 = line (codes "sum" ++ (spaced_number c.least_of.result ++ spaced_number c.greatest_of.result)) in
    let l4 = line (codes "doubts" ++ spaced_number c.args.listed) in
    let l5 = line (codes "end") in
    let all = joined c.new-out.result.items c.push_line.new.out.items c.push_line-2.new.out.items c.push_numbers.new.out.items c.push_line-3.new.out.items c.extend_from_slice.new.self.items l1 l2 l3 l4 l5
    c.new-out.ensures.items c.in_ok-push_line.ensures c.in_ok-push_line-2.ensures c.in_ok-push_numbers.ensures c.in_ok-push_line-3.ensures c.in_ok-extend_from_slice.ensures.items in
    c.from_vec.ensures ∙ all ∙ (λ k. l1 ++ (l2 ++ (line (codes "sum" ++ (spaced_number (c.least_of.ensures k) ++ spaced_number (c.greatest_of.ensures k))) ++ (l4 ++ l5))))
