use Rattle.std.proofs.Common.{◌≡◌, ◌-◌, ◌++◌, length, replicate, ◌∙◌, arith}
use Rattle.mn_page.proofs.Scanned.{are_bytes}
use Rattle.mn_page.proofs.FrontVersions.{versions_no, versions_yes}
use Rattle.mn_page.proofs.page_front.versions_go_on.Goals as goal

pub returns-in-Some-first_versions : goal.returns-in-Some-first_versions
returns-in-Some-first_versions c = λ fits.
    let bytes = c.args.bytes.now in
    let whole : c.as_slice.result.now ≡ bytes ++ replicate (9 - length bytes) 0 = c.as_slice.ensures.value ∙ c.in-Some.ensures in
    versions_yes bytes c.as_slice.result.now _ _ fits whole c.in-Some-first_versions.ensures.found

pub returns-in-None : goal.returns-in-None
returns-in-None c = λ fits.
    let bytes = c.args.bytes.now in
    let whole : c.as_slice.result.now ≡ bytes ++ replicate (9 - length bytes) 0 = c.as_slice.ensures.value ∙ c.in-Some.ensures in
    versions_no bytes c.as_slice.result.now fits (are_bytes bytes (λ i. omega (arith, c.type_inv.bytes i))) whole c.in-None.ensures.only
