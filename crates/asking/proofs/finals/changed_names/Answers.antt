use Rattle.std.proofs.Common.{◌≡◌, ◌+◌, ◌∙◌, ◌++◌, ◌∷◌, [], ℕ, List, ap, get_or, subst, sym, take}
use Rattle.std.proofs.lemmas.List.{take_more}
use Rattle.asking.specs.FinalBindings.{ShowsChange}
use Rattle.asking.proofs.FinalsNoted.{changed-more}
use Rattle.asking.proofs.finals.changed_names.Goals as goal

pub loop-line-preserved : goal.loop-line-preserved
loop-line-preserved c =
    let lines = c.args.evidence.now in
    let place = c.loop-line.line-index in
    let line = c.line-item.result in
    let front = take place lines in
    let shows : ShowsChange line c.in_ok-found.found = subst (λ (l : List ℕ). ShowsChange l c.in_ok-found.found) c.bytes.ensures c.in_ok-found.ensures in
    let next : take (place + 1) lines ≡ front ++ get_or lines place line ∷ [] = take_more lines place line c.loop-line-test.true in
    let whole : take (place + 1) lines ≡ front ++ line ∷ [] = next ∙ ap (λ (l : List ℕ). front ++ l ∷ []) (sym c.line-item.is) in
    let more = changed-more front line c.loop-line.names.items c.in_ok-found.found c.loop-line.invariant shows in
    rw (whole, c.in_ok-push_listed.ensures) more
