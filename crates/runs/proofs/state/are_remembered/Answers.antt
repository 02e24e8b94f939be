use Rattle.std.proofs.Common.{◌≡◌, ◌+◌, ◌∙◌, ◌++◌, ◌∷◌, [], List, ap, append_assoc, map, rules, sym, take}
use Rattle.std.proofs.lemmas.List.{map-append, take_more}
use Rattle.rootchain.specs.declared.signed_promise.SignedPromise.{SignedPromise}
use Rattle.memory.specs.Memories.{signed_of}
use Rattle.memory.specs.declared.promised.Promised.{Promised}
use Rattle.runs.proofs.state.are_remembered.Goals as goal

pub loop-promised-preserved : goal.loop-promised-preserved
loop-promised-preserved c =
    let items = c.args.remembered.now in
    let place = c.loop-promised.promised-index in
    let promised = c.promised-item.result in
    let signed = c.in-Some.signed.now in
    let front = take place items in
    let whole : take (place + 1) items ≡ front ++ promised ∷ [] = take_more items place promised c.loop-promised-test.true ∙ ap (λ (p : Promised). front ++ p ∷ []) (sym c.promised-item.is) in
    let mapped : map signed_of (take (place + 1) items) ≡ map signed_of front ++ promised.signed ∷ [] = ap (map signed_of) whole ∙ map-append signed_of front (promised ∷ []) in
    let same : promised.signed ≡ signed = search rules in
    let split : c.loop-promised.rest.now ≡ signed ∷ c.in-Some.more.now = search rules in
    rw (mapped, same) (c.loop-promised.invariant ∙ ap (λ (xs : List SignedPromise). map signed_of front ++ xs) split ∙ sym (append_assoc (map signed_of front) (signed ∷ []) c.in-Some.more.now))
