use Rattle.std.proofs.Common.{◌≡◌, ◌+◌, ◌∙◌, ◌++◌, ◌∷◌, [], Contains, ap, map, rules, sym, take}
use Rattle.std.proofs.lemmas.List.{map-append, take_more}
use Rattle.rootchain.specs.declared.signed_promise.SignedPromise.{SignedPromise}
use Rattle.memory.specs.Lists.{IsLeft}
use Rattle.memory.specs.Memories.{signed_of}
use Rattle.memory.specs.declared.promised.Promised.{Promised}
use Rattle.memory.proofs.Left.{left-more, left-skip}
use Rattle.memory.proofs.memory.Memory.gone.Goals.{else-not-contains, then-not-contains+in_ok-push}
use Rattle.memory.proofs.memory.Memory.gone.Goals as goal

pub loop-promised-preserved : goal.loop-promised-preserved
loop-promised-preserved c =
    let items = c.promises-promised-items.result.now in
    let place = c.loop-promised.promised-index in
    let promised = c.promised-item.result in
    let signed = promised.signed in
    let front = take place items in
    let whole : take (place + 1) items ≡ front ++ promised ∷ [] = take_more items place promised c.loop-promised-test.true ∙ ap (λ (p : Promised). front ++ p ∷ []) (sym c.promised-item.is) in
    let mapped : map signed_of (take (place + 1) items) ≡ map signed_of front ++ signed ∷ [] = ap (map signed_of) whole ∙ map-append signed_of front (promised ∷ []) in
    let Stays = λ (s : SignedPromise). ¬ Contains c.args.kept.now s in
    let left : IsLeft Stays (map signed_of (take (place + 1) items)) c.if-not-contains.gone.items = rw mapped (elim c.if-not-contains.branch [
      | then-not-contains+in_ok-push w ↦
          let stays : ¬ Contains c.args.kept.now signed = search rules in
          rw (w.gone-is, w.in_ok-push.ensures.items, w.copied.ensures) (left-more Stays (map signed_of front) signed c.loop-promised.gone.items stays c.loop-promised.invariant)
      | else-not-contains w ↦
          let there : Contains c.args.kept.now signed = search rules in
          rw w.gone-is (left-skip Stays (map signed_of front) signed c.loop-promised.gone.items (λ stays. stays there) c.loop-promised.invariant)
    ]) in
    left
