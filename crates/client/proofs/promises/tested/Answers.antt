use Rattle.std.proofs.Common.{◌≡◌, ◌<◌, ◌+◌, ◌++◌, ◌∷◌, [], List, suc, take, length, take-suc, sym, ap, subst, ◌∙◌, arith, le_of_lt}
use Rattle.std.proofs.lemmas.List.{length-take-le, take_all}
use Rattle.rootchain.specs.declared.signed_promise.SignedPromise.{SignedPromise}
use Rattle.client.specs.Testing.{IsTestedAmong}
use Rattle.client.proofs.promises.tested.Goals as goal

pub loop-place-init : goal.loop-place-init
loop-place-init c = (omega arith, tt)

pub loop-place-preserved : goal.loop-place-preserved
loop-place-preserved c =
    let promises : List SignedPromise = c.args.promises.now in
    let below : c.loop-place.place < length promises = c.loop-place-test.true in
    let one : c.loop-place.place + 1 ≡ suc c.loop-place.place = omega arith in
    let more : take (suc c.loop-place.place) promises ≡ take c.loop-place.place promises ++ c.index-promises-place.result ∷ [] =
    take-suc promises c.loop-place.place c.index-promises-place.result below ∙ ap (λ (signed : SignedPromise). take c.loop-place.place promises ++ signed ∷ []) (sym c.index-promises-place.is) in (
      omega (arith, below),
      rw one (subst (λ (ps : List SignedPromise). IsTestedAmong ps c.args.name.now c.earlier-least.result) (sym more)
          (c.earlier-least.ensures (take c.loop-place.place promises) (length-take-le c.loop-place.place promises (le_of_lt below)) c.loop-place.invariant.1)),
    )

pub returns : goal.returns
returns c =
    subst (λ (ps : List SignedPromise). IsTestedAmong ps c.args.name.now c.loop-place.least)
    (take_all c.loop-place.place c.args.promises.now (omega (arith, c.loop-place-test.false))) c.loop-place.invariant.1
