use Rattle.std.proofs.Common.{◌≡◌, ◌-◌, ◌∙◌, ◌++◌, ◌∷◌, List, All, ap, arith, drop, get_or, inl, inr, refl, rules, sym, take, take-append-drop}
use Rattle.std.proofs.lemmas.List.Elements.{All-cons}
use Rattle.rootchain.specs.declared.signed_promise.SignedPromise.{SignedPromise}
use Rattle.memory.specs.Learning.{Remembers}
use Rattle.memory.proofs.Learned.{drop-before}
use Rattle.memory.proofs.memory.Memory.fresh.Goals as goal

pub returns : goal.returns
returns c =
    let none : c.loop-start.start ≡ 0 = omega (arith, c.loop-start-test.false) in
    (rw none at c.loop-start.invariant.1, inl refl)

pub loop-start-preserved : goal.loop-start-preserved
loop-start-preserved c =
    let kept = c.args.kept.now in
    let start = c.loop-start.start in
    let signed = c.index-kept-start.result in
    let at : get_or kept (start - 1) signed ≡ signed = search rules in
    let other : ¬ Remembers c.args.self.now signed = search rules in
    let split : drop (start - 1) kept ≡ signed ∷ drop start kept = drop-before kept (start - 1) start signed (omega (arith, c.loop-start-test.true)) c.loop-start.invariant.0 at in
    let none : All (λ (s : SignedPromise). ¬ Remembers c.args.self.now s) (drop (start - 1) kept) =
    rw split (All-cons (λ (s : SignedPromise). ¬ Remembers c.args.self.now s) signed (drop start kept) other c.loop-start.invariant.1) in
    (omega (arith, c.loop-start.invariant.0), none)

pub returns-then-has_promise : goal.returns-then-has_promise
returns-then-has_promise c =
    let kept = c.args.kept.now in
    let start = c.loop-start.start in
    let signed = c.index-kept-start.result in
    let at : get_or kept (start - 1) signed ≡ signed = search rules in
    let there : Remembers c.args.self.now signed = search rules in
    let split : drop (start - 1) kept ≡ signed ∷ drop start kept = drop-before kept (start - 1) start signed (omega (arith, c.loop-start-test.true)) c.loop-start.invariant.0 at in
    let back : c.split_at.result.1.now ≡ drop start kept = c.split_at.ensures.back in
    let parts : kept ≡ take (start - 1) kept ++ signed ∷ drop start kept = sym (take-append-drop (start - 1) kept) ∙ ap (λ (rest : List SignedPromise). take (start - 1) kept ++ rest) split in
    rw back (c.loop-start.invariant.1, inr (take (start - 1) kept, signed, parts, there))
