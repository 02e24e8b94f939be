use Rattle.std.proofs.Common.{arith, rules, Ok, Err}
use Rattle.std.specs.List.Sorted.{IsBinarySearchResult}
use Rattle.std.proofs.lemmas.List.Sorted.{answers_always}
use Rattle.rootchain.proofs.Chains.{by_epoch}
use Rattle.epochs.proofs.Reading.{last_page, last_within, missing_page, page_within, searched_page}
use Rattle.epochs.proofs.directory.Directory.page.Goals as goal

pub returns-then-epoch-eq0-clause-page : goal.returns-then-epoch-eq0-clause-page
returns-then-epoch-eq0-clause-page g c = rw (← c.self.view_is) (last_page _ _ _ _ c.self.invariant.0 c.args.epoch c.len.result c.if-epoch-eq0.true (omega (arith, c.len.ensures, c.self.inside.roots.ok.0)))

pub returns-then-epoch-eq0-clause-within : goal.returns-then-epoch-eq0-clause-within
returns-then-epoch-eq0-clause-within g c = rw (← c.self.view_is) (last_within _ _ _ _ c.self.invariant.0 c.len.result (omega (arith, c.len.ensures, c.self.inside.roots.ok.0)))

pub returns-in-Ok-clause-page : goal.returns-in-Ok-clause-page
returns-in-Ok-clause-page g c =
    let searched : IsBinarySearchResult (by_epoch c.args.epoch) c.deref.result.now (Ok c.in-Ok.place) = c.in-Ok.ensures.position (λ root. root.body.epoch) (answers_always _ _ _ (λ f a r q k. search rules)) in
    rw (← c.self.view_is) (searched_page _ _ _ _ c.self.invariant.0 c.args.epoch c.in-Ok.place c.if-epoch-eq0.false (rw c.deref.ensures.value at c.in-Ok.ensures.bound) (rw c.deref.ensures.value at searched))

pub returns-in-Ok-clause-within : goal.returns-in-Ok-clause-within
returns-in-Ok-clause-within g c = rw (← c.self.view_is) (page_within _ _ _ _ c.self.invariant.0 c.in-Ok.place (rw c.deref.ensures.value at c.in-Ok.ensures.bound))

pub returns-in-Err-clause-page : goal.returns-in-Err-clause-page
returns-in-Err-clause-page g c =
    let searched : IsBinarySearchResult (by_epoch c.args.epoch) c.deref.result.now (Err c.in-Err.field-0) = c.in-Err.ensures.position (λ root. root.body.epoch) (answers_always _ _ _ (λ f a r q k. search rules)) in
    rw (← c.self.view_is) (missing_page _ _ _ _ c.self.invariant.0 c.args.epoch c.in-Err.field-0 c.if-epoch-eq0.false (rw c.deref.ensures.value at searched))
