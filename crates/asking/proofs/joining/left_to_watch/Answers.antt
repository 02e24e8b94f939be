use Rattle.std.proofs.Common.{◌≡◌, ◌≢◌, ◌+◌, List, None, ap, drop, inl, option_copied, refl, rules, subst, sym}
use Rattle.rootchain.specs.Chains.{KeyedRoots}
use Rattle.rootchain.specs.Places.{IsNextAfter}
use Rattle.rootchain.specs.declared.signed_root.SignedRoot.{SignedRoot}
use Rattle.memory.specs.declared.mark.Mark.{Mark}
use Rattle.asking.specs.Joining.{IsFirstAfter, IsLeftToWatch}
use Rattle.asking.specs.declared.joining.ToWatch.TheVariants.{FromRoot, Nothing}
use Rattle.asking.proofs.Joined.{from_item, left-behind, no_next}
use Rattle.asking.proofs.joining.left_to_watch.Goals as goal

pub returns-in-Some : goal.returns-in-Some
returns-in-Some g c =
    let named : c.mark-item.result.name ≡ c.args.name.now = search rules in
    let found = subst (λ (chain : KeyedRoots). IsNextAfter chain c.mark-item.result.epoch c.in-Some.root.now) c.chain.ensures.value ((c.after.ensures.next c.in-Some.root.now).0 (ap option_copied c.in-Some.is)) in
    let next = subst (λ (root : SignedRoot). IsNextAfter c.args.client.now.chain c.mark-item.result.epoch root) (sym c.copied.ensures) found in
    c.loop-mark.invariant (FromRoot c.copied.result)
    (from_item (λ (marks : List Mark). IsLeftToWatch c.args.client.now.chain c.args.name.now marks (FromRoot c.copied.result)) c.args.marks.now c.loop-mark.mark-index c.mark-item.result c.loop-mark-test.true c.mark-item.is
    (inl (named, next)))

pub returns-in-None : goal.returns-in-None
returns-in-None g c =
    let named : c.mark-item.result.name ≡ c.args.name.now = search rules in
    let none = subst (λ (chain : KeyedRoots). IsFirstAfter chain c.mark-item.result.epoch None) c.chain.ensures.value
    (no_next c.chain.result.now c.mark-item.result.epoch (option_copied c.after.result) c.after.ensures.next (ap option_copied c.in-None.is)) in
    c.loop-mark.invariant (Nothing c.mark-item.result.epoch)
    (from_item (λ (marks : List Mark). IsLeftToWatch c.args.client.now.chain c.args.name.now marks (Nothing c.mark-item.result.epoch)) c.args.marks.now c.loop-mark.mark-index c.mark-item.result c.loop-mark-test.true c.mark-item.is
    (inl (named, none), inl (named, refl)))

pub loop-mark-preserved : goal.loop-mark-preserved
loop-mark-preserved g c =
    let other : c.mark-item.result.name ≢ c.args.name.now = search rules in
    λ left rest. c.loop-mark.invariant left
    (from_item (λ (marks : List Mark). IsLeftToWatch c.args.client.now.chain c.args.name.now marks left) c.args.marks.now c.loop-mark.mark-index c.mark-item.result c.loop-mark-test.true c.mark-item.is
    (left-behind c.args.client.now.chain c.args.name.now c.mark-item.result (drop (c.loop-mark.mark-index + 1) c.args.marks.now) left other rest))
