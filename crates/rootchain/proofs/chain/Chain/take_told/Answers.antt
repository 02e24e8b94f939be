use Rattle.std.proofs.Common.{rules, arith, ◌≡◌, ◌∷◌, ◌+◌, ◌∙◌, true, false, List, length, ap, sym}
use Rattle.rootchain.specs.declared.signed_root.SignedRoot.{SignedRoot}
use Rattle.rootchain.specs.RootFeeds.{told_from, FeedState}
use Rattle.rootchain.specs.TakingLists.{IsRefusedRoot}
use Rattle.rootchain.proofs.TakingLists.{leads-step, leads-stop}
use Rattle.rootchain.proofs.TakingPieces.{told-stops}
use Rattle.rootchain.proofs.chain.Chain.take_told.Goals as goal

pub returns-then-not-take_one-clause-told : goal.returns-then-not-take_one-clause-told
returns-then-not-take_one-clause-told g c =
    let refused : c.take_one.result ≡ false = search rules in
    let stops : IsRefusedRoot g.H.NodeHash.digest_of g.S.Verifier.verified c.loop-root.self c.in-Root.root c.take_one.new.why × (c.take_one.new.self ≡ c.loop-root.self) = rw refused at c.take_one.ensures.one in
    let more = told_from c.next.new.self c.in-Root.after.now in
    let first : (told_from c.loop-root.feed c.loop-root.rest.now).0 ≡ c.in-Root.root ∷ more.0 = ap (λ (t : List SignedRoot × FeedState). t.0) c.in-Root.ensures.tells in
    told-stops g.H.NodeHash.digest_of g.S.Verifier.verified c.args.self.now c.args.feed.now c.args.piece.now c.take_one.new.why c.take_one.new.self c.next.new.self
    (leads-stop g.H.NodeHash.digest_of g.S.Verifier.verified c.args.self.now (told_from c.args.feed.now c.args.piece.now).0 c.loop-root.self (told_from c.loop-root.feed c.loop-root.rest.now).0 c.in-Root.root more.0
    c.take_one.new.why c.take_one.new.self first stops.0 stops.1 c.loop-root.invariant.0)

pub loop-root-preserved : goal.loop-root-preserved
loop-root-preserved g c =
    let taken : c.take_one.result ≡ true = search rules in
    let more = told_from c.next.new.self c.in-Root.after.now in
    let first : (told_from c.loop-root.feed c.loop-root.rest.now).0 ≡ c.in-Root.root ∷ more.0 = ap (λ (t : List SignedRoot × FeedState). t.0) c.in-Root.ensures.tells in
    let last : (told_from c.loop-root.feed c.loop-root.rest.now).1 ≡ more.1 = ap (λ (t : List SignedRoot × FeedState). t.1) c.in-Root.ensures.tells in
    let one : length (told_from c.loop-root.feed c.loop-root.rest.now).0 ≡ length more.0 + 1 = ap (λ (rs : List SignedRoot). length rs) first ∙ omega arith in (
      leads-step g.H.NodeHash.digest_of g.S.Verifier.verified c.args.self.now (told_from c.args.feed.now c.args.piece.now).0 c.loop-root.self (told_from c.loop-root.feed c.loop-root.rest.now).0 c.in-Root.root more.0
          c.take_one.new.self first (rw taken at c.take_one.ensures.one) c.loop-root.invariant.0,
      sym last ∙ c.loop-root.invariant.1,
      omega (arith, one, c.take_one.ensures.counted, c.loop-root.invariant.2),
      λ own. c.take_one.ensures.form (c.loop-root.invariant.3 own) c.in-Root.ensures.form,
    )
