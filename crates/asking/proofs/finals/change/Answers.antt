use Rattle.std.proofs.Common.{◌≡◌, List, ℕ, ap, option_copied, subst, sym}
use Rattle.auditor.specs.declared.evidence.Evidence.TheVariants as evidence
use Rattle.proofs.specs.BrokenFinals.{IsBrokenFinal}
use Rattle.asking.proofs.FinalsShown.{broken_of, is-change, is-evidence, may-change, no-later-root, no-root, not-both}
use Rattle.asking.proofs.finals.change.Goals as goal

pub returns-then-not-may_change : goal.returns-then-not-may_change
returns-then-not-may_change g c = λ broken change.
    let exact = rw (c.bytes.ensures.value, c.bytes-2.ensures.value) at c.may_change.ensures in
    not-both c.may_change.result (exact.1 (may-change g.H.NodeHash.digest_of g.V.VufCheck.accepted c.args.chain.now c.args.one.now c.args.other.now broken change)) c.if-not-may_change.true

pub returns-in_default : goal.returns-in_default
returns-in_default g c = no-root g.H.NodeHash.digest_of g.V.VufCheck.accepted c.args.chain.now c.args.one.now c.args.other.now (option_copied c.at.result) c.at.ensures (ap option_copied c.in_default.is)

pub returns-in_default-at : goal.returns-in_default-at
returns-in_default-at g c = no-later-root g.H.NodeHash.digest_of g.V.VufCheck.accepted c.args.chain.now c.args.one.now c.args.other.now (option_copied c.at-2.result) c.at-2.ensures (ap option_copied c.in_default-at.is)

pub returns-then-judge : goal.returns-then-judge
returns-then-judge g c =
    let key : c.key.result.now ≡ c.args.chain.now.key = c.key.ensures in
    let yes : IsBrokenFinal g.H.NodeHash.digest_of g.V.VufCheck.accepted g.S.Verifier.verified c.key.result.now c.broken.result = c.judge.ensures.value.0 c.if-judge.true in
    let keyed = subst (λ (k : List ℕ). IsBrokenFinal g.H.NodeHash.digest_of g.V.VufCheck.accepted g.S.Verifier.verified k c.broken.result) key yes in
    let is = subst (IsBrokenFinal g.H.NodeHash.digest_of g.V.VufCheck.accepted g.S.Verifier.verified c.args.chain.now.key) c.broken.ensures keyed in (
      broken_of c.args.one.now c.args.other.now c.in-Some.root.now c.in-Some-at.later_root.now,
      ap evidence.Final c.broken.ensures,
      is-change g.H.NodeHash.digest_of g.V.VufCheck.accepted c.args.chain.now c.args.one.now c.args.other.now c.in-Some.root.now c.in-Some-at.later_root.now (option_copied c.at.result) (option_copied c.at-2.result)
          c.at.ensures (ap option_copied c.in-Some.is) c.at-2.ensures (ap option_copied c.in-Some-at.is) g.S.Verifier.verified is,
    )

pub returns-else-judge : goal.returns-else-judge
returns-else-judge g c = λ broken change.
    let key : c.key.result.now ≡ c.args.chain.now.key = c.key.ensures in
    let is = is-evidence g.H.NodeHash.digest_of g.V.VufCheck.accepted c.args.chain.now c.args.one.now c.args.other.now c.in-Some.root.now c.in-Some-at.later_root.now (option_copied c.at.result) (option_copied c.at-2.result)
    c.at.ensures (ap option_copied c.in-Some.is) c.at-2.ensures (ap option_copied c.in-Some-at.is) g.S.Verifier.verified c.head-head.ensures.chain broken change in
    let own = subst (IsBrokenFinal g.H.NodeHash.digest_of g.V.VufCheck.accepted g.S.Verifier.verified c.args.chain.now.key) (sym c.broken.ensures) is in
    let keyed : IsBrokenFinal g.H.NodeHash.digest_of g.V.VufCheck.accepted g.S.Verifier.verified c.key.result.now c.broken.result =
    subst (λ (k : List ℕ). IsBrokenFinal g.H.NodeHash.digest_of g.V.VufCheck.accepted g.S.Verifier.verified k c.broken.result) (sym key) own in
    not-both c.judge.result (c.judge.ensures.value.1 keyed) c.if-judge.false
