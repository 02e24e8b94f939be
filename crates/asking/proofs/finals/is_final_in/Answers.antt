use Rattle.std.proofs.Common.{ap, option_copied, subst, sym}
use Rattle.asking.proofs.FinalsShown.{final-in, final-spelled, not-final-in, SpellsFinal}
use Rattle.asking.proofs.finals.is_final_in.Goals as goal

pub returns-then-not-states_final : goal.returns-then-not-states_final
returns-then-not-states_final g c = (
  λ never. absurd cc,
  λ final.
      let yes = c.states_final.ensures.1 (subst SpellsFinal (sym c.bytes.ensures.value) (final-spelled g.H.NodeHash.digest_of g.V.VufCheck.accepted c.args.chain.now c.args.seen.now final)) in
      let no = c.if-not-states_final.true in
      absurd cc,
)

pub returns-in-Some : goal.returns-in-Some
returns-in-Some g c =
    final-in g.H.NodeHash.digest_of g.V.VufCheck.accepted c.args.chain.now c.args.seen.now (option_copied c.at.result) c.at.ensures c.in-Some.root.now (ap option_copied c.in-Some.is)
    c.is_final_under.result c.is_final_under.ensures

pub returns-in-None : goal.returns-in-None
returns-in-None g c = (
  λ never. absurd cc,
  λ final. absurd (not-final-in g.H.NodeHash.digest_of g.V.VufCheck.accepted c.args.chain.now c.args.seen.now (option_copied c.at.result) c.at.ensures (ap option_copied c.in-None.is) final),
)
