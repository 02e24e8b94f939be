use Rattle.std.proofs.Common.{sym, ◌∙◌}
use Rattle.proofs.proofs.Opposed.{commitments_answer, first_opens, nodes_answer, second_opens}
use Rattle.proofs.proofs.comparing.collision.Goals as goal

pub returns-in-Some-clause-answers : goal.returns-in-Some-clause-answers
returns-in-Some-clause-answers g c =
    rw (c.copied.ensures, c.copied-in-Some.ensures)
    (nodes_answer g.H.NodeHash.digest_of g.V.VufCheck.accepted g.met.H.NodeHash.digest_size c.args.first.now c.args.second.now c.requires c.in-Some.x c.in-Some.y c.in-Some.ensures.found)

pub unreachable-requires : goal.unreachable-requires
unreachable-requires g c =
    first_opens g.H.NodeHash.digest_of g.V.VufCheck.accepted g.met.H.NodeHash.digest_size c.args.first.now c.args.second.now c.requires c.in_default.ensures.found
    (sym c.opened_text.ensures ∙ c.in_default-opened_text.is)

pub unreachable-requires-in_default-opened_text-2 : goal.unreachable-requires-in_default-opened_text-2
unreachable-requires-in_default-opened_text-2 g c =
    second_opens g.H.NodeHash.digest_of g.V.VufCheck.accepted g.met.H.NodeHash.digest_size c.args.first.now c.args.second.now c.requires c.in_default.ensures.found
    (sym c.opened_text-2.ensures ∙ c.in_default-opened_text-2.is)

pub returns-clause-answers : goal.returns-clause-answers
returns-clause-answers g c =
    commitments_answer g.H.NodeHash.digest_of g.V.VufCheck.accepted g.met.H.NodeHash.digest_size c.args.first.now c.args.second.now c.requires
    c.in-Some-opened_text.x c.in-Some-opened_text-2.y c.in_default.ensures.found (sym c.opened_text.ensures ∙ c.in-Some-opened_text.is) (sym c.opened_text-2.ensures ∙ c.in-Some-opened_text-2.is)
