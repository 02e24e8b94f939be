use Rattle.coniks.proofs.Verdicts.{accepted-as, refused-as}
use Rattle.coniks.proofs.laws.right_answers_decide.Goals as goal

pub returns-clause-accepted : goal.returns-clause-accepted
returns-clause-accepted g c = λ body name bytes is_accepted statement right. accepted-as g.H.NodeHash.digest_of g.V.VufCheck.accepted body name bytes is_accepted right statement

pub returns-clause-refused : goal.returns-clause-refused
returns-clause-refused g c = λ body name bytes is_accepted refusal right. refused-as g.H.NodeHash.digest_of g.V.VufCheck.accepted body name bytes is_accepted right refusal
