use Rattle.std.proofs.Common.{◌∷◌, [], ◌∙◌, ap}
use Rattle.lanes.specs.Lanes.{lane}
use Rattle.lanes.proofs.state.initial_hash.Goals as goal

pub returns : goal.returns
returns g c k below =
    ap (λ v. lane v k) c.filled.ensures
    ∙ (λ i. c.every.ensures k below i ∷ c.every-2.ensures k below i ∷ c.every-3.ensures k below i ∷ c.every-4.ensures k below i
    ∷ c.every-5.ensures k below i ∷ c.every-6.ensures k below i ∷ c.every-7.ensures k below i ∷ c.every-8.ensures k below i ∷ [])
