use Rattle.std.proofs.Common.{ℕ, List, inl, refl, subst, sym}
use Rattle.coniks.specs.Parts.{ShowsPromise}
use Rattle.coniks.proofs.exports.coniks_read_promise.Goals as goal

pub returns-in-Ok : goal.returns-in-Ok
returns-in-Ok c =
    inl (c.in-Ok.signed, c.in-Ok.ensures.exact, refl, subst (λ (bytes : List ℕ). ShowsPromise bytes c.in-Ok.signed c.of.result) (sym c.in-Ok.ensures.exact.0) c.of.ensures)
