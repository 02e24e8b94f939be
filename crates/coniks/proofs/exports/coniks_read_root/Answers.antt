use Rattle.std.proofs.Common.{ℕ, List, inl, refl, subst, sym}
use Rattle.coniks.specs.Parts.{ShowsRoot}
use Rattle.coniks.proofs.exports.coniks_read_root.Goals as goal

pub returns-in-Ok : goal.returns-in-Ok
returns-in-Ok c =
    inl (c.in-Ok.signed, c.in-Ok.ensures.exact, refl, subst (λ (bytes : List ℕ). ShowsRoot bytes c.in-Ok.signed c.of.result) (sym c.in-Ok.ensures.exact.0) c.of.ensures)
