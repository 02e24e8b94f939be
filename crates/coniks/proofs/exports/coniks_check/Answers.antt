use Rattle.std.proofs.Common.{rules, List, ℕ, ap, inl, inr, length, refl, subst, sym}
use Rattle.sha2.specs.Sha256.{sha256}
use Rattle.encoding.specs.Limits.{IsName}
use Rattle.proofs.specs.Accepts.{stated, Accepts}
use Rattle.proofs.specs.Comparisons.{Refuses}
use Rattle.coniks.specs.Told.{told}
use Rattle.coniks.proofs.Verdicts.{accepted-so}
use Rattle.coniks.proofs.exports.coniks_check.Goals as goal

pub returns-in-Ok-accept_told : goal.returns-in-Ok-accept_told
returns-in-Ok-accept_told c =
    let (holds, fits) = c.in-Ok-accept_told.ensures.accepted in
    let reply = c.in-Ok-accept_told.accepted.reply in
    let is : IsName c.args.name.now = search rules in
    inr (
      c.in-Ok.body,
      c.in-Ok.ensures.exact,
      inr (
        is,
        inr (
          stated reply.end,
          subst (λ (name : List ℕ). Accepts sha256 (told c.args.value_is_accepted) c.in-Ok.body name c.args.reply.now (stated reply.end)) c.in-Ok-new.ensures.value
              (accepted-so sha256 c.in-Ok.body c.in-Ok-new.name c.args.reply.now c.args.value_is_accepted holds reply fits),
          refl,
          c.of.ensures c.args.reply.now reply fits.0 (sym (ap length c.value.ensures)) c.statement.ensures.value,
        ),
      ),
    )

pub returns-in-Err : goal.returns-in-Err
returns-in-Err c =
    let is : IsName c.args.name.now = search rules in
    inr (
      c.in-Ok.body,
      c.in-Ok.ensures.exact,
      inr (
        is,
        inl (
          c.in-Err.why,
          subst (λ (name : List ℕ). Refuses sha256 (told c.args.value_is_accepted) c.in-Ok.body name c.args.reply.now c.in-Err.why) c.in-Ok-new.ensures.value c.in-Err.ensures.refused,
          c.number.ensures,
          refl,
        ),
      ),
    )
