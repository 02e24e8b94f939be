use Rattle.std.proofs.Common.{ℕ, List, ap, arith, inl, inr, refl, rules, subst, ◌+◌, ◌∙◌}
use Rattle.sha2.specs.Sha256.{sha256}
use Rattle.encoding.specs.Limits.{IsName}
use Rattle.proofs.specs.Comparisons.{IsAcceptedReply, Refuses}
use Rattle.coniks.specs.Told.{any, told}
use Rattle.coniks.proofs.Verdicts.{told-by-name}
use Rattle.coniks.proofs.exports.coniks_compare.Goals as goal

pub returns-in_default-new : goal.returns-in_default-new
returns-in_default-new c =
    let one = c.if-one-lt-BUFFER_LEN.false in
    let other = c.if-other-lt-BUFFER_LEN.false in
    let none : ¬ IsName c.args.name.now = search rules in
    inr (omega (arith, one), omega (arith, other), inr (c.in-Ok.body, c.in-Ok.ensures.exact, inl (none, refl, (refl, refl, refl))))

pub returns-in-Err : goal.returns-in-Err
returns-in-Err c =
    let one = c.if-one-lt-BUFFER_LEN.false in
    let other = c.if-other-lt-BUFFER_LEN.false in
    let is : IsName c.args.name.now = search rules in
    inr (
      omega (arith, one),
      omega (arith, other),
      inr (
        c.in-Ok.body,
        c.in-Ok.ensures.exact,
        inr (
          is,
          inl (
            c.in-Err.why,
            subst (λ (name : List ℕ). Refuses sha256 (told c.args.first_is_accepted) c.in-Ok.body name c.args.first.now c.in-Err.why) c.in-Ok-new.ensures.value c.in-Err.ensures.refused,
            c.number.ensures,
            (refl, refl, refl),
          ),
        ),
      ),
    )

pub returns-in-Err-accept_told : goal.returns-in-Err-accept_told
returns-in-Err-accept_told c =
    let one = c.if-one-lt-BUFFER_LEN.false in
    let other = c.if-other-lt-BUFFER_LEN.false in
    let (holds, fits) = c.in-Ok-accept_told.ensures.accepted in
    let reply = c.in-Ok-accept_told.first.reply in
    let is : IsName c.args.name.now = search rules in
    inr (
      omega (arith, one),
      omega (arith, other),
      inr (
        c.in-Ok.body,
        c.in-Ok.ensures.exact,
        inr (
          is,
          inr (inl (
            reply,
            c.in-Err-accept_told.why,
            holds,
            subst (λ (name : List ℕ). IsAcceptedReply sha256 any c.in-Ok.body name c.args.first.now reply) c.in-Ok-new.ensures.value fits,
            subst (λ (name : List ℕ). Refuses sha256 (told c.args.second_is_accepted) c.in-Ok.body name c.args.second.now c.in-Err-accept_told.why) c.in-Ok-new.ensures.value c.in-Err-accept_told.ensures.refused,
            ap (λ (n : ℕ). 32 + n) c.number-in-Err-accept_told.ensures,
            (refl, refl, refl),
          )),
        ),
      ),
    )

pub returns : goal.returns
returns c =
    let one = c.if-one-lt-BUFFER_LEN.false in
    let other = c.if-other-lt-BUFFER_LEN.false in
    let (holds, fits) = c.in-Ok-accept_told.ensures.accepted in
    let (also, later) = c.in-Ok-accept_told-2.ensures.accepted in
    let is : IsName c.args.name.now = search rules in
    inr (
      omega (arith, one),
      omega (arith, other),
      inr (
        c.in-Ok.body,
        c.in-Ok.ensures.exact,
        inr (
          is,
          inr (inr (
            c.in-Ok-accept_told.first.reply,
            c.in-Ok-accept_told-2.second.reply,
            holds,
            also,
            subst (λ (name : List ℕ). IsAcceptedReply sha256 any c.in-Ok.body name c.args.first.now c.in-Ok-accept_told.first.reply) c.in-Ok-new.ensures.value fits,
            subst (λ (name : List ℕ). IsAcceptedReply sha256 any c.in-Ok.body name c.args.second.now c.in-Ok-accept_told-2.second.reply) c.in-Ok-new.ensures.value later,
            told-by-name sha256 c.in-Ok-accept_told.first c.in-Ok-accept_told-2.second c.args.name.now (c.in-Ok-accept_told.ensures.named ∙ c.in-Ok-new.ensures.value) (c.in-Ok-accept_told-2.ensures.named ∙ c.in-Ok-new.ensures.value) _ _ _ _ _ _ _ c.tell.ensures,
          )),
        ),
      ),
    )
