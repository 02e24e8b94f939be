use Rattle.std.proofs.Common.{ℕ, ◌+◌, ◌≡◌, List, ap, arith, inl, inr, refl, rules, subst, true}
use Rattle.sha2.specs.Sha256.{sha256}
use Rattle.encoding.specs.Limits.{IsName}
use Rattle.proofs.specs.Comparisons.{IsAcceptedReply, Refuses}
use Rattle.coniks.specs.Finals.{ChangesFinal}
use Rattle.coniks.specs.Told.{any, told}
use Rattle.coniks.proofs.exports.coniks_test_final.Goals as goal

pub returns-in-Err : goal.returns-in-Err
returns-in-Err c =
    let is : IsName c.args.name.now = search rules in
    let later = c.if-later_root-root.false in
    inr (is, inr (c.in-Ok-read.root, c.in-Ok-read-2.later_root, c.in-Ok-read.ensures.exact, c.in-Ok-read-2.ensures.exact, inr (omega (arith, later), inl (c.in-Err.why, subst (λ (name : List ℕ). Refuses sha256 (told c.args.value_is_accepted) c.in-Ok-read.root.body name c.args.reply.now c.in-Err.why) c.in-Ok.ensures.value c.in-Err.ensures.refused, c.number.ensures))))

pub returns-in-Err-accept_told : goal.returns-in-Err-accept_told
returns-in-Err-accept_told c =
    let is : IsName c.args.name.now = search rules in
    let later = c.if-later_root-root.false in
    let (holds, fits) = c.in-Ok-accept_told.ensures.accepted in
    inr (is, inr (c.in-Ok-read.root, c.in-Ok-read-2.later_root, c.in-Ok-read.ensures.exact, c.in-Ok-read-2.ensures.exact, inr (omega (arith, later), inr (inl (c.in-Ok-accept_told.one.reply, c.in-Err-accept_told.why, holds, subst (λ (name : List ℕ). IsAcceptedReply sha256 any c.in-Ok-read.root.body name c.args.reply.now c.in-Ok-accept_told.one.reply) c.in-Ok.ensures.value fits, subst (λ (name : List ℕ). Refuses sha256 (told c.args.later_value_is_accepted) c.in-Ok-read-2.later_root.body name c.args.later_reply.now c.in-Err-accept_told.why) c.in-Ok.ensures.value c.in-Err-accept_told.ensures.refused, ap (λ (n : ℕ). 32 + n) c.number-in-Err-accept_told.ensures)))))

pub returns-then-changes : goal.returns-then-changes
returns-then-changes c =
    let is : IsName c.args.name.now = search rules in
    let later = c.if-later_root-root.false in
    let (holds, fits) = c.in-Ok-accept_told.ensures.accepted in
    let (also, so) = c.in-Ok-accept_told-2.ensures.accepted in
    inr (is, inr (c.in-Ok-read.root, c.in-Ok-read-2.later_root, c.in-Ok-read.ensures.exact, c.in-Ok-read-2.ensures.exact, inr (omega (arith, later), inr (inr (c.in-Ok-accept_told.one.reply, c.in-Ok-accept_told-2.other.reply, holds, also, subst (λ (name : List ℕ). IsAcceptedReply sha256 any c.in-Ok-read.root.body name c.args.reply.now c.in-Ok-accept_told.one.reply) c.in-Ok.ensures.value fits, subst (λ (name : List ℕ). IsAcceptedReply sha256 any c.in-Ok-read-2.later_root.body name c.args.later_reply.now c.in-Ok-accept_told-2.other.reply) c.in-Ok.ensures.value so, inl (c.changes.ensures.0 c.if-changes.true, refl))))))

pub returns-else-changes : goal.returns-else-changes
returns-else-changes c =
    let is : IsName c.args.name.now = search rules in
    let later = c.if-later_root-root.false in
    let (holds, fits) = c.in-Ok-accept_told.ensures.accepted in
    let (also, so) = c.in-Ok-accept_told-2.ensures.accepted in
    let same : ¬ ChangesFinal sha256 c.in-Ok-accept_told.one.reply c.in-Ok-accept_told-2.other.reply = λ changed. let yes-it : c.changes.result ≡ true = c.changes.ensures.1 changed in let never = c.if-changes.false in cc in
    inr (is, inr (c.in-Ok-read.root, c.in-Ok-read-2.later_root, c.in-Ok-read.ensures.exact, c.in-Ok-read-2.ensures.exact, inr (omega (arith, later), inr (inr (c.in-Ok-accept_told.one.reply, c.in-Ok-accept_told-2.other.reply, holds, also, subst (λ (name : List ℕ). IsAcceptedReply sha256 any c.in-Ok-read.root.body name c.args.reply.now c.in-Ok-accept_told.one.reply) c.in-Ok.ensures.value fits, subst (λ (name : List ℕ). IsAcceptedReply sha256 any c.in-Ok-read-2.later_root.body name c.args.later_reply.now c.in-Ok-accept_told-2.other.reply) c.in-Ok.ensures.value so, inr (same, refl))))))
