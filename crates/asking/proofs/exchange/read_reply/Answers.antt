use Rattle.std.proofs.Common.{◌++◌, ◌≡◌, ◌∙◌, List, ℕ, ap, rules, subst, sym}
use Rattle.encoding.specs.Bytes.{IsBytes}
use Rattle.wire.specs.Frames.{IsFrameSize}
use Rattle.asking.specs.Exchanges.{IsOneFrame}
use Rattle.asking.proofs.Whole.{one_frame}
use Rattle.asking.proofs.exchange.read_reply.Goals as goal

pub returns-clause-whole : goal.returns-clause-whole
returns-clause-whole g c =
    let sized : IsFrameSize c.from_be_bytes-size.result = search rules in
    let one = one_frame c.in_ok-length.length c.in_ok-rest.rest.items c.from_be_bytes-size.result c.joined.ensures.size c.joined.ensures.front
    (subst IsBytes c.deref.ensures.value c.joined.ensures.behind) c.from_be_bytes-size.ensures sized c.in_ok-rest.ensures.size in
    let spelled : c.in_ok-joined.field-0.items ≡ c.in_ok-length.length ++ c.in_ok-rest.rest.items =
    c.in_ok-joined.ensures.items ∙ ap (λ (xs : List ℕ). c.in_ok-length.length ++ xs) c.deref.ensures.value in
    (one.0, subst (λ (bytes : List ℕ). IsOneFrame bytes one.0) (sym spelled) one.1)
