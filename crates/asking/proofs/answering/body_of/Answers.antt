use Rattle.std.proofs.Common.{rules, codes, inl, inr, refl}
use Rattle.wire.specs.Refusals.{read_refusal_number}
use Rattle.wire.specs.Responses.{response_seen}
use Rattle.asking.specs.Refused.{refuses_text}
use Rattle.asking.specs.Scenes.{miss_told}
use Rattle.asking.specs.Reports.{refused}
use Rattle.asking.proofs.Telling.{tells_joined}
use Rattle.asking.proofs.answering.body_of.Goals as goal

pub returns-in_ok-join-in-Ok-clause-gives : goal.returns-in_ok-join-in-Ok-clause-gives
returns-in_ok-join-in-Ok-clause-gives c = (
  miss_told (response_seen c.in-Ok.response),
  inl (response_seen c.in-Ok.response, c.in-Ok.ensures, search rules, refl),
  tells_joined c.args.said.now c.new-now.result c.tell_miss.new.said c.join.new.self (miss_told (response_seen c.in-Ok.response)) c.new-now.ensures.text c.new-now.ensures.status
      c.in_ok-tell_miss-in-Ok.ensures c.in_ok-join-in-Ok.ensures.tells,
)

pub returns-in_ok-join-in-Err-clause-gives : goal.returns-in_ok-join-in-Err-clause-gives
returns-in_ok-join-in-Err-clause-gives c =
    let told = refused (refuses_text (codes "client refuses reply") (read_refusal_number c.in-Err.why)) in (
      told,
      inr (c.in-Err.why, c.in-Err.ensures, refl),
      tells_joined c.args.said.now c.new-now-in-Err.result c.tell_unread.new.said c.join-in-Err.new.self told c.new-now-in-Err.ensures.text c.new-now-in-Err.ensures.status
          c.in_ok-tell_unread-in-Err.ensures c.in_ok-join-in-Err.ensures.tells,
    )
