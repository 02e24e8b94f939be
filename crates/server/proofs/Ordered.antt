-- Connections that are answered within the limits of an order.
use Rattle.std.proofs.Common.{◌≡◌, ℕ, Bool, false, List, [], Option, ap, subst, ◌∙◌}
use Rattle.nodehash.specs.Sha256.{sha256}
use Rattle.vrfiface.specs.StandIns.{keyed_value}
use Rattle.sigiface.specs.StandIn.{keyed_signature}
use Rattle.rand_chacha.specs.ChaCha.{ChaCha}
use Rattle.book.specs.declared.record.Record.{Record}
use Rattle.book.specs.Salts.{chacha_salts}
use Rattle.wire.specs.declared.answer.TheConstants.{MAX_ANSWER_LEN}
use Rattle.connections.specs.Histories.{History}
use Rattle.connections.specs.Laws.{AlwaysWaitWithin}
use Rattle.connections.specs.Telling.{TellsAll}
use Rattle.hub.specs.Desks.{DeskAnswers, DeskState}
use Rattle.hub.specs.Events.{HubState}
use Rattle.hub.specs.Runs.{Line}
use Rattle.server.specs.ConnectionOptions.{ConnectionOptions, idle_limit, most_open, report_every}
use Rattle.server.specs.Listening.{AnswersConnections, KeepsLimits, KeepsOrder}
use Rattle.server.specs.Programs.{ShownBy}
use Rattle.server.specs.Sessions.{is_unkept, AreLines}
use Rattle.server.proofs.Earlier.{always_answered, always_in_order}

keeps_order : (taken : ConnectionOptions) (idle count size : ℕ) (acts : History) → idle ≡ idle_limit taken → count ≡ taken.count → size ≡ most_open taken → KeepsLimits idle count size acts → KeepsOrder taken acts
keeps_order taken idle count size acts same_idle same_count same_size keeps = rw (← same_idle, ← same_count, ← same_size) keeps

module _ {K : Type 0} (kept failed : K → Record → K → Type 0) where
  -- a hub without a session
  pub answers_ordered : (taken : ConnectionOptions) (hub : HubState (DeskState ChaCha K)) (idle every count size : ℕ) (before after : HubState (DeskState ChaCha K)) (any : Bool) (errors new : Option (List ℕ))
      → hub.sessions ≡ [] → before ≡ hub → any ≡ false → idle ≡ idle_limit taken → every ≡ report_every taken → count ≡ taken.count → size ≡ most_open taken
      → (acts : History) → KeepsLimits idle count size acts → AlwaysWaitWithin MAX_ANSWER_LEN acts
      → ((lines : List Line) × AreLines (DeskAnswers sha256 keyed_value keyed_signature chacha_salts kept failed) before acts after lines × ShownBy kept failed before.service lines after.service)
      → TellsAll is_unkept every any acts errors new → AnswersConnections kept failed taken hub.service errors new
  answers_ordered taken hub idle every count size before after any errors new none same never same_idle same_every same_count same_size acts keeps waits (lines, are, shown) tells =
      let answers = DeskAnswers sha256 keyed_value keyed_signature chacha_salts kept failed in
      let start : HubState (DeskState ChaCha K) = record { service = hub.service; sessions = [] } in
      let lines_are : AreLines answers start acts after lines = subst (λ (h : HubState (DeskState ChaCha K)). AreLines answers h acts after lines) (same ∙ ap (λ sessions. record { service = hub.service; sessions = sessions }) none) are in (
        acts,
        lines,
        after,
        keeps_order taken idle count size acts same_idle same_count same_size keeps,
        waits,
        always_in_order idle acts keeps.sound,
        lines_are,
        always_answered answers start idle acts after lines lines_are keeps.sound,
        subst (λ (h : HubState (DeskState ChaCha K)). ShownBy kept failed h.service lines after.service) same shown,
        subst (λ (n : ℕ). TellsAll is_unkept n false acts errors new) same_every (subst (λ (b : Bool). TellsAll is_unkept every b acts errors new) never tells),
      )
