-- A session that is opened, served and ended.
use Rattle.std.proofs.Common.{◌≡◌, ℕ, List, [], Bool, true, false, cond, Option, Some, None, Result, Ok, Err, IsErr, IsOk, refl, sym, ap, ◌∙◌}
use Rattle.std.specs.Prelude.{is_some, nat_le, length}
use Rattle.std.specs.Ordering.{nat_cmp}
use Rattle.std.specs.BTreeMap.{is_at, insert_entry}
use Rattle.std.specs.Map.{remove_entry, set_value}
use Rattle.wire.specs.Frames.{Frame}
use Rattle.wire.specs.Streams.{Remainder, Rest}
use Rattle.hub.specs.declared.hub_refusal.HubRefusal.{HubRefusal}
use Rattle.hub.specs.declared.hub_refusal.HubRefusal.TheVariants.{TooManySessions, SessionOpen, NoSession, Memory}
use Rattle.hub.specs.Events.{Bytes, End, Open, BySession, HubState, at_session, due}
use Rattle.hub.specs.Happenings.{Happens}
use Rattle.hub.proofs.Others.{set_found}
use Rattle.hub.proofs.Outputting.{insert_found}
use Rattle.server.proofs.Opened.{gone_again}

-- a session that may be opened is not open
none_by : {X : Type 0} (many : Bool) (found : Option X) → cond many (Some TooManySessions) (cond (is_some found) (Some SessionOpen) None) ≡ None → found ≡ None
none_by true found fine = absurd cc
none_by false None fine = refl
none_by false (Some held) fine = absurd cc

may_open : {X : Type 0} (sessions : BySession X) (session : ℕ) → due sessions (Open session) ≡ None → at_session sessions session ≡ None
may_open sessions session fine = none_by (nat_le 1024 (length sessions)) (at_session sessions session) fine

may_end : {X : Type 0} (sessions : BySession X) (session : ℕ) (held : X) → at_session sessions session ≡ Some held → due sessions (End session) ≡ None
may_end {X} sessions session held here = ap (λ (found : Option X). cond (is_some found) None (Some NoSession)) here

module _ {S : Type 0} (answers : S → Frame → List ℕ → S → Type 0) where
  pub unopened : (before : HubState S) (session : ℕ) (output grown : List ℕ) (result : Result (Unit {0}) HubRefusal) (after : HubState S)
      → Happens answers before (Open session) output result after grown → due before.sessions (Open session) ≡ None → IsErr result → after ≡ before
  unopened before session output grown (Ok done) after happens fine bad = absurd cc
  unopened before session output grown (Err (Memory true)) after (number, piece, xs, is, answered, wrote) fine bad = absurd (let wrong : Open session ≡ Bytes number piece = is in cc)
  unopened before session output grown (Err (Memory false)) after (may, none, same, wrote) fine bad = same
  unopened before session output grown (Err TooManySessions) after (is, same, wrote) fine bad = same
  unopened before session output grown (Err SessionOpen) after (is, same, wrote) fine bad = same
  unopened before session output grown (Err NoSession) after (is, same, wrote) fine bad = same

  pub opened : (before : HubState S) (session : ℕ) (output grown : List ℕ) (result : Result (Unit {0}) HubRefusal) (after : HubState S)
      → Happens answers before (Open session) output result after grown → IsOk result
      → (after.service ≡ before.service) × (after.sessions ≡ insert_entry nat_cmp before.sessions session (Rest []))
  opened before session output grown (Ok done) after (fine, xs, (none, same), wrote) good = (ap (λ (h : HubState S). h.service) same, ap (λ (h : HubState S). h.sessions) same)
  opened before session output grown (Err why) after happens good = absurd cc

  pub begins_empty : (before : HubState S) (session : ℕ) (output grown : List ℕ) (result : Result (Unit {0}) HubRefusal) (after : HubState S)
      → Happens answers before (Open session) output result after grown → IsOk result → at_session after.sessions session ≡ Some (Rest [])
  begins_empty before session output grown result after happens good =
      ap (λ (m : BySession Remainder). at_session m session) (opened before session output grown result after happens good).1 ∙ insert_found before.sessions session (Rest [])

  -- a session that is open ends
  gone : (before : HubState S) (session : ℕ) (output grown : List ℕ) (result : Result (Unit {0}) HubRefusal) (after : HubState S) (held : Remainder)
      → Happens answers before (End session) output result after grown → at_session before.sessions session ≡ Some held
      → (after.service ≡ before.service) × (after.sessions ≡ remove_entry (is_at (nat_cmp session)) before.sessions)
  gone before session output grown (Ok done) after held (fine, xs, (none, same), wrote) here = (ap (λ (h : HubState S). h.service) same, ap (λ (h : HubState S). h.sessions) same)
  gone before session output grown (Err (Memory true)) after held (number, piece, xs, is, answered, wrote) here = absurd (let wrong : End session ≡ Bytes number piece = is in cc)
  gone before session output grown (Err (Memory false)) after held (may, none, same, wrote) here = absurd may
  gone before session output grown (Err TooManySessions) after held (is, same, wrote) here = absurd (let wrong : None ≡ Some TooManySessions = sym (may_end before.sessions session held here) ∙ is in cc)
  gone before session output grown (Err SessionOpen) after held (is, same, wrote) here = absurd (let wrong : None ≡ Some SessionOpen = sym (may_end before.sessions session held here) ∙ is in cc)
  gone before session output grown (Err NoSession) after held (is, same, wrote) here = absurd (let wrong : None ≡ Some NoSession = sym (may_end before.sessions session held here) ∙ is in cc)

  pub ended_whole : (before : HubState S) (session : ℕ) (one two three four : List ℕ) (opening ending : Result (Unit {0}) HubRefusal) (between last after : HubState S)
      → due before.sessions (Open session) ≡ None → Happens answers before (Open session) one opening between two → IsOk opening
      → (kept : Remainder) × (last.sessions ≡ set_value (is_at (nat_cmp session)) between.sessions kept)
      → Happens answers last (End session) three ending after four → (after.service ≡ last.service) × (after.sessions ≡ before.sessions)
  ended_whole before session one two three four opening ending between last after fine opens good keeps ends =
      let p : ℕ → Bool = is_at (nat_cmp session) in
      let here : at_session last.sessions session ≡ Some keeps.0 =
      ap (λ (m : BySession Remainder). at_session m session) keeps.1 ∙ set_found p between.sessions keeps.0 (Rest []) (begins_empty before session one two opening between opens good) in
      let g = gone last session three four ending after keeps.0 ends here in (
        g.0,
        g.1 ∙ ap (remove_entry p) (keeps.1 ∙ ap (λ (m : BySession Remainder). set_value p m keeps.0) (opened before session one two opening between opens good).1)
            ∙ gone_again before.sessions session (Rest []) keeps.0 (may_open before.sessions session fine),
      )
