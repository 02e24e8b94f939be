-- What a session hears is what its event does.
use Rattle.std.proofs.Common.{◌≡◌, ℕ, List, true, false, Option, Some, None, Result, Ok, Err, refl, sym, ap, subst, ◌∙◌, cond, inl, inr}
use Rattle.std.specs.Prelude.{is_some}
use Rattle.std.specs.Ordering.{nat_cmp}
use Rattle.std.specs.BTreeMap.{is_at}
use Rattle.std.specs.Map.{set_value}
use Rattle.std.proofs.lemmas.Map.Steps.{set_value_same}
use Rattle.wire.specs.Frames.{Frame}
use Rattle.wire.specs.Streams.{Remainder, Failed}
use Rattle.hub.specs.declared.hub_refusal.HubRefusal.{HubRefusal}
use Rattle.hub.specs.declared.hub_refusal.HubRefusal.TheVariants.{TooManySessions, SessionOpen, NoSession, Memory}
use Rattle.hub.specs.Exchanges.{HearsPiece}
use Rattle.hub.specs.Events.{HubState, BySession, at_session, due, Bytes}
use Rattle.hub.specs.Happenings.{Happens, HearsAt}

none_due : (sessions : BySession Remainder) (session : ℕ) (piece : List ℕ) (held : Remainder) → at_session sessions session ≡ Some held → due sessions (Bytes session piece) ≡ None
none_due sessions session piece held e = ap (λ (found : Option Remainder). cond (is_some found) None (Some NoSession)) e

same_hub : {S : Type 0} (x y : HubState S) → x.service ≡ y.service → x.sessions ≡ y.sessions → x ≡ y
same_hub {S} x y e f =
    let one : x ≡ record { service = y.service; sessions = x.sessions } = ap (λ (s : S). record { service = s; sessions = x.sessions }) e in
    let two : record { service = y.service; sessions = x.sessions } ≡ y = ap (λ (m : BySession Remainder). record { service = y.service; sessions = m }) f in
    one ∙ two

module _ {S : Type 0} (answers : S → Frame → List ℕ → S → Type 0) where
  heard_happens : (before after : HubState S) (session : ℕ) (piece : List ℕ) (held left : Remainder) (output grown : List ℕ) (result : Result (Unit {0}) HubRefusal)
      → at_session before.sessions session ≡ Some held → after.sessions ≡ set_value (is_at (nat_cmp session)) before.sessions left
      → HearsPiece answers before.service held piece output result after.service left grown
      → Happens answers before (Bytes session piece) output result after grown
  heard_happens before after session piece held left output grown (Ok done) here set (exchanges, exchanged, spent, wrote) =
      (none_due before.sessions session piece held here, exchanges, (held, left, here, set, exchanged, spent), wrote)
  heard_happens before after session piece held left output grown (Err (Memory true)) here set (exchanges, exchanged, waits, wrote) =
      (session, piece, exchanges, refl, (held, left, here, set, exchanged, waits), wrote)
  heard_happens before after session piece held left output grown (Err (Memory false)) here set (fine, same, kept, wrote) =
      let back = set ∙ ap (set_value (is_at (nat_cmp session)) before.sessions) kept ∙ set_value_same (is_at (nat_cmp session)) before.sessions held here in
      ((fine.0, λ failed. fine.1 (let is : held ≡ Failed = cc in is)), none_due before.sessions session piece held here, same_hub after before same back, wrote)
  heard_happens before after session piece held left output grown (Err TooManySessions) here set h = absurd h
  heard_happens before after session piece held left output grown (Err SessionOpen) here set h = absurd h
  heard_happens before after session piece held left output grown (Err NoSession) here set h = absurd h

  -- what is known where a session is looked for says what its event does
  pub hears_happens : (before after : HubState S) (session : ℕ) (piece output grown : List ℕ) (result : Result (Unit {0}) HubRefusal)
      → HearsAt answers before session piece output result after grown → Happens answers before (Bytes session piece) output result after grown
  hears_happens before after session piece output grown result (inl (gone, is, same, wrote)) =
      subst (λ (r : Result (Unit {0}) HubRefusal). Happens answers before (Bytes session piece) output r after grown) (sym is)
      (ap (λ (found : Option Remainder). cond (is_some found) None (Some NoSession)) gone, same, wrote)
  hears_happens before after session piece output grown result (inr (held, left, here, set, heard)) =
      heard_happens before after session piece held left output grown result here set heard
