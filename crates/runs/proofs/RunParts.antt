-- What a run asks, made of its parts: a reply comes, lists are taken up to it and written, and then it is heard.
use Rattle.std.proofs.Common.{◌≡◌, ◌≢◌, ◌⊎◌, Bool, false, ℕ, List, Result, Ok, Err, Global, Vec, ap, inl, inr, refl, subst, sym}
use Rattle.std.specs.Prelude.{IfErr, IfOk}
use Rattle.rootchain.specs.declared.signed_promise.SignedPromise.{SignedPromise}
use Rattle.client.specs.Clients.{Client}
use Rattle.commands.specs.Operations.{Head}
use Rattle.memory.specs.declared.mark.Mark.{Mark}
use Rattle.monitor.specs.Monitors.{Monitor}
use Rattle.wire.specs.Frames.{Frame}
use Rattle.wire.specs.Requests.{RequestContent, Query}
use Rattle.play.specs.Scripts.{Ask}
use Rattle.asking.specs.Asking.{AsksDirectory, FindsHead, GetsReply, HearsHead, HearsReply, HearsSome, Sends, SpeaksOf}
use Rattle.asking.specs.Catching.{Advances, AdvancesSome, CatchesSome, CatchesUp, StopsBelow}
use Rattle.runs.specs.Ending.{AdvancesPart, DoesSome, LooksSome, PreparesSome}
use Rattle.asking.specs.Following.{IsBelow, StopsList}
use Rattle.runs.specs.Lateness.{HasNoted, HasNotedAs, IsLast}
use Rattle.runs.specs.Runs.{Background, Prepares}
use Rattle.asking.specs.Scenes.{scene, HaltsAfter, Scene}
use Rattle.asking.specs.Visiting.{TestsAll}
use Rattle.asking.specs.declared.ask_fault.AskFault.{AskFault}
use Rattle.asking.specs.declared.ask_fault.AskFault.TheVariants.{NoReply, OutOfMemory as NoMemory, Stopped}
use Rattle.asking.specs.declared.asker.Asker.{Asker}
use Rattle.runs.specs.declared.lateness.Limit.{Limit}
use Rattle.asking.specs.declared.reply.Reply.{Reply}
use Rattle.asking.specs.declared.said.Said.{Said}
use Rattle.runs.proofs.Between.{first_told}
use Rattle.runs.proofs.Late.{settled_noted}
use Rattle.runs.proofs.RunSteps.{answered_enough}
use Rattle.runs.proofs.Shifted.{head-shifts, hears_some-shifts, reply-shifts, shifted, tests_all-shifts, tests_some-shift}
use Rattle.runs.proofs.Standing.{advanced_part, HearsAny}

module _ {H V S T : Type 0} (hash : List ℕ → List ℕ) (accepted verified : List ℕ → List ℕ → List ℕ → Type 0) (exchanged : T → RequestContent → Frame → T → Type 0) (background : Background)
    (asker : Asker H V S) (said : Said) (stream stream' : T) (reply : Reply) where
  abbrev gets : (asked : RequestContent) → Sends exchanged background.token asked asker.client stream reply stream' → GetsReply exchanged background.token asked (scene asker said stream)
  gets asked sends = record {
    head = sends.0;
    is = sends.1;
    frame = sends.3.0;
    stream = stream';
    exchange = sends.3.2;
    epoch = reply.epoch;
    speaks = subst (λ (n : ℕ). SpeaksOf n asked sends.3.0 reply.epoch) sends.2 sends.3.3;
  }

  -- ---- the latest root

  module _ (sends : Sends exchanged background.token (Query Head) asker.client stream reply stream') (HasNoState : Type 0) (some : ¬ HasNoState) where
    -- the chain does not get as far as that
    pub prepares_below : (reached : Scene T)
        → CatchesSome hash accepted verified exchanged reply.epoch (scene asker said stream') reached ⊎ StopsBelow hash accepted verified exchanged reply.epoch (scene asker said stream') reached
        → PreparesSome hash accepted verified exchanged background HasNoState (scene asker said stream) reached
    prepares_below reached (inl catches) = inr (some, inl (inr (gets (Query Head) sends, inl catches)))
    prepares_below reached (inr stops) = inr (some, inr (inl (record { reply = gets (Query Head) sends; stops = stops })))

    -- what is so of client and monitors on the way to that
    pub prepares_seen : (Is : Client → List Monitor → Type 0)
        → (seen : Scene T) × ((seen ≡ scene asker said stream') ⊎ (CatchesSome hash accepted verified exchanged reply.epoch (scene asker said stream') seen ⊎ StopsBelow hash accepted verified exchanged reply.epoch (scene asker said stream') seen)) × Is seen.client seen.monitors
        → (seen : Scene T) × ((seen ≡ scene asker said stream) ⊎ PreparesSome hash accepted verified exchanged background HasNoState (scene asker said stream) seen) × Is seen.client seen.monitors
    prepares_seen Is (seen, inl same, is) = (scene asker said stream, inl refl, subst (λ (s : Scene T). Is s.client s.monitors) same is)
    prepares_seen Is (seen, inr below, is) = (seen, inr (prepares_below seen below), is)

    module _ (text : List ℕ) (ready : Scene T) (catches : CatchesUp hash accepted verified exchanged reply.epoch (scene asker said stream') (shifted (first_told text) ready)) where
      finds-head : (middle : Scene T) → HearsHead hash accepted verified exchanged reply.held sends.3.0 ready middle → FindsHead hash accepted verified exchanged background.token (scene asker said stream) (shifted (first_told text) middle)
      finds-head middle hears = record {
        reply = gets (Query Head) sends;
        ready = shifted (first_told text) ready;
        catches = catches;
        hears = subst (λ (n : ℕ). HearsHead hash accepted verified exchanged n sends.3.0 (shifted (first_told text) ready) (shifted (first_told text) middle)) sends.2
            (head-shifts hash accepted verified exchanged background.marks (first_told text) reply.held sends.3.0 ready middle hears);
      }

      -- it does, and all is heard and tested
      pub prepares_all : (marks : List Mark) (middle after : Scene T) → marks ≡ background.marks → HearsHead hash accepted verified exchanged reply.held sends.3.0 ready middle → TestsAll hash accepted exchanged marks middle after
          → Prepares hash accepted verified exchanged background HasNoState (scene asker said stream) (shifted (first_told text) after)
      prepares_all marks middle after same hears tests = inr (
        some,
        (
          shifted (first_told text) middle,
          finds-head middle hears,
          tests_all-shifts hash accepted verified exchanged background.marks (first_told text) middle after (subst (λ (m : List Mark). TestsAll hash accepted exchanged m middle after) same tests),
        ),
      )

      -- or some of it
      pub prepares_some : (background' : Background) (reached : Scene T) → background' ≡ background → LooksSome hash accepted verified exchanged background' reply.held sends.3.0 ready reached
          → PreparesSome hash accepted verified exchanged background HasNoState (scene asker said stream) (shifted (first_told text) reached)
      prepares_some background' reached same looks = by (subst (λ (b : Background). LooksSome hash accepted verified exchanged b reply.held sends.3.0 ready reached) same looks)
        where
          by : LooksSome hash accepted verified exchanged background reply.held sends.3.0 ready reached → PreparesSome hash accepted verified exchanged background HasNoState (scene asker said stream) (shifted (first_told text) reached)
          by (inl none) = inr (some, inl (inr (gets (Query Head) sends, inr (subst (λ (s : Scene T). CatchesUp hash accepted verified exchanged reply.epoch (scene asker said stream') (shifted (first_told text) s)) (sym none) catches))))
          by (inr (middle, hears, inl tests)) = inl (prepares_all background.marks middle reached refl hears tests)
          by (inr (middle, hears, inr tests)) = inr (some, inr (inr (shifted (first_told text) middle, finds-head middle hears, tests_some-shift hash accepted verified exchanged background.marks (first_told text) middle reached tests)))

  -- ---- a line

  module _ (asked : RequestContent) (sends : Sends exchanged background.token asked asker.client stream reply stream') where
    -- the chain does not get as far as the reply
    pub asks_below : (reached : Scene T)
        → CatchesSome hash accepted verified exchanged reply.epoch (scene asker said stream') reached ⊎ StopsBelow hash accepted verified exchanged reply.epoch (scene asker said stream') reached
        → DoesSome hash accepted verified exchanged background (Ask asked) (scene asker said stream) reached
    asks_below reached (inl catches) = inr (inr (inr (NoReply, asker.changes.items, asker.changes.items, inr (record { reply = gets asked sends; steps = inl (refl, catches) }))))
    asks_below reached (inr stops) = inr (inr (inl (record { reply = gets asked sends; stops = stops })))

    -- what is so of client and monitors on the way to it
    pub asks_seen : (Is : Client → List Monitor → Type 0)
        → (seen : Scene T) × ((seen ≡ scene asker said stream') ⊎ (CatchesSome hash accepted verified exchanged reply.epoch (scene asker said stream') seen ⊎ StopsBelow hash accepted verified exchanged reply.epoch (scene asker said stream') seen)) × Is seen.client seen.monitors
        → (seen : Scene T) × DoesSome hash accepted verified exchanged background (Ask asked) (scene asker said stream) seen × Is seen.client seen.monitors
    asks_seen Is (seen, inl same, is) = (scene asker said stream, inl refl, subst (λ (s : Scene T). Is s.client s.monitors) same is)
    asks_seen Is (seen, inr below, is) = (seen, asks_below seen below, is)

    module _ (text : List ℕ) (ready : Scene T) (catches : CatchesUp hash accepted verified exchanged reply.epoch (scene asker said stream') (shifted (first_told text) ready)) (noted noted' : List SignedPromise) where
      -- it does, and the reply is heard
      pub asks_all : (marks : List Mark) (after : Scene T) → marks ≡ background.marks → HearsReply hash accepted verified exchanged marks reply.held asked sends.3.0 noted noted' ready after
          → AsksDirectory hash accepted verified exchanged background.marks background.token asked noted noted' (scene asker said stream) (shifted (first_told text) after)
      asks_all marks after same hears = record {
        reply = gets asked sends;
        ready = shifted (first_told text) ready;
        catches = catches;
        hears = subst (λ (n : ℕ). HearsReply hash accepted verified exchanged background.marks n asked sends.3.0 noted noted' (shifted (first_told text) ready) (shifted (first_told text) after)) sends.2
            (reply-shifts hash accepted verified exchanged background.marks (first_told text) reply.held asked sends.3.0 noted noted' ready after
            (subst (λ (m : List Mark). HearsReply hash accepted verified exchanged m reply.held asked sends.3.0 noted noted' ready after) same hears));
      }

      -- or some of it
      pub asks_some : (fault : AskFault) (background' : Background) (reached : Scene T) → background' ≡ background → HearsAny hash accepted verified exchanged background' fault reply.held asked sends.3.0 noted noted' ready reached
          → DoesSome hash accepted verified exchanged background (Ask asked) (scene asker said stream) (shifted (first_told text) reached)
      asks_some fault background' reached same hears = by (subst (λ (b : Background). HearsAny hash accepted verified exchanged b fault reply.held asked sends.3.0 noted noted' ready reached) same hears)
        where
          by : HearsAny hash accepted verified exchanged background fault reply.held asked sends.3.0 noted noted' ready reached → DoesSome hash accepted verified exchanged background (Ask asked) (scene asker said stream) (shifted (first_told text) reached)
          by (inl heard) = inr (inl (noted, noted', asks_all background.marks reached refl heard))
          by (inr some) = inr (inr (inr (
            fault,
            noted,
            noted',
            inr (record {
              reply = gets asked sends;
              steps = inr (
                shifted (first_told text) ready,
                catches,
                subst (λ (n : ℕ). HearsSome hash accepted verified exchanged fault background.marks n asked sends.3.0 noted noted' (shifted (first_told text) ready) (shifted (first_told text) reached)) sends.2
                    (hears_some-shifts hash accepted verified exchanged background.marks (first_told text) fault reply.held asked sends.3.0 noted noted' ready reached some),
              );
            }),
          )))

-- ---- the last epoch that is noted where a list was taken

pub advanced_noted : {H V S T : Type 0} (hash : List ℕ → List ℕ) (accepted verified : List ℕ → List ℕ → List ℕ → Type 0) (exchanged : T → RequestContent → Frame → T → Type 0) (background : Background) (epoch : ℕ)
    (before after : Asker H V S) (said said' : Said) (stream stream' : T) (advanced : Result Bool AskFault) (asked : Result (Unit {0}) AskFault) (Settled : Type 0) (limit limit' : Limit)
    → after.marks ≡ before.marks → advanced ≢ Ok false → IfErr advanced (λ fault. asked ≡ Err fault)
    → IfOk advanced (λ goes. Advances hash accepted verified exchanged epoch (scene before said stream) goes (scene after said' stream'))
    → (advanced ≡ Err Stopped → IsBelow epoch before.client × StopsList hash verified exchanged (scene before said stream) (scene after said' stream'))
    → IfErr advanced (λ why. why ≢ Stopped → IsBelow epoch before.client × HaltsAfter (AdvancesSome hash accepted verified exchanged epoch (scene before said stream)) why after said')
    → HasNoted before limit → ((asked ≢ Err NoMemory) × HasNoted after limit') ⊎ ((¬ Settled) × (limit' ≡ limit))
    → (seen : Scene T) × ((seen ≡ scene before said stream) ⊎ AdvancesPart hash accepted verified exchanged epoch (scene before said stream) seen) × HasNotedAs (IsLast before.marks.items seen.client seen.monitors) limit'
advanced_noted {H} {V} {S} {T} hash accepted verified exchanged background epoch before after said said' stream stream' advanced asked Settled limit limit' still goes fails advances stops halts had noted =
    settled_noted (λ (seen : Scene T). (seen ≡ scene before said stream) ⊎ AdvancesPart hash accepted verified exchanged epoch (scene before said stream) seen) before.marks.items after asked Settled limit limit' (ap (λ (ms : Vec Mark Global). ms.items) still)
    (λ some.
    let (reached, part, told, client, monitors) = advanced_part hash accepted verified exchanged background epoch advanced (scene before said stream) after said' stream' goes advances stops halts (answered_enough advanced asked fails some) in
    (reached, inr part, client, monitors))
    (scene before said stream, inl refl, had) noted
