-- How far the chain, and the monitors, are once a client got as far as an epoch.
use Rattle.std.proofs.Common.{◌≡◌, ◌∙◌, ◌≤◌, ℕ, zero, suc, true, false, Bool, List, length, Option, ap, arith, inl, inr, subst, sym}
use Rattle.commands.specs.Operations.{Lookup}
use Rattle.rootchain.specs.Chains.{IsHead, KeyedRoots}
use Rattle.rootchain.specs.declared.signed_root.SignedRoot.{SignedRoot}
use Rattle.wire.specs.Frames.{Frame}
use Rattle.wire.specs.Requests.{RequestContent, Query}
use Rattle.asking.specs.Catching.{Advances, AdvancesBy}
use Rattle.runs.specs.Runs.{AdvancesLists, Background}
use Rattle.asking.specs.Scenes.{Scene}
use Rattle.runs.specs.Standing.{IsUpTo}
use Rattle.asking.specs.Watching.{AllStep, StepsOnce, StepsThrough}
use Rattle.runs.proofs.OwnRoots.{some-same}
use Rattle.runs.proofs.SameChain.{step-chain}

module _ {T : Type 0} (hash : List ℕ → List ℕ) (accepted verified : List ℕ → List ℕ → List ℕ → Type 0) (exchanged : T → RequestContent → Frame → T → Type 0) where
  abbrev SameChain : Scene T → Scene T → Type 0
  SameChain before after = after.client.chain ≡ before.client.chain

  alike : (before after : Scene T) → after ≡ before → SameChain before after
  alike before after same = ap (λ (s : Scene T). s.client.chain) same

  -- ---- monitors leave the chain as it is

  once-chain : (before : Scene T) (place : ℕ) (went : Bool) (after : Scene T) → StepsOnce hash accepted exchanged before place went after → SameChain before after
  once-chain before place went after (inl (none, not, same)) = alike before after same
  once-chain before place went after (inr (inl (found, not, same))) = alike before after same
  once-chain before place went after (inr (inr asks)) = step-chain hash accepted verified before.client asks.monitor.name asks.epoch (Query (Lookup asks.monitor.name asks.epoch)) asks.frame asks.told asks.found after.client asks.client

  through-chain : (count : ℕ) (before : Scene T) (place : ℕ) (after : Scene T) → StepsThrough hash accepted exchanged count before place after → SameChain before after
  through-chain zero before place after steps = once-chain before place false after steps
  through-chain (suc count) before place after (middle, steps, more) = through-chain count middle place after more ∙ once-chain before place true middle steps

  all_step-chain : (more : ℕ) (before : Scene T) (place : ℕ) (after : Scene T) → AllStep hash accepted exchanged more before place after → SameChain before after
  all_step-chain zero before place after same = alike before after same
  all_step-chain (suc more) before place after (count, middle, steps, rest) = all_step-chain more middle (suc place) after rest ∙ through-chain count before place middle steps

  -- ---- on the way to an epoch the head is below it

  module _ (epoch low : ℕ) (high : epoch ≤ low) where
    pub advanced-low : (before after : Scene T) → Advances hash accepted verified exchanged epoch before true after → IsUpTo after.client low
    advanced-low before after (under, (taken, takes, (head, is, below), steps)) = λ other at.
        let there = subst (λ (c : KeyedRoots). IsHead c other) (all_step-chain (length taken.monitors) taken 0 after steps) at in
        let same = some-same head other (sym is ∙ there) in
        omega (arith, below, high, ap (λ (r : SignedRoot). r.body.epoch) same)

    pub advances_by-low : (count : ℕ) (before after : Scene T) → AdvancesBy hash accepted verified exchanged epoch count before after → IsUpTo before.client low → IsUpTo after.client low
    advances_by-low zero before after same up = subst (λ (s : Scene T). IsUpTo s.client low) (sym same) up
    advances_by-low (suc count) before after (middle, advances, more) up = advances_by-low count middle after more (advanced-low before middle advances)

-- and so it is where what is told is written behind each list
pub lists-low : {T : Type 0} (hash : List ℕ → List ℕ) (accepted verified : List ℕ → List ℕ → List ℕ → Type 0) (exchanged : T → RequestContent → Frame → T → Type 0) (background : Background) (epoch low : ℕ) (high : epoch ≤ low) (count : ℕ) (before after : Scene T) (old new : Option (List ℕ))
    → AdvancesLists hash accepted verified exchanged epoch count before old new after → IsUpTo before.client low → IsUpTo after.client low
lists-low {T} hash accepted verified exchanged background epoch low high zero before after old new (none, same) up = subst (λ (s : Scene T). IsUpTo s.client low) (sym same) up
lists-low {T} hash accepted verified exchanged background epoch low high (suc count) before after old new (middle, now, (done, advances, appends, is), more) up =
    lists-low hash accepted verified exchanged background epoch low high count middle after now new more
    (subst (λ (s : Scene T). IsUpTo s.client low) (sym is) (advanced-low hash accepted verified exchanged epoch low high before done advances))
