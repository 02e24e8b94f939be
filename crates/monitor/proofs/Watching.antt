-- What a monitor watched stays watched when it watches the next epoch, when its chain grows and when it
-- expects a change.
use Rattle.std.proofs.Common.{◌≡◌, ℕ, ◌+◌, ◌<◌, ◌≤◌, List, ◌++◌, length, length-append, get_or, Option, All, Contains, refl, ap, Result, Ok, Err, OnOk, arith, ◌∙◌, inl, inr}
use Rattle.std.proofs.lemmas.Bool.{cases_lt}
use Rattle.std.proofs.lemmas.List.{get_or_append_left, get_or-append_right, get_or_default}
use Rattle.std.proofs.lemmas.List.Elements.{Contains-append_cases, Contains-append_left, Contains-push}
use Rattle.std.proofs.lemmas.List.Quantifiers.{all_pairs_push}
use Rattle.encoding.specs.declared.bound_key.BoundKey.{BoundKey}
use Rattle.rootchain.specs.Chains.{Ascend, IsChain}
use Rattle.rootchain.specs.declared.signed_promise.SignedPromise.{SignedPromise}
use Rattle.rootchain.specs.declared.signed_root.SignedRoot.{SignedRoot}
use Rattle.rootchain.proofs.Chains.{ascend-linked}
use Rattle.rootchain.specs.RootFeeds.{FeedState}
use Rattle.rootchain.proofs.TakingLists.{takes-grows}
use Rattle.rootchain.proofs.TakingPieces.{piece-grows}
use Rattle.client.specs.Clients.{Client, Look}
use Rattle.client.specs.Updating.{Updates}
use Rattle.client.specs.UpdatingFrom.{UpdatesFrom}
use Rattle.client.specs.declared.client_refusal.Refusal.{Refusal}
use Rattle.monitor.specs.Monitors.{Monitor, new_monitor, with_change, with_watched, IsNext, IsWatching}

pub begun-watching : (client : Client) (name : List ℕ) (start : Option BoundKey) → IsWatching (new_monitor client name start)
begun-watching client name start = record {
  ascends = λ i j d p q. absurd (omega (arith, q));
  last = inl refl;
  looked = λ root is. absurd (omega (arith, is.1, is.2));
}

-- the next epoch is watched
module _ (monitor : Monitor) (is : IsWatching monitor) where
  pub watched-watching : (epoch : ℕ) (reply : List ℕ) (root : SignedRoot) → IsNext monitor root → root.body.epoch ≡ epoch → IsWatching (with_watched monitor epoch reply)
  watched-watching epoch reply next is-next same = record {
    ascends = is.ascends;
    last = inr (next, (is-next.0, same));
    looked = λ root watched. elim (cases_lt monitor.watched root.body.epoch) [
      | inl new ↦
          let look : Look = record { name = monitor.name; epoch = epoch; reply = reply } in
          let least = is-next.2 watched.0.0 root watched.0.1 (rw watched.0.2 new) in
          (look, Contains-push monitor.client.looks look, refl, omega (arith, same, watched.2, rw watched.0.2 at least))
      | inr old ↦
          let has = is.looked root (watched.0, watched.1, old) in
          (has.0, Contains-append_left monitor.client.looks _ has.0 has.1, has.2, has.3)
    ];
  }

  pub change-watching : (signed : SignedPromise) → All (λ change. change.0 < signed.promise.epoch) monitor.watch.changes → IsWatching (with_change monitor signed)
  change-watching signed later = record {
    ascends = all_pairs_push (λ earlier later. earlier.0 < later.0) monitor.watch.changes (signed.promise.epoch, signed.promise.key) is.ascends (λ k d p. later k d p);
    last = is.last;
    looked = is.looked;
  }

-- a root behind others is of a later epoch
behind-later : (front back : List SignedRoot) (one other : SignedRoot) → Ascend (front ++ back) → Contains front one → Contains back other → one.body.epoch < other.body.epoch
behind-later front back one other up has also =
    let first : get_or (front ++ back) has.0 other ≡ one = get_or_append_left front back other has.0 has.1 ∙ get_or_default front has.0 other one has.1 ∙ has.2 in
    let second : get_or (front ++ back) (length front + also.0) other ≡ other = get_or-append_right front back (length front) (length front + also.0) other refl (omega arith) ∙ ap (λ k. get_or back k other) (omega arith) ∙ also.2 in
    let less = up has.0 (length front + also.0) other (omega (arith, has.1)) (rw (length-append front back) (omega (arith, also.1))) in
    rw (first, second) at less

module _ (monitor : Monitor) (is : IsWatching monitor) (more : List SignedRoot) (up : Ascend (monitor.client.chain.roots ++ more)) where
  abbrev Grown : Monitor
  Grown = record monitor { client = record monitor.client { chain = record monitor.client.chain { roots = monitor.client.chain.roots ++ more } } }

  new-unwatched : (root : SignedRoot) → Contains more root → 0 < root.body.epoch → root.body.epoch ≤ monitor.watched → ⊥
  new-unwatched root new positive low = elim is.last [
    | inl none ↦ omega arith
    | inr last ↦ let less = behind-later monitor.client.chain.roots more last.0 root up last.1.0 new in omega (arith, less, last.1.1, low)
  ]

  pub grown-watching : IsWatching Grown
  grown-watching = record {
    ascends = is.ascends;
    last = elim is.last [
      | inl none ↦ inl none
      | inr last ↦ inr (last.0, (Contains-append_left monitor.client.chain.roots more last.0 last.1.0, last.1.1))
    ];
    looked = λ root watched. elim (Contains-append_cases monitor.client.chain.roots more root watched.0) [
      | inl old ↦ is.looked root (old, watched.1, watched.2)
      | inr new ↦ absurd (new-unwatched root new watched.1 watched.2)
    ];
  }

-- the client is updated, or it stays
pub updated-watching : (hash : List ℕ → List ℕ) (verified : List ℕ → List ℕ → List ℕ → Type 0) (monitor : Monitor) → IsWatching monitor → (client : Client) (bytes : List ℕ) (result : Result Unit Refusal) → Updates hash verified monitor.client bytes result client
    → OnOk result (IsChain hash verified client.chain) → IsWatching (record monitor { client = client })
updated-watching hash verified monitor is client bytes (Ok done) (roots, chain, spelled, takes, same) linked =
    let grown = takes-grows hash verified roots monitor.client.chain chain takes in
    let up : Ascend chain.roots = ascend-linked hash chain.roots (rw same at linked).linked in
    rw (same, grown.1) (grown-watching monitor is grown.0 (rw grown.1 at up))
updated-watching hash verified monitor is client bytes (Err why) updates linked = rw updates.0 is

-- the same for a piece of a list
pub updated-from-watching : (hash : List ℕ → List ℕ) (verified : List ℕ → List ℕ → List ℕ → Type 0) (monitor : Monitor) → IsWatching monitor
    → (client : Client) (held held' : FeedState) (piece : List ℕ) (result : Result Unit Refusal) → UpdatesFrom hash verified monitor.client held piece result client held'
    → IsChain hash verified client.chain → IsWatching (record monitor { client = client })
updated-from-watching hash verified monitor is client held held' piece (Ok done) (chain, takes, same) linked =
    let grown = piece-grows hash verified {A = Unit} monitor.client.chain held piece (Ok done) chain held' takes in
    let up : Ascend chain.roots = ascend-linked hash chain.roots (rw same at linked).linked in
    rw (same, grown.1) (grown-watching monitor is grown.0 (rw grown.1 at up))
updated-from-watching hash verified monitor is client held held' piece (Err why) (chain, reason, takes, same, told) linked =
    let grown = piece-grows hash verified {A = Unit} monitor.client.chain held piece (Err reason) chain held' takes in
    let up : Ascend chain.roots = ascend-linked hash chain.roots (rw same at linked).linked in
    rw (same, grown.1) (grown-watching monitor is grown.0 (rw grown.1 at up))
