-- What a reply shows of a promise that was kept.
use Rattle.std.proofs.Common.{◌≡◌, ◌↔◌, ◌∙◌, ℕ, List, Bool, Option, Some, None, Err, Ok, IsTrue, ap, subst, sym}
use Rattle.rootchain.specs.Chains.{KeyedRoots}
use Rattle.rootchain.specs.Places.{IsNextAfter}
use Rattle.rootchain.specs.declared.signed_promise.SignedPromise.{SignedPromise}
use Rattle.rootchain.specs.declared.signed_root.SignedRoot.{SignedRoot}
use Rattle.proofs.proofs.Passing.{one_reply}
use Rattle.proofs.proofs.Sound.{not_spelled}
use Rattle.proofs.specs.Accepts.{stated}
use Rattle.proofs.specs.Comparisons.{IsAcceptedReply}
use Rattle.proofs.specs.Refusals.{ReadsReply}
use Rattle.proofs.specs.Replies.{Reply, SpellsReply}
use Rattle.proofs.specs.declared.reply_refusal.Refusal.{Refusal}
use Rattle.client.specs.Clients.{Client}
use Rattle.client.specs.Dues.{Dues, IsTested, ShowsKept, Tests}
use Rattle.client.specs.declared.due.Due.TheVariants.{Kept}
use Rattle.client.proofs.Tested.{one-tested}

module _ (hash : List ℕ → List ℕ) (chain : KeyedRoots) (signed : SignedPromise) (bytes : List ℕ) where
  module _ (found : Option SignedRoot) (finds : (root : SignedRoot) → (found ≡ Some root) ↔ IsNextAfter chain signed.promise.epoch root) where
    pub none-next : found ≡ None → ¬ ShowsKept hash chain signed bytes
    none-next none (root, reply, next, spelled, body, shown) = let there : found ≡ Some root = (finds root).1 next in cc

    module _ (own : SignedRoot) (at : found ≡ Some own) (read : Reply) (spelled : SpellsReply bytes read) where
      -- the parts of what is shown, by the reply that was read
      pub shown-by : read.body ≡ own.body → hash read.value ≡ signed.promise.index → stated read.end ≡ Some signed.promise.key → ShowsKept hash chain signed bytes
      shown-by body index key = (own, read, (finds own).0 at, spelled, body, (index, key))

      pub parts-of : ShowsKept hash chain signed bytes → (read.body ≡ own.body) × ((hash read.value ≡ signed.promise.index) × (stated read.end ≡ Some signed.promise.key))
      parts-of (root, reply, next, its, body, (index, key)) =
          let same : reply ≡ read = one_reply bytes reply read its spelled in
          let there : found ≡ Some root = (finds root).1 next in
          let one : root ≡ own = cc in (
            ap (λ (r : Reply). r.body) (sym same) ∙ body ∙ ap (λ (r : SignedRoot). r.body) one,
            (ap (λ (r : Reply). hash r.value) (sym same) ∙ index, ap (λ (r : Reply). stated r.end) (sym same) ∙ key),
          )

  pub unread : (refusal : Refusal) → ReadsReply bytes (Err refusal) → ¬ ShowsKept hash chain signed bytes
  unread refusal reads (root, reply, next, spelled, body, shown) = not_spelled bytes refusal reads reply spelled

module _ (hash : List ℕ → List ℕ) (accepted : List ℕ → List ℕ → List ℕ → Type 0) (before : Client) (name bytes : List ℕ) (its : (reply : Reply) × IsAcceptedReply hash accepted reply.body name bytes reply) where
  -- of a reply that is accepted, what it shows is what a test finds
  pub kept-tests : (signed : SignedPromise) → ShowsKept hash before.chain signed bytes → Tests hash accepted before.chain name bytes signed (Ok Kept)
  kept-tests signed (root, reply, next, spelled, body, shows) =
      let same : its.0 ≡ reply = one_reply bytes its.0 reply its.1.0 spelled in
      let is : IsAcceptedReply hash accepted reply.body name bytes reply = subst (λ (r : Reply). IsAcceptedReply hash accepted r.body name bytes r) same its.1 in
      (root, reply, next, (spelled, body, is.2), shows)

  pub not-kept : (place : ℕ) (signed : SignedPromise) → IsTested before.promises name place signed → ¬ ShowsKept hash before.chain signed bytes → (after : Client) → ¬ Dues hash accepted before name bytes (Ok Kept) after
  not-kept place signed tested not after (other, (also, its-tested, (root, reply, next, is, shows)), then) =
      let same : also ≡ signed = one-tested before.promises name place other signed also tested its-tested in
      not (subst (λ (s : SignedPromise). ShowsKept hash before.chain s bytes) same (root, reply, next, is.0, is.1, shows))
