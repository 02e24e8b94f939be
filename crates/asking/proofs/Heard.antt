-- The client where memory runs out before it is told what it made of a reply.
use Rattle.std.proofs.Common.{◌≡◌, ◌⊎◌, ℕ, List, Result, Err, inl, inr, refl, subst}
use Rattle.commands.specs.Operations.{Promise, Lookup}
use Rattle.rootchain.specs.declared.signed_promise.SignedPromise.{SignedPromise}
use Rattle.proofs.specs.Replies.{Reply}
use Rattle.proofs.specs.declared.statement.Statement.{Statement}
use Rattle.wire.specs.Requests.{RequestContent, Query, Put}
use Rattle.wire.specs.Responses as response
use Rattle.client.specs.Clients.{Client}
use Rattle.client.specs.Looking.{Looks}
use Rattle.client.specs.Promising.{KeepsPromise}
use Rattle.client.specs.declared.client_refusal.Refusal.{Refusal}
use Rattle.client.specs.declared.client_refusal.Refusal.TheVariants.{Root, Proof, UnknownRoot, RootDiffers, Memory, NoPromise}
use Rattle.asking.specs.Answering.{IsAnswerAt}
use Rattle.asking.specs.Checking.{look_told, promise_told, HearsResponse, IsTellable}
use Rattle.asking.specs.Reports.{Report}

-- a look that is refused changes nothing
pub looks_same : (hash : List ℕ → List ℕ) (accepted : List ℕ → List ℕ → List ℕ → Type 0) (before after : Client) (name : List ℕ) (epoch : ℕ) (bytes : List ℕ) (why : Refusal)
    → Looks hash accepted before name epoch bytes (Err why) after → after ≡ before
looks_same hash accepted before after name epoch bytes UnknownRoot (none, same) = same
looks_same hash accepted before after name epoch bytes (Proof why) (root, asked, refuses, same) = same
looks_same hash accepted before after name epoch bytes Memory (root, reply, answered, same) = same
looks_same hash accepted before after name epoch bytes (Root why) never = absurd never
looks_same hash accepted before after name epoch bytes (RootDiffers roots) never = absurd never
looks_same hash accepted before after name epoch bytes NoPromise never = absurd never

-- nor does a promise that is refused
pub keeps_same : (hash : List ℕ → List ℕ) (verified : List ℕ → List ℕ → List ℕ → Type 0) (before after : Client) (bytes : List ℕ) (why : Refusal)
    → KeepsPromise hash verified before bytes {A = Unit {0}} (Err why) after → after ≡ before
keeps_same hash verified before after bytes Memory (given, same) = same
keeps_same hash verified before after bytes (Root why) (reads, same) = same
keeps_same hash verified before after bytes UnknownRoot (reads, same) = same
keeps_same hash verified before after bytes (Proof why) never = absurd never
keeps_same hash verified before after bytes (RootDiffers roots) never = absurd never
keeps_same hash verified before after bytes NoPromise never = absurd never

module _ (hash : List ℕ → List ℕ) (accepted verified : List ℕ → List ℕ → List ℕ → Type 0) (held : ℕ) (before after : Client) (body : List ℕ) where
  -- a promise was heard, or nothing changed
  pub hears_promise : (asked : RequestContent) (signed : SignedPromise) → IsAnswerAt held asked (response.Promise signed)
      → (after ≡ before) ⊎ ((answer : Result (Unit {0}) Refusal) × KeepsPromise hash verified before body answer after × IsTellable answer)
      → (after ≡ before) ⊎ ((told : Report) × HearsResponse hash accepted verified held before body asked (response.Promise signed) told after)
  hears_promise (Put verb name key) signed answers (inl same) = inl same
  hears_promise (Put verb name key) signed answers (inr (answer, keeps, tellable)) =
      inr (promise_told (response.Promise signed) answer, inr (answers, (answer, (keeps, tellable), refl)))
  hears_promise (Query (Promise name)) signed answers (inl same) = inl same
  hears_promise (Query (Promise name)) signed answers (inr (answer, keeps, tellable)) =
      inr (promise_told (response.Promise signed) answer, inr (answers, (answer, (keeps, tellable), refl)))
  hears_promise _ signed (answers, timely) kept = absurd answers

  -- a reply to a look-up was heard, or nothing changed
  pub hears_look : (name spelled : List ℕ) (epoch at : ℕ) (reply : Reply) → IsAnswerAt held (Query (Lookup name epoch)) (response.Proof reply) → spelled ≡ name → at ≡ reply.body.epoch
      → (after ≡ before) ⊎ ((answer : Result Statement Refusal) × Looks hash accepted before spelled at body answer after × IsTellable answer)
      → (after ≡ before) ⊎ ((told : Report) × HearsResponse hash accepted verified held before body (Query (Lookup name epoch)) (response.Proof reply) told after)
  hears_look name spelled epoch at reply answers named own (inl same) = inl same
  hears_look name spelled epoch at reply answers named own (inr (answer, looks, tellable)) =
      let there = subst (λ (n : List ℕ). Looks hash accepted before n at body answer after) named looks in
      let found = subst (λ (e : ℕ). Looks hash accepted before name e body answer after) own there in
      inr (look_told reply.body.epoch answer, inr (answers, (answer, (found, tellable), refl)))
