-- What a client makes of a reply leaves its chain as it is.
use Rattle.std.proofs.Common.{◌≡◌, ◌⊎◌, ℕ, Bool, List, Result, Ok, Err, ap, inl, inr}
use Rattle.commands.specs.Operations.{History, Lookup}
use Rattle.proofs.specs.declared.statement.Statement.{Statement}
use Rattle.client.specs.Clients.{Client}
use Rattle.client.specs.Dues.{Dues}
use Rattle.client.specs.Looking.{Looks}
use Rattle.client.specs.Promising.{KeepsPromise}
use Rattle.client.specs.declared.due.Due.{Due}
use Rattle.client.specs.declared.due.Due.TheVariants.{Broken, Kept, OtherIndex}
use Rattle.client.specs.declared.client_refusal.Refusal.{Refusal}
use Rattle.client.specs.declared.client_refusal.Refusal.TheVariants.{Root, Proof, UnknownRoot, RootDiffers, Memory, NoPromise}
use Rattle.wire.specs.Frames.{Frame}
use Rattle.wire.specs.Requests.{RequestContent, Query}
use Rattle.wire.specs.Responses.{ResponseContent}
use Rattle.wire.specs.Responses as response
use Rattle.asking.specs.Answering.{IsAnswerAt}
use Rattle.asking.specs.Checking.{HearsFrame, HearsResponse, IsCheckedAs}
use Rattle.asking.specs.Refused.{other_reply}
use Rattle.asking.specs.Reports.{Report}
use Rattle.asking.specs.Visiting.{ShowsDue}
use Rattle.asking.specs.Watching.{ShowsPromise}
use Rattle.asking.proofs.Heard.{keeps_same, looks_same}

abbrev HasChain : Client → Client → Type 0
HasChain before after = after.chain ≡ before.chain

same-chain : (before after : Client) → after ≡ before → HasChain before after
same-chain before after same = ap (λ (c : Client). c.chain) same

module _ (hash : List ℕ → List ℕ) (accepted verified : List ℕ → List ℕ → List ℕ → Type 0) where
  looks-chain : (before after : Client) (name : List ℕ) (epoch : ℕ) (bytes : List ℕ) (answer : Result Statement Refusal) → Looks hash accepted before name epoch bytes answer after → HasChain before after
  looks-chain before after name epoch bytes (Ok statement) (root, reply, answered, states, same) = ap (λ (c : Client). c.chain) same
  looks-chain before after name epoch bytes (Err why) looks = same-chain before after (looks_same hash accepted before after name epoch bytes why looks)

  promise-chain : (before after : Client) (bytes : List ℕ) (answer : Result (Unit {0}) Refusal) → KeepsPromise hash verified before bytes answer after → HasChain before after
  promise-chain before after bytes (Ok done) (signed, given, same) = ap (λ (c : Client). c.chain) same
  promise-chain before after bytes (Err why) keeps = same-chain before after (keeps_same hash verified before after bytes why keeps)

  -- a test of a promise
  due-chain : (before after : Client) (name bytes : List ℕ) (due : Result Due Refusal) → Dues hash accepted before name bytes due after → HasChain before after
  due-chain before after name bytes (Ok Kept) (place, tests, same) = ap (λ (c : Client). c.chain) same
  due-chain before after name bytes (Ok (Broken broken)) (place, tests, same) = same-chain before after same
  due-chain before after name bytes (Ok OtherIndex) (place, tests, same) = same-chain before after same
  due-chain before after name bytes (Err NoPromise) (none, same) = same-chain before after same
  due-chain before after name bytes (Err UnknownRoot) (place, tests, same) = same-chain before after same
  due-chain before after name bytes (Err (Proof why)) (place, tests, same) = same-chain before after same
  due-chain before after name bytes (Err (Root why)) never = absurd never
  due-chain before after name bytes (Err (RootDiffers evidence)) never = absurd never
  due-chain before after name bytes (Err Memory) never = absurd never

  pub shown-chain : (before : Client) (name : List ℕ) (asked : RequestContent) (frame : Frame) (kept : Bool) (told : Report) (after : Client) → ShowsDue hash accepted before name asked frame kept told after → HasChain before after
  shown-chain before name asked frame kept told after (inl (missed, not, same)) = same-chain before after same
  shown-chain before name asked frame kept told after (inr (answers, (due, dues, is, tells))) = due-chain before after name frame.body due dues

  -- one by the reply that came for a monitor
  pub step-chain : (before : Client) (name : List ℕ) (epoch : ℕ) (asked : RequestContent) (frame : Frame) (told found : Report) (after : Client) → ShowsPromise hash accepted before name epoch asked frame told found after → HasChain before after
  step-chain before name epoch asked frame told found after (inl (missed, quiet, same)) = same-chain before after same
  step-chain before name epoch asked frame told found after (inr (answers, (due, is, inl (other, quiet, same)))) = same-chain before after same
  step-chain before name epoch asked frame told found after (inr (answers, (due, is, inr (there, (shown, dues, tells))))) = due-chain before after name frame.body shown dues

  -- a frame
  module _ (held : ℕ) (before after : Client) (body : List ℕ) (asked : RequestContent) (told : Report) where
    checked-chain : (asked' : RequestContent) (responded : ResponseContent) → IsCheckedAs hash accepted verified held before body asked' responded told after → HasChain before after
    checked-chain (Query (Lookup name epoch)) (response.Proof reply) (answer, (looks, tellable), is) = looks-chain before after name reply.body.epoch body answer looks
    checked-chain asked' (response.Promise signed) (answer, (keeps, tellable), is) = promise-chain before after body answer keeps
    checked-chain asked' (response.Root latest) (same, placed) = same-chain before after same
    checked-chain (Query (History from count)) (response.Roots roots) (same, are) = same-chain before after same
    checked-chain _ _ never = absurd never

    checked-or-not : (responded : ResponseContent) → ((¬ IsAnswerAt held asked responded) × (told ≡ other_reply) × (after ≡ before)) ⊎ (IsAnswerAt held asked responded × IsCheckedAs hash accepted verified held before body asked responded told after)
        → HasChain before after
    checked-or-not responded (inl (other, is, same)) = same-chain before after same
    checked-or-not responded (inr (answers, checked)) = checked-chain asked responded checked

    response-chain : (responded : ResponseContent) → HearsResponse hash accepted verified held before body asked responded told after → HasChain before after
    response-chain (response.Refused code) (is, same) = same-chain before after same
    response-chain (response.Promise signed) hears = checked-or-not (response.Promise signed) hears
    response-chain (response.Proof reply) hears = checked-or-not (response.Proof reply) hears
    response-chain (response.Roots roots) hears = checked-or-not (response.Roots roots) hears
    response-chain (response.Root root) hears = checked-or-not (response.Root root) hears

  pub frame-chain : (held : ℕ) (before after : Client) (asked : RequestContent) (frame : Frame) (told : Report) → HearsFrame hash accepted verified held before asked frame told after → HasChain before after
  frame-chain held before after asked frame told (inl (responded, is, hears)) = response-chain held before after frame.body asked told responded hears
  frame-chain held before after asked frame told (inr (why, reads, is, same)) = same-chain before after same
