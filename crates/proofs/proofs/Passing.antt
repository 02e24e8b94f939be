-- A reply is accepted exactly where it passes each test.
use Rattle.std.proofs.Common.{◌≡◌, ◌↔◌, ℕ, List, [], ◌++◌, length, Option, Result, Ok, Err, IsErr, IsOkAnd, inl, inr, refl, sym, ap, subst, ◌∙◌}
use Rattle.std.proofs.lemmas.List.{append-nil}
use Rattle.encoding.proofs.Fields.{one_spelling}
use Rattle.prefixtree.specs.Paths.{Way}
use Rattle.encoding.specs.declared.bound_key.BoundKey.{BoundKey}
use Rattle.rootchain.specs.declared.body.Body.{Body}
use Rattle.proofs.specs.declared.reply_refusal.Refusal.{Refusal}
use Rattle.proofs.specs.declared.reply_refusal.Refusal.TheVariants.{Malformed, Trailing, OtherRoot, BadVuf, SameIndex, OtherPrefix, PathMismatch}
use Rattle.proofs.specs.Accepts.{stated, Accepts, EndStates, IsAccepted, States}
use Rattle.proofs.specs.Comparisons.{Refuses}
use Rattle.proofs.specs.Reading.{read_reply}
use Rattle.proofs.specs.PathEnds.{end_text}
use Rattle.proofs.specs.Refusals.{IsFirstToFail, AbsenceIsByAnother, AbsenceIsOnWay, Passes, ReadsReply}
use Rattle.proofs.specs.Replies.{End, Present, Empty, Other, Reply, reply_bytes, IsReply, SpellsReply}
use Rattle.proofs.proofs.Replies.{reply_field}

-- bytes spell at most one reply
pub one_reply : (bytes : List ℕ) (first second : Reply) → SpellsReply bytes first → SpellsReply bytes second → first ≡ second
one_reply bytes first second one two =
    (one_spelling read_reply reply_bytes IsReply reply_field first second [] [] one.1 two.1
    (append-nil (reply_bytes first) ∙ sym one.0 ∙ two.0 ∙ sym (append-nil (reply_bytes second)))).0

-- no spelling begins another
pub nothing_left : (front rest : List ℕ) (first second : Reply) → SpellsReply front first → SpellsReply (front ++ rest) second → rest ≡ []
nothing_left front rest first second one two =
    (one_spelling read_reply reply_bytes IsReply reply_field first second rest [] one.1 two.1
    (ap (λ (bytes : List ℕ). bytes ++ rest) (sym one.0) ∙ two.0 ∙ sym (append-nil (reply_bytes second)))).1

module _ (hash : List ℕ → List ℕ) where
  -- an end of which the tests hold states what it does by its text
  end_states : (nonce name index : List ℕ) (n : ℕ) (end : End) → AbsenceIsByAnother index end → AbsenceIsOnWay index n end
      → EndStates hash nonce name index n end (end_text hash nonce name index n end) (stated end)
  end_states nonce name index n (Present salt key) _ _ = (refl, refl)
  end_states nonce name index n Empty _ _ = (refl, refl)
  end_states nonce name index n (Other other commitment) another on_way = (another, on_way, refl, refl)

  abbrev IsTested : List ℕ → List ℕ → List ℕ → ℕ → End → List ℕ → Option BoundKey → Type 0
  IsTested nonce name index n end text statement =
      AbsenceIsByAnother index end × AbsenceIsOnWay index n end × (text ≡ end_text hash nonce name index n end) × (statement ≡ stated end)

  end_tested : (nonce name index : List ℕ) (n : ℕ) (end : End) (text : List ℕ) (statement : Option BoundKey) → EndStates hash nonce name index n end text statement
      → IsTested nonce name index n end text statement
  end_tested nonce name index n (Present salt key) text statement states = (tt, tt, states.0, states.1)
  end_tested nonce name index n Empty text statement states = (tt, tt, states.0, states.1)
  end_tested nonce name index n (Other other commitment) text statement states = (states.0, states.1, states.2, states.3)

module _ (hash : List ℕ → List ℕ) (accepted : List ℕ → List ℕ → List ℕ → Type 0) (body : Body) (name : List ℕ) where
  pub passed-states : (reply : Reply) → ((refusal : Refusal) → Passes hash accepted body name reply refusal) → States hash accepted body name reply (stated reply.end)
  passed-states reply passed =
      record {
        of_body = passed OtherRoot;
        value = passed BadVuf;
        text = end_text hash body.nonce name (hash reply.value) (length reply.siblings) reply.end;
        way = passed PathMismatch;
        end = end_states hash body.nonce name (hash reply.value) (length reply.siblings) reply.end (passed SameIndex) (passed OtherPrefix);
      }

  -- what states something passes, and states no other thing
  pub states-passed : (reply : Reply) (statement : Option BoundKey) → States hash accepted body name reply statement
      → (statement ≡ stated reply.end) × ((refusal : Refusal) → Passes hash accepted body name reply refusal)
  states-passed reply statement states = (tested.3, passed)
    where
      tested : IsTested hash body.nonce name (hash reply.value) (length reply.siblings) reply.end states.text statement
      tested = end_tested hash body.nonce name (hash reply.value) (length reply.siblings) reply.end states.text statement states.end

      passed : (refusal : Refusal) → Passes hash accepted body name reply refusal
      passed Malformed = tt
      passed Trailing = tt
      passed OtherRoot = states.of_body
      passed BadVuf = states.value
      passed SameIndex = tested.0
      passed OtherPrefix = tested.1
      passed PathMismatch = subst (Way hash body.root (hash reply.value) reply.siblings) tested.2 states.way

  -- what passes is accepted, with the statement of its end
  pub passed-accepts : (bytes : List ℕ) (reply : Reply) → SpellsReply bytes reply → ((refusal : Refusal) → Passes hash accepted body name reply refusal)
      → (statement : Option BoundKey) → stated reply.end ≡ statement → Accepts hash accepted body name bytes statement
  passed-accepts bytes reply spelled passed statement e = (reply, spelled, subst (States hash accepted body name reply) e (passed-states reply passed))

  -- what is accepted passes, and has no other statement
  pub accepts-passed : (bytes : List ℕ) (reply : Reply) → SpellsReply bytes reply → (statement : Option BoundKey) → Accepts hash accepted body name bytes statement
      → (stated reply.end ≡ statement) × ((refusal : Refusal) → Passes hash accepted body name reply refusal)
  accepts-passed bytes reply spelled statement accepts =
      let same : accepts.0 ≡ reply = one_reply bytes accepts.0 reply accepts.1 spelled in
      let passed = states-passed reply statement (subst (λ (r : Reply). States hash accepted body name r statement) same accepts.2) in
      (sym passed.0, passed.1)

  -- what passes is accepted under its own body
  pub passed-accepted : (reply : Reply) → ((refusal : Refusal) → Passes hash accepted body name reply refusal) → IsAccepted hash accepted (record { name = name; reply = reply })
  passed-accepted reply passed = subst (λ (own : Body). States hash accepted own name reply (stated reply.end)) (sym (passed OtherRoot)) (passed-states reply passed)

  -- an answer is Ok with a statement exactly where the bytes are accepted with it, where it is Ok for a
  -- reply that passes
  pub ok-exact : (bytes : List ℕ) (reply : Reply) → SpellsReply bytes reply → ((refusal : Refusal) → Passes hash accepted body name reply refusal)
      → (statement : Option BoundKey) → (stated reply.end ≡ statement) ↔ Accepts hash accepted body name bytes statement
  ok-exact bytes reply spelled passed statement = (passed-accepts bytes reply spelled passed statement, λ accepts. (accepts-passed bytes reply spelled statement accepts).0)

  -- and where it is refused for one that does not
  pub refused-exact : {X : Type 0} (reply : Reply) (result : Result X Refusal) (P : X → Type 0) → IsErr result → (refusal : Refusal) → IsFirstToFail (Passes hash accepted body name reply) refusal
      → (bytes : List ℕ) → SpellsReply bytes reply → (statement : Option BoundKey) → IsOkAnd result P ↔ Accepts hash accepted body name bytes statement
  refused-exact reply (Ok x) P err refusal first bytes spelled statement = absurd cc
  refused-exact reply (Err other) P err refusal first bytes spelled statement =
      (λ ok. absurd ok, λ accepts. absurd (first.fails ((accepts-passed bytes reply spelled statement accepts).1 refusal)))

  -- bytes that spell a reply are refused by no reading
  spelled-read : (bytes : List ℕ) (reply : Reply) → SpellsReply bytes reply → (refusal : Refusal) → ¬ ReadsReply bytes (Err refusal)
  spelled-read bytes reply spelled Malformed reads = reads.0 reply spelled
  spelled-read bytes reply spelled Trailing reads =
      reads.4 (nothing_left reads.1 reads.2 reads.0 reply reads.5 (subst (λ (all : List ℕ). SpellsReply all reply) reads.3 spelled))
  spelled-read bytes reply spelled OtherRoot reads = reads
  spelled-read bytes reply spelled BadVuf reads = reads
  spelled-read bytes reply spelled SameIndex reads = reads
  spelled-read bytes reply spelled OtherPrefix reads = reads
  spelled-read bytes reply spelled PathMismatch reads = reads

  -- what is refused is not accepted
  pub refused-accepts : (bytes : List ℕ) (refusal : Refusal) (statement : Option BoundKey) → Refuses hash accepted body name bytes refusal
      → ¬ Accepts hash accepted body name bytes statement
  refused-accepts bytes refusal statement (inl reads) accepts = spelled-read bytes accepts.0 accepts.1 refusal reads
  refused-accepts bytes refusal statement (inr checked) accepts =
      checked.2.fails ((accepts-passed bytes checked.0 checked.1 statement accepts).1 refusal)
