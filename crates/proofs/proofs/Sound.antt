-- Two byte strings that are accepted state one binding, or there is a collision.
use Rattle.std.proofs.Common.{◌≡◌, ◌↔◌, ℕ, List, Option, Result, Ok, Err, IfErr, IfOk, IsOkAnd, inl, inr, refl, sym, ap, subst, ◌∙◌}
use Rattle.encoding.specs.declared.bound_key.BoundKey.{BoundKey}
use Rattle.rootchain.specs.declared.body.Body.{Body}
use Rattle.proofs.specs.declared.comparing.SameOr.{SameOr}
use Rattle.proofs.specs.declared.comparing.SameOr.TheVariants.{NotComparable, Same, TwoValues, Collision}
use Rattle.proofs.specs.declared.reply_refusal.Refusal.{Refusal}
use Rattle.proofs.specs.declared.reply_refusal.Refusal.TheVariants.{Malformed, Trailing, OtherRoot, BadVuf, SameIndex, OtherPrefix, PathMismatch}
use Rattle.proofs.specs.Accepts.{stated, Accepts, HasIndex, IsAccepted, NamedReply}
use Rattle.proofs.specs.Comparisons.{Answers, IsAcceptedReply, IsOnceAccepted, IsOneBindingOr, Refuses}
use Rattle.proofs.specs.Refusals.{IsFirstToFail, Passes, ReadsReply}
use Rattle.proofs.specs.Replies.{Reply, SpellsReply}
use Rattle.proofs.proofs.Passing.{accepts-passed, nothing_left, one_reply, passed-accepted}

abbrev pub named : List ℕ → Reply → NamedReply
named name reply = record { name = name; reply = reply }

pub not_spelled : (bytes : List ℕ) (refusal : Refusal) → ReadsReply bytes (Err refusal) → (reply : Reply) → ¬ SpellsReply bytes reply
not_spelled bytes Malformed reads reply = reads.0 reply
not_spelled bytes Trailing (other, front, rest, parts, some, spells) reply = λ spelled. some (nothing_left front rest other reply spells (subst (λ (b : List ℕ). SpellsReply b reply) parts spelled))
not_spelled bytes OtherRoot reads reply = absurd reads
not_spelled bytes BadVuf reads reply = absurd reads
not_spelled bytes SameIndex reads reply = absurd reads
not_spelled bytes OtherPrefix reads reply = absurd reads
not_spelled bytes PathMismatch reads reply = absurd reads

module _ (hash : List ℕ → List ℕ) (accepted : List ℕ → List ℕ → List ℕ → Type 0) (body : Body) (name : List ℕ) where
  -- what is refused is not accepted
  pub refused_not : (bytes : List ℕ) (refusal : Refusal) → Refuses hash accepted body name bytes refusal → (statement : Option BoundKey) → ¬ Accepts hash accepted body name bytes statement
  refused_not bytes refusal (inl reads) statement = λ accepts. not_spelled bytes refusal reads accepts.0 accepts.1
  refused_not bytes refusal (inr (reply, spelled, first)) statement = λ accepts. first.fails ((accepts-passed hash accepted body name bytes reply spelled statement accepts).1 refusal)

  -- what checking refuses is refused of the bytes
  pub refuses_checked : {X : Type 0} (bytes : List ℕ) (reply : Reply) → SpellsReply bytes reply → (result : Result X Refusal)
      → IfErr result (IsFirstToFail (Passes hash accepted body name reply)) → IfErr result (Refuses hash accepted body name bytes)
  refuses_checked bytes reply spelled (Ok kept) first = tt
  refuses_checked bytes reply spelled (Err refusal) first = inr (reply, spelled, first)

  -- what is answered to the reply that the bytes spell keeps a reply that is accepted
  pub keeps_accepted : (bytes : List ℕ) (reply : Reply) → SpellsReply bytes reply → (result : Result NamedReply Refusal)
      → ((statement : Option BoundKey) → IsOkAnd result (λ kept. stated kept.reply.end ≡ statement) ↔ Accepts hash accepted body name bytes statement)
      → IfOk result (λ kept. kept ≡ named name reply) → IfOk result (λ kept. IsAcceptedReply hash accepted body name bytes kept.reply)
  keeps_accepted bytes reply spelled (Ok kept) exact is =
      let passed = (accepts-passed hash accepted body name bytes reply spelled (stated kept.reply.end) ((exact (stated kept.reply.end)).0 refl)).1 in
      subst (IsAcceptedReply hash accepted body name bytes) (sym (ap (λ (n : NamedReply). n.reply) is)) (spelled, passed OtherRoot, passed-accepted hash accepted body name reply passed)
  keeps_accepted bytes reply spelled (Err refusal) exact is = tt

  pub states_this : (bytes : List ℕ) (reply : Reply) → IsAcceptedReply hash accepted body name bytes reply → (statement : Option BoundKey) → Accepts hash accepted body name bytes statement → stated reply.end ≡ statement
  states_this bytes reply is statement accepts = (accepts-passed hash accepted body name bytes reply is.0 statement accepts).0

  pub has_this : (bytes index : List ℕ) (reply : Reply) → IsAcceptedReply hash accepted body name bytes reply → HasIndex hash bytes index → hash reply.value ≡ index
  has_this bytes index reply is has = ap (λ (r : Reply). hash r.value) (one_reply bytes reply has.0 is.0 has.1) ∙ has.2

  -- the answer on two accepted replies of one index
  pub sound : (first second : List ℕ) (one two : Reply) → IsAcceptedReply hash accepted body name first one → IsAcceptedReply hash accepted body name second two
      → (answer : SameOr) → Answers hash accepted (named name one) (named name two) answer → (statement other : Option BoundKey) (index : List ℕ)
      → Accepts hash accepted body name first statement → Accepts hash accepted body name second other → HasIndex hash first index → HasIndex hash second index
      → IsOneBindingOr hash statement other answer
  sound first second one two is_one is_two NotComparable answers statement other index accepts_first accepts_second first_index second_index = answers (is_one.1 ∙ sym is_two.1, refl)
  sound first second one two is_one is_two Same answers statement other index accepts_first accepts_second first_index second_index =
      sym (states_this first one is_one statement accepts_first) ∙ answers.1 ∙ states_this second two is_two other accepts_second
  sound first second one two is_one is_two TwoValues answers statement other index accepts_first accepts_second first_index second_index =
      answers.2 (has_this first index one is_one first_index ∙ sym (has_this second index two is_two second_index))
  sound first second one two is_one is_two (Collision x y) answers statement other index accepts_first accepts_second first_index second_index = (
    λ same. answers.1 (states_this first one is_one statement accepts_first ∙ same ∙ sym (states_this second two is_two other accepts_second)),
    answers.3,
  )

  -- an answer on what was kept is one on its replies for the name
  pub on_replies : (first second : NamedReply) (answer : SameOr) → first ≡ named name first.reply → second ≡ named name second.reply → Answers hash accepted first second answer
      → Answers hash accepted (named name first.reply) (named name second.reply) answer
  on_replies first second answer one two answers =
      subst (λ (n : NamedReply). Answers hash accepted n (named name second.reply) answer) one (subst (λ (n : NamedReply). Answers hash accepted first n answer) two answers)

-- the reply that once accepted bytes spell is accepted
pub still_accepted : (hash : List ℕ → List ℕ) (accepted : List ℕ → List ℕ → List ℕ → Type 0) (name bytes : List ℕ) (reply : Reply) → SpellsReply bytes reply
    → IsOnceAccepted hash accepted name bytes → IsAccepted hash accepted (named name reply)
still_accepted hash accepted name bytes reply spelled once = subst (λ (r : Reply). IsAccepted hash accepted (named name r)) (one_reply bytes once.1 reply once.2.0 spelled) once.2.2
