-- What the comparison of two accepted replies finds: that they state the same, or evidence that no honest
-- provider made both (the soundness of look-ups, CONIKS, section 4).
use Rattle.std.specs.Prelude.{◌≡◌, ◌≢◌, ℕ, ◌⊎◌, List, length, Option, Some, None, Result, Ok, Err}
use Rattle.encoding.specs.Limits.{IsName}
use Rattle.encoding.specs.declared.bound_key.BoundKey.{BoundKey}
use Rattle.nodehash.specs.Collisions.{IsCollision}
use Rattle.commit.specs.Commitments.{commitment_bytes}
use Rattle.rootchain.specs.declared.body.Body.{Body}
use Rattle.proofs.specs.Accepts.{stated, IsAccepted, NamedReply}
use Rattle.proofs.specs.PathEnds.{end_text}
use Rattle.proofs.specs.Refusals.{IsFirstToFail, Passes, ReadsReply}
use Rattle.proofs.specs.Replies.{End, Present, Empty, Other, Reply, IsReply, SpellsReply}
use Rattle.proofs.specs.WayTexts.{way_texts, AreFirstToDiffer}
use Rattle.proofs.specs.declared.reply_refusal.Refusal.{Refusal}
use Rattle.proofs.specs.declared.comparing.RefusedReply.{RefusedReply}
use Rattle.proofs.specs.declared.comparing.RefusedReply.TheVariants.{First, Second}
use Rattle.proofs.specs.declared.comparing.SameOr.{SameOr}
use Rattle.proofs.specs.declared.comparing.SameOr.TheVariants.{NotComparable, Same, TwoValues, Collision}

-- one body, and one name
abbrev pub AreComparable : NamedReply → NamedReply → Type 0
AreComparable first second = (first.reply.body ≡ second.reply.body) × (first.name ≡ second.name)

-- one key with one policy or none, or absence in both
abbrev pub StateTheSame : NamedReply → NamedReply → Type 0
StateTheSame first second = stated first.reply.end ≡ stated second.reply.end

abbrev pub HaveOneIndex : (List ℕ → List ℕ) → NamedReply → NamedReply → Type 0
HaveOneIndex hash first second = hash first.reply.value ≡ hash second.reply.value

-- two different values are accepted for one key and name
pub record AreTwoValues (accepted : List ℕ → List ℕ → List ℕ → Type 0) (first second : NamedReply) : Type 0 where
  pub one : accepted first.reply.body.vuf_key first.name first.reply.value
  pub two : accepted first.reply.body.vuf_key first.name second.reply.value
  pub differ : first.reply.value ≢ second.reply.value

-- the text of the commitment that an end opens, if any
abbrev pub opened : List ℕ → End → Option (List ℕ)
opened name (Present salt key) = Some (commitment_bytes salt name key)
opened name Empty = None
opened name (Other index commitment) = None

module _ (hash : List ℕ → List ℕ) where
  -- the texts of the nodes on a reply's way, from the root down
  abbrev pub texts_of : NamedReply → List (List ℕ)
  texts_of named =
      way_texts hash (hash named.reply.value) 0 named.reply.siblings
      (end_text hash named.reply.body.nonce named.name (hash named.reply.value) (length named.reply.siblings) named.reply.end)

  -- the first two node texts on the two ways that differ; where none differ, the two commitment texts
  abbrev pub StandFirst : NamedReply → NamedReply → List ℕ → List ℕ → Type 0
  StandFirst first second x y =
      AreFirstToDiffer (texts_of first) (texts_of second) x y
      ⊎ ((texts_of first ≡ texts_of second) × (opened first.name first.reply.end ≡ Some x) × (opened second.name second.reply.end ≡ Some y))

-- Each answer comes exactly if this holds. No two of these hold together.
abbrev pub Answers : (List ℕ → List ℕ) → (List ℕ → List ℕ → List ℕ → Type 0) → NamedReply → NamedReply → SameOr → Type 0
Answers hash accepted first second NotComparable = ¬ AreComparable first second
Answers hash accepted first second Same = AreComparable first second × StateTheSame first second
Answers hash accepted first second TwoValues =
    AreComparable first second × ¬ StateTheSame first second × ¬ HaveOneIndex hash first second × AreTwoValues accepted first second
Answers hash accepted first second (Collision x y) =
    AreComparable first second × ¬ StateTheSame first second × HaveOneIndex hash first second × IsCollision hash x y × StandFirst hash first second x y

-- two accepted replies of one name under one body with one index, which state two things
pub record AreOpposed (hash : List ℕ → List ℕ) (accepted : List ℕ → List ℕ → List ℕ → Type 0) (first second : NamedReply) : Type 0 where
  pub comparable : AreComparable first second
  pub differ : ¬ StateTheSame first second
  pub one : HaveOneIndex hash first second
  pub is_first : IsAccepted hash accepted first
  pub is_second : IsAccepted hash accepted second
  pub first_form : IsReply first.reply
  pub second_form : IsReply second.reply
  pub named : IsName first.name

-- ---- two byte strings

module _ (hash : List ℕ → List ℕ) (accepted : List ℕ → List ℕ → List ℕ → Type 0) (body : Body) (name : List ℕ) where
  -- the first refusal that applies to the bytes, of reading them or of checking the reply that they spell
  abbrev pub Refuses : List ℕ → Refusal → Type 0
  Refuses bytes refusal = ReadsReply bytes (Err refusal) ⊎ ((reply : Reply) × SpellsReply bytes reply × IsFirstToFail (Passes hash accepted body name reply) refusal)

  -- the bytes spell this reply, which is accepted
  abbrev pub IsAcceptedReply : List ℕ → Reply → Type 0
  IsAcceptedReply bytes reply = SpellsReply bytes reply × (reply.body ≡ body) × IsAccepted hash accepted (record { name = name; reply = reply })

  -- the refusal of the first reply that is refused; where both are accepted, the answer on them
  abbrev pub Compares : List ℕ → List ℕ → Result SameOr RefusedReply → Type 0
  Compares first second (Err (First refusal)) = Refuses first refusal
  Compares first second (Err (Second refusal)) = ((reply : Reply) × IsAcceptedReply first reply) × Refuses second refusal
  Compares first second (Ok answer) = (one : Reply) × (two : Reply) × IsAcceptedReply first one × IsAcceptedReply second two
      × Answers hash accepted (record { name = name; reply = one }) (record { name = name; reply = two }) answer

-- two statements are one binding, or the answer has two different byte strings with one digest
abbrev pub IsOneBindingOr : (List ℕ → List ℕ) → Option BoundKey → Option BoundKey → SameOr → Type 0
IsOneBindingOr hash statement other NotComparable = ⊥
IsOneBindingOr hash statement other Same = statement ≡ other
IsOneBindingOr hash statement other TwoValues = ⊥
IsOneBindingOr hash statement other (Collision x y) = (statement ≢ other) × IsCollision hash x y

-- the bytes were accepted for the name under some body
abbrev pub IsOnceAccepted : (List ℕ → List ℕ) → (List ℕ → List ℕ → List ℕ → Type 0) → List ℕ → List ℕ → Type 0
IsOnceAccepted hash accepted name bytes = (body : Body) × (reply : Reply) × IsAcceptedReply hash accepted body name bytes reply
