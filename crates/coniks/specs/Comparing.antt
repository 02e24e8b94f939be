-- What the comparison of two replies answers.
use Rattle.std.specs.Prelude.{◌≡◌, ◌⊎◌, ℕ, ◌+◌, ◌<◌, ◌≤◌, List, ◌++◌, Bool, true, drop, length}
use Rattle.encoding.specs.Fields.{Spells}
use Rattle.encoding.specs.Limits.{IsName}
use Rattle.nodehash.specs.Collisions.{IsCollision}
use Rattle.rootchain.specs.Bodies.{body_bytes, IsBody}
use Rattle.rootchain.specs.declared.body.Body.{Body}
use Rattle.proofs.specs.Accepts.{NamedReply}
use Rattle.proofs.specs.Comparisons.{HaveOneIndex, IsAcceptedReply, Refuses, StandFirst, StateTheSame}
use Rattle.proofs.specs.Refusals.{reply_refusal_number}
use Rattle.proofs.specs.Replies.{Reply}
use Rattle.proofs.specs.declared.reply_refusal.Refusal.{Refusal}
use Rattle.coniks.specs.Told.{any, told}
use Rattle.coniks.specs.declared.parts.Lens.{Lens}

-- a text of this length stands at the front of a buffer
abbrev pub IsPut : List ℕ → List ℕ → List ℕ → ℕ → Type 0
IsPut text before after len = (after ≡ text ++ drop (length text) before) × (len ≡ length text)

-- the buffers are as they were
abbrev pub AreKept : List ℕ → List ℕ → List ℕ → List ℕ → Lens → Lens → Type 0
AreKept one one' other other' lens lens' = (one' ≡ one) × (other' ≡ other) × (lens' ≡ lens)

-- Two accepted replies state the same; or two things, and have two indices; or one, and then two different byte strings with
-- one digest are put into two buffers: the first two node texts on their ways that differ, or else those of the commitments.
abbrev pub Tells : (List ℕ → List ℕ) → NamedReply → NamedReply → ℕ → List ℕ → List ℕ → List ℕ → List ℕ → Lens → Lens → Type 0
Tells hash first second answer one one' other other' lens lens' =
    (StateTheSame first second × (answer ≡ 0) × AreKept one one' other other' lens lens')
    ⊎ ((¬ StateTheSame first second) × (¬ HaveOneIndex hash first second) × (answer ≡ 21) × AreKept one one' other other' lens lens')
    ⊎ ((¬ StateTheSame first second) × HaveOneIndex hash first second × (answer ≡ 22)
    × ((x y : List ℕ) × IsCollision hash x y × StandFirst hash first second x y × IsPut x one one' lens'.one × IsPut y other other' lens'.other))

-- Two replies for a name under a body are compared: the first that applies of 8, the name is none; the refusals of the first
-- reply; those of the second, 32 above; else what they show is told.
abbrev pub ComparesUnder : (List ℕ → List ℕ) → Body → List ℕ → List ℕ → List ℕ → Bool → Bool → ℕ → List ℕ → List ℕ → List ℕ → List ℕ → Lens → Lens → Type 0
ComparesUnder hash body name first second first_is_accepted second_is_accepted answer one one' other other' lens lens' =
    ((¬ IsName name) × (answer ≡ 8) × AreKept one one' other other' lens lens')
    ⊎ (IsName name × (
    ((refusal : Refusal) × Refuses hash (told first_is_accepted) body name first refusal × (answer ≡ reply_refusal_number refusal) × AreKept one one' other other' lens lens')
    ⊎ ((reply : Reply) × (refusal : Refusal) × (first_is_accepted ≡ true) × IsAcceptedReply hash any body name first reply × Refuses hash (told second_is_accepted) body name second refusal
    × (answer ≡ 32 + reply_refusal_number refusal) × AreKept one one' other other' lens lens')
    ⊎ ((reply also : Reply) × (first_is_accepted ≡ true) × (second_is_accepted ≡ true) × IsAcceptedReply hash any body name first reply × IsAcceptedReply hash any body name second also
    × Tells hash (record { name = name; reply = reply }) (record { name = name; reply = also }) answer one one' other other' lens lens')
    ))

-- so for bytes: 13, a buffer is too short, and 9, the body is none, come before
abbrev pub ComparesReplies : (List ℕ → List ℕ) → List ℕ → List ℕ → List ℕ → List ℕ → Bool → Bool → ℕ → List ℕ → List ℕ → List ℕ → List ℕ → Lens → Lens → Type 0
ComparesReplies hash body name first second first_is_accepted second_is_accepted answer one one' other other' lens lens' =
    (((length one < 2400) ⊎ (length other < 2400)) × (answer ≡ 13) × AreKept one one' other other' lens lens')
    ⊎ ((2400 ≤ length one) × (2400 ≤ length other) × (
    (((b : Body) → ¬ Spells body_bytes IsBody body b) × (answer ≡ 9) × AreKept one one' other other' lens lens')
    ⊎ ((b : Body) × Spells body_bytes IsBody body b × ComparesUnder hash b name first second first_is_accepted second_is_accepted answer one one' other other' lens lens')
    ))
