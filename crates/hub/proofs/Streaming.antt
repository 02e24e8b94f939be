-- The messages of a stream, and of what it is with more.
use Rattle.std.proofs.Common.{◌≡◌, ℕ, zero, suc, ◌+◌, ◌-◌, ◌<◌, ◌≤◌, List, [], ◌∷◌, ◌++◌, length, Option, Some, None, Ok, Err, refl, sym, ap, ◌∙◌, arith}
use Rattle.std.proofs.lemmas.List.{append-nil}
use Rattle.encoding.specs.declared.fault.Fault.TheVariants.{Short, Trailing, OutOfRange}
use Rattle.encoding.specs.Reading.{Reading}
use Rattle.wire.specs.Frames.{Frame, read_frame}
use Rattle.wire.specs.Streams.{Remainder, Message, Rest, Failed, Whole, BadFrame, after_first, first_by, first_message, held_size, messages, messages_within, with_more, IsSpent, TakesMessage, TellsMessages}
use Rattle.wire.proofs.Fronts.{frame_less}
use Rattle.wire.proofs.Streams.{tells-more}

-- a message takes of what is held
takes_less : (held : Remainder) (message : Message) (after : Remainder) → TakesMessage held message after → held_size after < held_size held
takes_less (Rest bytes) (Whole frame) after (left, e, same) = omega (arith, ap held_size same, frame_less bytes frame left e)
takes_less (Rest bytes) BadFrame after (e, same) = omega (arith, ap held_size same)
takes_less Failed message after taken = absurd taken

pub tells_few : (held : Remainder) (told : List Message) (after : Remainder) → TellsMessages held told after → length told + held_size after ≤ held_size held
tells_few held [] after e = omega (arith, ap held_size e)
tells_few held (message ∷ more) after (between, one, rest) = omega (arith, takes_less held message between one, tells_few between more after rest)

takes_first : (held : Remainder) (message : Message) (after : Remainder) → TakesMessage held message after → first_message held ≡ Some (message, after)
takes_first (Rest bytes) (Whole frame) after (left, e, same) = ap first_by e ∙ ap (λ (x : Remainder). Some (Whole frame, x)) (sym same)
takes_first (Rest bytes) BadFrame after (e, same) = ap first_by e ∙ ap (λ (x : Remainder). Some (BadFrame, x)) (sym same)
takes_first Failed message after taken = absurd taken

spent_first : (held : Remainder) → IsSpent held → first_message held ≡ None
spent_first (Rest bytes) e = ap first_by e
spent_first Failed spent = refl

-- what is computed begins with what was told
pub told_within : (held : Remainder) (told : List Message) (after : Remainder) (count : ℕ) → TellsMessages held told after
    → messages_within (length told + count) held ≡ (told ++ (messages_within count after).0, (messages_within count after).1)
told_within held [] after count e = ap (λ (n : ℕ). messages_within n held) (omega arith) ∙ ap (messages_within count) (sym e)
told_within held (message ∷ more) after count (between, one, rest) =
    let size : length (message ∷ more) + count ≡ suc (length more + count) = omega arith in
    ap (λ (n : ℕ). messages_within n held) size
    ∙ ap (λ (first : Option (Message × Remainder)). after_first held first (messages_within (length more + count))) (takes_first held message between one)
    ∙ ap (λ (later : List Message × Remainder). (message ∷ later.0, later.1)) (told_within between more after count rest)

pub spent_within : (held : Remainder) (count : ℕ) → IsSpent held → messages_within count held ≡ ([], held)
spent_within held zero spent = refl
spent_within held (suc count) spent = ap (λ (first : Option (Message × Remainder)). after_first held first (messages_within count)) (spent_first held spent)

-- all that is held begins with what was told of it
pub told_of : (held : Remainder) (told : List Message) (after : Remainder) → TellsMessages held told after
    → (count : ℕ) × (messages held ≡ (told ++ (messages_within count after).0, (messages_within count after).1))
told_of held told after tells =
    let few = tells_few held told after tells in
    let size : length told + (held_size held - length told) ≡ held_size held = omega (arith, few) in
    (held_size held - length told, ap (λ (n : ℕ). messages_within n held) (sym size) ∙ told_within held told after (held_size held - length told) tells)

-- what is told to the end is all that is held
pub told_all : (held : Remainder) (told : List Message) (after : Remainder) → TellsMessages held told after → IsSpent after → messages held ≡ (told, after)
told_all held told after tells spent =
    let t = told_of held told after tells in
    t.1 ∙ ap (λ (later : List Message × Remainder). (told ++ later.0, later.1)) (spent_within after t.0 spent) ∙ ap (λ (all : List Message). (all, after)) (append-nil told)

-- what is left behind what was told
pub left_within : (held : Remainder) (told : List Message) (after : Remainder) → TellsMessages held told after → (messages_within (length told) held).1 ≡ after
left_within held told after tells =
    ap (λ (n : ℕ). (messages_within n held).1) (omega arith) ∙ ap (λ (all : List Message × Remainder). all.1) (told_within held told after 0 tells)

-- what is computed is told
within_tells : (count : ℕ) (held : Remainder) → TellsMessages held (messages_within count held).0 (messages_within count held).1
within_tells zero held = refl
within_tells (suc count) Failed = refl
within_tells (suc count) (Rest bytes) = by_read (read_frame bytes) refl (λ left. within_tells count left)
  where
    by_read : (r : Reading Frame) → read_frame bytes ≡ r → ((left : Remainder) → TellsMessages left (messages_within count left).0 (messages_within count left).1)
        → TellsMessages (Rest bytes) (after_first (Rest bytes) (first_by r) (messages_within count)).0 (after_first (Rest bytes) (first_by r) (messages_within count)).1
    by_read (Ok read) e next = (Rest read.1, (read.1, e, refl), next (Rest read.1))
    by_read (Err OutOfRange) e next = (Failed, (e, refl), next Failed)
    by_read (Err Short) e next = refl
    by_read (Err Trailing) e next = refl

-- the messages of a stream are the first of those that it has with more
pub messages_more : (held : Remainder) (more : List ℕ) → (later : List Message) × ((messages (with_more held more)).0 ≡ (messages held).0 ++ later)
messages_more held more =
    let told : List Message = (messages held).0 in
    let left : Remainder = (messages held).1 in
    let t = told_of (with_more held more) told (with_more left more) (tells-more held told left more (within_tells (held_size held) held)) in
    ((messages_within t.0 (with_more left more)).0, ap (λ (all : List Message × Remainder). all.0) t.1)
