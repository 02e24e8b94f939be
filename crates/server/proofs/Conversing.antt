-- A session that is served, piece by piece.
use Rattle.std.proofs.Common.{◌≡◌, ◌≤◌, ℕ, List, [], ◌∷◌, ◌++◌, length, Option, Some, Result, Ok, Err, refl, sym, ap, subst, ◌∙◌, append-nil, arith}
use Rattle.std.specs.Ordering.{nat_cmp}
use Rattle.std.specs.BTreeMap.{is_at}
use Rattle.std.specs.Map.{set_value}
use Rattle.std.specs.Io.KnownBytes.{Appends, Consumes, IsAtEnd, Keeps}
use Rattle.std.proofs.KnownBytes.{Appends-nil, Appends-trans, Consumes-kept, Consumes-nil, Consumes-trans}
use Rattle.std.proofs.lemmas.Map.Steps.{set_value_same}
use Rattle.wire.specs.Frames.{Frame, read_frame}
use Rattle.wire.specs.Streams.{Remainder, Message, Rest, messages_within, with_more, IsSpent}
use Rattle.hub.specs.Events.{BySession, HubState, at_session}
use Rattle.hub.specs.Exchanges.{Exchange, Exchanges, exchange_messages, replies}
use Rattle.hub.proofs.Joining.{exchanges_joined, replies_append}
use Rattle.hub.proofs.Others.{set_found}
use Rattle.hub.proofs.Steps.{exchanges_tell}
use Rattle.hub.proofs.Streaming.{told_all, told_of}
use Rattle.server.specs.declared.serve_fault.ServeFault.{ServeFault}
use Rattle.server.specs.declared.serve_fault.ServeFault.TheVariants.{CannotRead, CannotWrite, OutOfMemory, OutOfMemoryAndCannotWrite}
use Rattle.textio.specs.declared.some_bytes.TheConstants.{PIECE_SIZE}
use Rattle.server.specs.Pieces.{AnswersPiece}
use Rattle.server.specs.Serving.{AllReplied, AnswersEach, AnswersFirst, AnswersPart, Serves}
use Rattle.server.proofs.Opened.{set_twice}

spent-none : IsSpent (Rest [])
unfolding read_frame
spent-none = refl

module _ {S : Type 0} (answers : S → Frame → List ℕ → S → Type 0) where
  -- ---- messages

  pub all_replied : (session : ℕ) (s : S) (h : Remainder) (xs : List Exchange) (t : S) (left : Remainder) → Exchanges answers s h xs t left → AllReplied answers session s xs t
  all_replied session s h [] t left (same, held) = same
  all_replied session s h (x ∷ xs) t left (middle, between, takes, replied, rest) = (middle, replied, all_replied session middle between xs t left rest)

  whole : (session : ℕ) (s : S) (bytes : List ℕ) (xs : List Exchange) (t : S) (left : Remainder) → Exchanges answers s (Rest bytes) xs t left → IsSpent left → AnswersEach (AllReplied answers session) s bytes xs t
  whole session s bytes xs t left exchanged spent = (
    ap (λ (m : List Message × Remainder). m.0) (told_all (Rest bytes) (exchange_messages xs) left (exchanges_tell answers s (Rest bytes) xs t left exchanged) spent),
    all_replied session s (Rest bytes) xs t left exchanged,
  )

  first : (session : ℕ) (s : S) (bytes : List ℕ) (xs : List Exchange) (t : S) (left : Remainder) → Exchanges answers s (Rest bytes) xs t left → AnswersFirst (AllReplied answers session) s bytes xs t
  first session s bytes xs t left exchanged =
      let told = told_of (Rest bytes) (exchange_messages xs) left (exchanges_tell answers s (Rest bytes) xs t left exchanged) in (
        (messages_within told.0 left).0,
        ap (λ (m : List Message × Remainder). m.0) told.1,
        all_replied session s (Rest bytes) xs t left exchanged,
      )

  pub nothing_served : (session : ℕ) (before after : HubState S) (input written : Option (List ℕ)) → after ≡ before
      → Serves (AllReplied answers session) before.service input written (Err OutOfMemory) after.service input written
  nothing_served session before after input written same = (
    [],
    [],
    [],
    [],
    Consumes-nil input,
    (
      omega arith,
      (whole session before.service [] [] before.service (Rest []) (refl, refl) spent-none).0,
      first session before.service [] [] after.service (Rest []) (ap (λ (h : HubState S). h.service) same, refl),
    ),
    Appends-nil written,
  )

  -- ---- midway

  -- what was read so far is answered, and the replies are written
  abbrev pub Midway : BySession Remainder → ℕ → S → Option (List ℕ) → Option (List ℕ) → HubState S → Option (List ℕ) → Option (List ℕ) → Type 0
  Midway opened session service input written now left text = (bytes : List ℕ) × (exchanges : List Exchange) × (held : Remainder)
      × Exchanges answers service (Rest bytes) exchanges now.service held × IsSpent held
      × (at_session now.sessions session ≡ Some held) × (now.sessions ≡ set_value (is_at (nat_cmp session)) opened held)
      × Consumes input left bytes × Appends written text (replies exchanges)

  pub begun : (session : ℕ) (now : HubState S) (input written : Option (List ℕ)) → at_session now.sessions session ≡ Some (Rest [])
      → Midway now.sessions session now.service input written now input written
  begun session now input written here =
      ([], [], Rest [], (refl, refl), spent-none, here, sym (set_value_same (is_at (nat_cmp session)) now.sessions (Rest []) here), Consumes-nil input, Appends-nil written)

  module _ (opened : BySession Remainder) (session : ℕ) (service : S) (input written : Option (List ℕ)) (before : HubState S) (left text : Option (List ℕ)) where
    -- where the session is and what it is afterwards
    abbrev IsLeft : HubState S → Type 0
    IsLeft now = (kept : Remainder) × (now.sessions ≡ set_value (is_at (nat_cmp session)) opened kept)

    pub is_left : Midway opened session service input written before left text → IsLeft before
    is_left (bytes, xs, held, exchanged, spent, here, set, eaten, wrote) = (held, set)

    pub ended : Midway opened session service input written before left text → (rest : Option (List ℕ)) → Consumes left rest [] → IsAtEnd rest
        → Serves (AllReplied answers session) service input written (Ok tt) before.service rest text
    ended (bytes, xs, held, exchanged, spent, here, set, eaten, wrote) rest none over =
        (bytes ++ [], xs, Consumes-trans input left rest bytes [] eaten none, over, subst (λ (b : List ℕ). AnswersEach (AllReplied answers session) service b xs before.service) (sym (append-nil bytes)) (whole session service bytes xs before.service held exchanged spent), wrote)

    pub unread : Midway opened session service input written before left text → (rest : Option (List ℕ)) → Keeps left rest
        → Serves (AllReplied answers session) service input written (Err CannotRead) before.service rest text
    unread (bytes, xs, held, exchanged, spent, here, set, eaten, wrote) rest kept =
        (bytes, xs, Consumes-kept input left rest bytes eaten kept, whole session service bytes xs before.service held exchanged spent, wrote)

    -- ---- a piece more

    module _ (piece : List ℕ) (rest : Option (List ℕ)) (took : Consumes left rest piece) (after : HubState S) (told : Option (List ℕ)) where
      -- the messages of all bytes
      joined : (midway : Midway opened session service input written before left text) (held : Remainder) (ys : List Exchange) (last : Remainder) → at_session before.sessions session ≡ Some held
          → Exchanges answers before.service (with_more held piece) ys after.service last
          → Exchanges answers service (Rest (midway.0 ++ piece)) (midway.1 ++ ys) after.service last
      joined (bytes, xs, now, exchanged, spent, here, set, eaten, wrote) held ys last there more =
          let same : now ≡ held = (let e : Some now ≡ Some held = sym here ∙ there in cc) in
          exchanges_joined answers service (Rest []) bytes piece xs ys before.service after.service now last exchanged
          (subst (λ (h : Remainder). Exchanges answers before.service (with_more h piece) ys after.service last) (sym same) more)

      kept_by : (midway : Midway opened session service input written before left text) (last : Remainder) → after.sessions ≡ set_value (is_at (nat_cmp session)) before.sessions last
          → after.sessions ≡ set_value (is_at (nat_cmp session)) opened last
      kept_by (bytes, xs, now, exchanged, spent, here, set, eaten, wrote) last put =
          put ∙ ap (λ (m : BySession Remainder). set_value (is_at (nat_cmp session)) m last) set ∙ set_twice (is_at (nat_cmp session)) opened now last

      pub gone_on : Midway opened session service input written before left text → AnswersPiece answers before session piece text (Ok tt) after told
          → Midway opened session service input written after rest told
      gone_on midway (held, ys, last, (there, put, more), spent, wrote) = (
        midway.0 ++ piece,
        midway.1 ++ ys,
        last,
        joined midway held ys last there more,
        spent,
        ap (λ (m : BySession Remainder). at_session m session) put ∙ set_found (is_at (nat_cmp session)) before.sessions last held there,
        kept_by midway last put,
        Consumes-trans input left rest midway.0 piece midway.7 took,
        subst (Appends written told) (sym (replies_append midway.1 ys)) (Appends-trans written text told (replies midway.1) (replies ys) midway.8 wrote),
      )

      -- the first messages of the piece are answered
      first_joined : (midway : Midway opened session service input written before left text) → length piece ≤ PIECE_SIZE → (held : Remainder) (ys : List Exchange) (last : Remainder)
          → at_session before.sessions session ≡ Some held → Exchanges answers before.service (with_more held piece) ys after.service last
          → AnswersPart (AllReplied answers session) service midway.0 piece midway.1 ys after.service
      first_joined midway few held ys last there more = (
        few,
        (whole session service midway.0 midway.1 before.service midway.2 midway.3 midway.4).0,
        first session service (midway.0 ++ piece) (midway.1 ++ ys) after.service last (joined midway held ys last there more),
      )

      -- less is written, or fewer messages are answered
      pub faulted : Midway opened session service input written before left text → length piece ≤ PIECE_SIZE → (fault : ServeFault) → AnswersPiece answers before session piece text (Err fault) after told
          → Serves (AllReplied answers session) service input written (Err fault) after.service rest told × IsLeft after
      faulted midway few CannotRead wrong = absurd wrong
      faulted midway few CannotWrite (held, ys, last, (there, put, more), spent, wrote) = (
        (
          midway.0,
          piece,
          midway.1,
          ys,
          text,
          Consumes-trans input left rest midway.0 piece midway.7 took,
          few,
          whole session service (midway.0 ++ piece) (midway.1 ++ ys) after.service last (joined midway held ys last there more) spent,
          (whole session service midway.0 midway.1 before.service midway.2 midway.3 midway.4).0,
          midway.8,
          wrote,
        ),
        (last, kept_by midway last put),
      )
      faulted midway few OutOfMemory (held, ys, last, kept, (there, put, more), wrote) = (
        (
          midway.0,
          piece,
          midway.1,
          ys,
          Consumes-trans input left rest midway.0 piece midway.7 took,
          first_joined midway few held ys last there more,
          subst (Appends written told) (sym (replies_append midway.1 ys)) (Appends-trans written text told (replies midway.1) (replies ys) midway.8 wrote),
        ),
        (kept, kept_by midway kept put),
      )
      faulted midway few OutOfMemoryAndCannotWrite (held, ys, last, kept, (there, put, more), wrote) = (
        (
          midway.0,
          piece,
          midway.1,
          ys,
          text,
          Consumes-trans input left rest midway.0 piece midway.7 took,
          first_joined midway few held ys last there more,
          midway.8,
          wrote,
        ),
        (kept, kept_by midway kept put),
      )

-- ---- what more is said of the messages

pub serves_also : {S : Type 0} (Replied Also : S → List Exchange → S → Type 0) (before after : S) → ((xs : List Exchange) → Replied before xs after → Also before xs after)
    → (input written : Option (List ℕ)) (result : Result (Unit {0}) ServeFault) (left told : Option (List ℕ))
    → Serves Replied before input written result after left told → Serves Also before input written result after left told
serves_also Replied Also before after also input written (Ok done) left told (bytes, xs, took, over, (spelled, replied), wrote) = (bytes, xs, took, over, (spelled, also xs replied), wrote)
serves_also Replied Also before after also input written (Err CannotRead) left told (bytes, xs, took, (spelled, replied), wrote) = (bytes, xs, took, (spelled, also xs replied), wrote)
serves_also Replied Also before after also input written (Err CannotWrite) left told (front, last, xs, ys, between, took, few, (spelled, replied), first, whole, wrote) =
    (front, last, xs, ys, between, took, few, (spelled, also (xs ++ ys) replied), first, whole, wrote)
serves_also Replied Also before after also input written (Err OutOfMemory) left told (front, last, xs, ys, took, (few, first, (later, spelled, replied)), wrote) =
    (front, last, xs, ys, took, (few, first, (later, spelled, also (xs ++ ys) replied)), wrote)
serves_also Replied Also before after also input written (Err OutOfMemoryAndCannotWrite) left told (front, last, xs, ys, between, took, (few, first, (later, spelled, replied)), whole, wrote) =
    (front, last, xs, ys, between, took, (few, first, (later, spelled, also (xs ++ ys) replied)), whole, wrote)
