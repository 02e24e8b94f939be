-- The messages settle the lines, where the calls fail alike.
use Rattle.std.proofs.Common.{◌≡◌, ℕ, List, [], ◌∷◌, drop, get_or, map, Result, Ok, Err, refl, sym, ap, ap₂, subst, subst₂, ◌∙◌, inl, inr, arith}
use Rattle.std.specs.List.{AllZip}
use Rattle.book.specs.declared.reply.Reply.{Reply}
use Rattle.book.specs.declared.reply.Reply.TheVariants as reply
use Rattle.book.specs.declared.directory_refusal.Refusal.{Refusal}
use Rattle.book.specs.declared.directory_refusal.Refusal.TheVariants.{BadName, BadKey, BadPolicy, NameTaken, NoSuchName, FinalBinding, PendingExists, IndexTaken, NoSuchEpoch, EpochNotLater, NoPromise, Memory, BadRange, KeepFailed}
use Rattle.commands.specs.Operations.{Operation}
use Rattle.book.specs.Refusals.{book_refusal_number}
use Rattle.book.specs.Replies as seen
use Rattle.book.specs.Replies.{ReplyContent, FailAlike, reply_content}
use Rattle.wire.specs.declared.message_refusals.ReadRefusal.{ReadRefusal}
use Rattle.wire.specs.declared.message_refusals.ReadRefusal.TheVariants.{BadKind, BadBody}
use Rattle.wire.specs.Frames.{Frame, frame_bytes}
use Rattle.wire.specs.Refusals.{read_refusal_number}
use Rattle.wire.specs.Requests as request
use Rattle.wire.specs.Requests.{ReadsContent}
use Rattle.wire.specs.Responses as response
use Rattle.wire.specs.Responses.{proof_frame, response_frame}
use Rattle.wire.specs.Streams.{Message, Whole, BadFrame}
use Rattle.wire.proofs.Requests.{one_request}
use Rattle.hub.specs.Desks.{command, or_not_operator, reply_frame}
use Rattle.hub.specs.DeskRuns.{IsTurnedAway, Reaches, RefuseAlike, ShowReplies}
use Rattle.hub.specs.Exchanges.{refused_frame}
use Rattle.hub.specs.Runs.{Line, asked_by}
use Rattle.hub.proofs.Cutting.{same_cons}

-- ---- a message means one thing

read_once : (frame : Frame) (read other : Result request.RequestContent ReadRefusal) → ReadsContent frame.kind frame.body read → ReadsContent frame.kind frame.body other → read ≡ other
read_once frame (Ok requested) (Ok other) is also = ap (λ (a : request.RequestContent). Ok a) (one_request frame.kind frame.body requested other is also)
read_once frame (Ok requested) (Err BadKind) is also = absurd (also (requested, is.0))
read_once frame (Ok requested) (Err BadBody) is also = absurd (also.1 requested is)
read_once frame (Err BadKind) (Ok other) is also = absurd (is (other, also.0))
read_once frame (Err BadKind) (Err BadKind) is also = refl
read_once frame (Err BadKind) (Err BadBody) is also = absurd (is also.0)
read_once frame (Err BadBody) (Ok other) is also = absurd (is.1 other also)
read_once frame (Err BadBody) (Err BadKind) is also = absurd (also is.0)
read_once frame (Err BadBody) (Err BadBody) is also = refl

-- what is asked of the directory, or the number of the refusal
abbrev Meant : Type 0
Meant = Result Operation ℕ

abbrev asks : Operation → Meant
asks asked = Ok asked

abbrev refuses : ℕ → Meant
refuses code = Err code

abbrev meant : List ℕ → Result request.RequestContent ReadRefusal → Meant
meant token (Ok requested) = or_not_operator (command token requested)
meant token (Err refusal) = Err (read_refusal_number refusal)

abbrev IsMeant : List ℕ → Message → Meant → Type 0
IsMeant token message (Ok asked) = Reaches token message asked
IsMeant token message (Err code) = IsTurnedAway token message code

whole_meant : (token : List ℕ) (frame : Frame) (one : Meant) → IsMeant token (Whole frame) one → (read : Result request.RequestContent ReadRefusal) × ReadsContent frame.kind frame.body read × (one ≡ meant token read)
whole_meant token frame (Ok asked) (requested, read, is) = (Ok requested, read, sym (ap or_not_operator is))
whole_meant token frame (Err code) (inl (refusal, read, is)) = (Err refusal, read, ap (λ (n : ℕ). Err n) is)
whole_meant token frame (Err code) (inr (requested, read, none, is)) = (Ok requested, read, ap (λ (n : ℕ). Err n) is ∙ sym (ap or_not_operator none))

meant_once : (token : List ℕ) (message : Message) (one other : Meant) → IsMeant token message one → IsMeant token message other → one ≡ other
meant_once token BadFrame (Ok asked) other is also = absurd is
meant_once token BadFrame (Err code) (Ok asked) is also = absurd also
meant_once token BadFrame (Err code) (Err number) is also = ap (λ (n : ℕ). Err n) (is ∙ sym also)
meant_once token (Whole frame) one other is also =
    let a = whole_meant token frame one is in
    let b = whole_meant token frame other also in
    a.2 ∙ ap (meant token) (read_once frame a.0 b.0 a.1 b.1) ∙ sym b.2

-- ---- frames by what is seen of a reply

abbrev seen_frame : ReplyContent → Frame
seen_frame (seen.Promised signed) = response_frame (response.Promise signed)
seen_frame (seen.Found text) = proof_frame text
seen_frame (seen.Told told) = response_frame (response.Roots told)
seen_frame (seen.Last root) = response_frame (response.Root root)
seen_frame (seen.Refused why) = response_frame (response.Refused (book_refusal_number why))

frame_is : (told : Reply) → reply_frame told ≡ seen_frame (reply_content told)
frame_is (reply.Promised signed) = refl
frame_is (reply.Found text) = refl
frame_is (reply.Told told) = refl
frame_is (reply.Last root) = refl
frame_is (reply.Refused why) = refl

same_frame : (told other : Reply) → reply_content told ≡ reply_content other → frame_bytes (reply_frame told) ≡ frame_bytes (reply_frame other)
same_frame told other same = ap frame_bytes (frame_is told ∙ ap seen_frame same ∙ sym (frame_is other))

-- the frame of a refusal, because a record was not kept, is that of no other reply
after_head : (frame : Frame) → drop 4 (frame_bytes frame) ≡ frame.kind ∷ frame.body
after_head frame = refl

abbrev byte_at : ℕ → List ℕ → ℕ
byte_at place bytes = get_or bytes place 0

not_kept : (why : Refusal) → book_refusal_number why ≡ 19 → why ≡ KeepFailed
not_kept BadName is = let e : 4 ≡ 19 = is in absurd (omega (arith, e))
not_kept BadKey is = let e : 5 ≡ 19 = is in absurd (omega (arith, e))
not_kept BadPolicy is = let e : 26 ≡ 19 = is in absurd (omega (arith, e))
not_kept NameTaken is = let e : 6 ≡ 19 = is in absurd (omega (arith, e))
not_kept NoSuchName is = let e : 7 ≡ 19 = is in absurd (omega (arith, e))
not_kept FinalBinding is = let e : 25 ≡ 19 = is in absurd (omega (arith, e))
not_kept PendingExists is = let e : 8 ≡ 19 = is in absurd (omega (arith, e))
not_kept IndexTaken is = let e : 9 ≡ 19 = is in absurd (omega (arith, e))
not_kept NoSuchEpoch is = let e : 10 ≡ 19 = is in absurd (omega (arith, e))
not_kept EpochNotLater is = let e : 11 ≡ 19 = is in absurd (omega (arith, e))
not_kept NoPromise is = let e : 13 ≡ 19 = is in absurd (omega (arith, e))
not_kept Memory is = let e : 14 ≡ 19 = is in absurd (omega (arith, e))
not_kept BadRange is = let e : 15 ≡ 19 = is in absurd (omega (arith, e))
not_kept KeepFailed is = refl

not_kept_frame : (told : Reply) → frame_bytes (reply_frame told) ≡ refused_frame 19 → reply_content told ≡ seen.Refused KeepFailed
not_kept_frame told same = by told (sym (after_head (reply_frame told)) ∙ ap (drop 4) same ∙ after_head (response_frame (response.Refused 19)))
  where
    by : (said : Reply) → (reply_frame said).kind ∷ (reply_frame said).body ≡ 255 ∷ 19 ∷ [] → reply_content said ≡ seen.Refused KeepFailed
    by (reply.Promised signed) e = let f : 129 ≡ 255 = ap (byte_at 0) e in absurd (omega (arith, f))
    by (reply.Found text) e = let f : 130 ≡ 255 = ap (byte_at 0) e in absurd (omega (arith, f))
    by (reply.Told told) e = let f : 131 ≡ 255 = ap (byte_at 0) e in absurd (omega (arith, f))
    by (reply.Last root) e = let f : 132 ≡ 255 = ap (byte_at 0) e in absurd (omega (arith, f))
    by (reply.Refused why) e = let f : book_refusal_number why ≡ 19 = ap (byte_at 1) e in ap (λ (w : Refusal). seen.Refused w) (not_kept why f)

failed_frame : (told : Reply) (s : ReplyContent) → reply_content told ≡ s → frame_bytes (reply_frame told) ≡ frame_bytes (seen_frame s)
failed_frame told s same = ap frame_bytes (frame_is told ∙ ap seen_frame same)

-- ---- lines

module _ (token : List ℕ) where
  heads : (line other : Line) (more rest : List Line) → map asked_by (line ∷ more) ≡ map asked_by (other ∷ rest)
      → (line.session ≡ other.session) × (line.message ≡ other.message) × (map asked_by more ≡ map asked_by rest)
  heads line other more rest same =
      let e = same_cons (asked_by line) (asked_by other) (map asked_by more) (map asked_by rest) same in (ap (λ (p : ℕ × Message). p.0) e.0, ap (λ (p : ℕ × Message). p.1) e.0, e.1)

  seen_heads : (a b : Reply) (xs ys : List Reply) → map reply_content (a ∷ xs) ≡ map reply_content (b ∷ ys) → (reply_content a ≡ reply_content b) × (map reply_content xs ≡ map reply_content ys)
  seen_heads a b xs ys same = same_cons (reply_content a) (reply_content b) (map reply_content xs) (map reply_content ys) same

  ok_once : (asked other : Operation) → asks asked ≡ asks other → asked ≡ other
  ok_once asked other same = cc

  err_once : (code other : ℕ) → refuses code ≡ refuses other → code ≡ other
  err_once code other same = cc

  never : (code : ℕ) (asked : Operation) → refuses code ≡ asks asked → ⊥
  never code asked same = absurd cc

  -- these lines ask the same, or are the same, where they show commands and replies
  abbrev AsksTheSame : List Line → List Line → Type 0
  AsksTheSame lines told = (commands others : List Operation) (replies answers : List Reply) → ShowReplies token lines commands replies → ShowReplies token told others answers → commands ≡ others

  abbrev TellsTheSame : List Line → List Line → Type 0
  TellsTheSame lines told = (commands others : List Operation) (replies answers : List Reply) → ShowReplies token lines commands replies → ShowReplies token told others answers
      → map reply_content replies ≡ map reply_content answers → lines ≡ told

  pub same_commands : (lines told : List Line) (commands others : List Operation) (replies answers : List Reply) → map asked_by lines ≡ map asked_by told
      → ShowReplies token lines commands replies → ShowReplies token told others answers → commands ≡ others
  same_commands [] [] commands others replies answers same shows show = shows.0 ∙ sym show.0
  same_commands [] (other ∷ rest) commands others replies answers same shows show = absurd cc
  same_commands (line ∷ more) [] commands others replies answers same shows show = absurd cc
  same_commands (line ∷ more) (other ∷ rest) commands others replies answers same shows show =
      by (λ wanted ones said told_so is also. same_commands more rest wanted ones said told_so h.2 is also) shows show
    where
      h : (line.session ≡ other.session) × (line.message ≡ other.message) × (map asked_by more ≡ map asked_by rest)
      h = heads line other more rest same

      once : (one two : Meant) → IsMeant token line.message one → IsMeant token other.message two → one ≡ two
      once one two is also = meant_once token line.message one two is (subst (λ (m : Message). IsMeant token m two) (sym h.1) also)

      by : AsksTheSame more rest → ShowReplies token (line ∷ more) commands replies → ShowReplies token (other ∷ rest) others answers → commands ≡ others
      by next (inl (code, away, says, shows)) (inl (number, off, tells, show)) = next commands others replies answers shows show
      by next (inl (code, away, says, shows)) (inr (asked, told, later, ones, reaches, tells, is, are, show)) = absurd (never code asked (once (refuses code) (asks asked) away reaches))
      by next (inr (asked, told, later, ones, reaches, tells, is, are, show)) (inl (code, away, says, shows)) = absurd (never code asked (sym (once (asks asked) (refuses code) reaches away)))
      by next (inr (asked, told, later, ones, reaches, tells, is, are, show)) (inr (wants, said, after, twos, gets, says, also, too, shows)) =
          is ∙ ap₂ (λ (a : Operation) (l : List Operation). a ∷ l) (ok_once asked wants (once (asks asked) (asks wants) reaches gets)) (next later after ones twos show shows) ∙ sym also

  abbrev FailAlikeToo : List Line → List Line → Type 0
  FailAlikeToo lines told = (commands others : List Operation) (replies answers : List Reply) → ShowReplies token lines commands replies → ShowReplies token told others answers → AllZip FailAlike replies answers

  pub fail_alike : (lines told : List Line) (commands others : List Operation) (replies answers : List Reply) → map asked_by lines ≡ map asked_by told → AllZip RefuseAlike lines told
      → ShowReplies token lines commands replies → ShowReplies token told others answers → AllZip FailAlike replies answers
  fail_alike [] [] commands others replies answers same alike shows show = subst₂ (λ (r : List Reply) (a : List Reply). AllZip FailAlike r a) (sym shows.1) (sym show.1) tt
  fail_alike [] (other ∷ rest) commands others replies answers same alike shows show = absurd alike
  fail_alike (line ∷ more) [] commands others replies answers same alike shows show = absurd alike
  fail_alike (line ∷ more) (other ∷ rest) commands others replies answers same alike shows show =
      by (λ wanted ones said told_so is also. fail_alike more rest wanted ones said told_so h.2 alike.1 is also) shows show
    where
      h : (line.session ≡ other.session) × (line.message ≡ other.message) × (map asked_by more ≡ map asked_by rest)
      h = heads line other more rest same

      once : (one two : Meant) → IsMeant token line.message one → IsMeant token other.message two → one ≡ two
      once one two is also = meant_once token line.message one two is (subst (λ (m : Message). IsMeant token m two) (sym h.1) also)

      pair : (told said : Reply) → line.reply ≡ frame_bytes (reply_frame told) → other.reply ≡ frame_bytes (reply_frame said) → FailAlike told said
      pair told said tells says = (
        λ memory. alike.0.0 (tells ∙ failed_frame told (seen.Refused Memory) memory),
        λ memory. alike.0.1 (says ∙ failed_frame said (seen.Refused Memory) memory),
        (
          λ keep. not_kept_frame said (sym says ∙ alike.0.2.0 (tells ∙ failed_frame told (seen.Refused KeepFailed) keep)),
          λ keep. not_kept_frame told (sym tells ∙ alike.0.2.1 (says ∙ failed_frame said (seen.Refused KeepFailed) keep)),
        ),
      )

      by : FailAlikeToo more rest → ShowReplies token (line ∷ more) commands replies → ShowReplies token (other ∷ rest) others answers → AllZip FailAlike replies answers
      by next (inl (code, away, says, shows)) (inl (number, off, tells, show)) = next commands others replies answers shows show
      by next (inl (code, away, says, shows)) (inr (asked, told, later, ones, reaches, tells, is, are, show)) = absurd (never code asked (once (refuses code) (asks asked) away reaches))
      by next (inr (asked, told, later, ones, reaches, tells, is, are, show)) (inl (code, away, says, shows)) = absurd (never code asked (sym (once (asks asked) (refuses code) reaches away)))
      by next (inr (asked, told, later, ones, reaches, tells, is, are, show)) (inr (wants, said, after, twos, gets, says, also, too, shows)) =
          subst₂ (λ (r : List Reply) (a : List Reply). AllZip FailAlike r a) (sym are) (sym too) (pair told said tells says, next later after ones twos show shows)

  pub same_lines : (lines told : List Line) (commands others : List Operation) (replies answers : List Reply) → map asked_by lines ≡ map asked_by told
      → ShowReplies token lines commands replies → ShowReplies token told others answers → map reply_content replies ≡ map reply_content answers → lines ≡ told
  same_lines [] [] commands others replies answers same shows show seen_same = refl
  same_lines [] (other ∷ rest) commands others replies answers same shows show seen_same = absurd cc
  same_lines (line ∷ more) [] commands others replies answers same shows show seen_same = absurd cc
  same_lines (line ∷ more) (other ∷ rest) commands others replies answers same shows show seen_same =
      by (λ wanted ones said told_so is also equal. same_lines more rest wanted ones said told_so h.2 is also equal) shows show
    where
      h : (line.session ≡ other.session) × (line.message ≡ other.message) × (map asked_by more ≡ map asked_by rest)
      h = heads line other more rest same

      once : (one two : Meant) → IsMeant token line.message one → IsMeant token other.message two → one ≡ two
      once one two is also = meant_once token line.message one two is (subst (λ (m : Message). IsMeant token m two) (sym h.1) also)

      with_reply : line.reply ≡ other.reply → more ≡ rest → (line ∷ more) ≡ (other ∷ rest)
      with_reply replied later = λ i. record { session = h.0 i; message = h.1 i; reply = replied i } ∷ later i

      by : TellsTheSame more rest → ShowReplies token (line ∷ more) commands replies → ShowReplies token (other ∷ rest) others answers → (line ∷ more) ≡ (other ∷ rest)
      by next (inl (code, away, says, shows)) (inl (number, off, tells, show)) =
          with_reply (says ∙ ap refused_frame (err_once code number (once (refuses code) (refuses number) away off)) ∙ sym tells) (next commands others replies answers shows show seen_same)
      by next (inl (code, away, says, shows)) (inr (asked, told, later, ones, reaches, tells, is, are, show)) = absurd (never code asked (once (refuses code) (asks asked) away reaches))
      by next (inr (asked, told, later, ones, reaches, tells, is, are, show)) (inl (code, away, says, shows)) = absurd (never code asked (sym (once (asks asked) (refuses code) reaches away)))
      by next (inr (asked, told, later, ones, reaches, tells, is, are, show)) (inr (wants, said, after, twos, gets, says, also, too, shows)) =
          let s = seen_heads told said ones twos (sym (ap (map reply_content) are) ∙ seen_same ∙ ap (map reply_content) too) in
          with_reply (tells ∙ same_frame told said s.0 ∙ sym says) (next later after ones twos show shows s.1)
