-- Runs that stop where memory runs out.
use Rattle.std.proofs.Common.{◌≡◌, ℕ, suc, ◌<◌, List, [], ◌∷◌, ◌++◌, get_or, length, map, take, drop, drop-cons, false, Result, Ok, Err, refl, sym, ap, subst, ◌∙◌, append_assoc, inl, inr, ◌⊎◌}
use Rattle.std.specs.Prelude.{OnErr}
use Rattle.std.proofs.lemmas.List.{append-nil, map-append, take-append-drop}
use Rattle.wire.specs.Frames.{Frame}
use Rattle.wire.specs.Streams.{Message}
use Rattle.hub.specs.Events.{Bytes, Happening, HubState, number}
use Rattle.hub.specs.Exchanges.{Exchange, exchange_messages}
use Rattle.hub.specs.Happenings.{Answered, DoesUnlessRefused, IsPart}
use Rattle.hub.specs.Runs.{Line, Streams, after_event, after_events, asked_by, brought, commands, each, unanswered, BeginsRun, Runs, Stops}
use Rattle.hub.proofs.Running.{answered_append, asked_lines, commands_append, of_session, run_more, RunsSo}
use Rattle.hub.proofs.Steps.{bytes_begins, lines}

pub any_err : {T E : Type 0} (r : Result T E) (P : Type 0) → P → OnErr r P
any_err (Ok done) P p = tt
any_err (Err e) P p = p

pub if_err : {T E : Type 0} (r : Result T E) (P Q : Type 0) → OnErr r P → (P → Q) → OnErr r Q
if_err (Ok done) P Q p next = tt
if_err (Err e) P Q p next = next p

-- the events in front of one of them, and those behind it
around : {X : Type 0} (f : X → Happening) (events : List X) (k : ℕ) (d : X) → k < length events → map f events ≡ map f (take k events) ++ f (get_or events k d) ∷ map f (drop (suc k) events)
around f events k d low =
    ap (map f) (sym (take-append-drop k events) ∙ ap (λ t. take k events ++ t) (drop-cons events k d low)) ∙ map-append f (take k events) (get_or events k d ∷ drop (suc k) events)

module _ {S : Type 0} (answers : S → Frame → List ℕ → S → Type 0) where
  part_after : (after : HubState S) (events : List Happening) → IsPart answers after events after
  part_after after [] = refl
  part_after after (it ∷ more) = inl refl

  -- what comes of an event: it is done or refused, or a first part of it is done
  abbrev Comes : HubState S → Happening → HubState S → Type 0
  Comes between it after = ((xs : List Exchange) × DoesUnlessRefused answers between it xs after) ⊎ IsPart answers between (it ∷ []) after

  stopped_at : (before between after : HubState S) (done rest events : List Happening) (it : Happening) (ls : List Line) → events ≡ done ++ it ∷ rest → RunsSo answers before done ls between
      → Comes between it after → Stops answers before events after
  stopped_at before between after done rest events it ls split run (inl (xs, passes)) =
      let more = run_more answers before done ls between it xs after run passes in
      (done ++ it ∷ [], rest, ls ++ lines (number it) xs, after, split ∙ sym (append_assoc done (it ∷ []) rest), more.0, part_after after rest)
  stopped_at before between after done rest events it ls split run (inr part) = (done, it ∷ rest, ls, between, split, run.0, part)

  pub stopped : {X : Type 0} (f : X → Happening) (before between after : HubState S) (events : List X) (k : ℕ) (d : X) → k < length events
      → ((ls : List Line) × RunsSo answers before (map f (take k events)) ls between) → Comes between (f (get_or events k d)) after → Stops answers before (map f events) after
  stopped f before between after events k d low (ls, run) =
      stopped_at before between after (map f (take k events)) (map f (drop (suc k) events)) (map f events) (f (get_or events k d)) ls (around f events k d low) run

  -- the messages of a run are the first of a longer one
  pub runs_begin : (before between : HubState S) (done rest events : List Happening) (ls : List Line) → events ≡ done ++ rest → Runs answers before done ls between → BeginsRun answers before events between.service
  runs_begin before between done rest events ls split run =
      let start : Streams = each unanswered before.sessions in (
        ls,
        (
          commands (after_events start done) rest,
          ap (commands start) split ∙ commands_append start done rest ∙ ap (λ (t : List (ℕ × Message)). t ++ commands (after_events start done) rest) (sym run.messages),
          run.answered,
        ),
      )

  -- and so are those of a run and a first part of a piece
  piece_begins : (before between after : HubState S) (done rest events : List Happening) (ls : List Line) (session : ℕ) (piece : List ℕ) (xs : List Exchange) → events ≡ done ++ Bytes session piece ∷ rest
      → RunsSo answers before done ls between → Answered answers between session piece false xs after → BeginsRun answers before events after.service
  piece_begins before between after done rest events ls session piece xs split (run, all) answered =
      let start : Streams = each unanswered before.sessions in
      let streams : Streams = after_events start done in
      let it : Happening = Bytes session piece in
      let t = bytes_begins answers between after streams session piece false xs (run.left, all) answered in
      let later : List (ℕ × Message) = of_session it t.0 ++ commands (after_event streams it) rest in
      let bring : brought streams it ≡ exchange_messages xs ++ t.0 = rw t.3 t.1 in
      let first : commands streams (it ∷ rest) ≡ map asked_by (lines session xs) ++ later =
      ap (λ (m : List Message). of_session it m ++ commands (after_event streams it) rest) bring
      ∙ ap (λ (m : List (ℕ × Message)). m ++ commands (after_event streams it) rest) (map-append (λ message. (session, message)) (exchange_messages xs) t.0)
      ∙ append_assoc (of_session it (exchange_messages xs)) (of_session it t.0) (commands (after_event streams it) rest)
      ∙ ap (λ (m : List (ℕ × Message)). m ++ later) (sym (asked_lines it xs))
      in (
        ls ++ lines session xs,
        (
          later,
          ap (commands start) split ∙ commands_append start done (it ∷ rest)
              ∙ ap (λ (m : List (ℕ × Message)). m ++ commands streams (it ∷ rest)) (sym run.messages)
              ∙ ap (λ (m : List (ℕ × Message)). map asked_by ls ++ m) first
              ∙ sym (append_assoc (map asked_by ls) (map asked_by (lines session xs)) later)
              ∙ ap (λ (m : List (ℕ × Message)). m ++ later) (sym (map-append asked_by ls (lines session xs))),
          answered_append answers before.service ls between.service (lines session xs) after.service run.answered t.2,
        ),
      )

  begun_at : (before between after : HubState S) (done rest events : List Happening) (it : Happening) (ls : List Line) → events ≡ done ++ it ∷ rest → RunsSo answers before done ls between
      → Comes between it after → BeginsRun answers before events after.service
  begun_at before between after done rest events it ls split run (inl (xs, passes)) =
      let more = run_more answers before done ls between it xs after run passes in
      runs_begin before after (done ++ it ∷ []) rest events (ls ++ lines (number it) xs) (split ∙ sym (append_assoc done (it ∷ []) rest)) more.0
  begun_at before between after done rest events it ls split run (inr (inl same)) =
      subst (λ (h : HubState S). BeginsRun answers before events h.service) (sym same) (runs_begin before between done (it ∷ rest) events ls split run.0)
  begun_at before between after done rest events it ls split run (inr (inr (session, piece, xs, is, answered))) =
      piece_begins before between after done rest events ls session piece xs (split ∙ ap (λ (e : Happening). done ++ e ∷ rest) is) run answered

  pub begun : {X : Type 0} (f : X → Happening) (before between after : HubState S) (events : List X) (k : ℕ) (d : X) → k < length events
      → ((ls : List Line) × RunsSo answers before (map f (take k events)) ls between) → Comes between (f (get_or events k d)) after → BeginsRun answers before (map f events) after.service
  begun f before between after events k d low (ls, run) =
      begun_at before between after (map f (take k events)) (map f (drop (suc k) events)) (map f events) (f (get_or events k d)) ls (around f events k d low) run

  -- nothing was done
  pub stopped_first : (before : HubState S) (events : List Happening) → Runs answers before [] [] before → Stops answers before events before
  stopped_first before [] run = ([], [], [], before, refl, run, refl)
  stopped_first before (it ∷ more) run = ([], it ∷ more, [], before, refl, run, inl refl)

  -- all was done
  pub stopped_last : (before after : HubState S) (events : List Happening) (ls : List Line) → Runs answers before events ls after → Stops answers before events after
  stopped_last before after events ls run = (events, [], ls, after, sym (append-nil events), run, refl)
