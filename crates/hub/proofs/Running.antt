-- A run with one event more.
use Rattle.std.proofs.Common.{◌≡◌, ℕ, List, [], ◌∷◌, ◌++◌, ◌||◌, Bool, true, false, cond, map, Some, None, refl, sym, ap, subst, ◌∙◌, append_assoc, inl, inr}
use Rattle.std.proofs.lemmas.List.{append-nil, map-append}
use Rattle.std.specs.Prelude.{◌==◌, is_some}
use Rattle.wire.specs.Frames.{Frame}
use Rattle.wire.specs.Streams.{Message}
use Rattle.hub.specs.Events.{Happening, HubState, at_session, due, number}
use Rattle.hub.specs.Exchanges.{Exchange, exchange_messages, replies}
use Rattle.hub.specs.Happenings.{DoesUnlessRefused}
use Rattle.hub.specs.Runs.{Line, Streams, after_event, after_events, asked_by, brought, commands, each, unanswered, was_open, rest_of, told_to, AllAnswered, Runs}
use Rattle.hub.proofs.Entries.{AllAt}
use Rattle.hub.proofs.Steps.{lines, all_fresh, does_changes, due_same, each_fresh, IsTold}

-- ---- one event more

pub after_more : (streams : Streams) (events : List Happening) (it : Happening) → after_events streams (events ++ it ∷ []) ≡ after_event (after_events streams events) it
after_more streams [] it = refl
after_more streams (other ∷ events) it = after_more (after_event streams other) events it

abbrev pub of_session : Happening → List Message → List (ℕ × Message)
of_session it messages = map (λ message. (number it, message)) messages

pub commands_append : (streams : Streams) (events more : List Happening) → commands streams (events ++ more) ≡ commands streams events ++ commands (after_events streams events) more
commands_append streams [] more = refl
commands_append streams (it ∷ events) more =
    ap (λ (t : List (ℕ × Message)). of_session it (brought streams it) ++ t) (commands_append (after_event streams it) events more)
    ∙ sym (append_assoc (of_session it (brought streams it)) (commands (after_event streams it) events) (commands (after_events (after_event streams it) events) more))

pub commands_one : (streams : Streams) (it : Happening) → commands streams (it ∷ []) ≡ of_session it (brought streams it)
commands_one streams it = append-nil (of_session it (brought streams it))

pub asked_lines : (it : Happening) (xs : List Exchange) → map asked_by (lines (number it) xs) ≡ of_session it (exchange_messages xs)
asked_lines it [] = refl
asked_lines it (x ∷ xs) = ap (λ (t : List (ℕ × Message)). (number it, x.message) ∷ t) (asked_lines it xs)

module _ {S : Type 0} (answers : S → Frame → List ℕ → S → Type 0) where
  pub answered_append : (s : S) (ls : List Line) (t : S) (more : List Line) (u : S) → AllAnswered answers s ls t → AllAnswered answers t more u → AllAnswered answers s (ls ++ more) u
  answered_append s [] t more u same later = subst (λ (x : S). AllAnswered answers x more u) same later
  answered_append s (line ∷ ls) t more u (middle, reply, rest) later = (middle, reply, answered_append middle ls t more u rest later)

-- ---- what is told

told_append : (n : ℕ) (ls more : List Line) → told_to n (ls ++ more) ≡ told_to n ls ++ told_to n more
told_append n [] more = refl
told_append n (line ∷ ls) more =
    let here : List ℕ = cond (line.session == n) line.reply [] in
    ap (λ (t : List ℕ). here ++ t) (told_append n ls more) ∙ sym (append_assoc here (told_to n ls) (told_to n more))

told_lines : (b : Bool) (n k : ℕ) (xs : List Exchange) → (k == n) ≡ b → told_to n (lines k xs) ≡ cond b (replies xs) []
told_lines true n k [] e = refl
told_lines false n k [] e = refl
told_lines true n k (x ∷ xs) e = rw (e, told_lines true n k xs e) refl
told_lines false n k (x ∷ xs) e = rw (e, told_lines false n k xs e) refl

pub told_more : (n k : ℕ) (ls : List Line) (xs : List Exchange) → told_to n (ls ++ lines k xs) ≡ told_to n ls ++ cond (k == n) (replies xs) []
told_more n k ls xs = told_append n ls (lines k xs) ∙ ap (λ (t : List ℕ). told_to n ls ++ t) (told_lines (k == n) n k xs refl)

-- ---- which sessions are open once

or_true : (b : Bool) → (b || true) ≡ true
or_true true = refl
or_true false = refl

or_assoc : (a b c : Bool) → (a || (b || c)) ≡ ((a || b) || c)
or_assoc true b c = refl
or_assoc false b c = refl

pub open_more : (streams : Streams) (events : List Happening) (it : Happening) (n : ℕ)
    → was_open streams (events ++ it ∷ []) n ≡ (was_open streams events n || is_some (at_session (after_event (after_events streams events) it) n))
open_more streams [] it n = refl
open_more streams (other ∷ events) it n =
    ap (λ (b : Bool). is_some (at_session streams n) || b) (open_more (after_event streams other) events it n)
    ∙ or_assoc (is_some (at_session streams n)) (was_open (after_event streams other) events n) (is_some (at_session (after_event (after_events (after_event streams other) events) it) n))

-- what is open at the end is open once
pub open_last : (streams : Streams) (events : List Happening) (n : ℕ) → is_some (at_session (after_events streams events) n) ≡ true → was_open streams events n ≡ true
open_last streams [] n e = e
open_last streams (it ∷ events) n e = ap (λ (b : Bool). is_some (at_session streams n) || b) (open_last (after_event streams it) events n e) ∙ or_true (is_some (at_session streams n))

-- ---- runs

module _ {S : Type 0} (answers : S → Frame → List ℕ → S → Type 0) where
  -- with what its invariant says of the streams
  abbrev pub RunsSo : HubState S → List Happening → List Line → HubState S → Type 0
  RunsSo before events ls after = Runs answers before events ls after × AllAt IsTold (after_events (each unanswered before.sessions) events)

  pub nothing_run : (before : HubState S) → RunsSo before [] [] before
  nothing_run before = (record { messages = refl; answered = refl; left = each_fresh before.sessions }, all_fresh before.sessions)

  abbrev Stepped : HubState S → Streams → Happening → List Exchange → HubState S → Type 0
  Stepped middle streams it xs after = (brought streams it ≡ exchange_messages xs) × (after.sessions ≡ each rest_of (after_event streams it)) × AllAt IsTold (after_event streams it)
      × AllAnswered answers middle.service (lines (number it) xs) after.service

  pub stepped : (middle after : HubState S) (streams : Streams) (it : Happening) (xs : List Exchange) → middle.sessions ≡ each rest_of streams → AllAt IsTold streams
      → DoesUnlessRefused answers middle it xs after → Stepped middle streams it xs after
  stepped middle after streams it xs same all (inl (refusal, is, none, stays)) =
      let refused : due streams it ≡ Some refusal = sym (due_same middle.sessions streams it (same, all)) ∙ is in (
        rw refused (ap exchange_messages (sym none)),
        rw refused (ap (λ (h : HubState S). h.sessions) stays ∙ same),
        rw refused all,
        subst (λ (xs : List Exchange). AllAnswered answers middle.service (lines (number it) xs) after.service) (sym none) (ap (λ (h : HubState S). h.service) stays),
      )
  stepped middle after streams it xs same all (inr (is, does)) =
      let fine : due streams it ≡ None = sym (due_same middle.sessions streams it (same, all)) ∙ is in
      let t = does_changes answers middle after streams it xs (same, all) does in
      (rw fine t.0, rw fine t.1.0, rw fine t.1.1, t.2)

  pub run_more : (before : HubState S) (events : List Happening) (ls : List Line) (middle : HubState S) (it : Happening) (xs : List Exchange) (after : HubState S)
      → RunsSo before events ls middle → DoesUnlessRefused answers middle it xs after → RunsSo before (events ++ it ∷ []) (ls ++ lines (number it) xs) after
  run_more before events ls middle it xs after (run, all) passes =
      let start : Streams = each unanswered before.sessions in
      let streams : Streams = after_events start events in
      let t = stepped middle after streams it xs run.left all passes in
      let grown = after_more start events it in (
        record {
          messages = map-append asked_by ls (lines (number it) xs)
              ∙ ap (λ (m : List (ℕ × Message)). m ++ map asked_by (lines (number it) xs)) run.messages
              ∙ ap (λ (m : List (ℕ × Message)). commands start events ++ m) (asked_lines it xs ∙ ap (of_session it) (sym t.0) ∙ sym (commands_one streams it))
              ∙ sym (commands_append start events (it ∷ []));
          answered = answered_append answers before.service ls middle.service (lines (number it) xs) after.service run.answered t.3;
          left = t.1 ∙ ap (each rest_of) (sym grown);
        },
        subst (AllAt IsTold) (sym grown) t.2,
      )
