-- What each session is told, with one event more.
use Rattle.std.proofs.Common.{◌≡◌, ◌≢◌, ℕ, List, [], ◌∷◌, ◌++◌, ◌||◌, Bool, true, false, cond, Option, Some, None, Result, Ok, Err, IfOk, refl, sym, ap, subst, ◌∙◌, inl, inr, ◌⊎◌}
use Rattle.std.proofs.lemmas.Bool.{eqb-true, eqb-false}
use Rattle.std.proofs.lemmas.Cmp.{ranked}
use Rattle.std.proofs.lemmas.List.{append-nil}
use Rattle.std.specs.Cmp.{nat_cmp_is}
use Rattle.std.specs.Option.{option_map}
use Rattle.std.specs.Prelude.{◌==◌, is_some}
use Rattle.std.specs.declared.cmp.Ordering.{Ordering}
use Rattle.std.specs.declared.cmp.Ordering.TheVariants.{Less, Equal, Greater}
use Rattle.std.specs.Ordering.{nat_cmp, is_eq, match_ordering}
use Rattle.std.specs.BTreeMap.{is_at, insert_entry}
use Rattle.std.specs.List.Sorted.{IsStrictlySortedBy}
use Rattle.std.specs.Map.{keys_of, lookup}
use Rattle.wire.specs.Frames.{Frame}
use Rattle.wire.specs.Streams.{Remainder, Rest}
use Rattle.epochs.specs.Histories.{or_else}
use Rattle.hub.specs.declared.hub_refusal.HubRefusal.{HubRefusal}
use Rattle.hub.specs.declared.hub_refusal.HubRefusal.TheVariants.{NoSession}
use Rattle.hub.specs.Events.{BySession, Happening, Open, Bytes, End, HubState, at_session, due, number}
use Rattle.hub.specs.Happenings.{DoesUnlessRefused}
use Rattle.hub.specs.Exchanges.{Exchange, replies}
use Rattle.hub.specs.Outputs.{appended, Appends, AppendsUnless}
use Rattle.hub.specs.Runs.{Line, Stream, Streams, after_event, after_events, changed, each, unanswered, was_open, told_to, with_piece, AreOutputs}
use Rattle.hub.proofs.Entries.{is_some_each}
use Rattle.hub.proofs.Others.{insert_other, remove_other, set_other}
use Rattle.hub.proofs.Running.{open_last, open_more, run_more, told_more, RunsSo}
use Rattle.hub.proofs.Steps.{due_same, lines, Matches}

-- ---- numbers

-- a number that a test is for is this one
pub same_number : (m x : ℕ) → is_at (nat_cmp m) x ≡ true → m ≡ x
same_number m x e = by_order (nat_cmp m x) refl e
  where
    by_order : (o : Ordering) → o ≡ nat_cmp m x → is_eq o ≡ true → m ≡ x
    by_order Less f t = absurd cc
    by_order Equal f t = ranked m x Equal f
    by_order Greater f t = absurd cc

pub is_here : (m : ℕ) → is_at (nat_cmp m) m ≡ true
is_here m = ap is_eq (sym (nat_cmp_is m m Equal refl))

pub apart : (m n : ℕ) → m ≢ n → (x : ℕ) → is_at (nat_cmp m) x ≡ true → is_at (nat_cmp n) x ≡ false
apart m n differ x e = by_test (is_at (nat_cmp n) x) refl
  where
    by_test : (b : Bool) → is_at (nat_cmp n) x ≡ b → b ≡ false
    by_test true f = absurd (differ (same_number m x e ∙ sym (same_number n x f)))
    by_test false f = refl

pub not_here : (m n : ℕ) → m ≢ n → is_at (nat_cmp n) m ≡ false
not_here m n differ = apart m n differ m (is_here m)

-- ---- which sessions are open

-- what was put in is found
pub insert_found : {X : Type 0} (entries : BySession X) (n : ℕ) (x : X) → at_session (insert_entry nat_cmp entries n x) n ≡ Some x
insert_found [] n x = rw (is_here n) refl
insert_found {X} (entry ∷ more) n x = by_order (nat_cmp n entry.0) refl (insert_found more n x)
  where
    by_order : (o : Ordering) → nat_cmp n entry.0 ≡ o → at_session (insert_entry nat_cmp more n x) n ≡ Some x
        → lookup (is_at (nat_cmp n)) (match_ordering o ((n, x) ∷ entry ∷ more) ((entry.0, x) ∷ more) (entry ∷ insert_entry nat_cmp more n x)) ≡ Some x
    by_order Less e next = rw (is_here n) refl
    by_order Equal e next = let here : is_at (nat_cmp n) entry.0 ≡ true = ap is_eq e in rw here refl
    by_order Greater e next = let not : is_at (nat_cmp n) entry.0 ≡ false = ap is_eq e in rw not next

-- an event leaves which other sessions are open
pub other_stays : (streams : Streams) (it : Happening) (n : ℕ) → number it ≢ n → at_session (changed streams it) n ≡ at_session streams n
other_stays streams (Open m) n differ = insert_other m (is_at (nat_cmp n)) (not_here m n differ) (apart m n differ) streams (unanswered (Rest []))
other_stays streams (Bytes m piece) n differ = by_stream (at_session streams m) refl
  where
    by_stream : (found : Option Stream) → at_session streams m ≡ found → at_session (changed streams (Bytes m piece)) n ≡ at_session streams n
    by_stream None e = rw e refl
    by_stream (Some stream) e = rw e (set_other (is_at (nat_cmp m)) (is_at (nat_cmp n)) (apart m n differ) streams (with_piece stream piece))
other_stays streams (End m) n differ = remove_other (is_at (nat_cmp m)) (is_at (nat_cmp n)) (apart m n differ) streams

open_if : (b : Bool) (refusal : HubRefusal) → cond b None (Some refusal) ≡ None → b ≡ true
open_if true refusal e = refl
open_if false refusal e = absurd cc

-- the session of an event that is not refused is open before it or after it
own_open : (streams : Streams) (it : Happening) (b : Bool) → due streams it ≡ None → (is_some (at_session streams (number it)) ≡ true → b ≡ true) → (b || is_some (at_session (changed streams it) (number it))) ≡ true
own_open streams (Open n) b fine before = ap (λ (x : Option Stream). b || is_some x) (insert_found streams n (unanswered (Rest []))) ∙ or_true b
  where
    or_true : (b : Bool) → (b || true) ≡ true
    or_true true = refl
    or_true false = refl
own_open streams (Bytes n piece) b fine before = ap (λ (x : Bool). x || is_some (at_session (changed streams (Bytes n piece)) n)) (before (open_if (is_some (at_session streams n)) NoSession fine))
own_open streams (End n) b fine before = ap (λ (x : Bool). x || is_some (at_session (changed streams (End n)) n)) (before (open_if (is_some (at_session streams n)) NoSession fine))

or_less : (b c : Bool) → (c ≡ true → b ≡ true) → (b || c) ≡ b
or_less true c e = refl
or_less false true e = sym (e refl)
or_less false false e = refl

-- ---- outputs

-- the outputs so far, and that a session that was not open is told nothing
abbrev pub OutputsSo : Streams → List Happening → List Line → BySession (List ℕ) → Type 0
OutputsSo streams events ls outputs = ((n : ℕ) → at_session outputs n ≡ cond (was_open streams events n) (Some (told_to n ls)) None)
    × ((n : ℕ) → was_open streams events n ≡ false → told_to n ls ≡ [])

begun_at : {X : Type 0} (none : List ℕ) (found : Option X) → option_map (λ _. none) found ≡ cond (is_some found) (Some none) None
begun_at none None = refl
begun_at none (Some x) = refl

pub outputs_begin : (sessions : BySession Remainder) (outputs : BySession (List ℕ)) → ((n : ℕ) → at_session outputs n ≡ option_map (λ _. []) (at_session sessions n)) → OutputsSo (each unanswered sessions) [] [] outputs
outputs_begin sessions outputs are = (
  λ n. are n ∙ begun_at [] (at_session sessions n) ∙ ap (λ (b : Bool). cond b (Some []) None) (sym (is_some_each unanswered sessions n)),
  λ n e. refl,
)

with_more_bytes : (b : Bool) (text bytes : List ℕ) → (b ≡ false → text ≡ []) → appended (cond b (Some text) None) bytes ≡ text ++ bytes
with_more_bytes true text bytes e = refl
with_more_bytes false text bytes e = ap (λ (t : List ℕ). t ++ bytes) (sym (e refl))

module _ (streams : Streams) (events : List Happening) (ls : List Line) (it : Happening) (xs : List Exchange) (before after : BySession (List ℕ)) (so : OutputsSo streams events ls before) where
  -- a refused event
  refused_more : after_event (after_events streams events) it ≡ after_events streams events → xs ≡ [] → ((n : ℕ) → at_session after n ≡ at_session before n) → OutputsSo streams (events ++ it ∷ []) (ls ++ lines (number it) xs) after
  refused_more stays none same = (
    λ n. same n ∙ so.0 n ∙ ap (λ (b : Bool). cond b (Some (told_to n ls)) None) (sym (opens n)) ∙ ap (λ (t : List ℕ). cond (was_open streams (events ++ it ∷ []) n) (Some t) None) (sym (tells n)),
    λ n e. tells n ∙ so.1 n (sym (opens n) ∙ e),
  )
    where
      opens : (n : ℕ) → was_open streams (events ++ it ∷ []) n ≡ was_open streams events n
      opens n =
          open_more streams events it n ∙ ap (λ (m : Streams). was_open streams events n || is_some (at_session m n)) stays
          ∙ or_less (was_open streams events n) (is_some (at_session (after_events streams events) n)) (open_last streams events n)

      tells : (n : ℕ) → told_to n (ls ++ lines (number it) xs) ≡ told_to n ls
      tells n = ap (λ (ys : List Exchange). told_to n (ls ++ lines (number it) ys)) none ∙ ap (told_to n) (append-nil ls)

  -- another event
  done_more : due (after_events streams events) it ≡ None → Appends before (number it) (replies xs) after → OutputsSo streams (events ++ it ∷ []) (ls ++ lines (number it) xs) after
  done_more fine appends = (λ n. (at_each n).0, λ n. (at_each n).1)
    where
      now : Streams
      now = after_events streams events

      next : after_event now it ≡ changed now it
      next = rw fine refl

      at_each : (n : ℕ) → (at_session after n ≡ cond (was_open streams (events ++ it ∷ []) n) (Some (told_to n (ls ++ lines (number it) xs))) None)
          × (was_open streams (events ++ it ∷ []) n ≡ false → told_to n (ls ++ lines (number it) xs) ≡ [])
      at_each n = by_test (number it == n) refl
        where
          opens : was_open streams (events ++ it ∷ []) n ≡ (was_open streams events n || is_some (at_session (changed now it) n))
          opens = open_more streams events it n ∙ ap (λ (m : Streams). was_open streams events n || is_some (at_session m n)) next

          by_test : (b : Bool) → (number it == n) ≡ b
              → (at_session after n ≡ cond (was_open streams (events ++ it ∷ []) n) (Some (told_to n (ls ++ lines (number it) xs))) None)
              × (was_open streams (events ++ it ∷ []) n ≡ false → told_to n (ls ++ lines (number it) xs) ≡ [])
          by_test true e =
              let same : number it ≡ n = eqb-true (number it) n e in
              let opened : was_open streams (events ++ it ∷ []) n ≡ true = opens ∙ subst (λ (k : ℕ). (was_open streams events k || is_some (at_session (changed now it) k)) ≡ true) same (own_open now it (was_open streams events (number it)) fine (open_last streams events (number it))) in
              let tells : told_to n (ls ++ lines (number it) xs) ≡ told_to n ls ++ replies xs = told_more n (number it) ls xs ∙ ap (λ (b : Bool). told_to n ls ++ cond b (replies xs) []) e in (
                appends n ∙ ap (λ (b : Bool). cond b (Some (appended (at_session before n) (replies xs))) (at_session before n)) e
                    ∙ ap (λ (found : Option (List ℕ)). Some (appended found (replies xs))) (so.0 n)
                    ∙ ap (λ (t : List ℕ). Some t) (with_more_bytes (was_open streams events n) (told_to n ls) (replies xs) (so.1 n) ∙ sym tells)
                    ∙ ap (λ (b : Bool). cond b (Some (told_to n (ls ++ lines (number it) xs))) None) (sym opened),
                λ closed. absurd (let wrong : true ≡ false = sym opened ∙ closed in cc),
              )
          by_test false e =
              let opened : was_open streams (events ++ it ∷ []) n ≡ was_open streams events n =
              opens ∙ ap (λ (found : Option Stream). was_open streams events n || is_some found) (other_stays now it n (eqb-false (number it) n e))
              ∙ or_less (was_open streams events n) (is_some (at_session now n)) (open_last streams events n)
              in
              let tells : told_to n (ls ++ lines (number it) xs) ≡ told_to n ls = told_more n (number it) ls xs ∙ ap (λ (b : Bool). told_to n ls ++ cond b (replies xs) []) e ∙ append-nil (told_to n ls) in (
                appends n ∙ ap (λ (b : Bool). cond b (Some (appended (at_session before n) (replies xs))) (at_session before n)) e ∙ so.0 n
                    ∙ ap (λ (b : Bool). cond b (Some (told_to n ls)) None) (sym opened) ∙ ap (λ (t : List ℕ). cond (was_open streams (events ++ it ∷ []) n) (Some t) None) (sym tells),
                λ closed. tells ∙ so.1 n (sym opened ∙ closed),
              )

  pub outputs_more : (xs ≡ [] ⊎ (due (after_events streams events) it ≡ None)) → AppendsUnless (due (after_events streams events) it) before (number it) (replies xs) after
      → OutputsSo streams (events ++ it ∷ []) (ls ++ lines (number it) xs) after
  outputs_more none appends = by_due (due (after_events streams events) it) refl appends none
    where
      by_due : (found : Option HubRefusal) → due (after_events streams events) it ≡ found → AppendsUnless found before (number it) (replies xs) after → (xs ≡ [] ⊎ (found ≡ None))
          → OutputsSo streams (events ++ it ∷ []) (ls ++ lines (number it) xs) after
      by_due None e adds none = done_more e adds
      by_due (Some refusal) e adds (inl none) = refused_more (rw e refl) none adds
      by_due (Some refusal) e adds (inr wrong) = absurd cc

-- ---- runs

module _ {S : Type 0} (answers : S → Frame → List ℕ → S → Type 0) where
  -- a run with its outputs so far
  abbrev pub RanSo : HubState S → List Happening → HubState S → BySession (List ℕ) → Type 0
  RanSo before events after outputs = (ls : List Line) × RunsSo answers before events ls after × OutputsSo (each unanswered before.sessions) events ls outputs

  passes_so : (middle after : HubState S) (streams : Streams) (it : Happening) (xs : List Exchange) → Matches middle.sessions streams → DoesUnlessRefused answers middle it xs after → (xs ≡ []) ⊎ (due streams it ≡ None)
  passes_so middle after streams it xs match (inl (refusal, is, none, same)) = inl none
  passes_so middle after streams it xs match (inr (fine, does)) = inr (sym (due_same middle.sessions streams it match) ∙ fine)

  pub ran_more : (before middle after : HubState S) (events more : List Happening) (it : Happening) (old new : BySession (List ℕ)) → more ≡ events ++ it ∷ []
      → RanSo before events middle old
      → ((xs : List Exchange) × DoesUnlessRefused answers middle it xs after × AppendsUnless (due middle.sessions it) old (number it) (replies xs) new) → RanSo before more after new
  ran_more before middle after events more it old new is (ls, run, so) (xs, passes, appends) =
      let streams : Streams = each unanswered before.sessions in
      let match : Matches middle.sessions (after_events streams events) = (run.0.left, run.1) in
      let same = due_same middle.sessions (after_events streams events) it match in
      let all = run_more answers before events ls middle it xs after run passes in
      let outputs = outputs_more streams events ls it xs old new so (passes_so middle after (after_events streams events) it xs match passes)
      (subst (λ (found : Option HubRefusal). AppendsUnless found old (number it) (replies xs) new) same appends) in
      subst (λ (m : List Happening). RanSo before m after new) (sym is) (ls ++ lines (number it) xs, all, outputs)

pub are_outputs : (streams : Streams) (events : List Happening) (ls : List Line) (outputs pairs : BySession (List ℕ)) → OutputsSo streams events ls outputs → pairs ≡ outputs → IsStrictlySortedBy nat_cmp (keys_of outputs)
    → AreOutputs streams events ls pairs
are_outputs streams events ls outputs pairs so same ascend =
    subst (λ (m : BySession (List ℕ)). AreOutputs streams events ls m) (sym same) (record { ascend = ascend; of_each = so.0 })

pub if_ok : {T E : Type 0} (result : Result T E) (P Q : T → Type 0) → IfOk result P → ((x : T) → P x → Q x) → IfOk result Q
if_ok (Ok x) P Q p next = next x p
if_ok (Err e) P Q p next = tt

-- ---- empty outputs of sessions

or_none : {X : Type 0} (x : Option X) → or_else x None ≡ x
or_none None = refl
or_none (Some x) = refl

here_is : (n m : ℕ) (b : Bool) → (m == n) ≡ b → is_at (nat_cmp n) m ≡ b
here_is n m true e = subst (λ (k : ℕ). is_at (nat_cmp n) k ≡ true) (sym (eqb-true m n e)) (is_here n)
here_is n m false e = not_here m n (eqb-false m n e)

-- the sessions still to come, each with an empty output
abbrev Completes : {X : Type 0} → BySession (List ℕ) → BySession X → BySession X → Type 0
Completes outputs rest all = (n : ℕ) → or_else (at_session outputs n) (option_map (λ _. []) (at_session rest n)) ≡ option_map (λ _. []) (at_session all n)

pub one_completed : {X : Type 0} (before after : BySession (List ℕ)) (entry : ℕ × X) (rest all : BySession X) → Completes before (entry ∷ rest) all → Appends before entry.0 [] after → Completes after rest all
one_completed {X} before after entry rest all so appends n = by_test (entry.0 == n) refl
  where
    both : (b : Bool) (old : Option (List ℕ)) (found : Option X)
        → or_else (cond b (Some (appended old [])) old) (option_map (λ _. []) found) ≡ or_else old (option_map (λ _. []) (cond b (Some entry.1) found))
    both true None found = refl
    both true (Some text) found = ap (λ (t : List ℕ). Some t) (append-nil text)
    both false old found = refl

    by_test : (b : Bool) → (entry.0 == n) ≡ b → or_else (at_session after n) (option_map (λ _. []) (at_session rest n)) ≡ option_map (λ _. []) (at_session all n)
    by_test b e =
        ap (λ (found : Option (List ℕ)). or_else found (option_map (λ _. []) (at_session rest n))) (appends n ∙ ap (λ (c : Bool). cond c (Some (appended (at_session before n) [])) (at_session before n)) e)
        ∙ both b (at_session before n) (at_session rest n)
        ∙ ap (λ (c : Bool). or_else (at_session before n) (option_map (λ _. []) (cond c (Some entry.1) (at_session rest n)))) (sym (here_is n entry.0 b e))
        ∙ so n

pub all_completed : {X : Type 0} (outputs : BySession (List ℕ)) (all : BySession X) → Completes outputs [] all → (n : ℕ) → at_session outputs n ≡ option_map (λ _. []) (at_session all n)
all_completed outputs all so n = sym (or_none (at_session outputs n)) ∙ so n
