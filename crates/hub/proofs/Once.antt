-- The number of a session stands at most once among the sessions.
use Rattle.std.proofs.Common.{◌≡◌, ◌≢◌, ℕ, List, [], ◌∷◌, Bool, true, false, cond, Option, Some, None, refl, sym, ap, subst, ◌∙◌}
use Rattle.std.specs.List.{AllByRecursion}
use Rattle.std.specs.List.Sorted.{IsStrictlySortedBy}
use Rattle.std.specs.Option.{option_map}
use Rattle.std.specs.declared.cmp.Ordering.{Ordering}
use Rattle.std.specs.declared.cmp.Ordering.TheVariants.{Less, Equal, Greater}
use Rattle.std.specs.Ordering.{nat_cmp, is_eq, match_ordering}
use Rattle.std.specs.BTreeMap.{is_at, insert_entry}
use Rattle.std.specs.Map.{keys_of, lookup, remove_entry, set_value}
use Rattle.wire.specs.Streams.{Remainder, Rest}
use Rattle.hub.specs.Events.{BySession, Happening, Open, Bytes, End, at_session, number}
use Rattle.hub.specs.Runs.{Stream, Streams, changed, each, unanswered, with_piece}
use Rattle.hub.proofs.Entries.{lookup_each, remove_each}
use Rattle.hub.proofs.Others.{insert_other, remove_other, set_other, Apart}
use Rattle.hub.proofs.Outputting.{apart, is_here, not_here, same_number}

module _ {X : Type 0} (q : ℕ → Bool) where
  -- one entry at most passes the test: where it is taken out, none is found
  abbrev Once : List (ℕ × X) → Type 0
  Once es = lookup q (remove_entry q es) ≡ None

  -- ---- where the test fails

  first_stays : (e : ℕ × X) (es fs : List (ℕ × X)) → lookup q fs ≡ lookup q es → (Once es → Once fs) → Once (e ∷ es) → Once (e ∷ fs)
  first_stays e es fs same next once = by_test (q e.0) refl once
    where
      by_test : (b : Bool) → q e.0 ≡ b → lookup q (cond b es (e ∷ remove_entry q es)) ≡ None → lookup q (cond b fs (e ∷ remove_entry q fs)) ≡ None
      by_test true is o = same ∙ o
      by_test false is o = rw is (next (rw is at o))

  skipped : (e : ℕ × X) (es : List (ℕ × X)) → q e.0 ≡ false → lookup q (remove_entry q (e ∷ es)) ≡ lookup q (remove_entry q es)
  skipped e es other =
      ap (λ (b : Bool). lookup q (cond b es (e ∷ remove_entry q es))) other ∙ ap (λ (b : Bool). cond b (Some e.1) (lookup q (remove_entry q es))) other

  first_changes : (e f : ℕ × X) (es : List (ℕ × X)) → q e.0 ≡ false → q f.0 ≡ false → Once (e ∷ es) → Once (f ∷ es)
  first_changes e f es other too once = skipped f es too ∙ sym (skipped e es other) ∙ once

  set_once_other : (p : ℕ → Bool) → Apart p q → (es : List (ℕ × X)) (w : X) → Once es → Once (set_value p es w)
  set_once_other p differ [] w once = once
  set_once_other p differ (e ∷ es) w once = by_test (p e.0) refl (set_once_other p differ es w)
    where
      by_test : (b : Bool) → p e.0 ≡ b → (Once es → Once (set_value p es w)) → Once (cond b ((e.0, w) ∷ es) (e ∷ set_value p es w))
      by_test true is next = first_changes e (e.0, w) es (differ e.0 is) (differ e.0 is) once
      by_test false is next = first_stays e es (set_value p es w) (set_other p q differ es w) next once

  remove_once_other : (p : ℕ → Bool) → Apart p q → (es : List (ℕ × X)) → Once es → Once (remove_entry p es)
  remove_once_other p differ [] once = once
  remove_once_other p differ (e ∷ es) once = by_test (p e.0) refl (remove_once_other p differ es)
    where
      by_test : (b : Bool) → p e.0 ≡ b → (Once es → Once (remove_entry p es)) → Once (cond b es (e ∷ remove_entry p es))
      by_test true is next = sym (skipped e es (differ e.0 is)) ∙ once
      by_test false is next = first_stays e es (remove_entry p es) (remove_other p q differ es) next once

  insert_once_other : (m : ℕ) → q m ≡ false → Apart (is_at (nat_cmp m)) q → (es : List (ℕ × X)) (v : X) → Once es → Once (insert_entry nat_cmp es m v)
  insert_once_other m other differ [] v once = skipped (m, v) [] other
  insert_once_other m other differ (e ∷ es) v once = by_order (nat_cmp m e.0) refl (insert_once_other m other differ es v)
    where
      by_order : (o : Ordering) → nat_cmp m e.0 ≡ o → (Once es → Once (insert_entry nat_cmp es m v)) → Once (match_ordering o ((m, v) ∷ e ∷ es) ((e.0, v) ∷ es) (e ∷ insert_entry nat_cmp es m v))
      by_order Less is next = skipped (m, v) (e ∷ es) other ∙ once
      by_order Equal is next = first_changes e (e.0, v) es (differ e.0 (ap is_eq is)) (differ e.0 (ap is_eq is)) once
      by_order Greater is next = first_stays e es (insert_entry nat_cmp es m v) (insert_other m q other differ es v) next once

  -- ---- where it passes

  set_removed : (es : List (ℕ × X)) (w : X) → remove_entry q (set_value q es w) ≡ remove_entry q es
  set_removed [] w = refl
  set_removed (e ∷ es) w = by_test (q e.0) refl (set_removed es w)
    where
      by_test : (b : Bool) → q e.0 ≡ b → remove_entry q (set_value q es w) ≡ remove_entry q es → remove_entry q (cond b ((e.0, w) ∷ es) (e ∷ set_value q es w)) ≡ cond b es (e ∷ remove_entry q es)
      by_test true is next = rw is refl
      by_test false is next = rw is (ap (λ (t : List (ℕ × X)). e ∷ t) next)

  none_once : (es : List (ℕ × X)) → lookup q es ≡ None → Once es
  none_once [] none = refl
  none_once (e ∷ es) none = by_test (q e.0) refl none (none_once es)
    where
      by_test : (b : Bool) → q e.0 ≡ b → cond b (Some e.1) (lookup q es) ≡ None → (lookup q es ≡ None → Once es) → lookup q (cond b es (e ∷ remove_entry q es)) ≡ None
      by_test true is found next = absurd cc
      by_test false is found next = rw is (next found)

-- what was put in and is taken out leaves what there was
insert_removed : {X : Type 0} (n : ℕ) (es : List (ℕ × X)) (v : X) → at_session es n ≡ None → remove_entry (is_at (nat_cmp n)) (insert_entry nat_cmp es n v) ≡ es
insert_removed n [] v none = rw (is_here n) refl
insert_removed {X} n (e ∷ es) v none = by_order (nat_cmp n e.0) refl none (insert_removed n es v)
  where
    by_order : (o : Ordering) → nat_cmp n e.0 ≡ o → cond (is_eq o) (Some e.1) (at_session es n) ≡ None
        → (at_session es n ≡ None → remove_entry (is_at (nat_cmp n)) (insert_entry nat_cmp es n v) ≡ es)
        → remove_entry (is_at (nat_cmp n)) (match_ordering o ((n, v) ∷ e ∷ es) ((e.0, v) ∷ es) (e ∷ insert_entry nat_cmp es n v)) ≡ e ∷ es
    by_order Less is found next = rw (is_here n) refl
    by_order Equal is found next = absurd cc
    by_order Greater is found next =
        let other : is_at (nat_cmp n) e.0 ≡ false = ap is_eq is in
        rw other (ap (λ (t : List (ℕ × X)). e ∷ t) (next found))

-- ---- streams

-- the session has one stream at most
abbrev pub StandsOnce : ℕ → Streams → Type 0
StandsOnce n streams = at_session (remove_entry (is_at (nat_cmp n)) streams) n ≡ None

pub other_once : (streams : Streams) (it : Happening) (n : ℕ) → number it ≢ n → StandsOnce n streams → StandsOnce n (changed streams it)
other_once streams (Open m) n differ once = insert_once_other (is_at (nat_cmp n)) m (not_here m n differ) (apart m n differ) streams (unanswered (Rest [])) once
other_once streams (Bytes m piece) n differ once = by_stream (at_session streams m) refl
  where
    by_stream : (found : Option Stream) → at_session streams m ≡ found → StandsOnce n (changed streams (Bytes m piece))
    by_stream None e = rw e once
    by_stream (Some stream) e = rw e (set_once_other (is_at (nat_cmp n)) (is_at (nat_cmp m)) (apart m n differ) streams (with_piece stream piece) once)
other_once streams (End m) n differ once = remove_once_other (is_at (nat_cmp n)) (is_at (nat_cmp m)) (apart m n differ) streams once

pub opened_once : (streams : Streams) (n : ℕ) (stream : Stream) → at_session streams n ≡ None → StandsOnce n (insert_entry nat_cmp streams n stream)
opened_once streams n stream none = ap (λ (m : Streams). at_session m n) (insert_removed n streams stream none) ∙ none

pub heard_once : (streams : Streams) (n : ℕ) (stream : Stream) → StandsOnce n streams → StandsOnce n (set_value (is_at (nat_cmp n)) streams stream)
heard_once streams n stream once = ap (λ (m : Streams). at_session m n) (set_removed (is_at (nat_cmp n)) streams stream) ∙ once

pub ended_once : (streams : Streams) (n : ℕ) → StandsOnce n streams → StandsOnce n (remove_entry (is_at (nat_cmp n)) streams)
ended_once streams n once = none_once (is_at (nat_cmp n)) (remove_entry (is_at (nat_cmp n)) streams) once

-- ---- sessions that ascend

none_above : {X : Type 0} (n k : ℕ) (entries : BySession X) → k ≡ n → AllByRecursion (λ y. nat_cmp k y ≡ Less) (keys_of entries) → at_session entries n ≡ None
none_above n k [] same above = refl
none_above n k (e ∷ es) same above =
    let other : is_at (nat_cmp n) e.0 ≡ false = ap is_eq (subst (λ (m : ℕ). nat_cmp m e.0 ≡ Less) same above.0) in
    rw other (none_above n k es same above.1)

ascend_once : {X : Type 0} (entries : BySession X) (n : ℕ) → IsStrictlySortedBy nat_cmp (keys_of entries) → at_session (remove_entry (is_at (nat_cmp n)) entries) n ≡ None
unfolding IsStrictlySortedBy
ascend_once [] n up = refl
ascend_once {X} (e ∷ es) n up = by_test (is_at (nat_cmp n) e.0) refl (ascend_once es n up.1)
  where
    by_test : (b : Bool) → is_at (nat_cmp n) e.0 ≡ b → at_session (remove_entry (is_at (nat_cmp n)) es) n ≡ None → at_session (cond b es (e ∷ remove_entry (is_at (nat_cmp n)) es)) n ≡ None
    by_test true is next = none_above n e.0 es (sym (same_number n e.0 is)) up.0
    by_test false is next = rw is next

pub fresh_once : (sessions : BySession Remainder) (n : ℕ) → IsStrictlySortedBy nat_cmp (keys_of sessions) → StandsOnce n (each unanswered sessions)
fresh_once sessions n up =
    let q : ℕ → Bool = is_at (nat_cmp n) in
    ap (λ (m : Streams). at_session m n) (remove_each unanswered q sessions) ∙ lookup_each unanswered q (remove_entry q sessions) ∙ ap (option_map unanswered) (ascend_once sessions n up)
