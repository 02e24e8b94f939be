-- The looks for one name and epoch, gone through from a place down and up.
use Rattle.std.proofs.Common.{◌≡◌, ◌≢◌, ◌↔◌, inl, inr, ℕ, zero, suc, ◌<◌, ◌≤◌, List, [], ◌∷◌, ◌++◌, append_assoc, slice_get, Global, Vec, Option, Some, None, option_map, MatchOption, Bool, true, false, IsTrue, refl, sym, ap, subst, ◌∙◌, arith}
use Rattle.std.specs.declared.rc.Rc.{Rc}
use Rattle.std.specs.List.{AllByRecursion}
use Rattle.std.specs.List.Sorted.{IsStrictlySortedBy}
use Rattle.std.specs.Map.{keys_of}
use Rattle.std.proofs.lemmas.Bool.{cases_lt}
use Rattle.std.proofs.lemmas.List.{append-nil}
use Rattle.encoding.specs.declared.bound_key.BoundKey.{BoundKey}
use Rattle.proofs.specs.Accepts.{stated}
use Rattle.proofs.specs.Replies.{Reply, SpellsReply}
use Rattle.client.specs.Agreements.{AllState, AllStateBelow, AreBeside, IsFirstOther, LookStates, SpellsOne}
use Rattle.client.specs.Clients.{Look}
use Rattle.client.specs.Numbered.{AreNumbered, all_numbered}
use Rattle.client.specs.declared.looks.LookPlace.{LookPlace}
use Rattle.client.proofs.Groups.{below-number, below_of, beside-below, beside-from, cmp_place, filter-sorted, from-filter, from_of, in-filter, in-parts, in-second, later-number, none-above, none-below, of-each, sorted, sorted-end, sorted-front, AreGone, AreSorted, Entries, IsIn}
use Rattle.client.proofs.Seen.{seen, stored}

abbrev pub items_of : Rc (Vec ℕ Global) Global → List ℕ
items_of reply = reply.value.items

pub spelled-at : (ls : List Look) → AllByRecursion (λ look. SpellsOne look.reply) ls → (n : ℕ) (look : Look) → slice_get ls n ≡ Some look → SpellsOne look.reply
spelled-at [] all n look at = absurd cc
spelled-at (l ∷ ls) all zero look at = let same : l ≡ look = cc in subst (λ (x : Look). SpellsOne x.reply) same all.0
spelled-at (l ∷ ls) all (suc n) look at = spelled-at ls all.1 n look at

module _ {X : Type 0} (bytes : X → List ℕ) where
  abbrev pub look_of : LookPlace × X → Look
  look_of e = record { name = e.0.asked.name.items; epoch = e.0.asked.epoch; reply = bytes e.1 }

  -- these are the looks, in the order of their places
  pub record AreAll (looks : List Look) (entries : Entries X) : Type 0 where
    pub sorted : AreSorted entries
    pub seen : (e : LookPlace × X) → IsIn entries e → slice_get looks e.0.number ≡ Some (look_of e)
    pub whole : (n : ℕ) (look : Look) → slice_get looks n ≡ Some look → (e : LookPlace × X) × IsIn entries e × (e.0.number ≡ n) × (look_of e ≡ look)

  pub all-are : (entries : Entries X) → AreNumbered (λ p. p.number) entries → IsStrictlySortedBy cmp_place (keys_of entries) → AreAll (all_numbered (λ p. p.number) look_of entries) entries
  all-are entries numbered ordered = record {
    sorted = sorted entries ordered;
    seen = λ e is. seen (λ p. p.number) look_of entries numbered e is;
    whole = λ n look at. let s = stored (λ p. p.number) look_of entries numbered n look at in (s.entry, s.in_entries, s.numbered_so, s.same);
  }

  abbrev pub States : Option BoundKey → LookPlace × X → Type 0
  States told e = (read : Reply) → SpellsReply (bytes e.1) read → stated read.end ≡ told

  module _ (looks : List Look) (place : LookPlace) (told : Option BoundKey) (spelled : AllByRecursion (λ look. SpellsOne look.reply) looks) (entries : Entries X) (all : AreAll looks entries) where
    pub spells : (e : LookPlace × X) → IsIn entries e → SpellsOne (bytes e.1)
    spells e is = spelled-at looks spelled e.0.number (look_of e) (all.seen e is)

    look-states : (e : LookPlace × X) (look : Look) → IsIn entries e → look_of e ≡ look → States told e → LookStates look told
    look-states e look is same states =
        let s = spells e is in
        subst (λ (l : Look). LookStates l told) same (s.0, s.1, states s.0 s.1)

    -- the entry of a look for the name and epoch
    pub record IsEntry (n : ℕ) (look : Look) : Type 0 where
      pub entry : LookPlace × X
      pub there : IsIn entries entry
      pub numbered : entry.0.number ≡ n
      pub same : look_of entry ≡ look
      pub beside : AreBeside place entry.0

    entry-of : (n : ℕ) (look : Look) → slice_get looks n ≡ Some look → look.name ≡ place.asked.name.items → look.epoch ≡ place.asked.epoch → IsEntry n look
    entry-of n look at named of_epoch =
        let w = all.whole n look at in record {
          entry = w.0;
          there = w.1;
          numbered = w.2;
          same = w.3;
          beside = (ap (λ (l : Look). l.name) w.3 ∙ named, ap (λ (l : Look). l.epoch) w.3 ∙ of_epoch);
        }

    in-below : (n : ℕ) (look : Look) (w : IsEntry n look) → n < place.number → IsIn (below_of place entries) w.entry
    in-below n look w low = in-filter _ entries w.entry w.there (beside-below place w.entry.0 w.beside (let same = w.numbered in omega (arith, same, low)))

    in-from : (n : ℕ) (look : Look) (w : IsEntry n look) → place.number ≤ n → IsIn (from_of place entries) w.entry
    in-from n look w high = in-filter _ entries w.entry w.there (beside-from place w.entry.0 w.beside (let same = w.numbered in omega (arith, same, high)))

    -- an entry beside the place whose reply does not state this
    pub record IsOther (e : LookPlace × X) (reply : List ℕ) : Type 0 where
      pub beside : AreBeside place e.0
      pub there : IsIn entries e
      pub is : bytes e.1 ≡ reply
      pub other : ¬ LookStates (look_of e) told

    -- is the first, if those before it state this
    first : (e : LookPlace × X) (reply : List ℕ) → IsOther e reply
        → ((n : ℕ) (earlier : Look) → n < e.0.number → (w : IsEntry n earlier) → LookStates earlier told)
        → IsFirstOther looks place.asked.name.items place.asked.epoch told reply
    first e reply of before = record {
      number = e.0.number;
      look = look_of e;
      at = all.seen e of.there;
      named = of.beside.0;
      of_epoch = of.beside.1;
      is = of.is;
      other = of.other;
      before = λ n earlier low at named of_epoch. before n earlier low (entry-of n earlier at named of_epoch);
    }

    pub does-not : (e : LookPlace × X) → IsIn entries e → AreBeside place e.0 → (answer : Bool) → answer ≡ false → ((read : Reply) → SpellsReply (bytes e.1) read → IsTrue answer ↔ (stated read.end ≡ told)) → IsOther e (bytes e.1)
    does-not e there beside answer fails test = record {
      beside = beside;
      there = there;
      is = refl;
      other = λ states. let holds : answer ≡ true = (test states.0 states.1).1 states.2 in absurd cc;
    }

    -- where one of two entries beside the place comes later, it has the greater number
    not-later : (n : ℕ) (look : Look) (x : LookPlace × X) (rest : Entries X) (w : IsEntry n look) → AreSorted (x ∷ rest) → AreBeside place x.0 → n < x.0.number → ¬ IsIn rest w.entry
    not-later n look x rest w is beside low later =
        let above : x.0.number < w.entry.0.number = later-number place x w.entry rest is later beside w.beside in
        let same = w.numbered in
        omega (arith, above, same, low)

    not-own : (n : ℕ) (look : Look) (x : LookPlace × X) (w : IsEntry n look) → n < x.0.number → x ≢ w.entry
    not-own n look x w low own =
        let same : x.0.number ≡ n = ap (λ (e : LookPlace × X). e.0.number) own ∙ w.numbered in
        omega (arith, same, low)

    -- ---- down

    -- what was found among those that were gone through: the first of them that does not state this
    abbrev pub IsFound : Entries X → Option (List ℕ) → Type 0
    IsFound done None = AllByRecursion (States told) done
    IsFound done (Some reply) = (before : Entries X) × (e : LookPlace × X) × (after : Entries X) × (before ++ e ∷ after ≡ done) × IsOther e reply × AllByRecursion (States told) before

    pub record IsGoneDown (rest : Entries X) (found : Option (List ℕ)) : Type 0 where
      pub done : Entries X
      pub parts : rest ++ done ≡ below_of place entries
      pub found_in : IsFound done found

    pub down-begun : (rest : Entries X) → rest ≡ below_of place entries → IsGoneDown rest None
    down-begun rest same = record { done = []; parts = append-nil rest ∙ same; found_in = tt }

    abbrev pub NoneBeside : Entries X → Type 0
    NoneBeside rest = (e : LookPlace × X) → IsIn rest e → ¬ AreBeside place e.0

    pub none-left : NoneBeside []
    none-left = λ e is. absurd is

    module _ (x : LookPlace × X) (more rest : Entries X) (found : Option (List ℕ)) (gone : IsGoneDown rest found) (is : rest ≡ more ++ x ∷ []) where
      down-parts : more ++ (x ∷ gone.done) ≡ below_of place entries
      down-parts = sym (append_assoc more (x ∷ []) gone.done) ∙ ap (λ (es : Entries X). es ++ gone.done) (sym is) ∙ gone.parts

      down-in : IsIn (below_of place entries) x
      down-in = subst (λ (es : Entries X). IsIn es x) down-parts (in-second more (x ∷ gone.done) x (inl refl))

      pub down-here : IsIn entries x
      down-here = (from-filter _ entries x down-in).0

      pub down-stated : States told x → IsGoneDown more found
      down-stated states = record { done = x ∷ gone.done; parts = down-parts; found_in = by found gone.found_in }
        where
          by : (f : Option (List ℕ)) → IsFound gone.done f → IsFound (x ∷ gone.done) f
          by None all = (states, all)
          by (Some reply) at = (x ∷ at.0, at.1, at.2, ap (λ (es : Entries X). x ∷ es) at.3, at.4, (states, at.5))

      pub down-found : (reply : List ℕ) → IsOther x reply → IsGoneDown more (Some reply)
      down-found reply of = record { done = x ∷ gone.done; parts = down-parts; found_in = ([], x, gone.done, refl, of, tt) }

      pub down-stops : ¬ AreBeside place x.0 → NoneBeside rest
      down-stops apart = λ e in-rest beside.
          let sorted-all : AreSorted (rest ++ gone.done) = subst AreSorted (sym gone.parts) (filter-sorted _ entries all.sorted) in
          let sorted-rest : AreSorted (more ++ x ∷ []) = subst AreSorted is (sorted-front rest gone.done sorted-all) in
          elim (in-parts more (x ∷ []) e (subst (λ (es : Entries X). IsIn es e) is in-rest)) [
            | inl earlier ↦ none-below place x more sorted-rest (from-filter _ entries x down-in).1 apart e earlier beside
            | inr own ↦ elim own [ inl same ↦ apart (subst (λ (y : LookPlace × X). AreBeside place y.0) (sym same) beside) | inr never ↦ absurd never ]
          ]

    module _ (rest : Entries X) (apart : NoneBeside rest) where
      in-done : (done : Entries X) → rest ++ done ≡ below_of place entries → (n : ℕ) (look : Look) (w : IsEntry n look) → n < place.number → IsIn done w.entry
      in-done done parts n look w low = elim (in-parts rest done w.entry (subst (λ (es : Entries X). IsIn es w.entry) (sym parts) (in-below n look w low))) [
        | inl still ↦ absurd (apart w.entry still w.beside)
        | inr gone ↦ gone
      ]

      pub none-found : IsGoneDown rest None → AllStateBelow looks place.asked.name.items place.asked.epoch told place.number
      none-found gone = λ n look low at named of_epoch.
          let w = entry-of n look at named of_epoch in
          look-states w.entry look w.there w.same (of-each _ gone.done w.entry gone.found_in (in-done gone.done gone.parts n look w low))

      pub one-found : (reply : List ℕ) → IsGoneDown rest (Some reply) → IsFirstOther looks place.asked.name.items place.asked.epoch told reply
      one-found reply gone =
          let at = gone.found_in in
          let x = at.1 in
          let x-done : IsIn gone.done x = subst (λ (es : Entries X). IsIn es x) at.3 (in-second at.0 (x ∷ at.2) x (inl refl)) in
          let x-low : IsIn (below_of place entries) x = subst (λ (es : Entries X). IsIn es x) gone.parts (in-second rest gone.done x x-done) in
          let number : x.0.number < place.number = below-number place x.0 at.4.beside (from-filter _ entries x x-low).1 in
          let sorted-all : AreSorted (rest ++ gone.done) = subst AreSorted (sym gone.parts) (filter-sorted _ entries all.sorted) in
          let sorted-done : AreSorted (at.0 ++ x ∷ at.2) = subst AreSorted (sym at.3) (sorted-end rest gone.done sorted-all) in
          first x reply at.4 (λ n earlier low w.
          let there = in-done gone.done gone.parts n earlier w (omega (arith, low, number)) in
          elim (in-parts at.0 (x ∷ at.2) w.entry (subst (λ (es : Entries X). IsIn es w.entry) (sym at.3) there)) [
            | inl before ↦ look-states w.entry earlier w.there w.same (of-each _ at.0 w.entry at.5 before)
            | inr from ↦ elim from [
              | inl own ↦ absurd (not-own n earlier x w low own)
              | inr later ↦ absurd (not-later n earlier x at.2 w (sorted-end at.0 (x ∷ at.2) sorted-done) at.4.beside low later)
            ]
          ])

      pub answer-below : {R : Type 0} (now : R → List ℕ) (found : Option R) → IsGoneDown rest (option_map now found)
          → MatchOption found (AllStateBelow looks place.asked.name.items place.asked.epoch told place.number) (λ r. IsFirstOther looks place.asked.name.items place.asked.epoch told (now r))
      answer-below now None gone = none-found gone
      answer-below now (Some r) gone = one-found (now r) gone

    -- ---- up

    module _ (below : AllStateBelow looks place.asked.name.items place.asked.epoch told place.number) where
      pub all-state : (rest : Entries X) → NoneBeside rest → AreGone (States told) (from_of place entries) rest → AllState looks place.asked.name.items place.asked.epoch told
      all-state rest apart gone = λ n look at named of_epoch. elim (cases_lt n place.number) [
        | inl low ↦ below n look low at named of_epoch
        | inr high ↦
            let w = entry-of n look at named of_epoch in
            elim (in-parts gone.done rest w.entry (subst (λ (es : Entries X). IsIn es w.entry) (sym gone.parts) (in-from n look w high))) [
              | inl done ↦ look-states w.entry look w.there w.same (of-each _ gone.done w.entry gone.each done)
              | inr still ↦ absurd (apart w.entry still w.beside)
            ]
      ]

      module _ (x : LookPlace × X) (more rest : Entries X) (gone : AreGone (States told) (from_of place entries) rest) (is : rest ≡ x ∷ more) where
        up-in : IsIn (from_of place entries) x
        up-in = subst (λ (es : Entries X). IsIn es x) gone.parts (in-second gone.done rest x (subst (λ (es : Entries X). IsIn es x) (sym is) (inl refl)))

        sorted-rest : AreSorted (x ∷ more)
        sorted-rest = subst AreSorted is (sorted-end gone.done rest (subst AreSorted (sym gone.parts) (filter-sorted _ entries all.sorted)))

        pub up-here : IsIn entries x
        up-here = (from-filter _ entries x up-in).0

        pub up-stops : ¬ AreBeside place x.0 → NoneBeside rest
        up-stops apart = λ e in-rest. none-above place x more sorted-rest (from-filter _ entries x up-in).1 apart e (subst (λ (es : Entries X). IsIn es e) is in-rest)

        pub up-found : (reply : List ℕ) → IsOther x reply → IsFirstOther looks place.asked.name.items place.asked.epoch told reply
        up-found reply of = first x reply of (λ n earlier low w. elim (cases_lt n place.number) [
          | inl under ↦ subst (λ (l : Look). LookStates l told) w.same (below n (look_of w.entry) under (subst (λ (m : ℕ). slice_get looks m ≡ Some (look_of w.entry)) w.numbered (all.seen w.entry w.there)) w.beside.0 w.beside.1)
          | inr high ↦ elim (in-parts gone.done rest w.entry (subst (λ (es : Entries X). IsIn es w.entry) (sym gone.parts) (in-from n earlier w high))) [
            | inl done ↦ look-states w.entry earlier w.there w.same (of-each _ gone.done w.entry gone.each done)
            | inr there ↦ elim (subst (λ (es : Entries X). IsIn es w.entry) is there) [
              | inl own ↦ absurd (not-own n earlier x w low own)
              | inr later ↦ absurd (not-later n earlier x more w sorted-rest of.beside low later)
            ]
          ]
        ])
