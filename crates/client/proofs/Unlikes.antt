-- All looks of one client, gone through for the first that has an unlike partner.
use Rattle.std.proofs.Common.{◌≡◌, ◌⊎◌, inl, inr, ℕ, ◌<◌, List, [], ◌∷◌, ◌++◌, append_assoc, length, slice_get, Option, Some, None, Contains, IsSomeAnd, MatchOption, refl, sym, ap, subst, ◌∙◌, arith}
use Rattle.std.specs.List.{AllByRecursion}
use Rattle.std.proofs.lemmas.Bool.{cases_lt}
use Rattle.std.proofs.lemmas.List.{append-nil}
use Rattle.std.proofs.lemmas.Option.{get_or_from_slice_get, slice_get_read, slice_get_within}
use Rattle.proofs.specs.Accepts.{stated}
use Rattle.proofs.specs.Replies.{Reply, SpellsReply}
use Rattle.proofs.proofs.Passing.{one_reply}
use Rattle.client.specs.Agreements.{AllState, AreFirstUnlike, AreOfOne, HaveOneStatement, IsFirstOther, LooksAgree, SpellsOne}
use Rattle.client.specs.Clients.{Look}
use Rattle.client.specs.declared.looks.LookPlace.{LookPlace}
use Rattle.client.specs.declared.looks.comparing.Unlike.{Unlike}
use Rattle.client.proofs.Groups.{Entries, IsIn, in-second, of-each}
use Rattle.client.proofs.Keeping.{one-more}
use Rattle.client.proofs.Others.{look_of, spelled-at, AreAll}

-- where an element stands
pub at-place : {X : Type 0} (xs : List X) (x : X) (has : Contains xs x) → slice_get xs has.0 ≡ Some x
at-place xs x has = slice_get_read xs (length xs) has.0 x refl has.1 (sym has.2)

pub is-among : {X : Type 0} (xs : List X) (k : ℕ) (x : X) → slice_get xs k ≡ Some x → Contains xs x
is-among xs k x at = (k, slice_get_within xs k x at, get_or_from_slice_get xs k x x at)

-- two looks as they were found, without where they lie
pub record Found : Type 0 where
  pub number : ℕ
  pub name : List ℕ
  pub one : List ℕ
  pub other : List ℕ

abbrev pub found_of : Option Unlike → Option Found
found_of None = None
found_of (Some unlike) = Some (record { number = unlike.number; name = unlike.name.now; one = unlike.one.now; other = unlike.other.now })

pub not-before : (found : Option Unlike) (n : ℕ) → ¬ IsSomeAnd found (λ u. u.number < n) → ¬ IsSomeAnd (found_of found) (λ u. u.number < n)
not-before None n apart = apart
not-before (Some u) n apart = apart

pub is-before : (found : Option Unlike) (n : ℕ) → IsSomeAnd found (λ u. u.number < n) → IsSomeAnd (found_of found) (λ u. u.number < n)
is-before None n is = is
is-before (Some u) n is = is

module _ {X : Type 0} (bytes : X → List ℕ) where
  abbrev Entry : Type 0
  Entry = LookPlace × X

  module _ (others : List Look) where
    -- each partner states the same
    abbrev pub HasNone : LookPlace × X → Type 0
    HasNone e = (read : Reply) → SpellsReply (bytes e.1) read → AllState others e.0.asked.name.items e.0.asked.epoch (stated read.end)

    pub record IsOf (e : LookPlace × X) (found : Found) : Type 0 where
      pub number : found.number ≡ e.0.number
      pub name : found.name ≡ e.0.asked.name.items
      pub one : found.one ≡ bytes e.1
      pub other : (read : Reply) → SpellsReply (bytes e.1) read → IsFirstOther others e.0.asked.name.items e.0.asked.epoch (stated read.end) found.other

    -- what was found among these is the least
    abbrev pub IsLeast : Entries X → Option Found → Type 0
    IsLeast done None = AllByRecursion HasNone done
    IsLeast done (Some found) = (e : LookPlace × X) × IsIn done e × IsOf e found × AllByRecursion (λ x. x.0.number < found.number → HasNone x) done

    pub record IsLeastSoFar (entries rest : Entries X) (found : Option Found) : Type 0 where
      pub done : Entries X
      pub parts : done ++ rest ≡ entries
      pub least : IsLeast done found

    module _ (entries rest more : Entries X) (x : LookPlace × X) (found : Option Found) (before : IsLeastSoFar entries rest found) (is : rest ≡ x ∷ more) where
      parts : (before.done ++ x ∷ []) ++ more ≡ entries
      parts = append_assoc before.done (x ∷ []) more ∙ ap (λ (es : Entries X). before.done ++ es) (sym is) ∙ before.parts

      pub there : IsIn entries x
      there = subst (λ (es : Entries X). IsIn es x) before.parts (in-second before.done rest x (subst (λ (es : Entries X). IsIn es x) (sym is) (inl refl)))

      in-more : (done : Entries X) (e : LookPlace × X) → IsIn done e → IsIn (done ++ x ∷ []) e
      in-more [] e is = absurd is
      in-more (d ∷ done) e (inl same) = inl same
      in-more (d ∷ done) e (inr there) = inr (in-more done e there)

      stays : (f : Option Found) → IsLeast before.done f → (HasNone x ⊎ IsSomeAnd f (λ u. u.number < x.0.number)) → IsLeast (before.done ++ x ∷ []) f
      stays None least (inl none) = one-more _ before.done x least none
      stays None least (inr never) = absurd never
      stays (Some u) least (inl none) = (least.0, in-more before.done least.0 least.1, least.2, one-more _ before.done x least.3 (λ low. none))
      stays (Some u) least (inr above) = (least.0, in-more before.done least.0 least.1, least.2, one-more _ before.done x least.3 (λ low. absurd (omega (arith, low, above))))

      pub passed : (HasNone x ⊎ IsSomeAnd found (λ u. u.number < x.0.number)) → IsLeastSoFar entries more found
      passed why = record { done = before.done ++ x ∷ []; parts = parts; least = stays found before.least why }

      weaker : (u : Found) → IsOf x u → (f : Option Found) → IsLeast before.done f → ¬ IsSomeAnd f (λ v. v.number < x.0.number) → (done : Entries X) → (f ≡ None → AllByRecursion HasNone done)
          → ((v : Found) → f ≡ Some v → AllByRecursion (λ y. y.0.number < v.number → HasNone y) done) → AllByRecursion (λ y. y.0.number < u.number → HasNone y) done
      weaker u of f least apart [] none some = tt
      weaker u of None least apart (d ∷ done) none some = (λ low. (none refl).0, weaker u of None least apart done (λ e. (none e).1) (λ v e. absurd cc))
      weaker u of (Some v) least apart (d ∷ done) none some = (
        λ low. (some v refl).0 (elim (cases_lt d.0.number v.number) [ inl below ↦ below | inr above ↦ absurd (apart (let at = of.number in omega (arith, at, low, above))) ]),
        weaker u of (Some v) least apart done (λ e. absurd cc) (λ w e. (some w e).1),
      )

      nones : (f : Option Found) → IsLeast before.done f → f ≡ None → AllByRecursion HasNone before.done
      nones None least e = least
      nones (Some v) least e = absurd cc

      somes : (f : Option Found) → IsLeast before.done f → (v : Found) → f ≡ Some v → AllByRecursion (λ y. y.0.number < v.number → HasNone y) before.done
      somes None least v e = absurd cc
      somes (Some w) least v e = let same : w ≡ v = cc in subst (λ (u : Found). AllByRecursion (λ y. y.0.number < u.number → HasNone y) before.done) same least.3

      pub taken : (u : Found) → IsOf x u → ¬ IsSomeAnd found (λ v. v.number < x.0.number) → IsLeastSoFar entries more (Some u)
      taken u of apart = record {
        done = before.done ++ x ∷ [];
        parts = parts;
        least = (
          x,
          in-second before.done (x ∷ []) x (inl refl),
          of,
          one-more _ before.done x (weaker u of found before.least apart before.done (nones found before.least) (somes found before.least)) (λ low. absurd (let at = of.number in omega (arith, at, low))),
        );
      }

    module _ (looks : List Look) (entries : Entries X) (all : AreAll bytes looks entries) (spelled : AllByRecursion (λ look. SpellsOne look.reply) looks) where
      -- a look without an unlike partner has one statement with each
      agrees : (i j : ℕ) (look also : Look) → slice_get looks i ≡ Some look → slice_get others j ≡ Some also → AreOfOne look also → (e : LookPlace × X) → look_of bytes e ≡ look → HasNone e → HaveOneStatement look also
      agrees i j look also at-one at-other of_one e same none =
          let spells = spelled-at looks spelled i look at-one in
          let bytes-same : look.reply ≡ bytes e.1 = ap (λ (l : Look). l.reply) (sym same) in
          let own : SpellsReply (bytes e.1) spells.0 = subst (λ (b : List ℕ). SpellsReply b spells.0) bytes-same spells.1 in
          let name : also.name ≡ e.0.asked.name.items = sym of_one.0 ∙ ap (λ (l : Look). l.name) (sym same) in
          let epoch : also.epoch ≡ e.0.asked.epoch = sym of_one.1 ∙ ap (λ (l : Look). l.epoch) (sym same) in
          (stated spells.0.end, (spells.0, spells.1, refl), none spells.0 own j also at-other name epoch)

      pub agree : IsLeastSoFar entries [] None → LooksAgree looks others
      agree gone = λ look also has-one has-other of_one.
          let i = has-one.0 in
          let j = has-other.0 in
          let at-one : slice_get looks i ≡ Some look = at-place looks look has-one in
          let at-other : slice_get others j ≡ Some also = at-place others also has-other in
          let w = all.whole i look at-one in
          let done : IsIn gone.done w.0 = subst (λ (es : Entries X). IsIn es w.0) (sym gone.parts ∙ append-nil gone.done) w.1 in
          agrees i j look also at-one at-other of_one w.0 w.3 (of-each _ gone.done w.0 gone.least done)

      pub record AreTold (found : Found) : Type 0 where
        pub look : Look
        pub also : Look
        pub first : AreFirstUnlike looks others look also
        pub name : found.name ≡ look.name
        pub one : found.one ≡ look.reply
        pub other : found.other ≡ also.reply

      pub told : (found : Found) → IsLeastSoFar entries [] (Some found) → AreTold found
      told found gone =
          let whole-done : gone.done ≡ entries = sym (append-nil gone.done) ∙ gone.parts in
          let e = gone.least.0 in
          let of = gone.least.2 in
          let in_entries : IsIn entries e = subst (λ (es : Entries X). IsIn es e) whole-done gone.least.1 in
          let at-one = all.seen e in_entries in
          let spells = spelled-at looks spelled e.0.number (look_of bytes e) at-one in
          let f = of.other spells.0 spells.1 in
          record {
            look = look_of bytes e;
            also = f.look;
            first = record {
              i = e.0.number;
              j = f.number;
              at-one = at-one;
              at-other = f.at;
              unlike = (
                (sym f.named, sym f.of_epoch),
                λ one.
                    let read : one.1.0 ≡ spells.0 = one_reply (bytes e.1) one.1.0 spells.0 one.1.1 spells.1 in
                    let same : stated spells.0.end ≡ one.0 = ap (λ (r : Reply). stated r.end) (sym read) ∙ one.1.2 in
                    f.other (one.2.0, one.2.1, one.2.2 ∙ sym same),
              );
              before = λ k l x y at-k at-l of_one earlier.
                  elim earlier [
                    | inl low ↦
                        let w = all.whole k x at-k in
                        let done : IsIn gone.done w.0 = subst (λ (es : Entries X). IsIn es w.0) (sym whole-done) w.1 in
                        let below : w.0.0.number < found.number = (let a = of.number in let b = w.2 in omega (arith, a, b, low)) in
                        agrees k l x y at-k at-l of_one w.0 w.3 (of-each _ gone.done w.0 gone.least.3 done below)
                    | inr same ↦
                        let own : slice_get looks e.0.number ≡ Some x = subst (λ (n : ℕ). slice_get looks n ≡ Some x) same.0 at-k in
                        let both : Some (look_of bytes e) ≡ Some x = sym at-one ∙ own in
                        let is : look_of bytes e ≡ x = cc in
                        let name : y.name ≡ e.0.asked.name.items = sym of_one.0 ∙ ap (λ (v : Look). v.name) (sym is) in
                        let epoch : y.epoch ≡ e.0.asked.epoch = sym of_one.1 ∙ ap (λ (v : Look). v.epoch) (sym is) in
                        let states = f.before l y same.1 at-l name epoch in
                        subst (λ (v : Look). HaveOneStatement v y) is (stated spells.0.end, (spells.0, spells.1, refl), states)
                  ];
            };
            name = of.name;
            one = of.one;
            other = sym f.is;
          }

      pub answer : (found : Option Unlike) → IsLeastSoFar entries [] (found_of found) → MatchOption found (LooksAgree looks others)
          (λ unlike. (look also : Look) × AreFirstUnlike looks others look also × (unlike.name.now ≡ look.name) × (unlike.one.now ≡ look.reply) × (unlike.other.now ≡ also.reply))
      answer None gone = agree gone
      answer (Some unlike) gone =
          let t = told (record { number = unlike.number; name = unlike.name.now; one = unlike.one.now; other = unlike.other.now }) gone in
          (t.look, t.also, t.first, t.name, t.one, t.other)
