-- Which promises a memory has as the owner's own once it learned more.
use Rattle.std.proofs.Common.{◌≡◌, ◌∙◌, ◌⊎◌, ℕ, ◌||◌, Bool, true, false, List, [], ◌∷◌, ◌++◌, drop, map, Any, Contains, Option, ap, append-nil, arith, inl, inr, refl, subst, sym}
use Rattle.std.specs.List.{AllByRecursion}
use Rattle.std.proofs.lemmas.List.Elements.{Contains-append_cases, Contains-append_left, Contains-append_right}
use Rattle.rootchain.specs.Promises.{IsSignedPromise}
use Rattle.rootchain.specs.declared.signed_promise.SignedPromise.{SignedPromise}
use Rattle.monitor.specs.Monitors.{Monitor}
use Rattle.memory.specs.Learning.{promised_item, BeginsOne, Each, EachOfSome, IsOfKind, LearnsLine, LearnsOne, MarksOne}
use Rattle.memory.specs.Leaving.{IsNeeded, Leaves}
use Rattle.memory.specs.Lists.{IsLeft}
use Rattle.memory.specs.Memories.{Memory}
use Rattle.memory.specs.Taking.{either, Takes}
use Rattle.memory.specs.Watching.{IsAwaited}
use Rattle.memory.specs.declared.item.Item.{Item}
use Rattle.memory.specs.declared.item.Item.TheVariants.{Promised, Watched, Final, Alarm, Evidence}
use Rattle.memory.specs.declared.kind.Kind.{Kind}
use Rattle.memory.specs.declared.mark.Mark.{Mark}
use Rattle.memory.specs.declared.kind.Kind.TheVariants.{Alarms, EvidenceLines}
use Rattle.memory.specs.declared.promised.Promised.{Promised as PromisedMade}
use Rattle.runs.specs.Saves.{IsAskedChange, IsOwnPromise, WasOwn}
use Rattle.runs.specs.Standing.{AddsNoOwn, AddsOwn, AreAsked, AreLate, Fits}
use Rattle.runs.proofs.Adding.{all-self, drop-among}
use Rattle.runs.proofs.PutMarks.{cons-cases, cons-front}
use Rattle.runs.proofs.Stood.{all-in, OwnAsked}
use Rattle.runs.proofs.ToldScenes.{all-map}

-- ---- what learns no promise

each-promises : {X : Type 0} (Does : X → Memory → List Item → Memory → Type 0) → ((x : X) (before after : Memory) (news : List Item) → Does x before news after → after.promises ≡ before.promises)
    → (xs : List X) (before after : Memory) (news : List Item) → Each Does xs before news after → after.promises ≡ before.promises
each-promises Does same [] before after news (none, is) = ap (λ (m : Memory). m.promises) is
each-promises Does same (x ∷ xs) before after news (first, middle, rest, does, each, is) = each-promises Does same xs middle after rest each ∙ same x before middle first does

item-promises : (kind : Kind) (item : Item) (before after : Memory) → IsOfKind kind item → Takes item before after → after.promises ≡ before.promises
item-promises Alarms (Promised promised) before after of takes = absurd of
item-promises Alarms (Watched mark) before after of takes = absurd of
item-promises Alarms (Final seen) before after of takes = absurd of
item-promises Alarms (Alarm alarm) before after of (puts, is) = ap (λ (m : Memory). m.promises) is
item-promises Alarms (Evidence line) before after of takes = absurd of
item-promises EvidenceLines (Promised promised) before after of takes = absurd of
item-promises EvidenceLines (Watched mark) before after of takes = absurd of
item-promises EvidenceLines (Final seen) before after of takes = absurd of
item-promises EvidenceLines (Alarm alarm) before after of takes = absurd of
item-promises EvidenceLines (Evidence line) before after of (puts, is) = ap (λ (m : Memory). m.promises) is

line-promises : (kind : Kind) (line : List ℕ) (before after : Memory) (news : List Item) → LearnsLine kind line before news after → after.promises ≡ before.promises
line-promises kind line before after news (inl (item, is, of, (takes, changes))) = item-promises kind item before after of takes
line-promises kind line before after news (inr (none, nothing, same)) = ap (λ (m : Memory). m.promises) same

pub lines-promises : (kind : Kind) (lines : List (List ℕ)) (before after : Memory) (news : List Item) → Each (LearnsLine kind) lines before news after → after.promises ≡ before.promises
lines-promises kind lines before after news each = each-promises (LearnsLine kind) (line-promises kind) lines before after news each

pub some-lines-promises : (kind : Kind) (lines : List (List ℕ)) (before after : Memory) → EachOfSome (LearnsLine kind) lines before after → after.promises ≡ before.promises
some-lines-promises kind lines before after (done, left, news, parts, each) = lines-promises kind done before after news each

begins-promises : (monitor : Monitor) (before after : Memory) (news : List Item) → BeginsOne monitor before news after → after.promises ≡ before.promises
begins-promises monitor before after news (inl (none, (epoch, behind, ((puts, is), changes)))) = ap (λ (m : Memory). m.promises) is
begins-promises monitor before after news (inr (has, none, same)) = ap (λ (m : Memory). m.promises) same

pub begun-promises : (begun : List Monitor) (before after : Memory) (news : List Item) → Each BeginsOne begun before news after → after.promises ≡ before.promises
begun-promises begun before after news each = each-promises BeginsOne begins-promises begun before after news each

pub some-begun-promises : (begun : List Monitor) (before after : Memory) → EachOfSome BeginsOne begun before after → after.promises ≡ before.promises
some-begun-promises begun before after (done, left, news, parts, each) = begun-promises done before after news each

marks-promises : (monitors : List Monitor) (monitor : Monitor) (before after : Memory) (news : List Item) → MarksOne monitors monitor before news after → after.promises ≡ before.promises
marks-promises monitors monitor before after news (inl (mark, is, ((puts, same), changes))) = ap (λ (m : Memory). m.promises) same
marks-promises monitors monitor before after news (inr (none, nothing, same)) = ap (λ (m : Memory). m.promises) same

pub moved-promises : (monitors some : List Monitor) (before after : Memory) (news : List Item) → Each (MarksOne monitors) some before news after → after.promises ≡ before.promises
moved-promises monitors some before after news each = each-promises (MarksOne monitors) (marks-promises monitors) some before after news each

-- ---- what does

either-own : (kept own : Bool) → kept || own ≡ true → (kept ≡ true) ⊎ (own ≡ true)
either-own true own is = inl refl
either-own false own is = inr is

-- one more is the owner's own, if it is one
pub takes-one : (own : Bool) (one : SignedPromise) (before after : Memory) → Takes (promised_item own one) before after → (signed : SignedPromise) → WasOwn after signed → WasOwn before signed ⊎ ((own ≡ true) × (one ≡ signed))
takes-one own one before after (inl (front, kept, behind, was, same, be), is) signed (promised, has, this, so) =
    elim (Contains-append_cases front (either kept (record { signed = one; is_own = own }) ∷ behind) promised (subst (λ (all : List PromisedMade). Contains all promised) be has)) [
      | inl early ↦ inl (promised, there (Contains-append_left front (kept ∷ behind) promised early), this, so)
      | inr late ↦ elim (cons-cases (either kept (record { signed = one; is_own = own })) promised behind late) [
        | inl at ↦ elim (either-own kept.is_own own (ap (λ (p : PromisedMade). p.is_own) at ∙ so)) [
          | inl old ↦ inl (kept, there (Contains-append_right front (kept ∷ behind) kept (0, omega arith, refl)), ap (λ (p : PromisedMade). p.signed) at ∙ this, old)
          | inr new ↦ inr (new, sym same ∙ ap (λ (p : PromisedMade). p.signed) at ∙ this)
        ]
        | inr more ↦ inl (promised, there (Contains-append_right front (kept ∷ behind) promised (cons-front kept promised behind more)), this, so)
      ]
    ]
  where
    there : {p : PromisedMade} → Contains (front ++ kept ∷ behind) p → Contains before.promises p
    there {p} at = subst (λ (all : List PromisedMade). Contains all p) (sym was) at
takes-one own one before after (inr (none, be), is) signed (promised, has, this, so) =
    elim (Contains-append_cases before.promises (record { signed = one; is_own = own } ∷ []) promised (subst (λ (all : List PromisedMade). Contains all promised) be has)) [
      | inl old ↦ inl (promised, old, this, so)
      | inr last ↦ elim (cons-cases (record { signed = one; is_own = own }) promised [] last) [
        | inl at ↦ inr (ap (λ (p : PromisedMade). p.is_own) at ∙ so, ap (λ (p : PromisedMade). p.signed) at ∙ this)
        | inr none ↦ absurd (omega (arith, none.1))
      ]
    ]

-- each of these items is one of these promises
abbrev AreOf : Bool → List SignedPromise → List Item → Type 0
AreOf own promises items = AllByRecursion (λ (item : Item). (one : SignedPromise) × (item ≡ promised_item own one) × Contains promises one) items

items-own : (own : Bool) (promises : List SignedPromise) (items : List Item) → AreOf own promises items → (before after : Memory) (news : List Item) → Each LearnsOne items before news after
    → (signed : SignedPromise) → WasOwn after signed → WasOwn before signed ⊎ ((own ≡ true) × Contains promises signed)
items-own own promises [] all before after news (none, same) signed was = inl (subst (λ (m : Memory). WasOwn m signed) same was)
items-own own promises (item ∷ items) ((one, of, among), all) before after news (first, middle, rest, learns, each, is) signed was =
    elim (items-own own promises items all middle after rest each signed was) [
      | inl there ↦ elim (takes-one own one before middle (subst (λ (i : Item). Takes i before middle) of learns.0) signed there) [
        | inl old ↦ inl old
        | inr (so, same) ↦ inr (so, subst (λ (s : SignedPromise). Contains promises s) same among)
      ]
      | inr new ↦ inr new
    ]

none-of : {A : Type 0} (x : A) (xs : List A) → [] ≡ x ∷ xs → ⊥
none-of x xs e = cc

front-of : (own : Bool) (promises some : List SignedPromise) (done left : List Item) → map (promised_item own) some ≡ done ++ left → AllByRecursion (Contains promises) some → AreOf own promises done
front-of own promises some [] left parts among = tt
front-of own promises [] (item ∷ done) left parts among = absurd (none-of item (done ++ left) parts)
front-of own promises (one ∷ some) (item ∷ done) left parts among = ((one, sym (same-head parts), among.0), front-of own promises some done left (same-tail parts) among.1)
  where
    same-head : promised_item own one ∷ map (promised_item own) some ≡ item ∷ (done ++ left) → promised_item own one ≡ item
    same-head e = cc

    same-tail : promised_item own one ∷ map (promised_item own) some ≡ item ∷ (done ++ left) → map (promised_item own) some ≡ done ++ left
    same-tail e = cc

pub some-own : (own : Bool) (promises : List SignedPromise) (before after : Memory) → EachOfSome LearnsOne (map (promised_item own) promises) before after
    → (signed : SignedPromise) → WasOwn after signed → WasOwn before signed ⊎ ((own ≡ true) × Contains promises signed)
some-own own promises before after (done, left, news, parts, each) = items-own own promises done (front-of own promises promises done left parts (all-self promises)) before after news each

pub all-own : (own : Bool) (promises : List SignedPromise) (before after : Memory) (news : List Item) → Each LearnsOne (map (promised_item own) promises) before news after
    → (signed : SignedPromise) → WasOwn after signed → WasOwn before signed ⊎ ((own ≡ true) × Contains promises signed)
all-own own promises before after news each = some-own own promises before after (map (promised_item own) promises, [], news, sym (append-nil (map (promised_item own) promises)), each)

not-own : false ≡ true → ⊥
not-own e = cc

-- those for changes are learned first, and then some of others
pub learns-changes : (changes own : List SignedPromise) (count : ℕ) (before after : Memory) → own ≡ drop count changes → EachOfSome LearnsOne (map (promised_item true) own) before after → AddsOwn (drop count changes) before after
learns-changes changes own count before after is learns signed was = elim (some-own true own before after learns signed was) [
  | inl old ↦ inl old
  | inr (so, new) ↦ inr (subst (λ (all : List SignedPromise). Contains all signed) is new)
]

pub learns-others : (changes others : List SignedPromise) (before middle after : Memory) → AddsOwn changes before middle → EachOfSome LearnsOne (map (promised_item false) others) middle after → AddsOwn changes before after
learns-others changes others before middle after adds learns signed was = elim (some-own false others middle after learns signed was) [
  | inl there ↦ adds signed there
  | inr (so, new) ↦ absurd (not-own so)
]

pub whole-of : {X : Type 0} (Does : X → Memory → List Item → Memory → Type 0) (xs : List X) (before after : Memory) (news : List Item) → Each Does xs before news after → EachOfSome Does xs before after
whole-of Does xs before after news each = (xs, [], news, sym (append-nil xs), each)

-- ---- what was asked for

new-among : (changes : List SignedPromise) (count : ℕ) (signed : SignedPromise) → Contains (drop count changes) signed → Contains changes signed
new-among changes count signed new = all-in (Contains changes) (drop count changes) signed (drop-among count changes) new

pub changes-asked : (lines : Option (List (List ℕ))) (start : Memory) (changes : List SignedPromise) (count : ℕ) (before after : Memory) → AreAsked lines start changes → AreLate before (drop count changes) → AddsOwn (drop count changes) before after
    → OwnAsked lines start before after
changes-asked lines start changes count before after asked late adds signed own = elim (adds signed own) [
  | inl old ↦ inl old
  | inr new ↦ inr (
    (all-in (λ (s : SignedPromise). IsSignedPromise s × (WasOwn start s ⊎ IsAskedChange lines s)) changes signed asked (new-among changes count signed new)).1,
    all-in (λ (s : SignedPromise). Fits s.promise.epoch before) (drop count changes) signed late new,
  )
]

pub changes-add : (changes : List SignedPromise) (count : ℕ) (before after : Memory) → AddsOwn (drop count changes) before after → AddsOwn changes before after
changes-add changes count before after adds signed own = elim (adds signed own) [
  | inl old ↦ inl old
  | inr new ↦ inr (new-among changes count signed new)
]

-- where the marks stay, those that are late are
pub late-stays : (known known' : Memory) (changes : List SignedPromise) (count count' : ℕ) → known'.marks ≡ known.marks → count' ≡ count → AreLate known (drop count changes) → AreLate known' (drop count' changes)
late-stays known known' changes count count' same at late = subst (λ (n : ℕ). AreLate known' (drop n changes)) (sym at)
    (all-map (λ (s : SignedPromise). Fits s.promise.epoch known) (λ (s : SignedPromise). Fits s.promise.epoch known') (drop count changes) (λ signed fits mark has. fits mark (subst (λ (ms : List Mark). Contains ms mark) same has)) late)

pub asked-of : (verified : List ℕ → List ℕ → List ℕ → Type 0) (key : List ℕ) (lines : Option (List (List ℕ))) (known : Memory) (promises : List SignedPromise) → AllByRecursion (IsOwnPromise verified key lines known) promises → AreAsked lines known promises
asked-of verified key lines known [] all = tt
asked-of verified key lines known (signed ∷ promises) all = ((all.0.0.0, all.0.1), asked-of verified key lines known promises all.1)

-- and is well formed
pub asked-formed : (lines : Option (List (List ℕ))) (known : Memory) (promises : List SignedPromise) → AreAsked lines known promises → AllByRecursion IsSignedPromise promises
asked-formed lines known [] all = tt
asked-formed lines known (signed ∷ promises) all = (all.0.0, asked-formed lines known promises all.1)

-- ---- what is left

left-among : {A : Type 0} (Stays : A → Type 0) (xs ys : List A) (y : A) → IsLeft Stays xs ys → Contains ys y → Contains xs y
left-among Stays [] ys y none has = absurd (no-element y (subst (λ all. Contains all y) none has))
  where
    no-element : {A : Type 0} (y : A) → Contains [] y → ⊥
    no-element y has = omega (arith, has.1)
left-among Stays (x ∷ xs) ys y (inl (stays, (rest, is, left))) has = elim (cons-cases x y rest (subst (λ all. Contains all y) is has)) [
  | inl same ↦ (0, omega arith, same)
  | inr more ↦ cons-front x y xs (left-among Stays xs rest y left more)
]
left-among Stays (x ∷ xs) ys y (inr (goes, left)) has = cons-front x y xs (left-among Stays xs ys y left has)

left-there : {A : Type 0} (Stays : A → Type 0) (xs ys : List A) (x : A) → IsLeft Stays xs ys → Contains xs x → Stays x → Contains ys x
left-there Stays [] ys x none has stays = absurd (omega (arith, has.1))
left-there Stays (first ∷ xs) ys x (inl (here, (rest, is, left))) has stays =
    let there : Contains (first ∷ rest) x = elim (cons-cases first x xs has) [
      | inl same ↦ (0, omega arith, same)
      | inr more ↦ cons-front first x rest (left-there Stays xs rest x left more stays)
    ] in
    subst (λ all. Contains all x) (sym is) there
left-there Stays (first ∷ xs) ys x (inr (goes, left)) has stays = elim (cons-cases first x xs has) [
  | inl same ↦ absurd (goes (subst Stays (sym same) stays))
  | inr more ↦ left-there Stays xs ys x left more stays
]

-- one that a mark awaits is
pub leaves-awaited : (tested : List SignedPromise) (before after : Memory) → Leaves tested before after → (signed : SignedPromise) → WasOwn before signed → Any (IsAwaited signed) before.marks → WasOwn after signed
leaves-awaited tested before after (left, is) signed (promised, has, this, own) awaits = (
  promised,
  left-there (IsNeeded tested before.marks) before.promises after.promises promised left has (inr (own, subst (λ (s : SignedPromise). Any (IsAwaited s) before.marks) (sym this) awaits)),
  this,
  own,
)

pub leaves-own : (tested : List SignedPromise) (before after : Memory) → Leaves tested before after → AddsNoOwn before after
leaves-own tested before after (left, is) signed (promised, has, this, own) = (promised, left-among _ before.promises after.promises promised left has, this, own)
