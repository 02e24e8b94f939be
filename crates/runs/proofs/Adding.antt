-- What a state learns and hands on, step by step.
use Rattle.std.proofs.Common.{◌≡◌, ◌∙◌, ℕ, zero, suc, true, false, List, [], ◌∷◌, ◌++◌, ap, drop, Contains, arith, inl, inr, refl, subst, sym}
use Rattle.std.specs.List.{AllByRecursion}
use Rattle.rootchain.specs.Chains.{KeyedRoots}
use Rattle.rootchain.specs.Promises.{IsSignedPromise}
use Rattle.rootchain.specs.declared.signed_promise.SignedPromise.{SignedPromise}
use Rattle.client.specs.Clients.{IsPromised}
use Rattle.monitor.specs.Monitors.{Monitor}
use Rattle.memory.specs.Learning.{EachOfSome, Each, IsFresh, LearnsFinal, MarksOne}
use Rattle.memory.specs.Memories.{Memory}
use Rattle.memory.specs.declared.final_seen.FinalSeen.{FinalSeen}
use Rattle.memory.specs.declared.item.Item.{Item}
use Rattle.runs.specs.Keeping.{LearnsKept, LearnsPromises}
use Rattle.memory.specs.declared.promised.Promised.{Promised}
use Rattle.runs.specs.Standing.{AddsOwn}
use Rattle.runs.proofs.PutMarks.{promises-stay}

shift-all : {A : Type 0} (x : A) (xs ys : List A) → AllByRecursion (Contains xs) ys → AllByRecursion (Contains (x ∷ xs)) ys
shift-all x xs [] all = tt
shift-all x xs (y ∷ ys) all = ((suc all.0.0, omega (arith, all.0.1), all.0.2), shift-all x xs ys all.1)

pub all-self : {A : Type 0} (xs : List A) → AllByRecursion (Contains xs) xs
all-self [] = tt
all-self (x ∷ xs) = ((0, omega arith, refl), shift-all x xs xs (all-self xs))

-- what is behind some elements is among them
pub drop-among : {A : Type 0} (count : ℕ) (xs : List A) → AllByRecursion (Contains xs) (drop count xs)
drop-among zero [] = tt
drop-among (suc count) [] = tt
drop-among zero (x ∷ xs) = ((0, omega arith, refl), shift-all x xs xs (drop-among zero xs))
drop-among (suc count) (x ∷ xs) = shift-all x xs (drop count xs) (drop-among count xs)

front-all : {A : Type 0} (P : A → Type 0) (xs ys : List A) → AllByRecursion P (xs ++ ys) → AllByRecursion P xs
front-all P [] ys all = tt
front-all P (x ∷ xs) ys all = (all.0, front-all P xs ys all.1)

-- some of those behind a place move their marks
pub some-moved : (monitors some : List Monitor) (count : ℕ) (before after : Memory) → some ≡ drop count monitors → EachOfSome (MarksOne monitors) some before after
    → (done : List Monitor) × (news : List Item) × AllByRecursion (Contains monitors) done × Each (MarksOne monitors) done before news after
some-moved monitors some count before after is (done, left, news, parts, each) =
    (done, news, front-all (Contains monitors) done left (subst (AllByRecursion (Contains monitors)) (sym is ∙ parts) (drop-among count monitors)), each)

pub begun-among : (monitors begun : List Monitor) (count : ℕ) → begun ≡ drop count monitors → AllByRecursion (Contains monitors) begun
begun-among monitors begun count is = subst (AllByRecursion (Contains monitors)) (sym is) (drop-among count monitors)

-- promises move no mark
pub learns-stay : (own kept : List SignedPromise) (before after : Memory) (news : List Item) → LearnsPromises own kept before news after → after.marks ≡ before.marks
learns-stay own kept before after news (fresh, is, (first, middle, rest, owns, others, same)) = promises-stay false fresh middle after rest others ∙ promises-stay true own before middle first owns

-- neither do replies
final-stays : (seen : FinalSeen) (before after : Memory) (news : List Item) → LearnsFinal seen before news after → after.marks ≡ before.marks
final-stays seen before after news ((puts, is), changes) = ap (λ (m : Memory). m.marks) is

pub finals-stay : (finals : List FinalSeen) (before after : Memory) (news : List Item) → Each LearnsFinal finals before news after → after.marks ≡ before.marks
finals-stay [] before after news (none, same) = ap (λ (m : Memory). m.marks) same
finals-stay (seen ∷ finals) before after news (first, middle, rest, does, each, is) = finals-stay finals middle after rest each ∙ final-stays seen before middle first does

pub kept-stay : (own kept : List SignedPromise) (finals : List FinalSeen) (before after : Memory) (news : List Item) → LearnsKept own kept finals before news after → after.marks ≡ before.marks
kept-stay own kept finals before after news (first, middle, rest, learns, each, is) = finals-stay finals middle after rest each ∙ learns-stay own kept before middle first learns

-- nor some of them
pub some-finals-stay : (finals : List FinalSeen) (before after : Memory) → EachOfSome LearnsFinal finals before after → after.marks ≡ before.marks
some-finals-stay finals before after (done, left, news, parts, each) = finals-stay done before after news each

-- and no promise
final-promises : (seen : FinalSeen) (before after : Memory) (news : List Item) → LearnsFinal seen before news after → after.promises ≡ before.promises
final-promises seen before after news ((puts, is), changes) = ap (λ (m : Memory). m.promises) is

pub finals-promises : (finals : List FinalSeen) (before after : Memory) (news : List Item) → Each LearnsFinal finals before news after → after.promises ≡ before.promises
finals-promises [] before after news (none, same) = ap (λ (m : Memory). m.promises) same
finals-promises (seen ∷ finals) before after news (first, middle, rest, does, each, is) = finals-promises finals middle after rest each ∙ final-promises seen before middle first does

pub some-finals-promises : (finals : List FinalSeen) (before after : Memory) → EachOfSome LearnsFinal finals before after → after.promises ≡ before.promises
some-finals-promises finals before after (done, left, news, parts, each) = finals-promises done before after news each

-- what is known of promises for changes of the owner's own is not more
pub adds-as : (changes : List SignedPromise) (a b c : Memory) → AddsOwn changes a b → c.promises ≡ b.promises → AddsOwn changes a c
adds-as changes a b c adds same = λ signed was. adds signed (was.0, subst (λ (all : List Promised). Contains all was.0) same was.1, was.2, was.3)

-- ---- what is learned is well formed

back-all : {A : Type 0} (P : A → Type 0) (xs ys : List A) → AllByRecursion P (xs ++ ys) → AllByRecursion P ys
back-all P [] ys all = all
back-all P (x ∷ xs) ys all = back-all P xs ys all.1

pub drop-all : {A : Type 0} (P : A → Type 0) (count : ℕ) (xs : List A) → AllByRecursion P xs → AllByRecursion P (drop count xs)
drop-all P zero [] all = all
drop-all P (suc count) [] all = all
drop-all P zero (x ∷ xs) all = all
drop-all P (suc count) (x ∷ xs) all = drop-all P count xs all.1

pub promised-formed : (hash : List ℕ → List ℕ) (verified : List ℕ → List ℕ → List ℕ → Type 0) (chain : KeyedRoots) (promises : List SignedPromise) → AllByRecursion (IsPromised hash verified chain) promises → AllByRecursion IsSignedPromise promises
promised-formed hash verified chain [] all = tt
promised-formed hash verified chain (signed ∷ promises) all = (all.0.form, promised-formed hash verified chain promises all.1)

pub fresh-formed : (memory : Memory) (kept fresh : List SignedPromise) → IsFresh memory kept fresh → AllByRecursion IsSignedPromise kept → AllByRecursion IsSignedPromise fresh
fresh-formed memory kept fresh (none, inl same) all = subst (AllByRecursion IsSignedPromise) same all
fresh-formed memory kept fresh (none, inr (front, last, parts, has)) all = (back-all IsSignedPromise front (last ∷ fresh) (subst (AllByRecursion IsSignedPromise) parts all)).1
