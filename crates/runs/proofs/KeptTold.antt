-- What files keep told stays so when roots are added, when more is remembered, and when more is written.
use Rattle.std.proofs.Common.{◌≡◌, ◌∙◌, ◌⊎◌, ℕ, ◌<◌, ◌≤◌, List, [], ◌++◌, Contains, Option, ap, append-nil, append_assoc, arith, inl, inr, refl, subst, sym}
use Rattle.std.specs.List.{AllByRecursion}
use Rattle.std.proofs.lemmas.List.Elements.{All-contains, All-from_recursion, Contains-append_cases}
use Rattle.encoding.specs.declared.bound_key.BoundKey.{BoundKey}
use Rattle.rootchain.specs.declared.signed_promise.SignedPromise.{SignedPromise}
use Rattle.rootchain.specs.declared.signed_root.SignedRoot.{SignedRoot}
use Rattle.memory.specs.Memories.{Memory}
use Rattle.memory.specs.declared.alarm.Alarm.{Alarm}
use Rattle.memory.specs.declared.final_seen.FinalSeen.{FinalSeen}
use Rattle.memory.specs.declared.mark.Mark.{Mark}
use Rattle.runs.specs.Saves.{with_promises, Counts, Found, HasMark, IsOwnAhead, KeepsTold, WasOwn, WasStored}
use Rattle.runs.specs.Told.{TellsEpoch}
use Rattle.runs.proofs.Noting.{tells-counted, was-behind, was-cases, was-more}
use Rattle.runs.proofs.Told.{epoch-more}

-- a mark of which nothing was watched, or nothing above an epoch, has none of these roots
none-new : (mark : Mark) (bound epoch : ℕ) → (mark.epoch ≤ mark.since) ⊎ (mark.epoch ≤ bound) → bound < epoch → mark.since < epoch → epoch ≤ mark.epoch → ⊥
none-new mark bound epoch (inl none) new above below = omega (arith, none, above, below)
none-new mark bound epoch (inr low) new above below = omega (arith, low, new, below)

module _ (hash : List ℕ → List ℕ) (accepted : List ℕ → List ℕ → List ℕ → Type 0) (Given : List ℕ → Option BoundKey → Type 0) (Own Asked : SignedPromise → Type 0) (Drops : List ℕ → Type 0) where
  abbrev Keeps : Found → List ℕ → Found → Type 0
  Keeps = KeepsTold hash accepted Given Own Asked Drops

  -- What is told of a root or was watched before, where promises count that were remembered before or are.
  abbrev pub IsToldOrStored : Found → Memory → List ℕ → List ℕ → SignedRoot → Type 0
  IsToldOrStored start known text name root = TellsEpoch Given (IsOwnAhead Own start.known) (Counts (with_promises start.known known.promises)) hash accepted text name root ⊎ WasStored start name root

  pub told-more : (start : Found) (known : Memory) (text more name : List ℕ) (root : SignedRoot) → IsToldOrStored start known text name root → IsToldOrStored start known (text ++ more) name root
  told-more start known text more name root (inl tells) = inl (epoch-more Given (IsOwnAhead Own start.known) (Counts (with_promises start.known known.promises)) hash accepted text more name root tells)
  told-more start known text more name root (inr stored) = inr stored

  -- so it is where each of them that is from before the root's epoch did
  pub told-counted : (start : Found) (known known' : Memory) (text name : List ℕ) (root : SignedRoot)
      → ((signed : SignedPromise) → WasOwn known' signed → signed.promise.epoch < root.body.epoch → WasOwn start.known signed ⊎ WasOwn known signed)
      → IsToldOrStored start known text name root → IsToldOrStored start known' text name root
  told-counted start known known' text name root fewer (inr stored) = inr stored
  told-counted start known known' text name root fewer (inl tells) = inl (tells-counted Given (IsOwnAhead Own start.known) (Counts (with_promises start.known known.promises)) (Counts (with_promises start.known known'.promises)) name hash accepted text root
      (λ signed (was, awaited) same early. (by signed early (was-cases start.known known' signed was), awaited)) tells)
    where
      with-known : (signed : SignedPromise) → WasOwn start.known signed ⊎ WasOwn known signed → WasOwn (with_promises start.known known.promises) signed
      with-known signed (inl old) = was-more start.known known.promises signed old
      with-known signed (inr new) = was-behind start.known known signed new

      by : (signed : SignedPromise) → signed.promise.epoch < root.body.epoch → WasOwn start.known signed ⊎ WasOwn known' signed → WasOwn (with_promises start.known known.promises) signed
      by signed early (inl old) = was-more start.known known.promises signed old
      by signed early (inr new) = with-known signed (fewer signed new early)

  pub keeps-told : (start : Found) (text : List ℕ) (roots more : List SignedRoot) (known : Memory) → roots ≡ start.roots ++ more
      → ((old : Mark) → Contains start.known.marks old → HasMark start.roots known.marks old)
      → ((mark : Mark) → Contains known.marks mark → (root : SignedRoot) → Contains roots root → mark.since < root.body.epoch → root.body.epoch ≤ mark.epoch → IsToldOrStored start known text mark.name root)
      → ((signed : SignedPromise) → WasOwn known signed → WasOwn start.known signed ⊎ Asked signed)
      → ((signed : SignedPromise) → WasOwn start.known signed → WasOwn known signed)
      → ((alarm : Alarm) → Contains start.known.alarms alarm → Contains known.alarms alarm ⊎ Drops alarm.name)
      → ((line : List ℕ) → Contains start.known.evidence line → Contains known.evidence line)
      → ((seen : FinalSeen) → Contains start.known.finals seen → Contains known.finals seen)
      → KeepsTold hash accepted Given Own Asked Drops start text (record { roots = roots; known = known })
  keeps-told start text roots more known grown stays told own still alarms evidence finals =
      record { grows = (more, grown); stays = stays; told = told; own = own; awaits = λ signed was awaited. still signed was; alarms = alarms; evidence = evidence; finals = finals }

  -- what a run loads is so at once
  pub loads-kept : (start : Found) (text : List ℕ) (roots : List SignedRoot) → roots ≡ start.roots → KeepsTold hash accepted Given Own Asked Drops start text (record { roots = roots; known = start.known })
  loads-kept start text roots same = record {
    grows = ([], same ∙ sym (append-nil start.roots));
    stays = λ old has. (old, has, refl, omega arith, λ root among low. low);
    told = λ mark has root among above below. inr (subst (λ (rs : List SignedRoot). Contains rs root) same among, (mark, has, refl, above, below));
    own = λ signed was. inl was;
    awaits = λ signed was awaited. was;
    alarms = λ alarm has. inl has;
    evidence = λ line has. has;
    finals = λ seen has. has;
  }

  module _ (start : Found) (text : List ℕ) (stored : Found) (keeps : KeepsTold hash accepted Given Own Asked Drops start text stored) where
    -- new roots are of later epochs than the marks
    pub adds-roots-kept : (more : List SignedRoot) (bound : ℕ) → AllByRecursion (λ (root : SignedRoot). bound < root.body.epoch) more
        → ((mark : Mark) → Contains stored.known.marks mark → (mark.epoch ≤ mark.since) ⊎ (mark.epoch ≤ bound))
        → KeepsTold hash accepted Given Own Asked Drops start text (record { roots = stored.roots ++ more; known = stored.known })
    adds-roots-kept more bound new low = record {
      grows = (keeps.grows.0 ++ more, ap (λ (rs : List SignedRoot). rs ++ more) keeps.grows.1 ∙ append_assoc start.roots keeps.grows.0 more);
      stays = keeps.stays;
      told = λ mark has root among above below. elim (Contains-append_cases stored.roots more root among) [
        | inl old ↦ keeps.told mark has root old above below
        | inr late ↦
            let later = All-contains (λ (r : SignedRoot). bound < r.body.epoch) more root (All-from_recursion (λ (r : SignedRoot). bound < r.body.epoch) more new) late in
            absurd (none-new mark bound root.body.epoch (low mark has) later above below)
      ];
      own = keeps.own;
      awaits = keeps.awaits;
      alarms = keeps.alarms;
      evidence = keeps.evidence;
      finals = keeps.finals;
    }

    -- new marks are of nothing watched, and no mark is above a promise that is new
    pub remembers-kept : (known : Memory) → ((mark : Mark) → Contains known.marks mark → Contains stored.known.marks mark ⊎ (mark.since ≡ mark.epoch))
        → ((old : Mark) → Contains start.known.marks old → HasMark start.roots known.marks old)
        → ((signed : SignedPromise) → WasOwn known signed → WasOwn start.known signed ⊎ Asked signed)
        → ((signed : SignedPromise) → WasOwn start.known signed → WasOwn known signed)
        → ((signed : SignedPromise) → WasOwn known signed → WasOwn stored.known signed ⊎ ((mark : Mark) → Contains stored.known.marks mark → (mark.epoch ≤ mark.since) ⊎ (mark.epoch ≤ signed.promise.epoch)))
        → ((alarm : Alarm) → Contains stored.known.alarms alarm → Contains known.alarms alarm)
        → ((line : List ℕ) → Contains stored.known.evidence line → Contains known.evidence line)
        → ((seen : FinalSeen) → Contains stored.known.finals seen → Contains known.finals seen)
        → KeepsTold hash accepted Given Own Asked Drops start text (record { roots = stored.roots; known = known })
    remembers-kept known from stays own still late alarms evidence finals = record {
      grows = keeps.grows;
      stays = stays;
      told = λ mark has root among above below. elim (from mark has) [
        | inl old ↦ told-counted start stored.known known text mark.name root
            (λ signed was early. elim (late signed was) [
              | inl there ↦ inr there
              | inr new ↦ absurd (none-new mark signed.promise.epoch root.body.epoch (new mark old) early above below)
            ]) (keeps.told mark old root among above below)
        | inr empty ↦ absurd (omega (arith, empty, above, below))
      ];
      own = own;
      awaits = λ signed was awaited. still signed was;
      alarms = λ alarm has. elim (keeps.alarms alarm has) [
        | inl there ↦ inl (alarms alarm there)
        | inr dropped ↦ inr dropped
      ];
      evidence = λ line has. evidence line (keeps.evidence line has);
      finals = λ seen has. finals seen (keeps.finals seen has);
    }

    -- more is written
    pub text-kept : (more : List ℕ) → KeepsTold hash accepted Given Own Asked Drops start (text ++ more) stored
    text-kept more = record {
      grows = keeps.grows;
      stays = keeps.stays;
      told = λ mark has root among above below. told-more start stored.known text more mark.name root (keeps.told mark has root among above below);
      own = keeps.own;
      awaits = keeps.awaits;
      alarms = keeps.alarms;
      evidence = keeps.evidence;
      finals = keeps.finals;
    }

-- what keeps the alarms of all names keeps all told whatever name is settled
pub settling-kept : (hash : List ℕ → List ℕ) (accepted : List ℕ → List ℕ → List ℕ → Type 0) (Given : List ℕ → Option BoundKey → Type 0) (Own Asked : SignedPromise → Type 0) (Drops Drops' : List ℕ → Type 0) (start : Found) (text : List ℕ) (stored : Found)
    → ((name : List ℕ) → Drops name → Drops' name) → KeepsTold hash accepted Given Own Asked Drops start text stored → KeepsTold hash accepted Given Own Asked Drops' start text stored
settling-kept hash accepted Given Own Asked Drops Drops' start text stored more keeps = record {
  grows = keeps.grows;
  stays = keeps.stays;
  told = keeps.told;
  own = keeps.own;
  awaits = keeps.awaits;
  alarms = λ alarm has. elim (keeps.alarms alarm has) [
    | inl there ↦ inl there
    | inr dropped ↦ inr (more alarm.name dropped)
  ];
  evidence = keeps.evidence;
  finals = keeps.finals;
}
