-- A memory with more promises, and what an owner expects where more or fewer of them count.
use Rattle.std.proofs.Common.{◌≡◌, ◌∙◌, ◌⊎◌, ℕ, ◌<◌, ◌||◌, Bool, true, false, List, [], ◌∷◌, ◌++◌, map, Contains, Option, ap, arith, inl, inr, refl, subst, sym}
use Rattle.std.proofs.lemmas.Bool.{cases_lt}
use Rattle.std.proofs.lemmas.List.Elements.{Contains-append_cases, Contains-append_left, Contains-append_right}
use Rattle.encoding.specs.declared.bound_key.BoundKey.{BoundKey}
use Rattle.rootchain.specs.declared.signed_promise.SignedPromise.{SignedPromise}
use Rattle.rootchain.specs.declared.signed_root.SignedRoot.{SignedRoot}
use Rattle.memory.specs.Memories.{Memory}
use Rattle.memory.specs.Taking.{either, Takes}
use Rattle.memory.specs.Texts.{TakesAll}
use Rattle.memory.specs.declared.item.Item.{Item}
use Rattle.memory.specs.declared.item.Item.TheVariants as item
use Rattle.memory.specs.declared.promised.Promised.{Promised}
use Rattle.runs.specs.Saves.{own_promised, with_promises, noting, WasOwn}
use Rattle.runs.specs.Told.{ExpectsAt, TellsEpoch}
use Rattle.runs.proofs.PutMarks.{cons-cases, cons-front}

-- ---- promises

-- what was remembered is
pub was-more : (known : Memory) (more : List Promised) (signed : SignedPromise) → WasOwn known signed → WasOwn (with_promises known more) signed
was-more known more signed (promised, has, this, own) = (promised, Contains-append_left known.promises more promised has, this, own)

pub was-behind : (known other : Memory) (signed : SignedPromise) → WasOwn other signed → WasOwn (with_promises known other.promises) signed
was-behind known other signed (promised, has, this, own) = (promised, Contains-append_right known.promises other.promises promised has, this, own)

pub was-cases : (known other : Memory) (signed : SignedPromise) → WasOwn (with_promises known other.promises) signed → WasOwn known signed ⊎ WasOwn other signed
was-cases known other signed (promised, has, this, own) = elim (Contains-append_cases known.promises other.promises promised has) [
  | inl old ↦ inl (promised, old, this, own)
  | inr new ↦ inr (promised, new, this, own)
]

noted-in : (noted : List SignedPromise) (signed : SignedPromise) → Contains noted signed → Contains (map own_promised noted) (own_promised signed)
noted-in [] signed has = absurd (omega (arith, has.1))
noted-in (one ∷ noted) signed has = elim (cons-cases one signed noted has) [
  | inl same ↦ subst (λ (s : SignedPromise). Contains (own_promised one ∷ map own_promised noted) (own_promised s)) same (0, omega arith, refl)
  | inr more ↦ cons-front (own_promised one) (own_promised signed) (map own_promised noted) (noted-in noted signed more)
]

noted-from : (noted : List SignedPromise) (promised : Promised) → Contains (map own_promised noted) promised → Contains noted promised.signed
noted-from [] promised has = absurd (omega (arith, has.1))
noted-from (one ∷ noted) promised has = elim (cons-cases (own_promised one) promised (map own_promised noted) has) [
  | inl same ↦ (0, omega arith, ap (λ (p : Promised). p.signed) same)
  | inr more ↦ cons-front one promised.signed noted (noted-from noted promised more)
]

-- so is what is noted, and nothing else
pub noted-was : (known : Memory) (noted : List SignedPromise) (signed : SignedPromise) → Contains noted signed → WasOwn (noting known noted) signed
noted-was known noted signed has = (own_promised signed, Contains-append_right known.promises (map own_promised noted) (own_promised signed) (noted-in noted signed has), refl, refl)

pub noted-cases : (known : Memory) (noted : List SignedPromise) (signed : SignedPromise) → WasOwn (noting known noted) signed → WasOwn known signed ⊎ Contains noted signed
noted-cases known noted signed (promised, has, this, own) = elim (Contains-append_cases known.promises (map own_promised noted) promised has) [
  | inl old ↦ inl (promised, old, this, own)
  | inr new ↦ inr (subst (Contains noted) this (noted-from noted promised new))
]

-- one more is noted
pub noted-more : (known : Memory) (noted more : List SignedPromise) (signed : SignedPromise) → WasOwn (noting known noted) signed → WasOwn (noting known (noted ++ more)) signed
noted-more known noted more signed was = elim (noted-cases known noted signed was) [
  | inl old ↦ was-more known (map own_promised (noted ++ more)) signed old
  | inr has ↦ noted-was known (noted ++ more) signed (Contains-append_left noted more signed has)
]

pub noted-last : (known : Memory) (noted : List SignedPromise) (last signed : SignedPromise) → WasOwn (noting known (noted ++ last ∷ [])) signed → WasOwn (noting known noted) signed ⊎ (last ≡ signed)
noted-last known noted last signed was = elim (noted-cases known (noted ++ last ∷ []) signed was) [
  | inl old ↦ inl (was-more known (map own_promised noted) signed old)
  | inr has ↦ elim (Contains-append_cases noted (last ∷ []) signed has) [
    | inl before ↦ inl (noted-was known noted signed before)
    | inr end ↦ elim (cons-cases last signed [] end) [
      | inl same ↦ inr same
      | inr none ↦ absurd (omega (arith, none.1))
    ]
  ]
]

-- ---- what is taken

pub same-own : (before after : Memory) → after.promises ≡ before.promises → (signed : SignedPromise) → WasOwn before signed → WasOwn after signed
same-own before after same signed (promised, has, this, own) = (promised, subst (λ (all : List Promised). Contains all promised) (sym same) has, this, own)

either-so : (kept new : Bool) → kept ≡ true → kept || new ≡ true
either-so true new is = refl
either-so false new is = absurd (not-so is)
  where
    not-so : false ≡ true → ⊥
    not-so e = cc

-- a promise for a change of the owner's own stays one where more is taken
takes-own : (taken : Item) (before after : Memory) → Takes taken before after → (signed : SignedPromise) → WasOwn before signed → WasOwn after signed
takes-own (item.Promised new) before after (inl (front, kept, behind, was, same, be), is) signed (promised, has, this, own) =
    elim (Contains-append_cases front (kept ∷ behind) promised (subst (λ (all : List Promised). Contains all promised) was has)) [
      | inl early ↦ (promised, there promised (Contains-append_left front (either kept new ∷ behind) promised early), this, own)
      | inr late ↦ elim (cons-cases kept promised behind late) [
        | inl at ↦ (
          either kept new,
          there (either kept new) (Contains-append_right front (either kept new ∷ behind) (either kept new) (0, omega arith, refl)),
          ap (λ (p : Promised). p.signed) at ∙ this,
          either-so kept.is_own new.is_own (ap (λ (p : Promised). p.is_own) at ∙ own),
        )
        | inr more ↦ (promised, there promised (Contains-append_right front (either kept new ∷ behind) promised (cons-front (either kept new) promised behind more)), this, own)
      ]
    ]
  where
    there : (p : Promised) → Contains (front ++ either kept new ∷ behind) p → Contains after.promises p
    there p at = subst (λ (all : List Promised). Contains all p) (sym be) at
takes-own (item.Promised new) before after (inr (none, be), is) signed (promised, has, this, own) =
    (promised, subst (λ (all : List Promised). Contains all promised) (sym be) (Contains-append_left before.promises (new ∷ []) promised has), this, own)
takes-own (item.Watched mark) before after (puts, is) signed was = same-own before after (ap (λ (m : Memory). m.promises) is) signed was
takes-own (item.Final seen) before after (puts, is) signed was = same-own before after (ap (λ (m : Memory). m.promises) is) signed was
takes-own (item.Alarm alarm) before after (puts, is) signed was = same-own before after (ap (λ (m : Memory). m.promises) is) signed was
takes-own (item.Evidence line) before after (puts, is) signed was = same-own before after (ap (λ (m : Memory). m.promises) is) signed was

pub taken-own : (items : List Item) (before after : Memory) → TakesAll items before after → (signed : SignedPromise) → WasOwn before signed → WasOwn after signed
taken-own [] before after same signed was = subst (λ (m : Memory). WasOwn m signed) (sym same) was
taken-own (one ∷ items) before after (middle, sound, takes, more) signed was = taken-own items middle after more signed (takes-own one before middle takes signed was)

-- ---- what is expected

module _ (Given : List ℕ → Option BoundKey → Type 0) (Own One Other : SignedPromise → Type 0) (name : List ℕ) where
  -- it is so too where no other promise from before the epoch counts
  pub expects-counted : (epoch : ℕ) (key : Option BoundKey) → ((signed : SignedPromise) → Other signed → signed.promise.name ≡ name → signed.promise.epoch < epoch → One signed)
      → ExpectsAt Given Own One name epoch key → ExpectsAt Given Own Other name epoch key
  expects-counted epoch key fewer (inl (signed, own, named, low, keyed, last)) = inl (signed, own, named, low, keyed, λ other counts same early. last other (fewer other counts same early) same early)
  expects-counted epoch key fewer (inr (given, none)) = inr (
    given,
    λ other counts same. elim (cases_lt other.promise.epoch epoch) [
      | inl early ↦ none other (fewer other counts same early) same
      | inr late ↦ late
    ],
  )

  pub tells-counted : (hash : List ℕ → List ℕ) (accepted : List ℕ → List ℕ → List ℕ → Type 0) (text : List ℕ) (root : SignedRoot)
      → ((signed : SignedPromise) → Other signed → signed.promise.name ≡ name → signed.promise.epoch < root.body.epoch → One signed)
      → TellsEpoch Given Own One hash accepted text name root → TellsEpoch Given Own Other hash accepted text name root
  tells-counted hash accepted text root fewer (key, expects, told) = (key, expects-counted root.body.epoch key fewer expects, told)
