-- Where the bytes of a list are cut does not matter: a feed tells the roots that the list has.
use Rattle.std.proofs.Common.{◌≡◌, ◌≢◌, ◌⊎◌, ℕ, zero, suc, ◌+◌, ◌-◌, ◌*◌, ◌^◌, ◌<◌, ◌≤◌, Bool, true, false, cond, leb, ltb, List, [], ◌∷◌, ◌++◌, length, take, drop, Result, Ok, Err, refl, sym, ap, subst, ◌∙◌, append_assoc, length-append, inl, inr, arith}
use Rattle.std.proofs.lemmas.Bool.{and_parts, cases_lt, le-leb, leb-true, ltb-false, ltb-true, le-ltb, lt-ltb}
use Rattle.std.proofs.lemmas.List.{append-nil, take_at, drop_at, take-append-le, drop-append-le, length-drop, take-append-drop}
use Rattle.std.specs.Prelude.{nat_lt, if◌then◌else◌}
use Rattle.std.specs.List.{flat_map, AllByRecursion}
use Rattle.byteorder.specs.Endian.{big_bytes, big_number}
use Rattle.byteorder.specs.Numbers.{length-bytes_high_first}
use Rattle.encoding.specs.declared.fault.Fault.{Fault}
use Rattle.encoding.specs.declared.fault.Fault.TheVariants.{Short, Trailing, OutOfRange}
use Rattle.encoding.specs.Bytes.{Is32Bytes, IsBytes}
use Rattle.encoding.specs.Fields.{Begins}
use Rattle.encoding.specs.Forms.{counted_bytes}
use Rattle.encoding.specs.Reading.{◌>>=◌, is_within, read_bytes, read_number, whole_of, Reading}
use Rattle.encoding.proofs.ByteLists.{IsBytes-back, IsBytes-take}
use Rattle.encoding.proofs.Fields.{bind_ok, numbers_field, ok_is, short_ok, whole-read}
use Rattle.rootchain.specs.declared.body.Body.{Body}
use Rattle.rootchain.specs.declared.signed_root.SignedRoot.{SignedRoot}
use Rattle.rootchain.specs.declared.root_feed.Next.{Next}
use Rattle.rootchain.specs.declared.root_feed.Next.TheVariants as next
use Rattle.rootchain.specs.Bodies.{body_bytes, IsBody}
use Rattle.rootchain.specs.declared.root_feed.Stage.{Stage}
use Rattle.rootchain.specs.declared.root_feed.Stage.TheVariants as stage
use Rattle.rootchain.specs.FeedViews.{held_of, IsFront, TellsNext, TellsPassed}
use Rattle.rootchain.specs.RootLists.{read_root_count, SpellsRoots}
use Rattle.rootchain.specs.SignedRoots.{read_signed_root, signed_root_bytes, IsSignedRoot}
use Rattle.rootchain.specs.RootFeeds.{front, front_read, front_sized, held_bytes, least_len, least_root_len, passed, read_signature_len, told, told_by, told_counted, told_from, too_long, Front, FeedState, Bad, Counts, Done, Failed, MayBeHeld, Overlong, Owes, Part, TooLong, Whole}
use Rattle.rootchain.specs.Readable.{signed_root_field}
use Rattle.rootchain.specs.TakingPieces.{HasWholeRoots}
use Rattle.rootchain.proofs.RootLists.{count_field}

-- ---- what was read is read also where more bytes follow

short_err : {A : Type 0} (short : Bool) (r : A) (fault : Fault) → cond short (Err Short) (Ok r) ≡ Err fault → (short ≡ true) × (fault ≡ Short)
short_err true r fault e = (refl, cc)
short_err false r fault e = absurd cc

-- enough bytes are there
bytes_long : (count : ℕ) (bytes : List ℕ) (x : List ℕ × List ℕ) → read_bytes count bytes ≡ Ok x → (count ≤ length bytes) × (x ≡ (take count bytes, drop count bytes))
bytes_long count bytes x e =
    let g = short_ok (ltb (length bytes) count) Short (Ok (take count bytes, drop count bytes)) x e in
    (ltb-false _ _ g.0, sym (ok_is (take count bytes, drop count bytes) x g.1))

bytes_are : (count : ℕ) (bytes : List ℕ) → count ≤ length bytes → read_bytes count bytes ≡ Ok (take count bytes, drop count bytes)
bytes_are count bytes long = rw (le-ltb (length bytes) count long) refl

bytes_more : (count : ℕ) (bytes more : List ℕ) → count ≤ length bytes → read_bytes count (bytes ++ more) ≡ Ok (take count bytes, drop count bytes ++ more)
bytes_more count bytes more long =
    rw (le-ltb (length (bytes ++ more)) count (omega (arith, length-append bytes more, long)), take-append-le count bytes more long, drop-append-le count bytes more long) refl

bytes_short : (count : ℕ) (bytes : List ℕ) (fault : Fault) → read_bytes count bytes ≡ Err fault → (length bytes < count) × (fault ≡ Short)
bytes_short count bytes fault e =
    let g = short_err (ltb (length bytes) count) (take count bytes, drop count bytes) fault e in
    (ltb-true _ _ g.0, g.1)

-- ---- the length of a signature

pub len_none : (bytes : List ℕ) (fault : Fault) → read_signature_len bytes ≡ Err fault → length bytes < 148
unfolding read_signature_len
len_none bytes fault e = none (read_bytes 146 bytes) refl
  where
    none : (r : Reading (List ℕ)) → read_bytes 146 bytes ≡ r → length bytes < 148
    none (Err short) is = omega (arith, (bytes_short 146 bytes short is).0)
    none (Ok x) is = few (read_bytes 2 x.1) refl
      where
        few : (r : Reading (List ℕ)) → read_bytes 2 x.1 ≡ r → length bytes < 148
        few (Err short) two =
            let size = (bytes_short 2 x.1 short two).0 in
            let t = bytes_long 146 bytes x is in
            omega (arith, t.0, size, ap (λ (z : List ℕ × List ℕ). length z.1) t.1, length-drop 146 bytes)
        few (Ok y) two =
            let a : (read_bytes 146 bytes >>= λ k. read_number 2 k.1) ≡ (Ok (big_number 2 y.0, y.1)) = rw (is, two) refl in
            absurd (refused (sym a ∙ e))
          where
            refused : {A : Type 0} → {x : A} → Ok x ≡ Err fault → ⊥
            refused e = cc

len_some : (bytes : List ℕ) (size : ℕ) (rest : List ℕ) → read_signature_len bytes ≡ Ok (size, rest) → 148 ≤ length bytes
unfolding read_signature_len
len_some bytes size rest e =
    let u = bind_ok (read_bytes 146 bytes) (λ k. read_number 2 k.1) (size, rest) e in
    let v = bind_ok (read_bytes 2 u.0.1) (λ x. Ok (big_number 2 x.0, x.1)) (size, rest) u.2 in
    let body = bytes_long 146 bytes u.0 u.1 in
    let two = (bytes_long 2 u.0.1 v.0 v.1).0 in
    omega (arith, body.0, two, ap (λ (z : List ℕ × List ℕ). length z.1) body.1, length-drop 146 bytes)

-- it stands at one place, whatever follows
pub len_more : (bytes : List ℕ) (size : ℕ) (rest more : List ℕ) → read_signature_len bytes ≡ Ok (size, rest) → read_signature_len (bytes ++ more) ≡ Ok (size, rest ++ more)
unfolding read_signature_len
len_more bytes size rest more e =
    let u = bind_ok (read_bytes 146 bytes) (λ k. read_number 2 k.1) (size, rest) e in
    let v = bind_ok (read_bytes 2 u.0.1) (λ x. Ok (big_number 2 x.0, x.1)) (size, rest) u.2 in
    let body = bytes_long 146 bytes u.0 u.1 in
    let left : u.0.1 ≡ drop 146 bytes = ap (λ (z : List ℕ × List ℕ). z.1) body.1 in
    let two : 2 ≤ length (drop 146 bytes) = subst (λ (z : List ℕ). 2 ≤ length z) left (bytes_long 2 u.0.1 v.0 v.1).0 in
    let a : (read_bytes 146 bytes >>= λ k. read_number 2 k.1) ≡ Ok (big_number 2 (take 2 (drop 146 bytes)), drop 2 (drop 146 bytes)) =
    rw (bytes_are 146 bytes body.0, bytes_are 2 (drop 146 bytes) two) refl in
    let same = ok_is (big_number 2 (take 2 (drop 146 bytes)), drop 2 (drop 146 bytes)) (size, rest) (sym a ∙ e) in
    rw (bytes_more 146 bytes more body.0, bytes_more 2 (drop 146 bytes) more two) (ap (λ (z : ℕ × List ℕ). Ok (z.0, z.1 ++ more)) same)

-- ---- what stands first

front-short : (bytes : List ℕ) (fault : Fault) → read_signature_len bytes ≡ Err fault → front bytes ≡ Part
front-short bytes fault e = ap (λ (r : Reading ℕ). front_sized r bytes) e

front-long : (bytes : List ℕ) (size : ℕ) (rest : List ℕ) → read_signature_len bytes ≡ Ok (size, rest) → 256 < size → front bytes ≡ too_long (148 + size) bytes
front-long bytes size rest e large = ap (λ (r : Reading ℕ). front_sized r bytes) e ∙ rw (lt-ltb 256 size large) refl

-- it is less than a root, or none
long-is : (len : ℕ) (bytes : List ℕ) → ((length bytes < len) × (too_long len bytes ≡ TooLong (len - length bytes))) ⊎ ((len ≤ length bytes) × (too_long len bytes ≡ Bad))
long-is len bytes = elim (cases_lt (length bytes) len) [
  | inl short ↦ inl (short, rw (lt-ltb (length bytes) len short) refl)
  | inr all ↦ inr (all, rw (le-ltb (length bytes) len all) refl)
]

long-part : (len : ℕ) (bytes : List ℕ) → too_long len bytes ≡ Part → ⊥
long-part len bytes part = elim (long-is len bytes) [
  | inl less ↦ missing (sym less.1 ∙ part)
  | inr whole ↦ none (sym whole.1 ∙ part)
]
  where
    missing : {n : ℕ} → TooLong n ≡ Part → ⊥
    missing e = cc

    none : Bad ≡ Part → ⊥
    none e = cc

front-part : (bytes : List ℕ) (size : ℕ) (rest : List ℕ) → read_signature_len bytes ≡ Ok (size, rest) → size ≤ 256 → length bytes < 148 + size → front bytes ≡ Part
front-part bytes size rest e few short = ap (λ (r : Reading ℕ). front_sized r bytes) e ∙ rw (le-ltb 256 size few, lt-ltb (length bytes) (148 + size) short) refl

front-root : (bytes : List ℕ) (size : ℕ) (rest : List ℕ) → read_signature_len bytes ≡ Ok (size, rest) → size ≤ 256 → 148 + size ≤ length bytes
    → front bytes ≡ front_read (whole_of (read_signed_root (take (148 + size) bytes))) (drop (148 + size) bytes)
front-root bytes size rest e few long = ap (λ (r : Reading ℕ). front_sized r bytes) e ∙ rw (le-ltb 256 size few, le-ltb (length bytes) (148 + size) long) refl

pub front-none : front [] ≡ Part
unfolding read_signature_len
front-none = refl

-- where less than a root is held, the length of its signature says so
part-is : (bytes : List ℕ) (size : ℕ) (rest : List ℕ) → read_signature_len bytes ≡ Ok (size, rest) → size ≤ 256 → front bytes ≡ Part → length bytes < 148 + size
part-is bytes size rest e few part = is (ltb (length bytes) (148 + size)) refl
  where
    is : (short : Bool) → ltb (length bytes) (148 + size) ≡ short → length bytes < 148 + size
    is true d = ltb-true _ _ d
    is false d = absurd (read (whole_of (read_signed_root (take (148 + size) bytes))) (sym (front-root bytes size rest e few (ltb-false _ _ d)) ∙ part))
      where
        read : (r : Result SignedRoot Fault) → front_read r (drop (148 + size) bytes) ≡ Part → ⊥
        read (Ok root) e = cc
        read (Err fault) e = cc

-- ---- bytes are moved to those that are held

-- those that are held and those that are left are the same together; and so many are held, or none is left
pub record Fills (held piece : List ℕ) (len : ℕ) (new rest : List ℕ) : Type 0 where
  pub joined : new ++ rest ≡ held ++ piece
  pub full : (len ≤ length new) ⊎ (rest ≡ [])
  pub most : length held ≤ len → length new ≤ len
  pub stays : len ≤ length held → new ≡ held

spent : (held piece : List ℕ) (len : ℕ) (new rest : List ℕ) → Fills held piece len new rest → length new < len → new ≡ held ++ piece
spent held piece len new rest fills short = elim fills.full [
  | inl long ↦ absurd (omega (arith, long, short))
  | inr none ↦ sym (append-nil new) ∙ ap (λ (z : List ℕ). new ++ z) (sym none) ∙ fills.joined
]

module _ (held piece new rest : List ℕ) (fills : Fills held piece 148 new rest) where
  pub waits : (fault : Fault) → read_signature_len new ≡ Err fault → (front (held ++ piece) ≡ Part) × (new ≡ held ++ piece)
  waits fault e = let same = spent held piece 148 new rest fills (len_none new fault e) in (subst (λ (z : List ℕ). front z ≡ Part) same (front-short new fault e), same)

  module _ (size : ℕ) (left : List ℕ) (e : read_signature_len new ≡ Ok (size, left)) where
    all : read_signature_len (held ++ piece) ≡ Ok (size, left ++ rest)
    all = subst (λ (z : List ℕ). read_signature_len z ≡ Ok (size, left ++ rest)) fills.joined (len_more new size left rest e)

    -- a root whose signature is too long is held no longer than up to its length
    cut-at : 256 < size → front held ≡ Part → length new ≡ 148
    cut-at large part = is (ltb (length held) 148) refl
      where
        is : (short : Bool) → ltb (length held) 148 ≡ short → length new ≡ 148
        is true d = omega (arith, len_some new size left e, fills.most (omega (arith, ltb-true _ _ d)))
        is false d =
            let same = fills.stays (ltb-false _ _ d) in
            absurd (long-part (148 + size) held (sym (front-long held size left (subst (λ (z : List ℕ). read_signature_len z ≡ Ok (size, left)) same e) large) ∙ part))

    pub passes : 256 < size → front held ≡ Part
        → ((length rest < size) × (front (held ++ piece) ≡ TooLong (size - length rest))) ⊎ ((size ≤ length rest) × (front (held ++ piece) ≡ Bad))
    passes large part =
        let len : length (held ++ piece) ≡ 148 + length rest = omega (arith, ap (λ (z : List ℕ). length z) fills.joined, length-append new rest, cut-at large part) in
        let is = front-long (held ++ piece) size (left ++ rest) all large in
        elim (long-is (148 + size) (held ++ piece)) [
          | inl less ↦ (
              let same : 148 + size - length (held ++ piece) ≡ size - length rest = omega (arith, len) in
              inl (omega (arith, less.0, len), is ∙ less.1 ∙ ap TooLong same))
          | inr whole ↦ inr (omega (arith, whole.0, len), is ∙ whole.1)
        ]

    -- the answer to the bytes that are left of the piece
    pub passed-front : 256 < size → front held ≡ Part → (owed : ℕ) (next : Next) (stage : Stage) (kept : List ℕ) → TellsPassed owed size rest next stage → IsFront owed (held ++ piece) next (held_of stage kept)
    passed-front large part owed (next.Root root after) stage kept tells = absurd tells
    passed-front large part owed next.Wait stage kept tells = elim (passes large part) [
      | inl less ↦ inr (size - length rest, omega (arith, less.0), less.1, ap (λ (s : Stage). held_of s kept) tells.1)
      | inr whole ↦ absurd (omega (arith, tells.0, whole.0))
    ]
    passed-front large part owed next.Failed stage kept tells = elim (passes large part) [
      | inl less ↦ absurd (omega (arith, tells.0, less.0))
      | inr whole ↦ (whole.1, ap (λ (s : Stage). held_of s kept) tells.1)
    ]

    module _ (few : size ≤ 256) (part : front held ≡ Part) (new' rest' : List ℕ) (again : Fills new rest (148 + size) new' rest') where
      together : new' ++ rest' ≡ held ++ piece
      together = again.joined ∙ fills.joined

      pub waits-again : length new' < 148 + size → (front (held ++ piece) ≡ Part) × (new' ≡ held ++ piece)
      waits-again short =
          let same = spent new rest (148 + size) new' rest' again short ∙ fills.joined in
          (front-part (held ++ piece) size (left ++ rest) all few (omega (arith, short, ap (λ (z : List ℕ). length z) same)), same)

      before : length new ≤ 148 + size
      before = is (ltb (length held) 148) refl
        where
          is : (short : Bool) → ltb (length held) 148 ≡ short → length new ≤ 148 + size
          is true d = omega (arith, fills.most (omega (arith, ltb-true _ _ d)))
          is false d =
              let same = fills.stays (ltb-false _ _ d) in
              omega (arith, part-is held size left (subst (λ (z : List ℕ). read_signature_len z ≡ Ok (size, left)) same e) few part, ap (λ (z : List ℕ). length z) same)

      pub ends : 148 + size ≤ length new' → (r : Result SignedRoot Fault) → whole_of (read_signed_root new') ≡ r → front (held ++ piece) ≡ front_read r rest'
      ends long r is =
          let len : length new' ≡ 148 + size = omega (arith, long, again.most before) in
          let whole = front-root (held ++ piece) size (left ++ rest) all few (omega (arith, len, ap (λ (z : List ℕ). length z) together, length-append new' rest')) in
          whole ∙ rw (← together, take_at new' rest' (148 + size) len, drop_at new' rest' (148 + size) len, is) refl

-- ---- the number of roots

passed_ok : {A : Type 0} (passed : Bool) (r : A) (y : A) → cond passed (Ok r) (Err OutOfRange) ≡ Ok y → (passed ≡ true) × (r ≡ y)
passed_ok true r y e = (refl, cc)
passed_ok false r y e = absurd cc

abbrev refused : Fault → Reading ℕ
refused fault = Err fault

abbrev number_in : List ℕ → ℕ
number_in bytes = big_number 2 (take 2 bytes)

abbrev counted : Bool → ℕ → List ℕ → Reading ℕ
counted few count rest = cond few (Ok (count, rest)) (Err OutOfRange)

count_of : (bytes : List ℕ) → 2 ≤ length bytes → read_root_count bytes ≡ counted (is_within 0 64 (number_in bytes)) (number_in bytes) (drop 2 bytes)
unfolding read_root_count
count_of bytes long = rw (bytes_are 2 bytes long) refl

count_at : (bytes more : List ℕ) → 2 ≤ length bytes → read_root_count (bytes ++ more) ≡ counted (is_within 0 64 (number_in bytes)) (number_in bytes) (drop 2 bytes ++ more)
unfolding read_root_count
count_at bytes more long = rw (bytes_more 2 bytes more long) refl

count_short : (bytes : List ℕ) → length bytes < 2 → read_root_count bytes ≡ Err Short
unfolding read_root_count
count_short bytes short = rw (lt-ltb (length bytes) 2 short) refl

-- the number was read, and is read also where more bytes follow
pub count_more : (bytes : List ℕ) (count : ℕ) (rest : List ℕ) → read_root_count bytes ≡ Ok (count, rest)
    → (2 ≤ length bytes) × (count ≤ 64) × (rest ≡ drop 2 bytes) × ((more : List ℕ) → read_root_count (bytes ++ more) ≡ Ok (count, rest ++ more))
count_more bytes count rest e = elim (cases_lt (length bytes) 2) [
  | inl short ↦ absurd (never (sym (count_short bytes short) ∙ e))
  | inr long ↦ (
      let t = passed_ok (is_within 0 64 (number_in bytes)) (number_in bytes, drop 2 bytes) (count, rest) (sym (count_of bytes long) ∙ e) in
      let same : number_in bytes ≡ count = ap (λ (z : ℕ × List ℕ). z.0) t.1 in
      let left : drop 2 bytes ≡ rest = ap (λ (z : ℕ × List ℕ). z.1) t.1 in (
        long,
        subst (λ (n : ℕ). n ≤ 64) same (leb-true (number_in bytes) 64 (and_parts (leb 0 (number_in bytes)) (leb (number_in bytes) 64) t.0).1),
        sym left,
        (λ more. count_at bytes more long ∙ rw (t.0, same, left) refl),
      ))
]
  where
    never : {A : Type 0} → {x : A} → Err Short ≡ Ok x → ⊥
    never e = cc

same_fault : {f g : Fault} → refused f ≡ refused g → f ≡ g
same_fault e = cc

-- a number that is too large is so whatever follows; else less than the number is there
pub count_fault : (bytes : List ℕ) (fault : Fault) → read_root_count bytes ≡ Err fault
    → ((length bytes < 2) × (fault ≡ Short)) ⊎ ((2 ≤ length bytes) × (fault ≡ OutOfRange) × ((more : List ℕ) → read_root_count (bytes ++ more) ≡ Err OutOfRange))
count_fault bytes fault e = elim (cases_lt (length bytes) 2) [
  | inl short ↦ inl (short, same_fault (sym e ∙ count_short bytes short))
  | inr long ↦ (
      let t = passed_err (is_within 0 64 (number_in bytes)) (number_in bytes, drop 2 bytes) fault (sym (count_of bytes long) ∙ e) in
      inr (long, t.1, (λ more. count_at bytes more long ∙ rw t.0 refl)))
]
  where
    passed_err : {A : Type 0} (passed : Bool) (r : A) (fault : Fault) → cond passed (Ok r) (Err OutOfRange) ≡ Err fault → (passed ≡ false) × (fault ≡ OutOfRange)
    passed_err true r fault e = absurd cc
    passed_err false r fault e = (refl, cc)

-- ---- the first answer of a feed that waits for the number

pub tells-same : (held held' : FeedState) (piece piece' : List ℕ) (next : Next) (after : FeedState) → told_from held piece ≡ told_from held' piece' → TellsNext held' piece' next after → TellsNext held piece next after
tells-same held held' piece piece' (next.Root root rest) after same tells = same ∙ tells
tells-same held held' piece piece' next.Wait after same tells = (same ∙ tells.0, tells.1)
tells-same held held' piece piece' next.Failed after same tells = (same ∙ tells.0, tells.1)

no_bytes : (bytes : List ℕ) → length bytes ≡ 0 → bytes ≡ []
no_bytes [] e = refl
no_bytes (byte ∷ bytes) e = absurd (omega (arith, e))

module _ (held piece new rest : List ℕ) (fills : Fills held piece 2 new rest) (short : length held < 2) where
  pub counted-as : (count : ℕ) (left : List ℕ) → read_root_count new ≡ Ok (count, left) → told_from (Counts held) piece ≡ told_from (Owes count []) rest
  counted-as count left e =
      let t = count_more new count left e in
      let size : length left ≡ 0 = omega (arith, fills.most (omega (arith, short)), t.0, ap (λ (z : List ℕ). length z) t.2, length-drop 2 new) in
      let none : left ≡ [] = no_bytes left size in
      let all : read_root_count (held ++ piece) ≡ Ok (count, rest) =
      subst (λ (z : List ℕ). read_root_count z ≡ Ok (count, rest)) fills.joined (t.3 rest ∙ ap (λ (z : List ℕ). Ok (count, z ++ rest)) none) in
      ap (λ (r : Reading ℕ). told_counted r (held ++ piece)) all

  pub count-waits : read_root_count new ≡ Err Short → (told_from (Counts held) piece ≡ ([], Counts new)) × (length new < 2)
  count-waits e = elim (count_fault new Short e) [
    | inl less ↦ (
        let same = spent held piece 2 new rest fills less.0 in
        (ap (λ (r : Reading ℕ). told_counted r (held ++ piece)) (subst (λ (z : List ℕ). read_root_count z ≡ Err Short) same e) ∙ ap (λ (z : List ℕ). ([], Counts z)) (sym same), less.0))
    | inr large ↦ absurd (apart large.1)
  ]
    where
      apart : Short ≡ OutOfRange → ⊥
      apart e = cc

  pub count-fails : (fault : Fault) → fault ≢ Short → read_root_count new ≡ Err fault → told_from (Counts held) piece ≡ ([], Failed)
  count-fails fault other e = elim (count_fault new fault e) [
    | inl less ↦ absurd (other less.1)
    | inr large ↦ ap (λ (r : Reading ℕ). told_counted r (held ++ piece)) (subst (λ (z : List ℕ). read_root_count z ≡ Err OutOfRange) fills.joined (large.2 rest))
  ]

-- ---- more bytes

-- more bytes come after the first root
abbrev add : Front → List ℕ → Front
add (Whole root rest) more = Whole root (rest ++ more)
add Part more = Part
add (TooLong missing) more = if nat_lt (length more) missing then TooLong (missing - length more) else Bad
add Bad more = Bad

front_read-more : (r : Result SignedRoot Fault) (rest more : List ℕ) (f : Front) → front_read r rest ≡ f → front_read r (rest ++ more) ≡ add f more
front_read-more (Ok root) rest more f e = ap (λ (z : Front). add z more) e
front_read-more (Err fault) rest more f e = ap (λ (z : Front). add z more) e

long-more : (len : ℕ) (bytes more : List ℕ) → too_long len (bytes ++ more) ≡ add (too_long len bytes) more
long-more len bytes more = elim (long-is len bytes) [
  | inl less ↦ elim (cases_lt (length more) (len - length bytes)) [
    | inl short ↦ (
        let few : length (bytes ++ more) < len = omega (arith, less.0, short, length-append bytes more) in
        let same : len - length (bytes ++ more) ≡ len - length bytes - length more = omega (arith, less.0, short, length-append bytes more) in
        rw (less.1, lt-ltb (length (bytes ++ more)) len few, lt-ltb (length more) (len - length bytes) short) (ap TooLong same))
    | inr long ↦ rw (less.1, le-ltb (length (bytes ++ more)) len (omega (arith, less.0, long, length-append bytes more)), le-ltb (length more) (len - length bytes) long) refl
  ]
  | inr whole ↦ rw (whole.1, le-ltb (length (bytes ++ more)) len (omega (arith, whole.0, length-append bytes more))) refl
]

front-more : (bytes more : List ℕ) (f : Front) → f ≢ Part → front bytes ≡ f → front (bytes ++ more) ≡ add f more
front-more bytes more f some e = by_len (read_signature_len bytes) refl
  where
    by_len : (r : Reading ℕ) → read_signature_len bytes ≡ r → front (bytes ++ more) ≡ add f more
    by_len (Err fault) none = absurd (some (sym e ∙ front-short bytes fault none))
    by_len (Ok (size, left)) is = elim (cases_lt 256 size) [
      | inl large ↦ (
          front-long (bytes ++ more) size (left ++ more) (len_more bytes size left more is) large
          ∙ long-more (148 + size) bytes more ∙ ap (λ (z : Front). add z more) (sym (front-long bytes size left is large) ∙ e))
      | inr few ↦ elim (cases_lt (length bytes) (148 + size)) [
        | inl short ↦ absurd (some (sym e ∙ front-part bytes size left is few short))
        | inr long ↦ (
            front-root (bytes ++ more) size (left ++ more) (len_more bytes size left more is) few (omega (arith, long, length-append bytes more))
            ∙ rw (take-append-le (148 + size) bytes more long, drop-append-le (148 + size) bytes more long)
            (front_read-more (whole_of (read_signed_root (take (148 + size) bytes))) (drop (148 + size) bytes) more f (sym (front-root bytes size left is few long) ∙ e)))
      ]
    ]

-- the roots that were told, and those that more bytes make whole
abbrev pub after_told : List SignedRoot × FeedState → List ℕ → List SignedRoot × FeedState
after_told t more = let u = told_from t.1 more in (t.0 ++ u.0, u.1)

-- a root whose signature is too long is told no sooner
passed-more : (left missing : ℕ) (piece more : List ℕ) → length piece < missing → passed left missing (piece ++ more) ≡ passed left (missing - length piece) more
passed-more left missing piece more short = elim (cases_lt (length more) (missing - length piece)) [
  | inl less ↦ (
      let few : length (piece ++ more) < missing = omega (arith, short, less, length-append piece more) in
      let same : missing - length (piece ++ more) ≡ missing - length piece - length more = omega (arith, short, less, length-append piece more) in
      rw (lt-ltb (length (piece ++ more)) missing few, lt-ltb (length more) (missing - length piece) less) (ap (Overlong left) same))
  | inr all ↦ rw (le-ltb (length (piece ++ more)) missing (omega (arith, short, all, length-append piece more)), le-ltb (length more) (missing - length piece) all) refl
]

add-passed : (left missing : ℕ) (bytes more : List ℕ) (next : List ℕ → List SignedRoot × FeedState) → told_by (add (TooLong missing) more) left bytes next ≡ ([], passed left missing more)
add-passed left missing bytes more next = elim (cases_lt (length more) missing) [
  | inl less ↦ rw (lt-ltb (length more) missing less) refl
  | inr all ↦ rw (le-ltb (length more) missing all) refl
]

told-more : (left : ℕ) (bytes more : List ℕ) → told left (bytes ++ more) ≡ after_told (told left bytes) more
told-more zero [] more = refl
told-more zero (byte ∷ bytes) more = refl
told-more (suc left) bytes more = by_front (λ rest. told-more left rest more) (front bytes) refl
  where
    by_front : ((rest : List ℕ) → told left (rest ++ more) ≡ after_told (told left rest) more) → (f : Front) → front bytes ≡ f → told (suc left) (bytes ++ more) ≡ after_told (told (suc left) bytes) more
    by_front later Part e = ap (λ (t : List SignedRoot × FeedState). after_told t more) (sym (ap (λ (f : Front). told_by f (suc left) bytes (told left)) e))
    by_front later (TooLong missing) e =
        ap (λ (f : Front). told_by f (suc left) (bytes ++ more) (told left)) (front-more bytes more (TooLong missing) (λ w. cc) e)
        ∙ add-passed (suc left) missing (bytes ++ more) more (told left)
        ∙ ap (λ (t : List SignedRoot × FeedState). after_told t more) (sym (ap (λ (f : Front). told_by f (suc left) bytes (told left)) e))
    by_front later Bad e =
        ap (λ (f : Front). told_by f (suc left) (bytes ++ more) (told left)) (front-more bytes more Bad (λ w. cc) e)
        ∙ ap (λ (t : List SignedRoot × FeedState). after_told t more) (sym (ap (λ (f : Front). told_by f (suc left) bytes (told left)) e))
    by_front later (Whole root rest) e =
        ap (λ (f : Front). told_by f (suc left) (bytes ++ more) (told left)) (front-more bytes more (Whole root rest) (λ w. cc) e)
        ∙ ap (λ (t : List SignedRoot × FeedState). (root ∷ t.0, t.1)) (later rest)
        ∙ ap (λ (t : List SignedRoot × FeedState). after_told t more) (sym (ap (λ (f : Front). told_by f (suc left) bytes (told left)) e))

counted-more : (bytes more : List ℕ) → told_counted (read_root_count (bytes ++ more)) (bytes ++ more) ≡ after_told (told_counted (read_root_count bytes) bytes) more
counted-more bytes more = by_count (read_root_count bytes) refl
  where
    by_count : (r : Reading ℕ) → read_root_count bytes ≡ r → told_counted (read_root_count (bytes ++ more)) (bytes ++ more) ≡ after_told (told_counted (read_root_count bytes) bytes) more
    by_count (Ok (count, rest)) e =
        ap (λ (r : Reading ℕ). told_counted r (bytes ++ more)) ((count_more bytes count rest e).3 more)
        ∙ told-more count rest more
        ∙ ap (λ (t : List SignedRoot × FeedState). after_told t more) (sym (ap (λ (r : Reading ℕ). told_counted r bytes) e))
    by_count (Err fault) e = elim (count_fault bytes fault e) [
      | inl less ↦ ap (λ (t : List SignedRoot × FeedState). after_told t more) (sym (ap (λ (r : Reading ℕ). told_counted r bytes) (e ∙ ap refused less.1)))
      | inr large ↦ (
          ap (λ (r : Reading ℕ). told_counted r (bytes ++ more)) (large.2 more)
          ∙ ap (λ (t : List SignedRoot × FeedState). after_told t more) (sym (ap (λ (r : Reading ℕ). told_counted r bytes) (e ∙ ap refused large.1))))
    ]

-- a piece in two parts
pub from-more : (held : FeedState) (piece more : List ℕ) → told_from held (piece ++ more) ≡ after_told (told_from held piece) more
from-more (Counts bytes) piece more = ap (λ (z : List ℕ). told_counted (read_root_count z) z) (sym (append_assoc bytes piece more)) ∙ counted-more (bytes ++ piece) more
from-more (Owes left bytes) piece more = ap (told left) (sym (append_assoc bytes piece more)) ∙ told-more left (bytes ++ piece) more
from-more (Overlong left missing) piece more = elim (cases_lt (length piece) missing) [
  | inl short ↦ (
      ap (λ (h : FeedState). ([], h)) (passed-more left missing piece more short)
      ∙ rw (lt-ltb (length piece) missing short) refl)
  | inr all ↦ rw (le-ltb (length (piece ++ more)) missing (omega (arith, all, length-append piece more)), le-ltb (length piece) missing all) refl
]
from-more Failed piece more = refl

-- what is held tells no more by itself
pub from-nothing : (held : FeedState) (piece : List ℕ) → told_from (told_from held piece).1 [] ≡ ([], (told_from held piece).1)
from-nothing held piece =
    let t = told_from held piece in
    let u = told_from t.1 [] in
    let same : t ≡ (t.0 ++ u.0, u.1) = ap (told_from held) (sym (append-nil piece)) ∙ from-more held piece [] in
    let none : u.0 ≡ [] = no_roots u.0 (omega (arith, ap (λ (z : List SignedRoot × FeedState). length z.0) same, length-append t.0 u.0)) in
    ap (λ (rs : List SignedRoot). (rs, u.1)) none ∙ ap (λ (h : FeedState). ([], h)) (sym (ap (λ (z : List SignedRoot × FeedState). z.1) same))
  where
    no_roots : (roots : List SignedRoot) → length roots ≡ 0 → roots ≡ []
    no_roots [] e = refl
    no_roots (root ∷ roots) e = absurd (omega (arith, e))

pub from-start : told_from (Counts []) [] ≡ ([], Counts [])
unfolding read_root_count
from-start = refl

-- ---- a whole list

body_size : (body : Body) → IsBody body → length (body_bytes body) ≡ 146
body_size body is =
    let last : Is32Bytes body.vuf_key = is.1.5 in
    let a = length-append body.nonce body.vuf_key in
    let b = length-append body.previous_hash (body.nonce ++ body.vuf_key) in
    let c = length-append body.root (body.previous_hash ++ (body.nonce ++ body.vuf_key)) in
    let d = length-append (big_bytes 8 body.previous_epoch) (body.root ++ (body.previous_hash ++ (body.nonce ++ body.vuf_key))) in
    let e = length-append (big_bytes 8 body.epoch) (big_bytes 8 body.previous_epoch ++ (body.root ++ (body.previous_hash ++ (body.nonce ++ body.vuf_key)))) in
    omega (arith, a, b, c, d, e, length-bytes_high_first 8 body.previous_epoch, length-bytes_high_first 8 body.epoch, is.1.2.0, is.1.3.0, is.1.4.0, last.0)

root_size : (root : SignedRoot) → IsSignedRoot root → length (signed_root_bytes root) ≡ 148 + length root.signature
root_size root is =
    omega (
      arith,
      body_size root.body is.0,
      length-bytes_high_first 2 (length root.signature),
      length-append (body_bytes root.body) (counted_bytes root.signature),
      length-append (big_bytes 2 (length root.signature)) root.signature,
    )

len_spelled : (body : List ℕ) (size : ℕ) (more : List ℕ) → length body ≡ 146 → size < 256 ^ 2 → read_signature_len (body ++ (big_bytes 2 size ++ more)) ≡ Ok (size, more)
unfolding read_signature_len
len_spelled body size more len small =
    let all = body ++ (big_bytes 2 size ++ more) in
    let long : 146 ≤ length all = omega (arith, len, length-append body (big_bytes 2 size ++ more)) in
    rw (bytes_are 146 all long, drop_at body (big_bytes 2 size ++ more) 146 len) ((numbers_field 2).again size more small)

front-spelled : (root : SignedRoot) (more : List ℕ) → IsSignedRoot root → front (signed_root_bytes root ++ more) ≡ Whole root more
front-spelled root more is =
    let size = length root.signature in
    let body = body_bytes root.body in
    let bytes = signed_root_bytes root in
    let parted : bytes ++ more ≡ body ++ (big_bytes 2 size ++ (root.signature ++ more)) =
    append_assoc body (counted_bytes root.signature) more ∙ ap (λ (z : List ℕ). body ++ z) (append_assoc (big_bytes 2 size) root.signature more) in
    let len = len_spelled body size (root.signature ++ more) (body_size root.body is.0) (omega (arith, is.1.1)) in
    let told : read_signature_len (bytes ++ more) ≡ Ok (size, root.signature ++ more) = ap read_signature_len parted ∙ len in
    let whole = root_size root is in
    let read : read_signed_root bytes ≡ Ok (root, []) = ap read_signed_root (sym (append-nil bytes)) ∙ signed_root_field.again root [] is in
    front-root (bytes ++ more) size (root.signature ++ more) told (omega (arith, is.1.1)) (omega (arith, whole, length-append bytes more))
    ∙ rw (take_at bytes more (148 + size) whole, drop_at bytes more (148 + size) whole, read) refl

-- a root that is whole in a piece, where nothing is held
pub in-place : (held piece : List ℕ) (root : SignedRoot) (rest : List ℕ) (len : ℕ) → held ≡ [] → piece ≡ signed_root_bytes root ++ rest → IsSignedRoot root
    → len ≡ length (signed_root_bytes root) → front (held ++ piece) ≡ Whole root (drop len piece)
in-place held piece root rest len none spelled is size =
    ap (λ (z : List ℕ). front (z ++ piece)) none ∙ ap front spelled ∙ front-spelled root rest is
    ∙ ap (Whole root) (sym (ap (drop len) spelled ∙ drop_at (signed_root_bytes root) rest len (sym size)))

roots-spelled : (roots : List SignedRoot) → AllByRecursion IsSignedRoot roots → told (length roots) (flat_map signed_root_bytes roots) ≡ (roots, Done)
roots-spelled [] each = refl
roots-spelled (root ∷ roots) each =
    let rest = flat_map signed_root_bytes roots in
    ap (λ (f : Front). told_by f (suc (length roots)) (signed_root_bytes root ++ rest) (told (length roots))) (front-spelled root rest each.0)
    ∙ ap (λ (t : List SignedRoot × FeedState). (root ∷ t.0, t.1)) (roots-spelled roots each.1)

-- a feed tells the roots of a list
pub list-spelled : (bytes : List ℕ) (roots : List SignedRoot) → SpellsRoots bytes roots → told_from (Counts []) bytes ≡ (roots, Done)
list-spelled bytes roots is =
    let count : read_root_count bytes ≡ Ok (length roots, flat_map signed_root_bytes roots) =
    ap read_root_count is.0 ∙ count_field.again (length roots) (flat_map signed_root_bytes roots) (omega (arith, is.1.0), few_is (length roots) is.1.0) in
    ap (λ (r : Reading ℕ). told_counted r bytes) count ∙ roots-spelled roots is.1.1
  where
    few_is : (count : ℕ) → count ≤ 64 → is_within 0 64 count ≡ true
    few_is count few = rw (le-leb 0 count (omega arith), le-leb count 64 few) refl

-- ---- less than a root, or than the number of roots

-- fewer bytes than these are less than a root
few-part : (bytes : List ℕ) → length bytes < 148 → front bytes ≡ Part
few-part bytes short = is (read_signature_len bytes) refl
  where
    is : (r : Reading ℕ) → read_signature_len bytes ≡ r → front bytes ≡ Part
    is (Err fault) e = front-short bytes fault e
    is (Ok (size, rest)) e = absurd (omega (arith, short, len_some bytes size rest e))

-- a root has a signature of at most 256 bytes
pub len-few : (bytes : List ℕ) (size : ℕ) (rest : List ℕ) → read_signature_len bytes ≡ Ok (size, rest) → front bytes ≡ Part → size ≤ 256
len-few bytes size rest e part = elim (cases_lt 256 size) [
  | inl large ↦ absurd (long-part (148 + size) bytes (sym (front-long bytes size rest e large) ∙ part))
  | inr few ↦ few
]

least-part : (held piece : List ℕ) → front held ≡ Part → length held + length piece < least_root_len (read_signature_len held)
    → (front (held ++ piece) ≡ Part) × (length held + length piece ≤ 404)
least-part held piece part short = is (read_signature_len held) refl
  where
    is : (r : Reading ℕ) → read_signature_len held ≡ r → (front (held ++ piece) ≡ Part) × (length held + length piece ≤ 404)
    is (Err fault) e =
        let few = subst (λ (r : Reading ℕ). length held + length piece < least_root_len r) e short in
        (few-part (held ++ piece) (omega (arith, few, length-append held piece)), omega (arith, few))
    is (Ok (size, rest)) e =
        let few = subst (λ (r : Reading ℕ). length held + length piece < least_root_len r) e short in
        let most = len-few held size rest e part in
        (front-part (held ++ piece) size (rest ++ piece) (len_more held size rest piece e) most (omega (arith, few, length-append held piece)), omega (arith, few, most))

-- a piece that leaves less than is needed is held
pub part-is-held : (stage : Stage) (held piece : List ℕ) → MayBeHeld (held_of stage held) → length held + length piece < least_len (held_of stage held)
    → (told_from (held_of stage held) piece ≡ ([], held_of stage (held ++ piece))) × (held_of stage (held ++ piece) ≢ Failed) × MayBeHeld (held_of stage (held ++ piece)) × (length held + length piece ≤ 404)
part-is-held stage.Count held piece is short =
    let few : length (held ++ piece) < 2 = omega (arith, short, length-append held piece) in
    (ap (λ (r : Reading ℕ). told_counted r (held ++ piece)) (count_short (held ++ piece) few), (λ e. cc), few, omega (arith, short))
part-is-held (stage.Roots zero) held piece is short = absurd (omega (arith, short))
part-is-held (stage.Roots (suc left)) held piece is short =
    let part = least-part held piece is.1 short in
    (ap (λ (f : Front). told_by f (suc left) (held ++ piece) (told left)) part.0, (λ e. cc), (is.0, part.0, λ none. absurd cc), part.1)
part-is-held (stage.Overlong left missing) held piece is short = absurd (omega (arith, short))
part-is-held stage.Failed held piece is short = absurd (omega (arith, short))

-- less than a root is held
pub held-few : (held : FeedState) → MayBeHeld held → length (held_bytes held) ≤ 404
held-few (Counts bytes) is = omega (arith, is)
held-few (Owes left bytes) is = by_len (read_signature_len bytes) refl
  where
    by_len : (r : Reading ℕ) → read_signature_len bytes ≡ r → length bytes ≤ 404
    by_len (Err fault) e = omega (arith, len_none bytes fault e)
    by_len (Ok (size, rest)) e = let few = len-few bytes size rest e is.1 in omega (arith, few, part-is bytes size rest e few is.1)
held-few (Overlong left missing) is = omega arith
held-few Failed is = omega arith

-- ---- the answers of a feed

-- what stands first is told
pub front-tells : (left : ℕ) (held piece : List ℕ) (next : Next) (after : FeedState) → 0 < left → IsFront left (held ++ piece) next after → TellsNext (Owes left held) piece next after
front-tells zero held piece next after some is = absurd (omega (arith, some))
front-tells (suc left) held piece (next.Root root rest) after some is =
    let last : suc left - 1 ≡ left = omega arith in
    let state : after ≡ Owes left [] = is.1 ∙ ap (λ (n : ℕ). Owes n []) last in
    ap (λ (f : Front). told_by f (suc left) (held ++ piece) (told left)) is.0
    ∙ sym (ap (λ (h : FeedState). let more = told_from h rest.now in (root ∷ more.0, more.1)) state)
front-tells (suc left) held piece next.Wait after some (inl is) =
    (ap (λ (f : Front). told_by f (suc left) (held ++ piece) (told left)) is.0 ∙ ap (λ (h : FeedState). ([], h)) (sym is.1), λ e. apart (sym is.1 ∙ e))
  where
    apart : Owes (suc left) (held ++ piece) ≡ Failed → ⊥
    apart e = cc
front-tells (suc left) held piece next.Wait after some (inr is) =
    (ap (λ (f : Front). told_by f (suc left) (held ++ piece) (told left)) is.2 ∙ ap (λ (h : FeedState). ([], h)) (sym is.3), λ e. apart (sym is.3 ∙ e))
  where
    apart : Overlong (suc left) is.0 ≡ Failed → ⊥
    apart e = cc
front-tells (suc left) held piece next.Failed after some is =
    (ap (λ (f : Front). told_by f (suc left) (held ++ piece) (told left)) is.0, is.1)

pub front-held : (left : ℕ) (bytes : List ℕ) (next : Next) (after : FeedState) → 0 < left → left ≤ 64 → IsFront left bytes next after → MayBeHeld after
front-held left bytes (next.Root root rest) after some few is = subst MayBeHeld (sym is.1) (omega (arith, few), front-none, λ _. refl)
front-held left bytes next.Wait after some few (inl is) = subst MayBeHeld (sym is.1) (few, is.0, λ none. absurd (omega (arith, some, none)))
front-held left bytes next.Wait after some few (inr is) = subst MayBeHeld (sym is.3) (few, is.1)
front-held left bytes next.Failed after some few is = subst MayBeHeld (sym is.1) tt

-- bytes of a root whose signature is too long
pub passed-tells : (left missing : ℕ) (piece : List ℕ) (next : Next) (stage : Stage) (kept : List ℕ) → TellsPassed left missing piece next stage → TellsNext (Overlong left missing) piece next (held_of stage kept)
passed-tells left missing piece (next.Root root rest) stage kept tells = absurd tells
passed-tells left missing piece next.Wait stage kept tells =
    let state : held_of stage kept ≡ Overlong left (missing - length piece) = ap (λ (s : Stage). held_of s kept) tells.1 in
    (rw (lt-ltb (length piece) missing tells.0) (ap (λ (h : FeedState). ([], h)) (sym state)), λ e. apart (sym state ∙ e))
  where
    apart : {n : ℕ} → Overlong left n ≡ Failed → ⊥
    apart e = cc
passed-tells left missing piece next.Failed stage kept tells = (rw (le-ltb (length piece) missing tells.0) refl, ap (λ (s : Stage). held_of s kept) tells.1)

pub passed-held : (left missing : ℕ) (piece : List ℕ) (next : Next) (stage : Stage) (kept : List ℕ) → left ≤ 64 → TellsPassed left missing piece next stage → MayBeHeld (held_of stage kept)
passed-held left missing piece (next.Root root rest) stage kept few tells = absurd tells
passed-held left missing piece next.Wait stage kept few tells = subst MayBeHeld (sym (ap (λ (s : Stage). held_of s kept) tells.1)) (few, omega (arith, tells.0))
passed-held left missing piece next.Failed stage kept few tells = subst MayBeHeld (sym (ap (λ (s : Stage). held_of s kept) tells.1)) tt

-- ---- what is told is spelled

len_below : (bytes : List ℕ) (size : ℕ) (rest : List ℕ) → IsBytes bytes → read_signature_len bytes ≡ Ok (size, rest) → size < 256 ^ 2
unfolding read_signature_len
len_below bytes size rest small e =
    let u = bind_ok (read_bytes 146 bytes) (λ k. read_number 2 k.1) (size, rest) e in
    let body = bytes_long 146 bytes u.0 u.1 in
    let left : drop 146 bytes ≡ u.0.1 = sym (ap (λ (z : List ℕ × List ℕ). z.1) body.1) in
    let bytes_left : IsBytes u.0.1 = subst IsBytes left (IsBytes-back (take 146 bytes) (drop 146 bytes) (rw (take-append-drop 146 bytes) small)) in
    ((numbers_field 2).spelled u.0.1 (size, rest) bytes_left u.2).1

whole_is : (root found : SignedRoot) (rest left : List ℕ) → Whole found left ≡ Whole root rest → (found ≡ root) × (left ≡ rest)
whole_is root found rest left e = (ap first e, ap after e)
  where
    first : Front → SignedRoot
    first (Whole one more) = one
    first Part = root
    first (TooLong missing) = root
    first Bad = root

    after : Front → List ℕ
    after (Whole one more) = more
    after Part = rest
    after (TooLong missing) = rest
    after Bad = rest

read_is : {A : Type 0} (reading : Reading A) (x : A) → whole_of reading ≡ Ok x → reading ≡ Ok (x, [])
read_is {A} (Ok (y, [])) x e = ap (λ (z : A). Ok (z, [])) (ok_is y x e)
read_is {A} (Ok (y, byte ∷ rest)) x e = absurd cc
read_is {A} (Err fault) x e = absurd cc

-- what stands first is a root's spelling, and the bytes after it
front-is : (bytes : List ℕ) (root : SignedRoot) (rest : List ℕ) → IsBytes bytes → front bytes ≡ Whole root rest
    → (bytes ≡ signed_root_bytes root ++ rest) × IsSignedRoot root
front-is bytes root rest small e = by_len (read_signature_len bytes) refl
  where
    Found : Type 0
    Found = (bytes ≡ signed_root_bytes root ++ rest) × IsSignedRoot root

    by_read : (size : ℕ) (r : Result SignedRoot Fault) → whole_of (read_signed_root (take (148 + size) bytes)) ≡ r → front_read r (drop (148 + size) bytes) ≡ Whole root rest → Found
    by_read size (Err fault) read is = absurd cc
    by_read size (Ok found) read is =
        let same = whole_is root found rest (drop (148 + size) bytes) is in
        let spelled = whole-read read_signed_root signed_root_bytes IsSignedRoot signed_root_field (take (148 + size) bytes) found (IsBytes-take (148 + size) bytes small) (read_is _ found read) in (
          sym (take-append-drop (148 + size) bytes) ∙ ap (λ (front : List ℕ). front ++ drop (148 + size) bytes) (spelled.0 ∙ ap signed_root_bytes same.0)
              ∙ ap (λ (left : List ℕ). signed_root_bytes root ++ left) same.1,
          subst IsSignedRoot same.0 spelled.1,
        )

    by_len : (r : Reading ℕ) → read_signature_len bytes ≡ r → Found
    by_len (Err fault) len = absurd (none (sym (front-short bytes fault len) ∙ e))
      where
        none : Part ≡ Whole root rest → ⊥
        none e = cc
    by_len (Ok (size, left)) len = elim (cases_lt 256 size) [
      | inl large ↦ elim (long-is (148 + size) bytes) [
        | inl short ↦ absurd (missing (sym short.1 ∙ sym (front-long bytes size left len large) ∙ e))
        | inr all ↦ absurd (bad (sym all.1 ∙ sym (front-long bytes size left len large) ∙ e))
      ]
      | inr few ↦ elim (cases_lt (length bytes) (148 + size)) [
        | inl short ↦ absurd (none (sym (front-part bytes size left len few short) ∙ e))
        | inr long ↦ by_read size (whole_of (read_signed_root (take (148 + size) bytes))) refl (sym (front-root bytes size left len few long) ∙ e)
      ]
    ]
      where
        none : Part ≡ Whole root rest → ⊥
        none e = cc

        missing : {n : ℕ} → TooLong n ≡ Whole root rest → ⊥
        missing e = cc

        bad : Bad ≡ Whole root rest → ⊥
        bad e = cc

-- so many roots are spelled where the feed is done
roots-are : (left : ℕ) (bytes : List ℕ) → IsBytes bytes → (told left bytes).1 ≡ Done
    → (bytes ≡ flat_map signed_root_bytes (told left bytes).0) × (length (told left bytes).0 ≡ left) × AllByRecursion IsSignedRoot (told left bytes).0
roots-are zero [] small done = (refl, refl, tt)
roots-are zero (byte ∷ bytes) small done = absurd cc
roots-are (suc left) bytes small done = by_front (λ rest. roots-are left rest) (front bytes) refl
  where
    told_of : Front → List SignedRoot × FeedState
    told_of f = told_by f (suc left) bytes (told left)

    Are : List SignedRoot × FeedState → Type 0
    Are t = (bytes ≡ flat_map signed_root_bytes t.0) × (length t.0 ≡ suc left) × AllByRecursion IsSignedRoot t.0

    Later : Type 0
    Later = (rest : List ℕ) → IsBytes rest → (told left rest).1 ≡ Done → (rest ≡ flat_map signed_root_bytes (told left rest).0) × (length (told left rest).0 ≡ left) × AllByRecursion IsSignedRoot (told left rest).0

    by_front : Later → (f : Front) → front bytes ≡ f → Are (told_of (front bytes))
    by_front later Part e = absurd (never (sym (ap (λ (f : Front). (told_of f).1) e) ∙ done))
      where
        never : Owes (suc left) bytes ≡ Done → ⊥
        never e = cc
    by_front later (TooLong missing) e = absurd (never (sym (ap (λ (f : Front). (told_of f).1) e) ∙ done))
      where
        never : Overlong (suc left) missing ≡ Done → ⊥
        never e = cc
    by_front later Bad e = absurd (never (sym (ap (λ (f : Front). (told_of f).1) e) ∙ done))
      where
        never : Failed ≡ Done → ⊥
        never e = cc
    by_front later (Whole root rest) e =
        let is = front-is bytes root rest small e in
        let more = later rest (IsBytes-back (signed_root_bytes root) rest (subst IsBytes is.0 small)) (sym (ap (λ (f : Front). (told_of f).1) e) ∙ done) in
        subst (λ (f : Front). Are (told_of f)) (sym e) (is.0 ∙ ap (λ (left : List ℕ). signed_root_bytes root ++ left) more.0, ap suc more.1, (is.1, more.2))

-- a feed that is done was given a list
pub list-is : (bytes : List ℕ) → IsBytes bytes → (told_from (Counts []) bytes).1 ≡ Done → SpellsRoots bytes (told_from (Counts []) bytes).0
list-is bytes small done = by_count (read_root_count bytes) refl
  where
    by_count : (r : Reading ℕ) → read_root_count bytes ≡ r → SpellsRoots bytes (told_counted (read_root_count bytes) bytes).0
    by_count (Ok (count, rest)) e =
        let few = (count_more bytes count rest e).1 in
        let is = (count_field.spelled bytes (count, rest) small e).0 in
        let are = roots-are count rest (IsBytes-back (big_bytes 2 count) rest (subst IsBytes is small)) (sym (ap (λ (r : Reading ℕ). (told_counted r bytes).1) e) ∙ done) in
        subst (λ (r : Reading ℕ). SpellsRoots bytes (told_counted r bytes).0) (sym e)
        (is ∙ ap (λ (left : List ℕ). big_bytes 2 count ++ left) are.0 ∙ ap (λ (n : ℕ). big_bytes 2 n ++ flat_map signed_root_bytes (told count rest).0) (sym are.1), (subst (λ (n : ℕ). n ≤ 64) (sym are.1) few, are.2))
    by_count (Err fault) e = absurd (never fault (sym (ap (λ (r : Reading ℕ). (told_counted r bytes).1) e) ∙ done))
      where
        never : (fault : Fault) → (told_counted (Err fault) bytes).1 ≡ Done → ⊥
        never Short e = cc
        never Trailing e = cc
        never OutOfRange e = cc

-- no more is told where no root stands first
none-told : (left : ℕ) (rest : List ℕ) → IsBytes rest → ¬ Begins signed_root_bytes IsSignedRoot rest → (told left rest).0 ≡ []
none-told zero [] small none = refl
none-told zero (byte ∷ rest) small none = refl
none-told (suc left) rest small none = by_front (front rest) refl
  where
    told_of : Front → List SignedRoot
    told_of f = (told_by f (suc left) rest (told left)).0

    by_front : (f : Front) → front rest ≡ f → told_of (front rest) ≡ []
    by_front Part e = ap told_of e
    by_front (TooLong missing) e = ap told_of e
    by_front Bad e = ap told_of e
    by_front (Whole root more) e = let is = front-is rest root more small e in absurd (none (root, more, is.0, is.1))

-- how a list goes on behind some roots: these are all, or no root stands first in the bytes behind them
abbrev Ends : ℕ → List SignedRoot → List ℕ → Type 0
Ends count roots rest = (length roots ≡ count) ⊎ ((length roots < count) × ¬ Begins signed_root_bytes IsSignedRoot rest)

ends-later : (count : ℕ) (root : SignedRoot) (roots : List SignedRoot) (rest : List ℕ) → Ends (suc count) (root ∷ roots) rest → Ends count roots rest
ends-later count root roots rest (inl all) = inl (omega (arith, all))
ends-later count root roots rest (inr less) = inr (omega (arith, less.0), less.1)

ends-not : (root : SignedRoot) (roots : List SignedRoot) (rest : List ℕ) → Ends zero (root ∷ roots) rest → ⊥
ends-not root roots rest (inl all) = omega (arith, all)
ends-not root roots rest (inr less) = omega (arith, less.0)

-- the roots that are spelled are told, and no other
roots-told : (roots : List SignedRoot) (count : ℕ) (rest : List ℕ) → IsBytes rest → AllByRecursion IsSignedRoot roots → Ends count roots rest
    → (told count (flat_map signed_root_bytes roots ++ rest)).0 ≡ roots
roots-told [] zero [] small each ends = refl
roots-told [] zero (byte ∷ rest) small each ends = refl
roots-told [] (suc count) rest small each (inl all) = absurd (omega (arith, all))
roots-told [] (suc count) rest small each (inr less) = none-told (suc count) rest small less.1
roots-told (root ∷ roots) zero rest small each ends = absurd (ends-not root roots rest ends)
roots-told (root ∷ roots) (suc count) rest small each ends =
    let more = flat_map signed_root_bytes roots ++ rest in
    let parted : flat_map signed_root_bytes (root ∷ roots) ++ rest ≡ signed_root_bytes root ++ more = append_assoc (signed_root_bytes root) (flat_map signed_root_bytes roots) rest in
    ap (λ (bytes : List ℕ). (told (suc count) bytes).0) parted
    ∙ ap (λ (f : Front). (told_by f (suc count) (signed_root_bytes root ++ more) (told count)).0) (front-spelled root more each.0)
    ∙ ap (λ (rs : List SignedRoot). root ∷ rs) (roots-told roots count rest small each.1 (ends-later count root roots rest ends))

pub whole-told : (count : ℕ) (roots : List SignedRoot) (rest bytes : List ℕ) → IsBytes bytes → HasWholeRoots count roots rest bytes → (told_from (Counts []) bytes).0 ≡ roots
whole-told count roots rest bytes small (few, each, is, ends) =
    let all = flat_map signed_root_bytes roots ++ rest in
    let left_small : IsBytes rest = IsBytes-back (flat_map signed_root_bytes roots) rest (IsBytes-back (big_bytes 2 count) all (subst IsBytes is small)) in
    let read : read_root_count bytes ≡ Ok (count, all) = ap read_root_count is ∙ count_field.again count all (omega (arith, few), rw (le-leb 0 count (omega arith), le-leb count 64 few) refl) in
    ap (λ (r : Reading ℕ). (told_counted r bytes).0) read ∙ roots-told roots count rest left_small each ends

-- ---- bytes that no list has there

pub behind-fails : (bytes : List ℕ) (roots : List SignedRoot) (byte : ℕ) (more : List ℕ) → SpellsRoots bytes roots → (told_from (Counts []) (bytes ++ (byte ∷ more))).1 ≡ Failed
behind-fails bytes roots byte more is =
    ap (λ (t : List SignedRoot × FeedState). t.1) (from-more (Counts []) bytes (byte ∷ more))
    ∙ ap (λ (t : List SignedRoot × FeedState). (told_from t.1 (byte ∷ more)).1) (list-spelled bytes roots is)

not_leb : (count : ℕ) (b : Bool) → 64 < count → leb count 64 ≡ b → leb count 64 ≡ false
not_leb count true many e = absurd (omega (arith, many, leb-true count 64 e))
not_leb count false many e = e

too-many-read : (count : ℕ) (bytes more : List ℕ) → 64 < count → count < 2 ^ 16 → bytes ≡ big_bytes 2 count ++ more → read_root_count bytes ≡ Err OutOfRange
unfolding read_root_count
too-many-read count bytes more many small is =
    let read : read_number 2 bytes ≡ Ok (count, more) = ap (read_number 2) is ∙ (numbers_field 2).again count more (omega (arith, small)) in
    rw (read, le-leb 0 count (omega arith), not_leb count (leb count 64) many refl) refl

pub too-many-fail : (count : ℕ) (bytes more : List ℕ) → 64 < count → count < 2 ^ 16 → bytes ≡ big_bytes 2 count ++ more → told_from (Counts []) bytes ≡ ([], Failed)
too-many-fail count bytes more many small is = ap (λ (r : Reading ℕ). told_counted r bytes) (too-many-read count bytes more many small is)

-- ---- bytes that are not refused are few

roots-few : (left : ℕ) (bytes : List ℕ) → IsBytes bytes → (told left bytes).1 ≢ Failed → length bytes ≤ 404 * left + 65683
roots-few zero [] small some = omega arith
roots-few zero (byte ∷ bytes) small some = absurd (some refl)
roots-few (suc left) bytes small some = by_front (λ rest. roots-few left rest) (front bytes) refl
  where
    told_of : Front → List SignedRoot × FeedState
    told_of f = told_by f (suc left) bytes (told left)

    by_front : ((rest : List ℕ) → IsBytes rest → (told left rest).1 ≢ Failed → length rest ≤ 404 * left + 65683) → (f : Front) → front bytes ≡ f → length bytes ≤ 404 * suc left + 65683
    by_front later Part e = by_len (read_signature_len bytes) refl
      where
        by_len : (r : Reading ℕ) → read_signature_len bytes ≡ r → length bytes ≤ 404 * suc left + 65683
        by_len (Err fault) len = omega (arith, len_none bytes fault len)
        by_len (Ok (size, rest)) len = let few = len-few bytes size rest len e in omega (arith, few, part-is bytes size rest len few e)
    by_front later (TooLong missing) e = by_len (read_signature_len bytes) refl
      where
        by_len : (r : Reading ℕ) → read_signature_len bytes ≡ r → length bytes ≤ 404 * suc left + 65683
        by_len (Err fault) len = omega (arith, len_none bytes fault len)
        by_len (Ok (size, rest)) len =
            let few = len_below bytes size rest small len in
            elim (cases_lt (length bytes) (148 + size)) [
              | inl short ↦ omega (arith, few, short)
              | inr long ↦ absurd (no_more size rest len long)
            ]
          where
            no_more : (size : ℕ) (rest : List ℕ) → read_signature_len bytes ≡ Ok (size, rest) → 148 + size ≤ length bytes → ⊥
            no_more size rest len long = elim (cases_lt 256 size) [
              | inl large ↦ apart (sym (front-long bytes size rest len large ∙ rw (le-ltb (length bytes) (148 + size) long) refl) ∙ e)
              | inr few ↦ by_read (whole_of (read_signed_root (take (148 + size) bytes))) (sym (front-root bytes size rest len few long) ∙ e)
            ]
              where
                apart : Bad ≡ TooLong missing → ⊥
                apart e = cc

                by_read : (r : Result SignedRoot Fault) → front_read r (drop (148 + size) bytes) ≡ TooLong missing → ⊥
                by_read (Ok root) e = cc
                by_read (Err fault) e = cc
    by_front later Bad e = absurd (some (ap (λ (f : Front). (told_of f).1) e))
    by_front later (Whole root rest) e =
        let is = front-is bytes root rest small e in
        let more = later rest (IsBytes-back (signed_root_bytes root) rest (subst IsBytes is.0 small)) (λ failed. some (ap (λ (f : Front). (told_of f).1) e ∙ failed)) in
        omega (arith, more, root_size root is.1, is.1.1.1, length-append (signed_root_bytes root) rest, ap (λ (z : List ℕ). length z) is.0)

pub list-few : (bytes : List ℕ) → IsBytes bytes → (told_from (Counts []) bytes).1 ≢ Failed → length bytes ≤ 91541
list-few bytes small some = by_count (read_root_count bytes) refl
  where
    by_count : (r : Reading ℕ) → read_root_count bytes ≡ r → length bytes ≤ 91541
    by_count (Ok (count, rest)) e =
        let few = (count_more bytes count rest e).1 in
        let is = (count_field.spelled bytes (count, rest) small e).0 in
        let more = roots-few count rest (IsBytes-back (big_bytes 2 count) rest (subst IsBytes is small)) (λ failed. some (ap (λ (r : Reading ℕ). (told_counted r bytes).1) e ∙ failed)) in
        omega (arith, few, more, length-bytes_high_first 2 count, length-append (big_bytes 2 count) rest, ap (λ (z : List ℕ). length z) is)
    by_count (Err fault) e = elim (count_fault bytes fault e) [
      | inl less ↦ omega (arith, less.0)
      | inr large ↦ absurd (some (ap (λ (r : Reading ℕ). (told_counted r bytes).1) (e ∙ ap refused large.1)))
    ]
