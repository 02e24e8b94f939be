-- What the forms spell are bytes, and how many at most.
use Rattle.std.proofs.Common.{ℕ, ◌+◌, ◌*◌, ◌≤◌, ◌<◌, List, [], ◌∷◌, ◌++◌, length, flat_map, Option, Some, None, arith, lit≤}
use Rattle.std.proofs.lemmas.List.{length-append}
use Rattle.std.proofs.Math.Nat.{suc-mul, zero-mul}
use Rattle.std.specs.List.{AllByRecursion}
use Rattle.byteorder.specs.Numbers.{length-bytes_high_first}
use Rattle.encoding.specs.Bytes.{Is32Bytes, IsBytes}
use Rattle.encoding.specs.Endian.{big_bytes}
use Rattle.encoding.specs.Forms.{counted_bytes}
use Rattle.encoding.specs.Limits.{IsWithin}
use Rattle.encoding.specs.Policies.{policy_bytes, version_of}
use Rattle.encoding.specs.declared.policy.Policy.{Policy}
use Rattle.encoding.specs.declared.policy.Policy.TheVariants.{Open, Final}
use Rattle.encoding.proofs.ByteLists.{IsBytes-append, IsBytes-bytes_high_first, IsBytes-cons, IsBytes-two}
use Rattle.rootchain.specs.declared.body.Body.{Body}
use Rattle.rootchain.specs.declared.promise.Promise.{Promise}
use Rattle.rootchain.specs.declared.signed_promise.SignedPromise.{SignedPromise}
use Rattle.rootchain.specs.declared.signed_root.SignedRoot.{SignedRoot}
use Rattle.rootchain.specs.Bodies.{body_bytes, IsBody}
use Rattle.rootchain.specs.Promises.{promise_bytes, promise_kind, signed_promise_bytes, IsPromise, IsSignedPromise}
use Rattle.rootchain.specs.RootLists.{root_list_bytes, IsRootList}
use Rattle.rootchain.specs.SignedRoots.{signed_root_bytes, IsSignedRoot}

-- bytes, at most so many
pub record AreFew (most : ℕ) (bytes : List ℕ) : Type 0 where
  pub few : length bytes ≤ most
  pub small : IsBytes bytes

pub both_few : {xs ys : List ℕ} (m n : ℕ) → AreFew m xs → AreFew n ys → AreFew (m + n) (xs ++ ys)
both_few {xs} {ys} m n x y = record { few = omega (arith, length-append xs ys, x.few, y.few); small = IsBytes-append xs ys x.small y.small }

pub number_few : (count n : ℕ) → AreFew count (big_bytes count n)
number_few count n = record { few = omega (arith, length-bytes_high_first count n); small = IsBytes-bytes_high_first count n }

pub hash_few : (bytes : List ℕ) → Is32Bytes bytes → AreFew 32 bytes
hash_few bytes h = record { few = omega (arith, h.0); small = h.1 }

pub pair_few : (x y : ℕ) → x < 256 → y < 256 → AreFew 2 (x ∷ y ∷ [])
pair_few x y first second = record { few = lit≤ tt; small = IsBytes-two x y first second }

pub one_few : (x : ℕ) → x < 256 → AreFew 1 (x ∷ [])
one_few x h = record { few = lit≤ tt; small = IsBytes-cons x [] h (λ k. omega arith) }

pub fewer : {bytes : List ℕ} (m n : ℕ) → AreFew m bytes → m ≤ n → AreFew n bytes
fewer m n h below = record { few = omega (arith, h.few, below); small = h.small }

pub counted_few : (least most : ℕ) (bytes : List ℕ) → IsWithin least most bytes → AreFew (2 + most) (counted_bytes bytes)
counted_few least most bytes h = both_few 2 most (number_few 2 (length bytes)) (record { few = h.1; small = h.2 })

pub each_few : {A : Type 0} (s : A → List ℕ) (P : A → Type 0) (most : ℕ) → ((x : A) → P x → AreFew most (s x)) → (xs : List A) → AllByRecursion P xs
    → AreFew (length xs * most) (flat_map s xs)
each_few s P most of_one [] all = record { few = rw (zero-mul most) (lit≤ tt); small = λ k. omega arith }
each_few s P most of_one (x ∷ xs) all =
    fewer (most + length xs * most) (length (x ∷ xs) * most) (both_few most (length xs * most) (of_one x all.0) (each_few s P most of_one xs all.1))
    (omega (arith, suc-mul (length xs) most))

pub body_few : (body : Body) → IsBody body → AreFew 146 (body_bytes body)
body_few body h =
    both_few 2 144 (pair_few 0x52 1 (lit≤ tt) (lit≤ tt)) (both_few 8 136 (number_few 8 body.epoch) (both_few 8 128 (number_few 8 body.previous_epoch)
    (both_few 32 96 (hash_few body.root h.1.2) (both_few 32 64 (hash_few body.previous_hash h.1.3) (both_few 32 32 (hash_few body.nonce h.1.4) (hash_few body.vuf_key h.1.5))))))

pub root_few : (signed : SignedRoot) → IsSignedRoot signed → AreFew 404 (signed_root_bytes signed)
root_few signed h = both_few 146 258 (body_few signed.body h.0) (counted_few 1 256 signed.signature h.1)

pub roots_few : (roots : List SignedRoot) → IsRootList roots → AreFew 25858 (root_list_bytes roots)
roots_few roots h =
    fewer (2 + length roots * 404) 25858 (both_few 2 (length roots * 404) (number_few 2 (length roots)) (each_few signed_root_bytes IsSignedRoot 404 root_few roots h.1)) (omega (arith, h.0))

pub policy_few : (policy : Option Policy) → AreFew 1 (policy_bytes policy)
policy_few None = record { few = lit≤ tt; small = λ k. omega arith }
policy_few (Some Open) = one_few 1 (lit≤ tt)
policy_few (Some Final) = one_few 2 (lit≤ tt)

head_few : (policy : Option Policy) → AreFew 2 (promise_kind ∷ version_of policy ∷ [])
head_few None = pair_few 0x50 1 (lit≤ tt) (lit≤ tt)
head_few (Some policy) = pair_few 0x50 2 (lit≤ tt) (lit≤ tt)

promise_few : (promise : Promise) → IsPromise promise → AreFew 2382 (promise_bytes promise)
promise_few promise h =
    both_few 2 2380 (head_few promise.key.policy) (both_few 8 2372 (number_few 8 promise.epoch)
    (both_few 32 2340 (hash_few promise.body_hash h.1) (both_few 32 2308 (hash_few promise.index h.2) (both_few 1 2307 (policy_few promise.key.policy)
    (both_few 257 2050 (counted_few 1 255 promise.name h.3) (counted_few 1 2048 promise.key.value h.4))))))

pub signed_promise_few : (signed : SignedPromise) → IsSignedPromise signed → AreFew 2640 (signed_promise_bytes signed)
signed_promise_few signed h = both_few 2382 258 (promise_few signed.promise h.0) (counted_few 1 256 signed.signature h.1)
