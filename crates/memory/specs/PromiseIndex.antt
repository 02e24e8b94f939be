-- The index of promises: a set of their bytes.
use Rattle.std.specs.Prelude.{ℕ, List, Vec, map, IsTrue}
use Rattle.std.specs.BTreeSet.{contains_by, BTreeSet}
use Rattle.std.specs.List.{AllByRecursion}
use Rattle.encoding.specs.Bytes.{bytes_cmp}
use Rattle.rootchain.specs.Promises.{signed_promise_bytes}
use Rattle.rootchain.specs.declared.signed_promise.SignedPromise.{SignedPromise}
use Rattle.memory.specs.Memories.{signed_of}
use Rattle.memory.specs.declared.promised.Promised.{Promised}

-- the set has the bytes of the promise
abbrev pub IsIndexed : {A : Type 0} → BTreeSet (Vec ℕ A) → SignedPromise → Type 0
IsIndexed index signed = IsTrue (contains_by (λ key. bytes_cmp (signed_promise_bytes signed) key.items) index)

-- the set has the bytes of each promise
abbrev pub AreIndexed : {A : Type 0} → BTreeSet (Vec ℕ A) → List Promised → Type 0
AreIndexed index promises = AllByRecursion (IsIndexed index) (map signed_of promises)
