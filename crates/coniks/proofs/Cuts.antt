-- Where the parts of a signed root and of a reply stand in their bytes.
use Rattle.std.proofs.Common.{◌≡◌, ℕ, ◌+◌, true, List, [], ◌∷◌, ◌++◌, Option, None, Some, drop, take, length, length-append, append-nil, append_assoc, ap, arith, refl, sym, subst, ◌∙◌}
use Rattle.encoding.specs.Bytes.{Is32Bytes}
use Rattle.encoding.specs.Endian.{big_bytes}
use Rattle.encoding.specs.Forms.{counted_bytes}
use Rattle.encoding.specs.Policies.{policy_bytes, version_of}
use Rattle.encoding.specs.declared.bound_key.BoundKey.{BoundKey}
use Rattle.rootchain.specs.Bodies.{body_bytes, body_head, IsBody}
use Rattle.rootchain.specs.Promises.{promise_bytes, promise_kind, IsPromise}
use Rattle.rootchain.specs.declared.body.Body.{Body}
use Rattle.rootchain.specs.declared.promise.Promise.{Promise}
use Rattle.proofs.specs.Accepts.{stated}
use Rattle.proofs.specs.Replies.{end_kind, reply_end_bytes, sibling_bytes, Empty, End, IsEnd, Other, Present, Reply, SpellsReply}
use Rattle.coniks.specs.Parts.{policy_code, IsPart, ShowsStatement}

drop-front : (front rest : List ℕ) → drop (length front) (front ++ rest) ≡ rest
drop-front [] rest = refl
drop-front (x ∷ front) rest = drop-front front rest

take-front : (front rest : List ℕ) → take (length front) (front ++ rest) ≡ front
take-front [] rest = refl
take-front (x ∷ front) rest = ap (λ (xs : List ℕ). x ∷ xs) (take-front front rest)

-- a piece behind a front
pub piece-at : (bytes front piece rest : List ℕ) (start len : ℕ) → bytes ≡ front ++ (piece ++ rest) → start ≡ length front → len ≡ length piece → IsPart bytes (record { start = start; len = len }) piece
piece-at bytes front piece rest start len is start-is len-is = (
  (let all = ap length is in let both = length-append front (piece ++ rest) in let more = length-append piece rest in omega (arith, all, both, more, start-is, len-is)),
  rw (is, start-is, len-is, drop-front front (piece ++ rest)) (take-front piece rest),
)

pub body-size : (body : Body) → IsBody body → length (body_bytes body) ≡ 146
body-size body is =
    let root = length-append body.root (body.previous_hash ++ (body.nonce ++ body.vuf_key)) in
    let hash = length-append body.previous_hash (body.nonce ++ body.vuf_key) in
    let nonce = length-append body.nonce body.vuf_key in
    let (numbers, before, one, two, three, four) = is.1 in
    omega (arith, root, hash, nonce, one.0, two.0, three.0, four.0)

-- what stands before the key of the verifiable function
abbrev before-key : Body → List ℕ
before-key body = body_head ++ (big_bytes 8 body.epoch ++ (big_bytes 8 body.previous_epoch ++ (body.root ++ (body.previous_hash ++ body.nonce))))

module _ (body : Body) (is : IsBody body) (rest : List ℕ) where
  pub body-at : IsPart (body_bytes body ++ rest) (record { start = 0; len = 146 }) (body_bytes body)
  body-at = piece-at (body_bytes body ++ rest) [] (body_bytes body) rest 0 146 refl refl (sym (body-size body is))

  key-behind : body_bytes body ++ rest ≡ before-key body ++ (body.vuf_key ++ rest)
  key-behind = ap (λ (xs : List ℕ). body_head ++ (big_bytes 8 body.epoch ++ (big_bytes 8 body.previous_epoch ++ xs))) (
      append_assoc body.root (body.previous_hash ++ (body.nonce ++ body.vuf_key)) rest
      ∙ ap (λ (xs : List ℕ). body.root ++ xs) (append_assoc body.previous_hash (body.nonce ++ body.vuf_key) rest ∙ ap (λ (xs : List ℕ). body.previous_hash ++ xs) (append_assoc body.nonce body.vuf_key rest))
      ∙ sym (append_assoc body.root (body.previous_hash ++ body.nonce) (body.vuf_key ++ rest) ∙ ap (λ (xs : List ℕ). body.root ++ xs) (append_assoc body.previous_hash body.nonce (body.vuf_key ++ rest))))

  before-size : length (before-key body) ≡ 114
  before-size =
      let root = length-append body.root (body.previous_hash ++ body.nonce) in
      let hash = length-append body.previous_hash body.nonce in
      let (numbers, before, one, two, three, four) = is.1 in
      omega (arith, root, hash, one.0, two.0, three.0)

  pub vuf-key-at : IsPart (body_bytes body ++ rest) (record { start = 114; len = 32 }) body.vuf_key
  vuf-key-at =
      let (numbers, before, one, two, three, four) = is.1 in
      piece-at (body_bytes body ++ rest) (before-key body) body.vuf_key rest 114 32 key-behind (sym before-size) (sym four.0)

  -- what is counted behind a body
  pub counted-at : (piece : List ℕ) (more : List ℕ) → rest ≡ counted_bytes piece ++ more → IsPart (body_bytes body ++ rest) (record { start = 148; len = length piece }) piece
  counted-at piece more behind =
      piece-at (body_bytes body ++ rest) (body_bytes body ++ big_bytes 2 (length piece)) piece more 148 (length piece)
      (ap (λ (xs : List ℕ). body_bytes body ++ xs) behind ∙ sym (append_assoc (body_bytes body) (big_bytes 2 (length piece)) (piece ++ more)))
      (let both = length-append (body_bytes body) (big_bytes 2 (length piece)) in let size = body-size body is in omega (arith, both, size)) refl

-- the key of an opened leaf
module _ (body : Body) (value salt : List ℕ) (key : BoundKey) (more : List ℕ) where
  -- what stands behind the value, as far as the key
  abbrev before-stated : List ℕ
  before-stated = end_kind (Present salt key) ∷ (policy_bytes key.policy ++ (salt ++ big_bytes 2 (length key.value)))

  abbrev ahead : List ℕ
  ahead = body_bytes body ++ (counted_bytes value ++ before-stated)

  end-flat : reply_end_bytes (Present salt key) ++ more ≡ before-stated ++ (key.value ++ more)
  end-flat = ap (λ (xs : List ℕ). end_kind (Present salt key) ∷ xs) (
      append_assoc (policy_bytes key.policy) (salt ++ counted_bytes key.value) more
      ∙ ap (λ (xs : List ℕ). policy_bytes key.policy ++ xs) (append_assoc salt (counted_bytes key.value) more ∙ ap (λ (xs : List ℕ). salt ++ xs) (append_assoc (big_bytes 2 (length key.value)) key.value more))
      ∙ sym (append_assoc (policy_bytes key.policy) (salt ++ big_bytes 2 (length key.value)) (key.value ++ more) ∙ ap (λ (xs : List ℕ). policy_bytes key.policy ++ xs) (append_assoc salt (big_bytes 2 (length key.value)) (key.value ++ more))))

  flat : body_bytes body ++ (counted_bytes value ++ (reply_end_bytes (Present salt key) ++ more)) ≡ ahead ++ (key.value ++ more)
  flat =
      ap (λ (xs : List ℕ). body_bytes body ++ (counted_bytes value ++ xs)) end-flat
      ∙ sym (append_assoc (body_bytes body) (counted_bytes value ++ before-stated) (key.value ++ more) ∙ ap (λ (xs : List ℕ). body_bytes body ++ xs) (append_assoc (counted_bytes value) before-stated (key.value ++ more)))

  ahead-size : IsBody body → Is32Bytes salt → (len : ℕ) → len ≡ length (policy_bytes key.policy) → length ahead ≡ 148 + length value + 1 + len + 32 + 2
  ahead-size is salted len len-is =
      let size = body-size body is in
      let all = length-append (body_bytes body) (counted_bytes value ++ before-stated) in
      let counted = length-append (counted_bytes value) before-stated in
      let policy = length-append (policy_bytes key.policy) (salt ++ big_bytes 2 (length key.value)) in
      let with-salt = length-append salt (big_bytes 2 (length key.value)) in
      let salt-size = salted.0 in
      omega (arith, size, all, counted, policy, with-salt, salt-size, len-is)

  pub stated-at : IsBody body → Is32Bytes salt → (len : ℕ) → len ≡ length (policy_bytes key.policy)
      → IsPart (body_bytes body ++ (counted_bytes value ++ (reply_end_bytes (Present salt key) ++ more))) (record { start = 148 + length value + 1 + len + 32 + 2; len = length key.value }) key.value
  stated-at is salted len len-is = piece-at _ ahead key.value more (148 + length value + 1 + len + 32 + 2) (length key.value) flat (sym (ahead-size is salted len len-is)) refl

-- what is shown of the key that an accepted reply states
pub shows-key : (bytes : List ℕ) (reply : Reply) → SpellsReply bytes reply → (key : BoundKey) → stated reply.end ≡ Some key → (size : ℕ) → length reply.value ≡ size → (code : ℕ) → code ≡ policy_code key.policy
    → (len : ℕ) → len ≡ length (policy_bytes key.policy)
    → ShowsStatement bytes (stated reply.end) (record { is_present = true; policy = code; key = record { start = 148 + size + 1 + len + 32 + 2; len = length key.value } })
shows-key bytes reply (is, form) key states size size-is code code-is len len-is = by reply.end refl
  where
    by : (end : End) → reply.end ≡ end → ShowsStatement bytes (stated reply.end) (record { is_present = true; policy = code; key = record { start = 148 + size + 1 + len + 32 + 2; len = length key.value } })
    by (Present salt own) same =
        let states-own : Some own ≡ Some key = sym (ap stated same) ∙ states in
        let one : own ≡ key = cc in
        let salted = subst (λ (end : End). IsEnd end) same form.2 in
        rw (states, ← size-is, is, same) (refl, code-is, (rw (one) (stated-at reply.body reply.value salt key (sibling_bytes reply.siblings) form.0 salted.0 len len-is)))
    by Empty same = let none : ◌≡◌ {A = Option BoundKey} None (Some key) = sym (ap stated same) ∙ states in absurd cc
    by (Other index commitment) same = let none : ◌≡◌ {A = Option BoundKey} None (Some key) = sym (ap stated same) ∙ states in absurd cc

-- ---- the parts of a promise

module _ (promise : Promise) (is : IsPromise promise) where
  abbrev policy : List ℕ
  policy = policy_bytes promise.key.policy

  -- what stands before the policy
  abbrev front : List ℕ
  front = promise_kind ∷ version_of promise.key.policy ∷ (big_bytes 8 promise.epoch ++ (promise.body_hash ++ promise.index))

  front-size : length front ≡ 74
  front-size = let both = length-append promise.body_hash promise.index in omega (arith, both, is.1.0, is.2.0)

  -- the promise, with what stands behind it
  promise-flat : (more : List ℕ) → promise_bytes promise ++ more ≡ front ++ (policy ++ (counted_bytes promise.name ++ (counted_bytes promise.key.value ++ more)))
  promise-flat more = ap (λ (xs : List ℕ). promise_kind ∷ version_of promise.key.policy ∷ (big_bytes 8 promise.epoch ++ xs)) (
      append_assoc promise.body_hash (promise.index ++ (policy ++ (counted_bytes promise.name ++ counted_bytes promise.key.value))) more
      ∙ ap (λ (xs : List ℕ). promise.body_hash ++ xs) (append_assoc promise.index (policy ++ (counted_bytes promise.name ++ counted_bytes promise.key.value)) more
      ∙ ap (λ (xs : List ℕ). promise.index ++ xs) (append_assoc policy (counted_bytes promise.name ++ counted_bytes promise.key.value) more
      ∙ ap (λ (xs : List ℕ). policy ++ xs) (append_assoc (counted_bytes promise.name) (counted_bytes promise.key.value) more)))
      ∙ sym (append_assoc promise.body_hash promise.index (policy ++ (counted_bytes promise.name ++ (counted_bytes promise.key.value ++ more)))))

  pub hash-at : (more : List ℕ) → IsPart (promise_bytes promise ++ more) (record { start = 10; len = 32 }) promise.body_hash
  hash-at more =
      let rest = promise.index ++ (policy ++ (counted_bytes promise.name ++ counted_bytes promise.key.value)) in
      piece-at (promise_bytes promise ++ more) (promise_kind ∷ version_of promise.key.policy ∷ big_bytes 8 promise.epoch) promise.body_hash (rest ++ more) 10 32
      (ap (λ (xs : List ℕ). promise_kind ∷ version_of promise.key.policy ∷ (big_bytes 8 promise.epoch ++ xs)) (append_assoc promise.body_hash rest more)) refl (sym is.1.0)

  module _ (more : List ℕ) (len : ℕ) (len-is : len ≡ length policy) (name : ℕ) (name-is : name ≡ length promise.name) (key : ℕ) (key-is : key ≡ length promise.key.value) where
    abbrev bytes : List ℕ
    bytes = promise_bytes promise ++ more

    pub name-at : IsPart bytes (record { start = 76 + len; len = name }) promise.name
    name-at = piece-at bytes (front ++ (policy ++ big_bytes 2 (length promise.name))) promise.name (counted_bytes promise.key.value ++ more) (76 + len) name
        (promise-flat more ∙ ap (λ (xs : List ℕ). front ++ (policy ++ xs)) (append_assoc (big_bytes 2 (length promise.name)) promise.name (counted_bytes promise.key.value ++ more))
        ∙ sym (append_assoc front (policy ++ big_bytes 2 (length promise.name)) (promise.name ++ (counted_bytes promise.key.value ++ more)) ∙ ap (λ (xs : List ℕ). front ++ xs) (append_assoc policy (big_bytes 2 (length promise.name)) (promise.name ++ (counted_bytes promise.key.value ++ more)))))
        (let f = front-size in let both = length-append front (policy ++ big_bytes 2 (length promise.name)) in let p = length-append policy (big_bytes 2 (length promise.name)) in omega (arith, f, both, p, len-is))
        name-is

    abbrev ahead-of-key : List ℕ
    ahead-of-key = policy ++ (counted_bytes promise.name ++ big_bytes 2 (length promise.key.value))

    key-size : length (front ++ ahead-of-key) ≡ 76 + len + name + 2
    key-size =
        let f = front-size in
        let both = length-append front ahead-of-key in
        let p = length-append policy (counted_bytes promise.name ++ big_bytes 2 (length promise.key.value)) in
        let n = length-append (counted_bytes promise.name) (big_bytes 2 (length promise.key.value)) in
        omega (arith, f, both, p, n, len-is, name-is)

    pub key-at : IsPart bytes (record { start = 76 + len + name + 2; len = key }) promise.key.value
    key-at = piece-at bytes (front ++ ahead-of-key) promise.key.value more (76 + len + name + 2) key
        (promise-flat more ∙ ap (λ (xs : List ℕ). front ++ (policy ++ (counted_bytes promise.name ++ xs))) (append_assoc (big_bytes 2 (length promise.key.value)) promise.key.value more)
        ∙ sym (append_assoc front ahead-of-key (promise.key.value ++ more) ∙ ap (λ (xs : List ℕ). front ++ xs) (append_assoc policy (counted_bytes promise.name ++ big_bytes 2 (length promise.key.value)) (promise.key.value ++ more)
        ∙ ap (λ (xs : List ℕ). policy ++ xs) (append_assoc (counted_bytes promise.name) (big_bytes 2 (length promise.key.value)) (promise.key.value ++ more)))))
        (sym key-size)
        key-is

    promise-size : length (promise_bytes promise) ≡ 76 + len + name + 2 + key
    promise-size =
        let all = ap length (promise-flat []) in
        let f = front-size in
        let none = length-append (promise_bytes promise) [] in
        let both = length-append front (policy ++ (counted_bytes promise.name ++ (counted_bytes promise.key.value ++ []))) in
        let p = length-append policy (counted_bytes promise.name ++ (counted_bytes promise.key.value ++ [])) in
        let n = length-append (counted_bytes promise.name) (counted_bytes promise.key.value ++ []) in
        let k = length-append (counted_bytes promise.key.value) [] in
        omega (arith, all, f, none, both, p, n, k, len-is, name-is, key-is)

    pub promise-at : IsPart bytes (record { start = 0; len = 76 + len + name + 2 + key }) (promise_bytes promise)
    promise-at = piece-at bytes [] (promise_bytes promise) more 0 (76 + len + name + 2 + key) refl refl (sym promise-size)

    pub behind-promise : (piece : List ℕ) (size : ℕ) → size ≡ length piece → more ≡ counted_bytes piece → IsPart bytes (record { start = 76 + len + name + 2 + key + 2; len = size }) piece
    behind-promise piece size size-is behind = piece-at bytes (promise_bytes promise ++ big_bytes 2 (length piece)) piece [] (76 + len + name + 2 + key + 2) size
        (ap (λ (xs : List ℕ). promise_bytes promise ++ xs) (behind ∙ ap (λ (xs : List ℕ). big_bytes 2 (length piece) ++ xs) (sym (append-nil piece))) ∙ sym (append_assoc (promise_bytes promise) (big_bytes 2 (length piece)) (piece ++ [])))
        (let size = promise-size in let both = length-append (promise_bytes promise) (big_bytes 2 (length piece)) in omega (arith, size, both))
        size-is
