use Rattle.std.proofs.Common.{◌≡◌, ◌≢◌, ◌⊎◌, ◌≤◌, inl, inr, rules, arith, refl}
use Rattle.proofs.specs.Views.{key_stated}
use Rattle.client.proofs.Greatest.{with-higher, with-newer, with-no-more, with-other}
use Rattle.client.proofs.extremes.Greatest.with.Goals as goal
use Rattle.client.proofs.extremes.Greatest.with.Goals.{then-same-via-then-same, then-same-via-else-same+then-number-self-2}

pub returns-then-same-clause-latest : goal.returns-then-same-clause-latest
returns-then-same-clause-latest c =
    let low = c.if-number-self.true in
    let why : (key_stated c.args.stated ≡ key_stated c.statement.result) ⊎ (c.args.number ≤ c.args.self.now.other) = elim c.then-same.branch [
      | then-same-via-then-same w ↦ inl (search rules)
      | then-same-via-else-same+then-number-self-2 w ↦ (let under = w.if-number-self-2.true in inr (omega (arith, under)))
    ] in
    let kept : c.in_ok-bytes.bytes.value.items ≡ c.args.self.now.bytes.value.items = search rules in
    λ before of is. with-no-more is (key_stated c.statement.result) c.statement.ensures c.args.reply.now refl (key_stated c.args.stated) c.requires.stated c.args.number of _ kept refl refl (omega (arith, low)) why

pub returns-then-number-self-clause-latest : goal.returns-then-number-self-clause-latest
returns-then-number-self-clause-latest c =
    let low = c.if-number-self.true in
    let high = c.if-number-self-2.false in
    let apart : key_stated c.args.stated ≢ key_stated c.statement.result = search rules in
    let kept : c.in_ok-bytes.bytes.value.items ≡ c.args.self.now.bytes.value.items = search rules in
    λ before of is. with-other is (key_stated c.statement.result) c.statement.ensures c.args.reply.now refl (key_stated c.args.stated) c.requires.stated c.args.number of _ kept refl refl apart (omega (arith, low)) (omega (arith, high))

pub returns-then-same-2-clause-latest : goal.returns-then-same-2-clause-latest
returns-then-same-2-clause-latest c =
    let high = c.if-number-self.false in
    let same : key_stated c.args.stated ≡ key_stated c.statement.result = search rules in
    let new : c.in_ok-bytes-2.bytes.value.items ≡ c.args.reply.now.bytes = search rules in
    λ before of is. with-higher is (key_stated c.statement.result) c.statement.ensures c.args.reply.now refl (key_stated c.args.stated) c.requires.stated c.args.number of _ new refl refl same (omega (arith, high))

pub returns-clause-latest : goal.returns-clause-latest
returns-clause-latest c =
    let high = c.if-number-self.false in
    let apart : key_stated c.args.stated ≢ key_stated c.statement.result = search rules in
    let new : c.in_ok-bytes-2.bytes.value.items ≡ c.args.reply.now.bytes = search rules in
    λ before of is. with-newer is (key_stated c.statement.result) c.statement.ensures c.args.reply.now refl (key_stated c.args.stated) c.requires.stated c.args.number of _ new refl refl apart (omega (arith, high))

pub returns-then-same-clause-earliest : goal.returns-then-same-clause-earliest
returns-then-same-clause-earliest c =
    let low = c.if-number-self.true in
    let why : (key_stated c.args.stated ≡ key_stated c.statement.result) ⊎ (c.args.number ≤ c.args.self.now.other) = elim c.then-same.branch [
      | then-same-via-then-same w ↦ inl (search rules)
      | then-same-via-else-same+then-number-self-2 w ↦ (let under = w.if-number-self-2.true in inr (omega (arith, under)))
    ] in
    let kept : c.in_ok-bytes.bytes.value.items ≡ c.args.self.now.bytes.value.items = search rules in
    λ before of final is. with-no-more is (key_stated c.statement.result) c.statement.ensures c.args.reply.now (refl, final) (key_stated c.args.stated) c.requires.stated c.args.number of _ kept refl refl (omega (arith, low)) why

pub returns-then-number-self-clause-earliest : goal.returns-then-number-self-clause-earliest
returns-then-number-self-clause-earliest c =
    let low = c.if-number-self.true in
    let high = c.if-number-self-2.false in
    let apart : key_stated c.args.stated ≢ key_stated c.statement.result = search rules in
    let kept : c.in_ok-bytes.bytes.value.items ≡ c.args.self.now.bytes.value.items = search rules in
    λ before of final is. with-other is (key_stated c.statement.result) c.statement.ensures c.args.reply.now (refl, final) (key_stated c.args.stated) c.requires.stated c.args.number of _ kept refl refl apart (omega (arith, low)) (omega (arith, high))

pub returns-then-same-2-clause-earliest : goal.returns-then-same-2-clause-earliest
returns-then-same-2-clause-earliest c =
    let high = c.if-number-self.false in
    let same : key_stated c.args.stated ≡ key_stated c.statement.result = search rules in
    let new : c.in_ok-bytes-2.bytes.value.items ≡ c.args.reply.now.bytes = search rules in
    λ before of final is. with-higher is (key_stated c.statement.result) c.statement.ensures c.args.reply.now (refl, final) (key_stated c.args.stated) c.requires.stated c.args.number of _ new refl refl same (omega (arith, high))

pub returns-clause-earliest : goal.returns-clause-earliest
returns-clause-earliest c =
    let high = c.if-number-self.false in
    let apart : key_stated c.args.stated ≢ key_stated c.statement.result = search rules in
    let new : c.in_ok-bytes-2.bytes.value.items ≡ c.args.reply.now.bytes = search rules in
    λ before of final is. with-newer is (key_stated c.statement.result) c.statement.ensures c.args.reply.now (refl, final) (key_stated c.args.stated) c.requires.stated c.args.number of _ new refl refl apart (omega (arith, high))
