use Rattle.std.proofs.Common.{arith, ◌++◌}
use Rattle.std.proofs.lemmas.List.{length-append}
use Rattle.encoding.specs.Forms.{counted_bytes}
use Rattle.rootchain.proofs.signed_root.SignedRoot.written_len.Goals as goal

pub returns-clause-value : goal.returns-clause-value
returns-clause-value c =
    let body = c.args.self.now.body in
    let rest = counted_bytes c.args.self.now.signature in
    rw c.bytes-5.ensures.value (omega (
      arith,
      c.bytes.ensures,
      c.bytes-2.ensures,
      c.bytes-3.ensures,
      c.bytes-4.ensures,
      c.bytes-5.ensures,
      length-append (body.root ++ (body.previous_hash ++ (body.nonce ++ body.vuf_key))) rest,
      length-append body.root (body.previous_hash ++ (body.nonce ++ body.vuf_key)),
      length-append body.previous_hash (body.nonce ++ body.vuf_key),
      length-append body.nonce body.vuf_key,
    ))
