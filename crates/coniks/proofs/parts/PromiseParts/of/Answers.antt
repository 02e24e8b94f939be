use Rattle.std.proofs.Common.{ap, length, refl}
use Rattle.encoding.specs.Forms.{counted_bytes}
use Rattle.coniks.proofs.Cuts.{behind-promise, hash-at, key-at, name-at, promise-at}
use Rattle.coniks.proofs.parts.PromiseParts.of.Goals as goal

pub returns : goal.returns
returns c =
    let signed = c.args.signed.now in
    let more = counted_bytes signed.signature in
    let policy = c.policy_len-name_start.ensures.value in
    let name = ap length c.bytes.ensures.value in
    let key = ap length c.bytes-2.ensures.value in record {
      epoch = refl;
      body_hash = hash-at signed.promise c.requires.0 more;
      promise = promise-at signed.promise c.requires.0 more _ policy _ name _ key;
      signature = behind-promise signed.promise c.requires.0 more _ policy _ name _ key signed.signature _ (ap length c.bytes-3.ensures.value) refl;
      name = name-at signed.promise c.requires.0 more _ policy _ name _ key;
      key = key-at signed.promise c.requires.0 more _ policy _ name _ key;
      policy = c.policy_code.ensures;
    }
