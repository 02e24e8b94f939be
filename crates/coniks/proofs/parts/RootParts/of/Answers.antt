use Rattle.std.proofs.Common.{[], append-nil, refl, sym}
use Rattle.encoding.specs.Forms.{counted_bytes}
use Rattle.coniks.proofs.Cuts.{body-at, counted-at, vuf-key-at}
use Rattle.coniks.proofs.parts.RootParts.of.Goals as goal

pub returns : goal.returns
returns c =
    let signed = c.args.signed.now in record {
      epoch = refl;
      previous_epoch = refl;
      body = body-at signed.body c.requires.0 (counted_bytes signed.signature);
      vuf_key = vuf-key-at signed.body c.requires.0 (counted_bytes signed.signature);
      signature = rw c.bytes.ensures.value (counted-at signed.body c.requires.0 (counted_bytes signed.signature) signed.signature [] (sym (append-nil (counted_bytes signed.signature))));
    }
