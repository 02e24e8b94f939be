use Rattle.std.proofs.Common.{refl}
use Rattle.coniks.proofs.Cuts.{body-at, counted-at, vuf-key-at}
use Rattle.coniks.proofs.parts.ReplyParts.of.Goals as goal

pub returns : goal.returns
returns c = λ bytes (is, form).
    let reply = c.args.view.now in record {
      epoch = rw c.body.ensures refl;
      body = rw is (body-at reply.body form.0 _);
      vuf_key = rw is (vuf-key-at reply.body form.0 _);
      value = rw (is, c.value.ensures) (counted-at reply.body form.0 _ reply.value _ refl);
    }
