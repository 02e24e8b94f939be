use Rattle.std.proofs.Common.{◌≡◌, ℕ, List, Global, Vec, ap, sym, subst, ◌∙◌}
use Rattle.proofs.specs.Accepts.{HasIndex}
use Rattle.proofs.specs.Views.{key_stated}
use Rattle.client.specs.Extremes.{BytesState}
use Rattle.client.proofs.ByNames.{kept-after}
use Rattle.client.proofs.kept_looks.KeptLooks.push.Goals as goal

pub push-requires : goal.push-requires
push-requires g c =
    let items : c.in_ok-bytes.bytes.value.items ≡ c.args.reply.now = ap (λ (v : Vec ℕ Global). v.items) c.in_ok-bytes.ensures.ok ∙ c.in_ok-from_slice.ensures.items in
    rw c.new-reply.ensures (subst (λ (bytes : List ℕ). BytesState bytes (key_stated c.args.stated)) (sym items) c.requires.stated)

pub invariant_of-self : goal.invariant_of-self
invariant_of-self g c =
    let items : c.in_ok-bytes.bytes.value.items ≡ c.args.reply.now = ap (λ (v : Vec ℕ Global). v.items) c.in_ok-bytes.ensures.ok ∙ c.in_ok-from_slice.ensures.items in
    kept-after g.H.NodeHash.digest_of c.self.inside.looks c.self.inside.by_name c.self.invariant c.push.result c.push.new.self c.args.name.now c.new-reply.result c.push.new.by_name
    (rw c.new-reply.ensures (subst (λ (bytes : List ℕ). HasIndex g.H.NodeHash.digest_of bytes c.args.index) (sym items) c.requires.index)) c.push.ensures.ok c.push.ensures.more c.push.ensures.err c.push.ensures.same
