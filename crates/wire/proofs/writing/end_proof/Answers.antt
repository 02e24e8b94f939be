use Rattle.std.proofs.Common.{◌≡◌, ℕ, ◌+◌, ◌-◌, List, length, take, drop, ◌++◌, refl, ap, ap₂, ◌∙◌, length-append, arith}
use Rattle.byteorder.specs.Endian.{big_bytes}
use Rattle.wire.specs.Frames.{frame_head}
use Rattle.wire.specs.declared.response.TheConstants.{PROOF}
use Rattle.wire.proofs.Ended.{front-stays, body-stays}
use Rattle.wire.proofs.writing.end_proof.Goals as goal

pub returns : goal.returns
returns c before body at is =
    let long : length c.args.output.now.items ≡ c.args.start + 5 + length body =
    ap length is ∙ length-append (before ++ frame_head PROOF 0) body ∙ ap (λ (n : ℕ). n + length body) (length-append before (frame_head PROOF 0) ∙ ap (λ (n : ℕ). n + 5) at) in
    let size : c.len.result - c.args.start - 4 ≡ 1 + length body = omega (arith, c.len.ensures, long) in
    c.put_at.ensures
    ∙ ap₂ (λ (front rest : List ℕ). front ++ rest) (ap (take c.args.start) is ∙ front-stays before (big_bytes 4 1) body PROOF c.args.start at)
    (ap₂ (λ (head rest : List ℕ). head ++ rest) (c.write_u32.ensures ∙ ap (big_bytes 4) size)
    (ap (drop (c.args.start + 4)) is ∙ body-stays before (big_bytes 4 1) body PROOF c.args.start at refl))
