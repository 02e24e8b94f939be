use Rattle.std.proofs.Common.{rules, ◌≡◌, ℕ, List, [], length, take, ◌++◌, Vec, Global, sym, ap, ◌∙◌}
use Rattle.std.proofs.Math.Seq.{take-append_seam}
use Rattle.commands.specs.Operations.{Lookup}
use Rattle.book.specs.Refusals.{book_refusal_number}
use Rattle.book.specs.declared.reply.Reply.TheVariants as reply
use Rattle.wire.specs.Frames.{frame_bytes, frame_head}
use Rattle.wire.specs.Responses.{proof_frame}
use Rattle.hub.specs.Exchanges.{refused_frame}
use Rattle.hub.proofs.Desking.{read_turned}
use Rattle.hub.proofs.desk.Desk.look_up.Goals as goal
use Rattle.hub.proofs.desk.Desk.look_up.Goals.{in-Ok, in-Err}

pub returns : goal.returns
returns g c =
    let before : List ℕ = c.args.output.now.items in
    let start : length before ≡ c.len-start.result = search rules in
    let begun : c.begin_proof.new.output.items ≡ before ++ frame_head (proof_frame []).kind 0 = search rules in
    rw (← c.self.view_is)
    (elim c.match-lookup_into.branch [
      | in-Ok w ↦
          let reads = w.in-Ok.ensures.reads in
          let text : List ℕ = reads.0 in
          let whole : c.lookup_into.new.output.items ≡ (before ++ frame_head (proof_frame []).kind 0) ++ text = reads.3 ∙ ap (λ (front : List ℕ). front ++ text) begun in
          let written : c.match-lookup_into.output.items ≡ before ++ frame_bytes (proof_frame text) = ap (λ (output : Vec ℕ Global). output.items) w.output-is ∙ w.end_proof.ensures before text start whole in
          read_turned g.H.NodeHash.digest_of g.V.Vuf.value_of g.S.Signer.signature_of g.R.Rng.stream g.K.Keeper.kept g.K.Keeper.failed
          c.self.inside.directory c.self.inside.keeper c.self.inside.token (Lookup c.args.name.now c.args.epoch) _ c.lookup_into.new.self _ (reply.Found text) reads.1 c.lookup_into.ensures.stays c.lookup_into.ensures.keys written
      | in-Err w ↦
          let reads = w.in-Err.ensures.reads in
          let cut : w.truncate.new.self.items ≡ before =
          w.truncate.ensures.items ∙ ap (λ (output : Vec ℕ Global). take c.len-start.result output.items) reads.1
          ∙ ap (take c.len-start.result) begun ∙ ap (λ (n : ℕ). take n (before ++ frame_head (proof_frame []).kind 0)) (sym start) ∙ take-append_seam before (frame_head (proof_frame []).kind 0) in
          let number : w.number.result ≡ book_refusal_number w.in-Err.why = search rules in
          let written : c.match-lookup_into.output.items ≡ before ++ refused_frame (book_refusal_number w.in-Err.why) =
          ap (λ (output : Vec ℕ Global). output.items) w.output-is ∙ w.write_refused.ensures ∙ ap (λ (front : List ℕ). front ++ refused_frame w.number.result) cut
          ∙ ap (λ (code : ℕ). before ++ refused_frame code) number in
          read_turned g.H.NodeHash.digest_of g.V.Vuf.value_of g.S.Signer.signature_of g.R.Rng.stream g.K.Keeper.kept g.K.Keeper.failed
          c.self.inside.directory c.self.inside.keeper c.self.inside.token (Lookup c.args.name.now c.args.epoch) _ c.lookup_into.new.self _ (reply.Refused w.in-Err.why) reads.0 c.lookup_into.ensures.stays c.lookup_into.ensures.keys written
    ])
